use Rattle.std.proofs.Common.{arith, ◌≡◌, ◌<◌, ◌≤◌, ◌/◌, ◌^◌, ◌%◌, ◌∙◌, ap, sym, subst, ℕ, true, false, length, get_or, below_more}
use Rattle.std.specs.List.{Contains}
use Rattle.std.proofs.lemmas.Bool.{both_ways}
use Rattle.std.proofs.lemmas.List.{get_or_default}
use Rattle.std.proofs.lemmas.List.Elements.{Contains-get_or}
use Rattle.pci_spec.specs.Number.{number_at}
use Rattle.pci_image.specs.declared.bar.Bar.{Bar}
use Rattle.pci_image.specs.declared.bar.BarKind.TheVariants.{Io}
use Rattle.pci_place.specs.Classes.{is_wide_kind}
use Rattle.pci_plan.proofs.FilledBars.{IsElsewhere, bar_of_record, register_is, few_bars, same_wide, lower_is, upper_is, absent_is}
use Rattle.pci_plan.proofs.numbers.Filling.bar_number.Goals as goal
use Rattle.pci_plan.proofs.numbers.Filling.bar_number.Goals.{After-as_slice-bar-items, else-eq-via-then-eq+else-bar-offset-2, else-eq-via-else-eq}

-- what stands there where the slice has no BAR
abbrev no_bar : Bar
no_bar = record { reg = 0; kind = Io; prefetch = false; first = 0; last = 0 }

listed : (c : After-as_slice-bar-items) (k : ℕ) → k < length c.as_slice-bar-items.result.now → Contains c.args.self.now.record.now.bars.items (get_or c.as_slice-bar-items.result.now k no_bar)
listed c k within =
    subst (λ bars. Contains bars (get_or c.as_slice-bar-items.result.now k no_bar)) c.as_slice-bar-items.ensures.value (Contains-get_or c.as_slice-bar-items.result.now k no_bar within)

pub bar_value-requires-clause-listed : goal.bar_value-requires-clause-listed
bar_value-requires-clause-listed c = listed (goal.at.bar_value-requires-clause-listed c).After-as_slice-bar-items c.loop-bar.bar-index c.loop-bar-test.true

pub overflow_add-bar : goal.overflow_add-bar
overflow_add-bar c =
    let of = c.requires.of in
    let bar = get_or c.as_slice-bar-items.result.now c.loop-bar.bar-index no_bar in
    let found = bar_of_record c.args.self.now of bar (listed (goal.at.overflow_add-bar c).After-as_slice-bar-items c.loop-bar.bar-index c.loop-bar-test.true) in
    omega (arith, register_is of.function found.0 bar found.1, found.1.inside, few_bars of.function)

pub returns-then-bar-offset : goal.returns-then-bar-offset
returns-then-bar-offset c of n inside is =
    let bar = get_or c.as_slice-bar-items.result.now c.loop-bar.bar-index no_bar in
    let here = listed (goal.at.returns-then-bar-offset c).After-as_slice-bar-items c.loop-bar.bar-index c.loop-bar-test.true in
    let register = c.if-bar-offset.true ∙ is in
    c.lower_half.ensures ∙ ap (λ number. number % 2 ^ 32) (c.bar_value.ensures of n register) ∙ sym (lower_is c.args.self.now of bar n here register)

pub returns-then-bar-offset-2 : goal.returns-then-bar-offset-2
returns-then-bar-offset-2 c of n inside is =
    let bar = get_or c.as_slice-bar-items.result.now c.loop-bar.bar-index no_bar in
    let here = listed (goal.at.returns-then-bar-offset-2 c).After-as_slice-bar-items c.loop-bar.bar-index c.loop-bar-test.true in
    let wide : is_wide_kind bar.kind ≡ true = sym (same_wide bar.kind) ∙ sym c.eq.ensures ∙ c.if-eq.true in
    let found = upper_is c.args.self.now of bar n here wide (c.if-bar-offset-2.true ∙ is) in
    c.upper_half.ensures ∙ ap (λ number. number / 2 ^ 32) (c.bar_value-then-bar-offset-2.ensures of found.0 found.1) ∙ sym found.2

-- this BAR isn't shown there either
passed : (c : goal.Joined-else-eq) → IsElsewhere c.args.offset (get_or c.as_slice-bar-items.result.now c.loop-bar.bar-index no_bar)
passed c =
    let bar = get_or c.as_slice-bar-items.result.now c.loop-bar.bar-index no_bar in
    record {
      own = c.if-bar-offset.false;
      upper = λ wide next. elim c.else-eq.branch [
        | else-eq-via-then-eq+else-bar-offset-2 w ↦ w.if-bar-offset-2.false next
        | else-eq-via-else-eq w ↦ both_ways (is_wide_kind bar.kind) (sym (same_wide bar.kind) ∙ sym c.eq.ensures ∙ w.if-eq.false) wide
      ];
    }

pub loop-bar-preserved : goal.loop-bar-preserved
loop-bar-preserved c =
    let items = c.as_slice-bar-items.result.now in
    below_more (λ k. (d : Bar) → IsElsewhere c.args.offset (get_or items k d)) c.loop-bar.bar-index c.loop-bar.invariant
    (λ d. subst (λ (bar : Bar). IsElsewhere c.args.offset bar) (get_or_default items c.loop-bar.bar-index no_bar d c.loop-bar-test.true) (passed c))

pub returns : goal.returns
returns c of n inside is =
    let items = c.as_slice-bar-items.result.now in
    let done : length items ≤ c.loop-bar.bar-index = omega (arith, c.loop-bar-test.false) in
    c.u32.ensures ∙ ap (λ image. number_at image c.args.offset 4) of.image ∙ ap (λ offset. number_at of.function.image offset 4) is
    ∙ sym (absent_is c.args.self.now of n inside (λ bar there.
    let at = subst (λ bars. Contains bars bar) (sym c.as_slice-bar-items.ensures.value) there in
    subst (λ offset. IsElsewhere offset bar) is (subst (λ (b : Bar). IsElsewhere c.args.offset b) at.2 (c.loop-bar.invariant at.0 (omega (arith, at.1, done)) bar))))

use Rattle.std.proofs.Common.{◌≡◌, ℕ, ◌+◌, ◌<◌, ◌&&◌, not, length, get_or, false, Some, arith, sym, ◌∙◌, ap, subst}
use Rattle.std.specs.List.{slice_get}
use Rattle.std.specs.Option.{option_map}
use Rattle.std.proofs.lemmas.Option.{same_Some}
use Rattle.pci_spec.specs.Slot.{IsSlot}
use Rattle.pci_spec.specs.System.{System}
use Rattle.judge_spec.specs.Told.{ToldRange, IsTold}
use Rattle.judge_spec.specs.ToldClaims.{told_register}
use Rattle.settle_spec.specs.Lists.{Request}
use Rattle.settle_spec.specs.Kept.{Kept}
use Rattle.settle_spec.specs.Keeping.Writes.{does_not_stay}
use Rattle.pci_base.specs.declared.window_kind.WindowKind.TheVariants as kinds
use Rattle.pci_base.specs.WindowKinds.{kind_value}
use Rattle.pci_kept.specs.declared.told_line.ToldLine.{ToldLine}
use Rattle.pci_settle.specs.declared.way.ByClass.{ByClass}
use Rattle.pci_settle.specs.declared.lack.SettleFault.TheVariants as fault
use Rattle.pci_settle.specs.Shut.{in_class}
use Rattle.pci_settle.specs.ToldEndings.{told_fault, known_told_value, KnowsTold, AreKeptAbove}
use Rattle.pci_settle.proofs.ToldFirsts.{told_at, none_yet, none_next, none_past, none_at_all, one_there}
use Rattle.pci_settle.proofs.ToldTests.{range_here, cut_is, line_is}
use Rattle.pci_settle.proofs.told.first_cut_by.Goals as goal
use Rattle.pci_settle.proofs.told.first_cut_by.Goals.{After-is_cut}

abbrev no_class : ByClass
no_class = record { io = false; memory = false; prefetchable = false }

abbrev no_line : ToldLine
no_line = record { level = 0; class = kinds.Io; on = false }

-- the test of a range is that of the definitions
module _ (c : After-is_cut) where
  abbrev r : ToldRange
  r = c.index-ranges-index.result

  abbrev index : ℕ
  index = c.loop-index.index

  here : (q : Request) (s : System) → KnowsTold q s (known_told_value c.args.told.now) → slice_get q.told.ranges index ≡ Some r
  here q s knows = range_here q s (known_told_value c.args.told.now) knows c.as_slice-ranges.result.now c.as_slice-ranges.ensures.value index r c.loop-index-test.true c.index-ranges-index.is

  small : r.slot.bus < 256
  small =
      let told = subst IsTold (sym c.as_slice-ranges.ensures.value) c.as_slice-ranges.ensures.told in
      let slot : IsSlot r.slot = subst (λ (x : ToldRange). IsSlot x.slot) (sym c.index-ranges-index.is) (told.each index r c.loop-index-test.true).line.slot in
      slot.0

  test_is : (q : Request) (s : System) (k : Kept) → KnowsTold q s (known_told_value c.args.told.now) → AreKeptAbove q s k c.args.ways.now
      → c.is_cut.result ≡ does_not_stay q s k (told_at (told_register index) r)
  test_is q s k knows ways =
      let bus = c.from.ensures ∙ c.bus.ensures ∙ ap (λ (x : ToldRange). x.slot.bus) c.range.view_is in
      c.is_cut.ensures
      ∙ ap (λ b. get_or c.args.told.now.standing.now index false && not b)
      (c.get.ensures ∙ ap (λ n. in_class (get_or c.args.ways.now n no_class) (kind_value (get_or c.args.told.now.lines.now index no_line).class)) bus)
      ∙ cut_is q s k (known_told_value c.args.told.now) knows c.args.ways.now ways index r (here q s knows) small no_class no_line

pub loop-index-init : goal.loop-index-init
loop-index-init c = λ q s k knows ways. none_yet q (does_not_stay q s k)

pub loop-index-preserved : goal.loop-index-preserved
loop-index-preserved c = λ q s k knows ways.
    let test = (goal.at.loop-index-preserved c).After-is_cut in
    none_next q (does_not_stay q s k) c.loop-index.index (c.loop-index.invariant q s k knows ways)
    (λ x at. subst (λ y. does_not_stay q s k (told_at (told_register c.loop-index.index) y) ≡ false) (same_Some c.index-ranges-index.result x (sym (here test q s knows) ∙ at))
    (sym (test_is test q s k knows ways) ∙ c.if-is_cut.false))

pub returns-then-is_cut : goal.returns-then-is_cut
returns-then-is_cut c = λ q s k knows ways.
    let test = (goal.at.returns-then-is_cut c).After-is_cut in
    let index = c.loop-index.index in
    let r : ToldRange = c.index-ranges-index.result in
    ap Some (c.fault_of_line.ensures ∙ ap (λ slot. fault.Told slot (index + 1)) (ap (λ (x : ToldRange). x.slot) c.range.view_is) ∙ ap (fault.Told r.slot) (line_is index))
    ∙ sym (ap (option_map told_fault) (one_there q (does_not_stay q s k) index r (c.loop-index.invariant q s k knows ways) (here test q s knows)
    (sym (test_is test q s k knows ways) ∙ c.if-is_cut.true)))

pub returns : goal.returns
returns c = λ q s k knows ways.
    let done = c.loop-index-test.false in
    sym (ap (option_map told_fault) (none_at_all q (does_not_stay q s k)
    (none_past q (does_not_stay q s k) c.loop-index.index (c.loop-index.invariant q s k knows ways)
    (let e = ap length (knows.ranges ∙ sym c.as_slice-ranges.ensures.value) in omega (arith, e, done)))))

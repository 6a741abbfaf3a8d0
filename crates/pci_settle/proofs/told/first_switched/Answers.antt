use Rattle.std.proofs.Common.{◌≡◌, ℕ, ◌+◌, ◌<◌, ◌&&◌, ◌||◌, not, length, get_or, false, Some, arith, sym, ◌∙◌, ap, subst}
use Rattle.std.specs.List.{slice_get}
use Rattle.std.specs.Option.{option_map}
use Rattle.std.proofs.lemmas.Option.{same_Some}
use Rattle.pci_spec.specs.Slot.{IsSlot}
use Rattle.pci_spec.specs.System.{System}
use Rattle.judge_spec.specs.Told.{ToldRange, IsTold}
use Rattle.judge_spec.specs.ToldClaims.{told_register}
use Rattle.settle_spec.specs.Lists.{Request}
use Rattle.settle_spec.specs.Kept.{Kept}
use Rattle.settle_spec.specs.Keeping.Writes.{would_be_switched}
use Rattle.settle_spec.specs.Lines.{is_marked_command, is_marked_always}
use Rattle.pci_base.specs.Space.{space_of}
use Rattle.pci_settle.specs.declared.way.Way.{Way}
use Rattle.pci_settle.specs.declared.lack.SettleFault.TheVariants as fault
use Rattle.pci_settle.specs.Shut.{flag_in_space}
use Rattle.pci_settle.specs.ToldEndings.{told_fault, known_told_value, KnowsTold, AreFlagsThen, AreClearAbove, AlwaysStand}
use Rattle.pci_settle.proofs.ToldFirsts.{told_at, none_yet, none_next, none_past, none_at_all, one_there}
use Rattle.pci_settle.proofs.ToldTests.{range_here, line_is}
use Rattle.pci_settle.proofs.ToldSwitched.{switched_is}
use Rattle.pci_settle.proofs.told.first_switched.Goals as goal
use Rattle.pci_settle.proofs.told.first_switched.Goals.{After-is_switched}

abbrev no_way : Way
no_way = record {
  on = record { io = false; memory = false };
  clear = record { io = false; memory = false };
  same = record { io = false; memory = false; prefetchable = false };
}

-- the test of a range is that of the definitions
module _ (c : After-is_switched) where
  abbrev r : ToldRange
  r = c.index-ranges-index.result

  abbrev index : ℕ
  index = c.loop-index.index

  here : (q : Request) (s : System) → KnowsTold q s (known_told_value c.args.told.now) → slice_get q.told.ranges index ≡ Some r
  here q s knows = range_here q s (known_told_value c.args.told.now) knows c.as_slice-ranges.result.now c.as_slice-ranges.ensures.value index r c.loop-index-test.true c.index-ranges-index.is

  small : r.slot.bus < 256
  small =
      let told = subst IsTold (sym c.as_slice-ranges.ensures.value) c.as_slice-ranges.ensures.told in
      let slot : IsSlot r.slot = subst (λ (x : ToldRange). IsSlot x.slot) (sym c.index-ranges-index.is) (told.each index r c.loop-index-test.true).line.slot in
      slot.0

  test_is : (q : Request) (s : System) (k : Kept) → KnowsTold q s (known_told_value c.args.told.now) → AreFlagsThen q s k c.args.on_then.now → AreClearAbove q s k c.args.ways.now → AlwaysStand q s
      → c.is_switched.result ≡ would_be_switched q s k (told_at (told_register index) r)
  test_is q s k knows then ways stand =
      let bus = c.from.ensures ∙ c.bus.ensures ∙ ap (λ (x : ToldRange). x.slot.bus) c.range.view_is in
      c.is_switched.ensures
      ∙ ap (λ b. (is_marked_command r.mark && not (get_or c.args.told.now.standing.now index false) && get_or c.args.on_then.now index false) || (is_marked_always r.mark && not b))
      (c.get-is_clear.ensures ∙ ap (λ n. flag_in_space (get_or c.args.ways.now n no_way).clear (space_of c.range.inside.space)) bus ∙ ap (λ (x : ToldRange). flag_in_space (get_or c.args.ways.now r.slot.bus no_way).clear x.space) c.range.view_is)
      ∙ switched_is q s k (known_told_value c.args.told.now) knows c.args.on_then.now then c.args.ways.now ways stand index r (here q s knows) small no_way

pub loop-index-init : goal.loop-index-init
loop-index-init c = λ q s k knows then ways stand. none_yet q (would_be_switched q s k)

pub loop-index-preserved : goal.loop-index-preserved
loop-index-preserved c = λ q s k knows then ways stand.
    let test = (goal.at.loop-index-preserved c).After-is_switched in
    none_next q (would_be_switched q s k) c.loop-index.index (c.loop-index.invariant q s k knows then ways stand)
    (λ x at. subst (λ y. would_be_switched q s k (told_at (told_register c.loop-index.index) y) ≡ false) (same_Some c.index-ranges-index.result x (sym (here test q s knows) ∙ at))
    (sym (test_is test q s k knows then ways stand) ∙ c.if-is_switched.false))

pub returns-then-is_switched : goal.returns-then-is_switched
returns-then-is_switched c = λ q s k knows then ways stand.
    let test = (goal.at.returns-then-is_switched c).After-is_switched in
    let index = c.loop-index.index in
    let r : ToldRange = c.index-ranges-index.result in
    ap Some (c.fault_of_line.ensures ∙ ap (λ slot. fault.Told slot (index + 1)) (ap (λ (x : ToldRange). x.slot) c.range.view_is) ∙ ap (fault.Told r.slot) (line_is index))
    ∙ sym (ap (option_map told_fault) (one_there q (would_be_switched q s k) index r (c.loop-index.invariant q s k knows then ways stand) (here test q s knows)
    (sym (test_is test q s k knows then ways stand) ∙ c.if-is_switched.true)))

pub returns : goal.returns
returns c = λ q s k knows then ways stand.
    let done = c.loop-index-test.false in
    sym (ap (option_map told_fault) (none_at_all q (would_be_switched q s k)
    (none_past q (would_be_switched q s k) c.loop-index.index (c.loop-index.invariant q s k knows then ways stand)
    (let e = ap length (knows.ranges ∙ sym c.as_slice-ranges.ensures.value) in omega (arith, e, done)))))

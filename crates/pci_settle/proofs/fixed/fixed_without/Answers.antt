use Rattle.std.proofs.Common.{◌≡◌, ◌∙◌, Bool, false, get_or, sym, ap, subst}
use Rattle.std.specs.List.{list_any}
use Rattle.pci_spec.specs.Slot.{Slot, same_slot}
use Rattle.pci_spec.specs.System.{System}
use Rattle.settle_spec.specs.Lists.{Request}
use Rattle.settle_spec.specs.Parts.{FunctionPart, function_parts}
use Rattle.pci_function.specs.declared.record.Record.{Record}
use Rattle.pci_tree.proofs.Lifting.{same_slot_of}
use Rattle.pci_place.specs.declared.above.Above.{Above}
use Rattle.pci_place.specs.Above.{system_in, IsAbove}
use Rattle.pci_place.proofs.Records.{FunctionAt, function_read}
use Rattle.pci_first_fit.specs.Slots.{demand_value}
use Rattle.pci_first_fit.specs.Own.{AreTerms}
use Rattle.pci_settle_places.proofs.Registers.{have_registers}
use Rattle.pci_kept.specs.Flags.{AreFlags}
use Rattle.pci_settle.specs.Requests.{IsAskedOf}
use Rattle.pci_settle.specs.Told.{IsTableOf}
use Rattle.pci_settle.specs.Fixed.{fixed_part, first}
use Rattle.pci_settle.proofs.FixedParts.{record_is}
use Rattle.pci_settle.proofs.FixedFunctions.{off, found_here, found_later}
use Rattle.pci_settle.proofs.fixed.fixed_without.Goals as goal
use Rattle.pci_settle.proofs.fixed.fixed_without.Goals.{After-record_without-fault}
use Rattle.pci_settle.proofs.fixed.fixed_without.Given.{Over}

-- what stands there where a table has no bus
abbrev no_above : Above
no_above = record { io = false; pref = false; wide = false }

pub record_without-fault-requires : goal.record_without-fault-requires
record_without-fault-requires g c =
    let s = system_in c.args.admitted.now in
    let r = c.index-records-k.result in
    let here = function_read s c.records-records.result.now c.records-records.ensures.value c.outline-outline.ensures.records c.loop-k.k r c.loop-k-test.true c.index-records-k.is in
    have_registers s here.f r here.is

module _ (g : Over) (c : After-record_without-fault g) where
  abbrev s : System
  s = system_in c.args.admitted.now

  abbrev r : Record
  r = c.index-records-k.result

  here : FunctionAt s r c.loop-k.k
  here = function_read s c.records-records.result.now c.records-records.ensures.value c.outline-outline.ensures.records c.loop-k.k r c.loop-k-test.true c.index-records-k.is

  slot : r.slot ≡ here.f.slot
  slot = same_slot_of r here.f here.is.value

  module _ (q : Request) (test : FunctionPart → Bool) (asked : IsAskedOf q c.args.admitted.now.roots (demand_value c.args.lists.now)) (flags : AreFlags q.fixed c.args.fixed.now) (table : IsTableOf s test c.args.table.now) where
    fault_is : c.record_without-fault.result ≡ first fixed_part (off q test) (function_parts q s here.f)
    fault_is =
        let f = here.f in
        let bus : c.from.result ≡ f.slot.bus = c.from.ensures ∙ c.bus.ensures ∙ ap (λ (x : Slot). x.bus) slot in
        let over = subst (λ n. IsAbove s f.slot.bus (get_or c.aboves-aboves.result n no_above)) (sym bus) (c.aboves-aboves.ensures f no_above here.is.listed) in
        let terms = subst (λ lists. AreTerms lists c.of-terms.result) (sym asked.demands_are) c.of-terms.ensures in
        let flag : get_or c.args.fixed.now c.from-in-loop-k.result false ≡ list_any (same_slot f.slot) q.fixed =
        ap (λ n. get_or c.args.fixed.now n false) (c.from-in-loop-k.ensures ∙ c.number.ensures.number) ∙ flags.each r.slot c.number.ensures.slot ∙ ap (λ x. list_any (same_slot x) q.fixed) slot in
        c.record_without-fault.ensures
        ∙ record_is q s f r here.is (get_or c.aboves-aboves.result c.from.result no_above) over c.of-terms.result terms _ test (λ part there. table.each c.loop-k.k f _ part here.at there) _ flag

pub returns-then-is_some : goal.returns-then-is_some
returns-then-is_some g c = λ q test asked flags table.
    let first = (goal.at.returns-then-is_some g c).After-record_without-fault in
    let fault = fault_is g first q test asked flags table in
    sym (c.loop-k.invariant q test asked flags table ∙ found_here fixed_part (function_parts q (s g first)) (off q test) (s g first) c.loop-k.k (here g first).f (here g first).at c.record_without-fault.result fault (sym c.is_some.ensures ∙ c.if-is_some.true))

pub loop-k-preserved : goal.loop-k-preserved
loop-k-preserved g c = λ q test asked flags table.
    let first = (goal.at.loop-k-preserved g c).After-record_without-fault in
    let fault = fault_is g first q test asked flags table in
    c.loop-k.invariant q test asked flags table ∙ found_later fixed_part (function_parts q (s g first)) (off q test) (s g first) c.loop-k.k (here g first).f (here g first).at c.record_without-fault.result fault (sym c.is_some.ensures ∙ c.if-is_some.false)

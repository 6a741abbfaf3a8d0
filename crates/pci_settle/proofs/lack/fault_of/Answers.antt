use Rattle.std.proofs.Common.{rules, ◌≡◌, ◌∙◌, ◌<◌, ℕ, length, get_or, refl, arith, sym, ap, subst}
use Rattle.std.proofs.lemmas.Option.{get_or_from_slice_get}
use Rattle.pci_spec.specs.System.{Function}
use Rattle.pci_function.specs.declared.record.Record.{Record}
use Rattle.pci_tree.proofs.Lifting.{same_slot_of}
use Rattle.pci_place.specs.Above.{system_in}
use Rattle.pci_place.specs.Items.{no_function, function_in}
use Rattle.pci_place.proofs.Records.{lent, FunctionAt, same_count, function_read}
use Rattle.pci_settle_places.specs.declared.anew.Unplaced.{Unplaced}
use Rattle.pci_settle_places.specs.declared.anew.Unplaced.TheVariants as unplaced
use Rattle.pci_settle.specs.declared.lack.SettleFault.TheVariants as fault
use Rattle.pci_settle.specs.Lacks.{IsOfSystem, IsSettleFaultOf, no_room}
use Rattle.pci_settle.proofs.Lacking.{lack_is}
use Rattle.pci_settle.proofs.lack.fault_of.Goals as goal
use Rattle.pci_settle.proofs.lack.fault_of.Goals.{After-records-records}
use Rattle.pci_settle.proofs.lack.fault_of.Given.{Over}

module _ (g : Over) (c : After-records-records g) where
  within_records : (k : ℕ) → k < length (system_in c.args.admitted.now) → k < length c.records-records.result.now
  within_records k within =
      let s = system_in c.args.admitted.now in
      let count = same_count s c.records-records.result.now (lent s c.records-records.result.now c.records-records.ensures.value c.outline-outline.ensures.records) in
      omega (arith, count, within)

  function_here : (k : ℕ) (r : Record) → k < length (system_in c.args.admitted.now) → r ≡ get_or c.records-records.result.now k r → FunctionAt (system_in c.args.admitted.now) r k
  function_here k r within is =
      function_read (system_in c.args.admitted.now) c.records-records.result.now c.records-records.ensures.value c.outline-outline.ensures.records k r (within_records k within) is

  named_here : IsOfSystem (system_in c.args.admitted.now) c.args.unplaced
  named_here = c.requires

  -- what has no place, by its kind
  named_as : (u : Unplaced) → c.args.unplaced ≡ u → IsOfSystem (system_in c.args.admitted.now) u
  named_as u is = subst (IsOfSystem (system_in c.args.admitted.now)) is named_here

pub bounds-records-candidate : goal.bounds-records-candidate
bounds-records-candidate g c =
    let first = (goal.at.bounds-records-candidate g c).After-records-records in
    within_records g first c.in-Lacks.candidate.item.function (named_as g first (unplaced.Lacks c.in-Lacks.candidate) c.in-Lacks.is).0

pub offset_bounds-records-candidate : goal.offset_bounds-records-candidate
offset_bounds-records-candidate g c =
    let first = (goal.at.offset_bounds-records-candidate g c).After-records-records in
    let less : c.in-Lacks.candidate.item.function < length c.records-records.result.now =
    within_records g first c.in-Lacks.candidate.item.function (named_as g first (unplaced.Lacks c.in-Lacks.candidate) c.in-Lacks.is).0 in
    search rules

pub lack_of-requires : goal.lack_of-requires
lack_of-requires g c = (named_as g (goal.at.lack_of-requires g c).After-records-records (unplaced.Lacks c.in-Lacks.candidate) c.in-Lacks.is).1

pub returns-in-Lacks : goal.returns-in-Lacks
returns-in-Lacks g c =
    let first = (goal.at.returns-in-Lacks g c).After-records-records in
    let s = system_in c.args.admitted.now in
    let x = c.in-Lacks.candidate in
    let r = c.index-records-candidate.result in
    let here = function_here g first x.item.function r (named_as g first (unplaced.Lacks x) c.in-Lacks.is).0 c.index-records-candidate.is in
    subst (λ u. IsSettleFaultOf s u (fault.NoRoom c.lack_of.result)) (sym c.in-Lacks.is)
    (λ other. lack_is s x here.f r here.at here.is other ∙ ap no_room (sym c.lack_of.ensures))

pub bounds-records-function : goal.bounds-records-function
bounds-records-function g c =
    let first = (goal.at.bounds-records-function g c).After-records-records in
    within_records g first c.in-TooLarge.function (named_as g first (unplaced.TooLarge c.in-TooLarge.class c.in-TooLarge.function) c.in-TooLarge.is)

pub offset_bounds-records-function : goal.offset_bounds-records-function
offset_bounds-records-function g c =
    let first = (goal.at.offset_bounds-records-function g c).After-records-records in
    let less : c.in-TooLarge.function < length c.records-records.result.now =
    within_records g first c.in-TooLarge.function (named_as g first (unplaced.TooLarge c.in-TooLarge.class c.in-TooLarge.function) c.in-TooLarge.is) in
    search rules

pub returns-in-TooLarge : goal.returns-in-TooLarge
returns-in-TooLarge g c =
    let first = (goal.at.returns-in-TooLarge g c).After-records-records in
    let s = system_in c.args.admitted.now in
    let k = c.in-TooLarge.function in
    let r = c.index-records-function.result in
    let here = function_here g first k r (named_as g first (unplaced.TooLarge c.in-TooLarge.class k) c.in-TooLarge.is) c.index-records-function.is in
    let slot : r.slot ≡ (function_in s k).slot = same_slot_of r here.f here.is.value ∙ sym (ap (λ (f : Function). f.slot) (get_or_from_slice_get s k here.f no_function here.at)) in
    subst (λ u. IsSettleFaultOf s u (fault.TooLarge c.in-TooLarge.class r.slot)) (sym c.in-TooLarge.is) (refl, slot)

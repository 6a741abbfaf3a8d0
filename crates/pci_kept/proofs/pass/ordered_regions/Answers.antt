use Rattle.std.proofs.Common.{◌<◌, length, sym, ap, ◌∙◌, subst, arith, refl}
use Rattle.std.specs.List.{All, AllPairs}
use Rattle.std.specs.List.Sorted.{IsPermutation}
use Rattle.settle_spec.specs.Stands.{rank}
use Rattle.pci_place.specs.Above.{system_in}
use Rattle.pci_place.proofs.Records.{lent, same_count}
use Rattle.pci_first_fit.specs.Slots.{demand_value}
use Rattle.pci_kept.specs.declared.region.Region.{Region}
use Rattle.pci_kept.specs.Boards.{IsTree}
use Rattle.pci_kept.specs.Known.{asked_by_rules, region_value, AreParts}
use Rattle.pci_kept.specs.Leads.{AreReachable}
use Rattle.pci_kept.specs.Order.{IsPartInTurn}
use Rattle.pci_kept.proofs.Whole.{ready, ordered, leads_sorted, numbers_rise, slice_back}
use Rattle.pci_kept.proofs.pass.ordered_regions.Goals as goal

pub note_leads-requires-clause-functions : goal.note_leads-requires-clause-functions
note_leads-requires-clause-functions g c =
    let s = system_in c.args.admitted.now in
    let records = c.records-records.result.now in
    let count = same_count s records (lent s records c.records-records.ensures.value c.outline.ensures.records) in
    subst (All (λ (r : Region). r.function < length records)) (sym c.as_mut_slice.ensures.value)
    (λ k d low. let small = c.in_ok-regions.ensures.within k d low in omega (arith, small, count))

pub note_leads-requires-clause-reachable : goal.note_leads-requires-clause-reachable
note_leads-requires-clause-reachable g c = subst (AreReachable c.args.told.now.ranges.now) (sym c.as_slice.ensures.value) c.in_ok-indexes.ensures

pub returns-clause-ordered : goal.returns-clause-ordered
returns-clause-ordered g c = λ same lines.
    let s = system_in c.args.admitted.now in
    let q = asked_by_rules c.args.admitted.now.roots (demand_value c.args.lists.now) c.args.rules.now in
    let records = c.records-records.result.now in
    let has = lent s records c.records-records.ensures.value c.outline.ensures.records in
    let admitted = c.outline.ensures.admitted in
    let tree : IsTree q s records = record { has = has; system = admitted.system; nested = admitted.nested } in
    let noted = c.note_leads.new.regions in
    let known = c.note_leads.ensures q s tree (sym same) lines (subst (AreParts q s) (sym c.as_mut_slice.ensures.value) c.in_ok-regions.ensures) refl in
    let long = c.in_ok-regions.regions.ok.0 in
    let back = slice_back c.in_ok-regions.regions.len noted c.in_ok-regions.regions.items (c.note_leads.auto.regions ∙ ap length c.as_mut_slice.ensures.value) (omega (arith, long)) in
    let rs = c.sort_regions.new.regions.items in
    let moved : IsPermutation noted rs = subst (λ xs. IsPermutation xs rs) back c.sort_regions.ensures.permutation in
    let turn : AllPairs (IsPartInTurn (λ r. rank (region_value s r))) rs =
    c.in_ok-sort_regions.ensures.sorted (λ r. rank (region_value s r)) (subst (AllPairs (λ (r : Region) (t : Region). rank (region_value s r) < rank (region_value s t))) (sym back) (numbers_rise q s noted known.parts admitted.system)) in
    ordered q s noted known.parts rs moved (leads_sorted q s noted known.parts rs moved known.leads) turn

pub returns-clause-ready : goal.returns-clause-ready
returns-clause-ready g c = λ same lines.
    let s = system_in c.args.admitted.now in
    let q = asked_by_rules c.args.admitted.now.roots (demand_value c.args.lists.now) c.args.rules.now in
    let records = c.records-records.result.now in
    let has = lent s records c.records-records.ensures.value c.outline.ensures.records in
    let admitted = c.outline.ensures.admitted in
    let tree : IsTree q s records = record { has = has; system = admitted.system; nested = admitted.nested } in
    let noted = c.note_leads.new.regions in
    let known = c.note_leads.ensures q s tree (sym same) lines (subst (AreParts q s) (sym c.as_mut_slice.ensures.value) c.in_ok-regions.ensures) refl in
    let long = c.in_ok-regions.regions.ok.0 in
    let back = slice_back c.in_ok-regions.regions.len noted c.in_ok-regions.regions.items (c.note_leads.auto.regions ∙ ap length c.as_mut_slice.ensures.value) (omega (arith, long)) in
    let rs = c.sort_regions.new.regions.items in
    ready q s noted known.parts rs (subst (λ xs. IsPermutation xs rs) back c.sort_regions.ensures.permutation) (length s) refl

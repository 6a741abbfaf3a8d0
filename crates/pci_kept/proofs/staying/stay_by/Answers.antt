use Rattle.std.proofs.Common.{length, refl, arith, sym, ◌∙◌, ap, subst}
use Rattle.std.specs.List.{All}
use Rattle.std.specs.List.Sorted.{IsNonDecreasingBy}
use Rattle.std.proofs.lemmas.List.Sorted.{IsPermutation-refl}
use Rattle.pci_place.specs.Above.{system_in}
use Rattle.pci_place.proofs.Records.{lent, same_count}
use Rattle.pci_first_fit.specs.Slots.{demand_value}
use Rattle.pci_first_fit.specs.Lines.{AreLines}
use Rattle.settle_spec.specs.Items.{has_room_behind}
use Rattle.pci_kept.specs.Known.{asked_by_rules, AreParts}
use Rattle.pci_kept.specs.Passing.{CanBeNoted, AreStanding}
use Rattle.pci_kept.proofs.Whole.{ready, slice_back}
use Rattle.pci_kept.specs.Rooms.{region_bus}
use Rattle.pci_kept.specs.Staying.{AreStaying}
use Rattle.pci_kept.proofs.Stays.{room_stands, buses_rise}
use Rattle.pci_kept.proofs.staying.stay_by.Goals as goal

pub hold_all-requires-clause-order : goal.hold_all-requires-clause-order
hold_all-requires-clause-order g c =
    let s = system_in c.args.classing.now.admitted.now in
    let q = asked_by_rules c.args.classing.now.admitted.now.roots (demand_value c.args.lists.now) c.args.rules.now in
    let admitted = c.outline.ensures.admitted in
    subst (IsNonDecreasingBy region_bus) (sym c.as_slice-regions.ensures.value) (buses_rise q s admitted.system admitted.nested (has_room_behind q s) (room_stands q s admitted.system admitted.nested) c.in_ok-regions.regions.items c.in_ok-regions.ensures)

pub hold_all-requires-clause-ready : goal.hold_all-requires-clause-ready
hold_all-requires-clause-ready g c =
    let s = system_in c.args.classing.now.admitted.now in
    let q = asked_by_rules c.args.classing.now.admitted.now.roots (demand_value c.args.lists.now) c.args.rules.now in
    let rs = c.in_ok-regions.regions.items in
    let entries = c.as_mut_slice-entries.result.now in
    let are : AreStanding q s c.in_ok-table.table.items = c.in_ok-table.ensures in
    subst (All (CanBeNoted (length entries))) (sym c.as_slice-regions.ensures.value)
    (ready q s rs c.in_ok-regions.ensures rs (IsPermutation-refl rs) (length entries) (ap length c.as_mut_slice-entries.ensures.value ∙ are.count))

pub stay_all-requires-clause-ready : goal.stay_all-requires-clause-ready
stay_all-requires-clause-ready g c =
    let s = system_in c.args.classing.now.admitted.now in
    let q = asked_by_rules c.args.classing.now.admitted.now.roots (demand_value c.args.lists.now) c.args.rules.now in
    let rs = c.in_ok-regions.regions.items in
    let records = c.records-records.result.now in
    let has = lent s records c.records-records.ensures.value c.outline.ensures.records in
    subst (All (CanBeNoted (length records))) (sym c.as_slice-regions.ensures.value)
    (ready q s rs c.in_ok-regions.ensures rs (IsPermutation-refl rs) (length records) (sym (same_count s records has)))

pub returns : goal.returns
returns g c = λ knowing.
    let s = system_in c.args.classing.now.admitted.now in
    let q = asked_by_rules c.args.classing.now.admitted.now.roots (demand_value c.args.lists.now) c.args.rules.now in
    let admitted = c.outline.ensures.admitted in
    let parts : AreParts q s c.as_slice-regions.result.now = subst (AreParts q s) (sym c.as_slice-regions.ensures.value) c.in_ok-regions.ensures in
    let told : AreLines q.roots q.told.ranges c.as_slice-lines.result.now =
    subst (AreLines q.roots q.told.ranges) (sym c.as_slice-lines.ensures.value) (subst (λ rs. AreLines rs q.told.ranges c.in_ok-lines.lines.items) (c.roots-roots.ensures ∙ c.outline-2.ensures.roots) c.in_ok-lines.ensures.lines) in
    let stand : AreStanding q s c.as_mut_slice-entries.result.now = subst (AreStanding q s) (sym c.as_mut_slice-entries.ensures.value) c.in_ok-table.ensures in
    let holding = c.in_ok-hold_all.ensures q record {
      system = admitted.system;
      nested = admitted.nested;
      left = knowing.left;
      parts = parts;
      told = told;
      new = knowing.new;
    } stand in
    let long = c.in_ok-table.table.ok.0 in
    subst (AreStaying q s)
    (sym (slice_back c.in_ok-table.table.len c.stay_all.new.table c.in_ok-table.table.items (c.stay_all.auto.table ∙ c.hold_all.auto.table ∙ ap length c.as_mut_slice-entries.ensures.value) (omega (arith, long))))
    (c.stay_all.ensures q s (has_room_behind q s) record { has = lent s c.records-records.result.now c.records-records.ensures.value c.outline.ensures.records; system = admitted.system; nested = admitted.nested; same = refl } parts (room_stands q s admitted.system admitted.nested) holding)

use Rattle.std.proofs.Common.{◌+◌, [], false, get_or, refl, ◌∙◌, ap}
use Rattle.std.specs.Bool.{if◌then◌else◌}
use Rattle.pci_spec.specs.Bus.{is_root}
use Rattle.pci_place.specs.Above.{system_in}
use Rattle.pci_place.proofs.Records.{lent}
use Rattle.pci_first_fit.specs.Slots.{demand_value}
use Rattle.pci_first_fit.proofs.Sized.{bars_sized}
use Rattle.pci_kept.specs.declared.region.Owner.{Owner}
use Rattle.pci_kept.specs.Boards.{IsTree}
use Rattle.pci_kept.specs.Known.{asked}
use Rattle.pci_kept.proofs.Collected.{parts_none, parts_more, parts_all, record_is}
use Rattle.pci_kept.proofs.collect.collect.Goals as goal

pub loop-function-init : goal.loop-function-init
loop-function-init g c = λ slots are.
    parts_none (asked c.args.admitted.now.roots (demand_value c.args.lists.now) slots c.args.anew) (system_in c.args.admitted.now) _ c.new-regions.ensures.items

pub add_regions-requires : goal.add_regions-requires
add_regions-requires g c =
    let s = system_in c.args.admitted.now in
    let q = asked c.args.admitted.now.roots (demand_value c.args.lists.now) [] c.args.anew in
    let records = c.records-record-items.result.now in
    let has = lent s records c.records-record-items.ensures.value c.outline-outline.ensures.records in
    let r = c.record-item.result in
    λ k d less. (bars_sized s _ r (record_is q s records has c.loop-function.function r c.loop-function-test.true c.record-item.is) k d less).register

pub loop-function-preserved : goal.loop-function-preserved
loop-function-preserved g c = λ slots are.
    let s = system_in c.args.admitted.now in
    let q = asked c.args.admitted.now.roots (demand_value c.args.lists.now) slots c.args.anew in
    let records = c.records-record-items.result.now in
    let has = lent s records c.records-record-items.ensures.value c.outline-outline.ensures.records in
    let r = c.record-item.result in
    let bus = c.bus-bus.result in
    let flag = get_or c.args.fixed.now c.from.result false in
    let admitted = c.outline-outline.ensures.admitted in
    let all = c.records.result.now in
    let tree : IsTree q s all = record { has = lent s all c.records.ensures.value c.outline-outline.ensures.records; system = admitted.system; nested = admitted.nested } in
    let owner : Owner = record { function = c.loop-function.function; bus = bus; level = c.level.result; fixed = flag; command = r.command } in
    parts_more q s records has c.loop-function.function r c.loop-function-test.true c.record-item.is owner c.aboves-aboves.result _ c.open_windows-overs.result c.open_over.result c.of-terms.result
    c.records-record-items.ensures.lawful c.aboves-aboves.ensures (c.open_windows-overs.ensures q s tree refl) c.open_over.ensures c.of-terms.ensures refl c.bus-bus.ensures
    (c.level.ensures ∙ ap (λ roots. if is_root roots bus then 0 else bus + 1) (c.roots-roots.ensures ∙ c.outline-outline.ensures.roots))
    (ap (λ n. get_or c.args.fixed.now n false) (c.from.ensures ∙ c.number.ensures.number) ∙ are.each r.slot c.number.ensures.slot) refl c.loop-function.regions.items c.add_regions.new.out.items c.in_ok-add_regions.ensures (c.loop-function.invariant slots are)

pub returns : goal.returns
returns g c = λ slots are.
    let s = system_in c.args.admitted.now in
    let records = c.records-record-items.result.now in
    let has = lent s records c.records-record-items.ensures.value c.outline-outline.ensures.records in
    parts_all (asked c.args.admitted.now.roots (demand_value c.args.lists.now) slots c.args.anew) s records has c.loop-function.function c.loop-function.regions.items c.loop-function-test.false (c.loop-function.invariant slots are)

use Rattle.std.proofs.Common.{◌≡◌, ◌+◌, arith, ◌∙◌, ap, subst}
use Rattle.std.specs.List.Sorted.{IsStrictlyIncreasing}
use Rattle.plan_spec.specs.Planning.Sorted.{group_of}
use Rattle.pci_base.specs.WindowKinds.{kind_value}
use Rattle.pci_tree.proofs.RootLists.{set_rises}
use Rattle.pci_place.specs.Above.{system_in}
use Rattle.pci_place.proofs.Records.{lent}
use Rattle.pci_place.proofs.ItemValues.{items_none, items_all, bars_at, items_step}
use Rattle.pci_place.proofs.item.items_of.Goals as goal

pub add_items-requires-clause-bars : goal.add_items-requires-clause-bars
add_items-requires-clause-bars g c =
    let s = system_in c.args.admitted.now in
    let records = c.records-record-items.result.now in
    let has = lent s records c.records-record-items.ensures.value c.outline-outline.ensures.records in
    bars_at c.args.admitted.now.roots s records has c.args.pools.now (kind_value c.args.class) c.loop-function.function c.record-item.result c.loop-function-test.true c.record-item.is
    c.records-record-items.ensures.lawful

pub loop-function-init : goal.loop-function-init
loop-function-init g c =
    let s = system_in c.args.admitted.now in
    let records = c.records-record-items.result.now in
    let has = lent s records c.records-record-items.ensures.value c.outline-outline.ensures.records in
    let none = items_none c.args.admitted.now.roots s records has c.args.pools.now (kind_value c.args.class) in
    rw c.new-items.ensures.items none

pub loop-function-preserved : goal.loop-function-preserved
loop-function-preserved g c =
    let s = system_in c.args.admitted.now in
    let records = c.records-record-items.result.now in
    let has = lent s records c.records-record-items.ensures.value c.outline-outline.ensures.records in
    let admitted = c.outline-outline.ensures.admitted in
    let grouped : c.group_of.result ≡ group_of c.args.admitted.now.roots c.bus-bus.result =
    c.group_of.ensures ∙ ap (λ roots. group_of roots c.bus-bus.result) (c.roots-roots.ensures ∙ c.outline-outline.ensures.roots) in
    items_step c.args.admitted.now.roots s records has c.args.pools.now (kind_value c.args.class) c.loop-function.function c.record-item.result c.loop-function-test.true c.record-item.is
    admitted.system admitted.nested c.args.aboves.now c.requires.aboves c.args.needs.now c.requires.needs c.bus-bus.result c.group_of.result c.bus-bus.ensures
    grouped _ _ _ c.in_ok-add_items.ensures c.loop-function.invariant

pub returns-clause-items : goal.returns-clause-items
returns-clause-items g c =
    let s = system_in c.args.admitted.now in
    let records = c.records-record-items.result.now in
    let has = lent s records c.records-record-items.ensures.value c.outline-outline.ensures.records in
    items_all c.args.admitted.now.roots s records has c.args.pools.now (kind_value c.args.class) c.loop-function.function c.loop-function.items.items c.loop-function-test.false c.loop-function.invariant

pub returns-clause-rooted : goal.returns-clause-rooted
returns-clause-rooted g c = record {
  system = c.outline-outline.ensures.admitted.system;
  nested = c.outline-outline.ensures.admitted.nested;
  rising = subst IsStrictlyIncreasing (c.roots-roots.ensures ∙ c.outline-outline.ensures.roots) (λ k l. set_rises c.roots-roots.result.flags k (k + 1) 0 (omega arith) l);
}

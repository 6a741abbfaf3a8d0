use Rattle.std.proofs.Common.{◌<◌, length, subst, sym, ◌∙◌}
use Rattle.std.specs.Prelude.{IfOk}
use Rattle.std.proofs.lemmas.Result.{IfOk-weaker}
use Rattle.pci_base.specs.WindowKinds.{kind_value}
use Rattle.pci_tree.specs.Ranges.{IsCanonical}
use Rattle.pci_tree.specs.Reaches.{IsStep, IsWhole}
use Rattle.pci_tree.proofs.Reaching.{step_of, stands_below}
use Rattle.pci_tree.proofs.reach.reach_of_bus.Goals as goal

pub returns-then-is_root : goal.returns-then-is_root
returns-then-is_root g c =
    subst (λ b. IfOk c.all_of.result (λ v. IsStep c.args.above.now c.args.records.now c.args.index (kind_value c.args.kind) b v.items)) (sym c.if-is_root.true)
    (subst (λ space. IfOk c.all_of.result (λ v. IsWhole space v.items)) c.of.ensures c.all_of.ensures)

pub passed_on-requires-clause-canonical : goal.passed_on-requires-clause-canonical
passed_on-requires-clause-canonical g c =
    let low : (c.in-Some.index < length c.args.records.now) × (c.bus.result < length c.args.above.now) =
    stands_below c.args.records.now _ c.in-Some.index c.bus.result c.index-records-index.result c.args.index c.in-Some.is c.index-records-index.is c.bus.ensures c.requires.lower in
    subst IsCanonical (sym (c.ranges-in-Some.ensures ∙ c.index-above-bus.is)) (c.requires.canonical c.bus.result c.index-above-bus.result low.1)

pub returns-in-Some : goal.returns-in-Some
returns-in-Some g c =
    let low : (c.in-Some.index < length c.args.records.now) × (c.bus.result < length c.args.above.now) =
    stands_below c.args.records.now _ c.in-Some.index c.bus.result c.index-records-index.result c.args.index c.in-Some.is c.index-records-index.is c.bus.ensures c.requires.lower in
    IfOk-weaker c.passed_on.result _ _
    (λ v step. step_of c.args.above.now c.args.records.now c.in-Some.index c.bus.result c.index-records-index.result c.index-above-bus.result c.ranges-in-Some.result.now c.args.index
    (kind_value c.args.kind) c.args.is_root c.forwarded.result v.items c.in-Some.is c.if-is_root.false low.0 c.index-records-index.is c.bus.ensures low.1
    c.index-above-bus.is c.ranges-in-Some.ensures c.forwarded.ensures.exact step)
    c.passed_on.ensures

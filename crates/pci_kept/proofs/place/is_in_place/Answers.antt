use Rattle.std.proofs.Common.{◌<◌, length, arith, refl, ap, ◌∙◌}
use Rattle.pci_function.specs.declared.record.Record.{Record}
use Rattle.pci_first_fit.specs.Lists.{lists_value}
use Rattle.pci_tree.proofs.Ways.{some_bridge}
use Rattle.pci_kept.proofs.InPlace.{on_root, under_none, in_its_window}
use Rattle.pci_kept.proofs.place.is_in_place.Goals as goal

pub returns-then-region-eq0 : goal.returns-then-region-eq0
returns-then-region-eq0 c = λ q s board is opens.
    c.hold.ensures q board.same
    ∙ on_root q s c.args.records.now (lists_value c.args.lists.now) board c.args.region.now is (omega arith) c.args.table.now opens c.if-region-eq0.true

pub returns-in_default : goal.returns-in_default
returns-in_default c = λ q s board is opens.
    under_none q s c.args.records.now (lists_value c.args.lists.now) board c.args.region.now is (omega arith) c.args.table.now opens
    (λ low. let no : ⊥ = omega (arith, low) in no) c.args.over.now c.requires.over c.in_default.is

pub returns-in-Some-bridge : goal.returns-in-Some-bridge
returns-in-Some-bridge c = λ q s board is opens.
    let within : c.in-Some.index < length c.args.table.now =
    omega (arith, (some_bridge c.args.records.now c.args.region.now.bus _ c.in-Some.index c.in-Some.is (c.requires.over c.args.region.now.bus (omega arith))).within) in
    c.is_in_windows.ensures
    ∙ in_its_window q s c.args.records.now (lists_value c.args.lists.now) board c.args.region.now is (omega arith) c.args.table.now opens
    (λ low. let no : ⊥ = omega (arith, low) in no) c.args.over.now c.requires.over c.in-Some.index c.in-Some.is c.index-records-index.result c.index-records-index.is
    c.in-Some-bridge.bridge (ap (λ (r : Record). r.bridge) c.index-records-index.is ∙ c.in-Some-bridge.is) _ _ refl within

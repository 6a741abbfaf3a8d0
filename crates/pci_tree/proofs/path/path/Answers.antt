use Rattle.std.proofs.Common.{◌≡◌, length, arith, rules, subst, reverse, sym, ap, ◌∙◌, get_or, drop}
use Rattle.std.proofs.lemmas.Bool.{both_ways}
use Rattle.std.proofs.lemmas.List.{take_at}
use Rattle.pci_function.specs.declared.record.Record.{Record}
use Rattle.pci_tree.specs.Roots.{buses_of}
use Rattle.pci_tree.specs.Ways.{bus_behind, IsBridgeIn, LeadsAt, AreSlotsOfWay}
use Rattle.pci_tree.proofs.Ways.{GoesUp, bridge_at, at_bus, up_more, none_above, at_root, no_bridge, some_bridge}
use Rattle.pci_tree.proofs.path.path.Goals as goal

pub loop-up-init : goal.loop-up-init
loop-up-init c =
    subst (λ up. GoesUp c.args.records.now (buses_of c.args.roots.now) c.args.bus up c.args.bus) (sym c.new-up.ensures)
    (at_bus c.args.records.now (buses_of c.args.roots.now) c.args.bus)

pub returns-in-None : goal.returns-in-None
returns-in-None c =
    none_above _ _ _ _ _ (λ root. both_ways _ (search rules) (c.has.ensures.1 root))
    (no_bridge c.args.records.now c.loop-up.at _ c.in-None.is (c.requires.bridge_to_bus c.loop-up.at (omega arith))) c.loop-up.invariant

pub loop-up-preserved : goal.loop-up-preserved
loop-up-preserved c =
    let leads : LeadsAt c.args.records.now c.loop-up.at c.in-Some.index = some_bridge c.args.records.now c.loop-up.at _ c.in-Some.index c.in-Some.is (c.requires.bridge_to_bus c.loop-up.at (omega arith)) in
    let b : Record = get_or c.args.records.now c.in-Some.index c.index-records-index.result in
    let bridge : IsBridgeIn c.args.records.now b × (bus_behind b ≡ c.loop-up.at) = bridge_at c.args.records.now c.loop-up.at c.in-Some.index c.index-records-index.result leads in
    subst (λ n. GoesUp c.args.records.now (buses_of c.args.roots.now) n c.push.new.self.items c.args.bus) (sym c.bus-at.ensures)
    (up_more c.args.records.now (buses_of c.args.roots.now) b c.loop-up.at c.loop-up.up.items c.push.new.self.items c.args.bus c.requires.forest bridge.0 bridge.1
    (λ root. both_ways _ (search rules) (c.has.ensures.1 root)) c.push.ensures.items c.loop-up.invariant)

pub returns : goal.returns
returns c =
    let r : c.reverse.new.self ≡ reverse c.loop-up.up.items = c.reverse.ensures.after ∙ ap reverse c.as_mut_slice.ensures.value in
    let n : length c.reverse.new.self ≡ length c.loop-up.up.items = c.reverse.ensures.len ∙ ap length c.as_mut_slice.ensures.value in
    subst (λ v. AreSlotsOfWay c.args.records.now (buses_of c.args.roots.now) v c.args.bus)
    (sym (take_at c.reverse.new.self (drop (length c.reverse.new.self) c.loop-up.up.items) (length c.loop-up.up.items) n ∙ r))
    (at_root c.args.records.now (buses_of c.args.roots.now) c.loop-up.at c.loop-up.up.items c.args.bus c.requires.clear (c.has.ensures.0 (search rules)) c.loop-up.invariant)

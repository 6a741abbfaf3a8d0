use Rattle.std.proofs.Common.{◌≡◌, ◌++◌, ◌∷◌, [], length, get_or, false, cond, ◌∙◌, sym, ap, arith}
use Rattle.pci_here.proofs.Roots.{below_few, below_next, below_all, roots_there}
use Rattle.pci_here.proofs.functions.Functions.roots.Goals as goal

pub add_bus-requires-clause-room : goal.add_bus-requires-clause-room
add_bus-requires-clause-room c = omega (arith, ap length c.loop-bus.invariant, below_few c.args.self.now.is_root c.loop-bus.bus, c.loop-bus-test.true)

pub loop-bus-preserved : goal.loop-bus-preserved
loop-bus-preserved c =
    c.add_bus.ensures ∙ ap (λ l. l ++ cond (get_or c.args.self.now.is_root c.loop-bus.bus false) (c.loop-bus.bus ∷ []) []) c.loop-bus.invariant
    ∙ sym (below_next c.args.self.now.is_root c.loop-bus.bus)

pub returns : goal.returns
returns c =
    let all : c.loop-bus.bus ≡ 256 = omega arith in
    roots_there c.args.self.now.is_root c.as_slice.result.now c.of.result
    (c.as_slice.ensures.value ∙ c.loop-bus.invariant ∙ below_all c.args.self.now.is_root c.loop-bus.bus all) c.of.ensures.some c.of.ensures.buses

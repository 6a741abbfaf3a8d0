use Rattle.std.proofs.Common.{◌<◌, arith, rules, subst, ◌∙◌}
use Rattle.std.proofs.lemmas.List.Elements.{All-from_get_or}
use Rattle.std.proofs.lemmas.List.{take_all, length-set}
use Rattle.pci_tree.proofs.RootLists.{AreFlagsOf, flags_none, flags_more, set_of_rising}
use Rattle.pci_tree.proofs.roots.Roots.of.Goals as goal

pub loop-bus-init : goal.loop-bus-init
loop-bus-init c = record { size = search rules; marked = λ b small. flags_none b small }

pub loop-bus-preserved : goal.loop-bus-preserved
loop-bus-preserved c = record {
  size = length-set c.loop-bus.flags _ _ ∙ c.loop-bus.invariant.size;
  marked = flags_more c.args.buses.now c.loop-bus.bus-index _ c.loop-bus.flags (omega arith) c.loop-bus.invariant.size c.loop-bus.invariant.marked;
}

pub returns-clause-buses : goal.returns-clause-buses
returns-clause-buses c =
    set_of_rising c.loop-bus.flags c.args.buses.now (All-from_get_or (λ b. b < 256) c.args.buses.now 0 (λ i lt. (let fits = c.type_inv.buses i in omega arith))) (c.is_rising.ensures.0 c.if-not-is_rising.false)
    (subst (λ xs. AreFlagsOf xs c.loop-bus.flags) (take_all c.loop-bus.bus-index c.args.buses.now (omega arith)) c.loop-bus.invariant.marked)

use Rattle.std.proofs.Common.{◌+◌, ◌∙◌, ap, subst, sym, take}
use Rattle.std.specs.List.{Contains}
use Rattle.std.proofs.lemmas.Bool.{iff_false}
use Rattle.pci_tree.specs.Roots.{buses_of}
use Rattle.pci_faults.specs.Quiet.{HasThoseOn}
use Rattle.pci_faults.proofs.Quieting.{those_more, those_less, those_all}
use Rattle.pci_faults.proofs.quiet.bridges_on_roots.Goals.{then-has+in_ok-push, else-has}
use Rattle.pci_faults.proofs.quiet.bridges_on_roots.Goals as goal

pub loop-bridge-preserved : goal.loop-bridge-preserved
loop-bridge-preserved g c = elim c.if-has.branch [
  | then-has+in_ok-push w ↦
      those_more (Contains (buses_of c.args.roots.now)) c.args.bridges.now c.loop-bridge.bridge-index c.bridge-item.result c.loop-bridge-test.true c.bridge-item.is c.loop-bridge.out.items c.loop-bridge.invariant
      c.if-has.out.items (ap (λ v. v.items) w.out-is ∙ w.in_ok-push.ensures.items)
  | else-has w ↦
      subst (HasThoseOn (Contains (buses_of c.args.roots.now)) (take (c.loop-bridge.bridge-index + 1) c.args.bridges.now)) (sym (ap (λ v. v.items) w.out-is))
      (those_less (Contains (buses_of c.args.roots.now)) c.args.bridges.now c.loop-bridge.bridge-index c.bridge-item.result c.loop-bridge-test.true c.bridge-item.is c.loop-bridge.out.items c.loop-bridge.invariant
      (λ root. iff_false c.has.ensures w.if-has.false (subst (Contains (buses_of c.args.roots.now)) (sym c.bus.ensures) root)))
]

pub returns : goal.returns
returns g c = those_all (Contains (buses_of c.args.roots.now)) c.args.bridges.now c.loop-bridge.out.items c.loop-bridge.bridge-index c.loop-bridge-test.false c.loop-bridge.invariant

use Rattle.std.proofs.Common.{◌≡◌, ◌+◌, ◌∙◌, ap, subst, sym, take}
use Rattle.pci_faults.specs.Quiet.{HasThoseOn}
use Rattle.pci_faults.proofs.Quieting.{those_more, those_less, those_all}
use Rattle.pci_faults.proofs.quiet.bridges_on.Goals.{then-bus+in_ok-push, else-bus}
use Rattle.pci_faults.proofs.quiet.bridges_on.Goals as goal

pub loop-bridge-preserved : goal.loop-bridge-preserved
loop-bridge-preserved g c = elim c.if-bus.branch [
  | then-bus+in_ok-push w ↦
      those_more (λ b. b ≡ c.args.bus) c.args.bridges.now c.loop-bridge.bridge-index c.bridge-item.result c.loop-bridge-test.true c.bridge-item.is c.loop-bridge.out.items c.loop-bridge.invariant
      c.if-bus.out.items (ap (λ v. v.items) w.out-is ∙ w.in_ok-push.ensures.items)
  | else-bus w ↦
      subst (HasThoseOn (λ b. b ≡ c.args.bus) (take (c.loop-bridge.bridge-index + 1) c.args.bridges.now)) (sym (ap (λ v. v.items) w.out-is))
      (those_less (λ b. b ≡ c.args.bus) c.args.bridges.now c.loop-bridge.bridge-index c.bridge-item.result c.loop-bridge-test.true c.bridge-item.is c.loop-bridge.out.items c.loop-bridge.invariant
      (λ same. w.if-bus.false (c.bus.ensures ∙ same)))
]

pub returns : goal.returns
returns g c = those_all (λ b. b ≡ c.args.bus) c.args.bridges.now c.loop-bridge.out.items c.loop-bridge.bridge-index c.loop-bridge-test.false c.loop-bridge.invariant

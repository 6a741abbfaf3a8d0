use Rattle.std.proofs.Common.{subst}
use Rattle.std.proofs.lemmas.Result.{IfOk-weaker}
use Rattle.pci_spec.specs.System.{system_of}
use Rattle.pci_base.specs.Space.{space_of}
use Rattle.pci_tree.specs.Outline.{IsReachTo}
use Rattle.pci_tree.proofs.admitted.Admitted.reach.Goals as goal

pub returns : goal.returns
returns g c = IfOk-weaker c.reach.result _ _
    (λ v is. subst (λ roots. IsReachTo roots (system_of c.args.self.now.dump c.args.self.now.probe) (space_of c.args.space) c.args.prefetch c.args.bus v.items) c.outline.ensures.roots (is _ c.outline.ensures.records))
    c.reach.ensures

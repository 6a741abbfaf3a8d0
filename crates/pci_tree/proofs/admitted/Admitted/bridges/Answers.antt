use Rattle.std.proofs.lemmas.Result.{IfOk-weaker}
use Rattle.pci_tree.proofs.admitted.Admitted.bridges.Goals as goal

pub returns : goal.returns
returns g c = IfOk-weaker c.bridges.result _ _ (λ v is. is _ c.outline.ensures.records) c.bridges.ensures

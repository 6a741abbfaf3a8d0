use Rattle.std.proofs.lemmas.Result.{IfOk-weaker}
use Rattle.pci_tree.proofs.admitted.Admitted.sorted.Goals as goal

pub returns : goal.returns
returns g c = IfOk-weaker c.sorted.result _ _ (λ v is. is _ c.outline.ensures.records) c.sorted.ensures

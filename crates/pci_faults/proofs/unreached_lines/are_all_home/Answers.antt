use Rattle.std.proofs.lemmas.Result.{IfOk-weaker}
use Rattle.pci_faults.proofs.unreached_lines.are_all_home.Goals as goal

pub returns-else-are_any_cut : goal.returns-else-are_any_cut
returns-else-are_any_cut g c = IfOk-weaker c.are_home.result _ _ (λ v is home. (is home, c.are_any_cut.ensures.never c.if-are_any_cut.false)) c.are_home.ensures

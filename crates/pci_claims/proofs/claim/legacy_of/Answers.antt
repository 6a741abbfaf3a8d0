use Rattle.std.proofs.lemmas.Result.{IfOk-weaker}
use Rattle.pci_claims.proofs.claim.legacy_of.Goals as goal

pub returns : goal.returns
returns g c = IfOk-weaker c.claimed_by_part.result _ _ (λ v is. record { canonical = is.canonical; exact = is.exact }) c.claimed_by_part.ensures

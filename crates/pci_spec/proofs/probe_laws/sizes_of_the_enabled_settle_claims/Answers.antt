use Rattle.pci_spec.proofs.ToldAlike.{alike_claim_the_same}
use Rattle.pci_spec.proofs.probe_laws.sizes_of_the_enabled_settle_claims.Goals as goal

pub returns : goal.returns
returns c = alike_claim_the_same

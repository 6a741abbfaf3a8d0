use Rattle.pci_spec.proofs.Settling.{records_settle_claims}
use Rattle.pci_spec.proofs.judging_laws.records_tell_claims.Goals as goal

pub returns : goal.returns
returns c = records_settle_claims

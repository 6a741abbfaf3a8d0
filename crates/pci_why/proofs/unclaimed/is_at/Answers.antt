use Rattle.std.proofs.Common.{sym}
use Rattle.pci_claims.proofs.Bridging.{same_of}
use Rattle.pci_why.proofs.unclaimed.is_at.Goals as goal

pub returns : goal.returns
returns c = sym (same_of c.args.entry.now.slot c.args.slot _ (sym c.eq.ensures))

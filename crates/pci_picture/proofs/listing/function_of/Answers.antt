use Rattle.std.proofs.Common.{sym}
use Rattle.pci_picture.proofs.Listings.{no_seven}
use Rattle.pci_picture.proofs.listing.function_of.Goals as goal

pub returns-in_err-slot-clause-some : goal.returns-in_err-slot-clause-some
returns-in_err-slot-clause-some c = rw c.from_residual.ensures (sym (no_seven c.args.line.now c.in_err-slot.ensures.lookup.0))

use Rattle.std.proofs.Common.{subst}
use Rattle.pci_claims.specs.Off.{HasOffLine}
use Rattle.pci_map.proofs.Asciis.{name_bytes_ascii}
use Rattle.pci_map.proofs.off.push_line.Goals as goal

pub invariant_of-push_told_line : goal.invariant_of-push_told_line
invariant_of-push_told_line g c =
    let fits = subst HasOffLine c.in-Told.is c.requires in
    record { behind_registers = fits.0; below_limit = fits.1; is_forward = fits.2.forward; name_is_ascii = name_bytes_ascii c.in-Told.told.now.name fits.2.line.name.1 }

use Rattle.std.proofs.Common.{subst}
use Rattle.std.proofs.lemmas.Result.{IfOk-weaker}
use Rattle.pci_claims.specs.Legacy.{ArePorts, vga_low, vga_high}
use Rattle.pci_claims.proofs.Pieces.{vga_pieces}
use Rattle.pci_claims.proofs.legacy.vga_ports.Goals as goal

pub returns : goal.returns
returns g c =
    IfOk-weaker c.ports.result _ _
    (λ v is. vga_pieces c.args.is_wide v.items (subst (λ n. ArePorts n vga_low vga_high v.items) c.blocks_of.ensures.value is))
    c.ports.ensures

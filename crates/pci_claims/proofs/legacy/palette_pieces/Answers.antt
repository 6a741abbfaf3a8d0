use Rattle.std.proofs.Common.{subst}
use Rattle.std.proofs.lemmas.Result.{IfOk-weaker}
use Rattle.pci_claims.specs.Legacy.{ArePorts, palette_low, palette_high}
use Rattle.pci_claims.proofs.Pieces.{pieces_of_palette}
use Rattle.pci_claims.proofs.legacy.palette_pieces.Goals as goal

pub returns : goal.returns
returns g c =
    IfOk-weaker c.ports.result _ _
    (λ v is. pieces_of_palette c.args.is_wide v.items (subst (λ n. ArePorts n palette_low palette_high v.items) c.blocks_of.ensures.value is))
    c.ports.ensures

use Rattle.std.proofs.Common.{List, get_or, subst}
use Rattle.pci_base.specs.declared.range.Range.{Range}
use Rattle.pci_base.specs.Space.{space_of}
use Rattle.pci_faults.specs.Quiet.{IsOff}
use Rattle.pci_faults.proofs.Quieting.{off_pieces}
use Rattle.pci_faults.proofs.quiet.are_off.Goals as goal

pub returns : goal.returns
returns g c off k d less =
    off_pieces (space_of c.args.space) c.args.bridge c.in_ok-pieces.pieces.items (get_or c.args.regions.now k d) c.in_ok-pieces.ensures
    (subst (λ (l : List Range). IsOff c.args.bridge.slot l (get_or c.args.regions.now k d)) c.deref.ensures.value (c.are_off_pieces.ensures off k d less))

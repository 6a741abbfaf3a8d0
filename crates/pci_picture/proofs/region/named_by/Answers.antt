use Rattle.std.proofs.Common.{sym}
use Rattle.pci_picture.proofs.Keys.{register_key}
use Rattle.pci_picture.proofs.region.named_by.Goals as goal

pub returns-clause-key : goal.returns-clause-key
returns-clause-key c =
    register_key c.args.slot.now c.args.register.now c.in_ok-number.number c.in_ok-offset.offset c.region_key.result (sym c.in_ok-number.ensures.some)
    (sym c.in_ok-offset.ensures.some) c.in_ok-number.ensures.value c.in_ok-offset.ensures.value c.region_key.ensures.key

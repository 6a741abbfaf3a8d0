use Rattle.std.proofs.Common.{sym}
use Rattle.pci_picture.proofs.Keys.{told_key}
use Rattle.pci_picture.proofs.region.told_by.Goals as goal

pub returns-clause-key : goal.returns-clause-key
returns-clause-key c =
    told_key c.args.slot.now c.args.register.now c.in_ok-number.number c.in_ok-told.told c.region_key.result (sym c.in_ok-number.ensures.some)
    (sym c.in_ok-told.ensures.some) c.in_ok-number.ensures.value c.in_ok-told.ensures.value c.in_ok-told.ensures.most c.region_key.ensures.key

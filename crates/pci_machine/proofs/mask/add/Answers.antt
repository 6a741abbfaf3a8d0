use Rattle.std.proofs.Common.{◌≡◌, ◌+◌, ◌<◌, arith, rules}
use Rattle.pci_base.proofs.Accesses.{access-end}
use Rattle.pci_machine.proofs.MaskBits.{added_more, IsImage-or}
use Rattle.pci_machine.proofs.mask.add.Goals as goal

pub loop-j-preserved : goal.loop-j-preserved
loop-j-preserved c =
    let spot = c.from.result in
    let same : spot ≡ c.args.off + c.loop-j.j = c.from.ensures in
    let full = c.loop-j.invariant.image.full in
    let ends = access-end c.args.off c.args.width c.requires.access (search rules) in
    let within : spot < 256 = omega (arith, same, ends) in
    let datum = c.byte_of.result in
    record {
      image = IsImage-or c.loop-j.bytes spot datum c.loop-j.invariant.image within (omega arith);
      added = added_more c.args.bytes.now c.loop-j.bytes c.args.off c.loop-j.j c.args.bits spot datum full within same c.byte_of.ensures c.loop-j.invariant.added;
    }

use Rattle.pci_why.proofs.Namings.{name_low}
use Rattle.pci_why.proofs.told_line.push_bytes.Goals as goal

pub push_ascii-requires : goal.push_ascii-requires
push_ascii-requires g c = name_low c.args.bytes.now c.loop-byte.byte-index _ c.requires c.loop-byte-test.true

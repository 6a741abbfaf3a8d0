use Rattle.std.proofs.Common.{arith}
use Rattle.pci_map.proofs.Asciis.{byte_ascii}
use Rattle.pci_map.proofs.cells.put_byte.Goals as goal

pub returns-clause-ascii : goal.returns-clause-ascii
returns-clause-ascii c = byte_ascii c.args.byte (omega (arith, c.ranges.byte.fits))

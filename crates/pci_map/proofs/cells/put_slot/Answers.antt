use Rattle.std.proofs.Common.{arith, subst, IsAscii}
use Rattle.pci_spec.specs.Text.{hex_byte}
use Rattle.pci_map.proofs.Asciis.{slot_ascii}
use Rattle.pci_map.proofs.cells.put_slot.Goals as goal

pub returns-clause-ascii : goal.returns-clause-ascii
returns-clause-ascii c =
    slot_ascii c.args.slot (subst (λ n. IsAscii (hex_byte n)) c.bus.ensures c.put_byte.ensures.ascii) (subst (λ n. IsAscii (hex_byte n)) c.dev.ensures c.put_byte-2.ensures.ascii)
    (omega (arith, c.fun.ensures.number, c.fun.ensures.below))

use Rattle.std.proofs.Common.{◌≡◌, take}
use Rattle.pci_claims.specs.Vga.{isa_bridges_shown}
use Rattle.pci_claims.proofs.vga.isa_bridges.Given as goal

abbrev pub invariant-loop-block : goal.invariant-loop-block
invariant-loop-block g l = l.out.items ≡ isa_bridges_shown (take l.block-index l.block-items)

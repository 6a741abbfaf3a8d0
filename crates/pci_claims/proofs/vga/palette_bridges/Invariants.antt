use Rattle.std.proofs.Common.{◌≡◌, map, take}
use Rattle.pci_claims.specs.Values.{legacy_value}
use Rattle.pci_model.specs.WordsValue.{vga_value}
use Rattle.pci_claims.specs.Vga.{palette_bridges_shown}
use Rattle.pci_claims.proofs.vga.palette_bridges.Given as goal

abbrev pub invariant-loop-block : goal.invariant-loop-block
invariant-loop-block g l =
    map legacy_value l.out.items ≡ palette_bridges_shown (vga_value l.word) (take l.block-index l.block-items)

use Rattle.std.proofs.Common.{◌≡◌, ◌++◌, map, take}
use Rattle.std.specs.List.{All, filter}
use Rattle.pci_image.specs.Bars.{decoded_bar_of}
use Rattle.pci_claims.specs.Off.{off_value, HasOffLine, OffBar, is_bar_off}
use Rattle.pci_claims.proofs.off.add_bars.Given as goal

abbrev pub invariant-loop-bar : goal.invariant-loop-bar
invariant-loop-bar g l = record {
  parts : map off_value l.off.items ≡ map off_value l.initial.off.items ++ map (OffBar l.slot) (filter (is_bar_off l.command) (map decoded_bar_of (take l.bar-index l.bars)));
  lines : All HasOffLine l.off.items;
}

use Rattle.std.proofs.Common.{◌≡◌, map, take}
use Rattle.pci_picture.specs.Columns.{deepest}
use Rattle.pci_picture.specs.Maps.{headed_line}
use Rattle.pci_picture.proofs.map.Map.depth.Given as goal

abbrev pub invariant-loop-line : goal.invariant-loop-line
invariant-loop-line g l = l.depth ≡ deepest (map headed_line (take l.line-index l.self.lines.items))

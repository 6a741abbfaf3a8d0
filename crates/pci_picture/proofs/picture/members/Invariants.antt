use Rattle.std.proofs.Common.{◌≡◌, map, take}
use Rattle.std.specs.List.{All}
use Rattle.pci_picture.specs.Maps.{headed_line, headed_member, regions_of_members, regions_under}
use Rattle.pci_picture.specs.Roots.{IsLostByRoot, listed_functions}
use Rattle.pci_picture.proofs.picture.members.Given as goal

abbrev pub invariant-loop-line : goal.invariant-loop-line
invariant-loop-line g l = record {
  moved : regions_of_members l.members.items ≡ regions_under (take l.line-index l.board.map.lines.items);
  seated : map headed_member l.members.items ≡ map headed_line (take l.line-index l.board.map.lines.items);
  by_root : All (IsLostByRoot (listed_functions l.board.functions.items)) l.members.items;
}

-- Numbers in the order of the walk make ranges that are apart or inside one another.
use Rattle.std.proofs.Common.{◌+◌, length, refl}
use Rattle.pci_number.specs.Numbered.{secondaries}
use Rattle.pci_number.specs.Room.{last_behind}
use Rattle.pci_number.specs.NumberingLaws.{NumberedIsSingle, RoomyIsSingle}
use Rattle.pci_number.proofs.Single.{single}
use Rattle.pci_number.proofs.InOrder.{top, run_from, ranged}
use Rattle.pci_number.proofs.Roomy.{roomy}
use Rattle.pci_number.proofs.Spread.{spread_single}
use Rattle.pci_number.proofs.ListedRoots.{roots_single}
use Rattle.pci_number.proofs.numbering_laws.numbered_boards_are_single.Goals as goal

numbered_is_single : NumberedIsSingle
numbered_is_single root last before after rising numbered =
    single root (top root last 0) (top root last (0 + length (secondaries after))) after
    (ranged root last 0 root after (secondaries after) refl (run_from root last 0 (secondaries after) numbered.order) numbered.ranges) rising

roomy_is_single : RoomyIsSingle
roomy_is_single room root last before after rising numbered =
    single root root (last_behind root after) after (roomy room last root root after numbered.numbers) rising

pub returns : goal.returns
returns c = record { single = numbered_is_single; roomy = roomy_is_single; spread = spread_single; roots = roots_single }

use Rattle.pci_picture.specs.Lanes.{AreDeep, IsIndented, SiblingsRise}
use Rattle.pci_picture.specs.Seats.{HaveWindowsUpTo}
use Rattle.pci_picture.proofs.Counted.{AreCounted}
use Rattle.pci_picture.proofs.Crowded.{AreCrowded}
use Rattle.pci_picture.proofs.SeatedUpTo.{IsSeatedUpTo}
use Rattle.pci_picture.proofs.lanes.seats_of.Given as goal

abbrev pub invariant-loop-region : goal.invariant-loop-region
invariant-loop-region g l = record {
  seated : IsSeatedUpTo l.regions l.region-index l.seats.seats.items l.levels.items;
  counted : AreCounted l.seats.seats.items l.seats.lanes.items l.levels.items;
  windows : AreDeep l.regions → HaveWindowsUpTo l.regions l.region-index l.seats.seats.items;
  crowded : IsIndented l.regions → SiblingsRise l.regions
      → AreCrowded l.regions l.region-index l.seats.seats.items l.seats.lanes.items l.levels.items;
}

use Rattle.std.proofs.Common.{◌≡◌, ◌<◌, length, take}
use Rattle.std.specs.List.{flat_map, slice_get}
use Rattle.pci_picture.specs.Cuts.{extents_told}
use Rattle.pci_picture.specs.FaultLines.{faults_read}
use Rattle.pci_picture.specs.Keyed.{AreKeysOf, told_by_some}
use Rattle.pci_picture.specs.Maps.{lines_of_regions}
use Rattle.pci_picture.specs.Tellings.{fits_by, shared_by}
use Rattle.pci_picture.proofs.tellings.tellings_of.Given as goal

abbrev pub invariant-loop-index : goal.invariant-loop-index
invariant-loop-index g l = record {
  shared : extents_told l.tellings.shared.items
      ≡ flat_map (λ index. told_by_some (shared_by l.digits) (slice_get (faults_read l.faults) index)) (take l.index-index l.index-items);
  fits : (0 < length l.faults.namings.items → AreKeysOf l.regions l.keys) → extents_told l.tellings.fits.items
      ≡ flat_map (λ index. told_by_some (fits_by l.digits (lines_of_regions l.regions)) (slice_get (faults_read l.faults) index)) (take l.index-index l.index-items);
}

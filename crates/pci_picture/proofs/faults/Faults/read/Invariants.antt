use Rattle.std.proofs.Common.{◌≡◌, map}
use Rattle.std.specs.List.{flat_map}
use Rattle.pci_picture.specs.Badges.{badges_of_line}
use Rattle.pci_picture.specs.Marks.{HasNamings}
use Rattle.pci_picture.proofs.Marks.{AreReadFaults}
use Rattle.pci_picture.proofs.ReadSaid.{AreReadLines}
use Rattle.pci_picture.proofs.faults.Faults.read.Given as goal

abbrev pub invariant-loop-line : goal.invariant-loop-line
invariant-loop-line g l = record {
  named : AreReadFaults (map (λ x. x.now) l.yielded) l.reader.faults.items l.reader.namings.items;
  said : AreReadLines (map (λ x. x.now) l.yielded) l.reader;
  keyed : HasNamings l.reader;
  shown : l.reader.badges.items ≡ flat_map badges_of_line (map (λ x. x.now) l.yielded);
}

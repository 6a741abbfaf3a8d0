use Rattle.std.proofs.Common.{◌≡◌, ◌≤◌, ◌++◌}
use Rattle.pci_picture.specs.Marks.{has_naming}
use Rattle.pci_picture.specs.RegionWords.{any_number}
use Rattle.pci_picture.proofs.RegionWords.{numbers_below, spaced}
use Rattle.pci_picture.proofs.look.put_marks.Given as goal

abbrev pub invariant-loop-number : goal.invariant-loop-number
invariant-loop-number g l =
    let numbers = numbers_below (λ k. has_naming l.faults.faults.items l.faults.namings.items k k l.region.key) l.number in
    record {
      from : 60 ≤ l.number;
      to : l.number ≤ 64;
      some : l.is_marked ≡ any_number numbers;
      put : l.words.bytes.items ≡ l.initial.words.bytes.items ++ spaced numbers;
    }

use Rattle.std.proofs.Common.{◌≡◌, ◌++◌, [], Bor, List, ℕ, map, if◌then◌else◌}
use Rattle.std.specs.Prelude.{codes}
use Rattle.pci_picture.specs.Cuts.{extents_told}
use Rattle.pci_picture.specs.Tellings.{range_behind}
use Rattle.pci_picture.proofs.Told.{told_between}
use Rattle.pci_picture.proofs.tellings.add_fault.Given as goal

abbrev pub invariant-loop-place : goal.invariant-loop-place
invariant-loop-place g l = record {
  shared : extents_told l.tellings.shared.items ≡ extents_told l.initial.tellings.shared.items
      ++ told_between (range_behind (codes "shared") l.digits) (map (λ (line : Bor (List ℕ)). line.now) l.faults.lines.items) l.initial.place l.place;
  fits : extents_told l.tellings.fits.items ≡ extents_told l.initial.tellings.fits.items
      ++ told_between (λ line. if l.moves_here then range_behind (codes "fits ") l.digits line else [])
      (map (λ (line : Bor (List ℕ)). line.now) l.faults.lines.items) l.initial.place l.place;
}

use Rattle.std.proofs.Common.{ℕ, ◌<◌, get_or}
use Rattle.pci_spec.specs.Fault.{IsNotInD0At}
use Rattle.pci_function.proofs.profile.is_not_in_d0.Given as goal

abbrev pub invariant-loop-place : goal.invariant-loop-place
invariant-loop-place l = (k : ℕ) → k < l.place-index → IsNotInD0At l.image.0 (get_or l.places k 0) → ⊥

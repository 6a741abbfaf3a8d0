-- Soundness as the want of faults.
use Rattle.std.specs.Prelude.{ℕ, ◌↔◌, List}
use Rattle.pci_spec.specs.Number.{IsImage}
use Rattle.pci_spec.specs.Capability.{HasChain, HasLowPlace, ComesTwiceTo, HasCutBody}
use Rattle.pci_spec.specs.System.{System, IsSystem}
use Rattle.pci_spec.specs.Fault.{Fault, IsIn}
use Rattle.pci_spec.specs.Sound.{IsSound}

-- the walk comes to no place that a chain can't have
pub record HasNoChainFault (image : List ℕ) : Type 0 where
  pub high : (place : ℕ) → HasLowPlace image place → ⊥
  pub once : (place : ℕ) → ComesTwiceTo image place → ⊥
  pub whole : (place : ℕ) → HasCutBody image place → ⊥

-- A capabilities list is one exactly where none of its faults is there.
abbrev pub ChainWithoutFaults : Type 0
ChainWithoutFaults = (image : List ℕ) → IsImage image → HasChain image ↔ HasNoChainFault image

-- A system is sound exactly where no fault is there.
abbrev pub SoundWithoutFaults : Type 0
SoundWithoutFaults =
    (roots : List ℕ) (s : System) → IsSystem s → IsSound roots s
    ↔ ((fault : Fault) → IsIn roots s fault → ⊥)

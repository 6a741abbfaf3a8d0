-- Which faults a listing is refused for, and what a function is whose lines are made.
use Rattle.std.specs.Prelude.{◌≡◌, ◌≤◌, ℕ, List}
use Rattle.std.specs.List.{All}
use Rattle.pci_spec.specs.Text.{Block}
use Rattle.pci_spec.specs.Capability.{HasChain}
use Rattle.pci_spec.specs.System.{Function, system_of}
use Rattle.pci_spec.specs.Decoded.{IsDecodable}
use Rattle.pci_spec.specs.Order.{phase_key, Decoding, phase_of, IsFirstThere}
use Rattle.pci_base.specs.declared.memory.Refused.{Refused}
use Rattle.pci_base.specs.declared.memory.Refused.TheVariants as refusals
use Rattle.pci_image.specs.Faults.{IsImageFaultIn}
use Rattle.pci_image.specs.declared.fault.ImageFault.{ImageFault}
use Rattle.pci_function.specs.declared.fault.Fault.{Fault}
use Rattle.pci_function.specs.Fault.{fault_of, image_fault_at}
use Rattle.pci_function.specs.Profile.{IsFirstOf}
use Rattle.pci_tree.specs.Pair.{IsPair}

-- the function's registers break no rule, and its capabilities list is one
abbrev pub IsListable : Function → Type 0
IsListable f = IsDecodable f × HasChain f.image

-- a fault of an image that is the function's, and of those of decoding its first
pub record IsFirstFor (f : Function) (fault : Fault) : Type 0 where
  pub of_image : ImageFault
  pub named : fault_of fault ≡ image_fault_at f.slot of_image
  pub there : IsImageFaultIn f.image f.probe of_image
  pub first : IsFirstOf (phase_key Decoding) f (image_fault_at f.slot of_image)

abbrev pub IsRefusedFor : Function → Refused Fault → Type 0
IsRefusedFor f (refusals.Fault fault) = IsFirstFor f fault
IsRefusedFor f refusals.Memory = Unit {0}

-- the two are a pair, and each function can be listed
pub record AreListable (dump probe : List Block) : Type 0 where
  pub pair : (roots : List ℕ) → IsPair roots dump probe
  pub each : All IsListable (system_of dump probe)

-- a fault that is named is of slots, of identities and probes, or of decoding, and the first that is there
abbrev pub IsRefusedIn : List Block → List Block → Refused Fault → Type 0
IsRefusedIn dump probe (refusals.Fault fault) =
    (phase_of (fault_of fault) ≤ phase_key Decoding)
    × ((roots : List ℕ) → IsFirstThere roots dump probe (fault_of fault))
IsRefusedIn dump probe refusals.Memory = Unit {0}

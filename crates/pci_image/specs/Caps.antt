-- Capabilities of the code, and where they stand in an image.
use Rattle.std.specs.Prelude.{◌≡◌, ◌≢◌, ℕ, ◌+◌, ◌<◌, ◌≤◌, List, length, slice_range}
use Rattle.pci_spec.specs.Capability.{POWER_MANAGEMENT, MSI, capability_id, body_length, pointer, HasLowPlace, ComesTwiceTo, HasCutBody}
use Rattle.pci_image.specs.declared.capability.Cap.{Cap}
use Rattle.pci_image.specs.declared.capability.Cap.TheVariants.{Power, Msi, Raw}
use Rattle.pci_image.specs.declared.fault.ImageFault.{ImageFault}
use Rattle.pci_image.specs.declared.fault.ImageFault.TheVariants.{CapRange, CapLoop, CapCut}

-- the offset of a capability's ID
abbrev pub place_of : Cap → ℕ
place_of (Power place body) = place
place_of (Msi place body) = place
place_of (Raw place body) = place

-- a capability's bytes
abbrev pub body_of : Cap → List ℕ
body_of (Power place body) = body.now
body_of (Msi place body) = body.now
body_of (Raw place body) = body.now

-- an ID is that of the capability's kind
abbrev pub IsKindOf : ℕ → Cap → Type 0
IsKindOf id (Power place body) = id ≡ POWER_MANAGEMENT
IsKindOf id (Msi place body) = id ≡ MSI
IsKindOf id (Raw place body) = (id ≢ POWER_MANAGEMENT) × (id ≢ MSI)

-- the capability is of the kind that its ID says, and its body is the image's own bytes from its place
pub record IsCapIn (image : List ℕ) (cap : Cap) : Type 0 where
  pub kind : IsKindOf (capability_id image (place_of cap)) cap
  pub body : body_of cap
      ≡ slice_range image (place_of cap) (place_of cap + body_length image (place_of cap))
  pub size : length (body_of cap) ≡ body_length image (place_of cap)

-- the fault of a list is there
abbrev pub IsChainFaultIn : List ℕ → ImageFault → Type 0
IsChainFaultIn image (CapRange place) = HasLowPlace image place
IsChainFaultIn image (CapLoop place) = ComesTwiceTo image place
IsChainFaultIn image (CapCut place) = HasCutBody image place
IsChainFaultIn image _ = ⊥

-- before this step the walk comes to no place that a chain can't have
pub record IsChainUpTo (image : List ℕ) (n : ℕ) : Type 0 where
  pub in_range : (k : ℕ) → k < n → (0x40 ≤ pointer image k) × (pointer image k ≤ 0xfc)
  pub distinct : (j k : ℕ) → j < k → k < n → pointer image j ≢ pointer image k
  pub bodies : (k : ℕ) → k < n → pointer image k + body_length image (pointer image k) ≤ 256

-- the walk comes to the place at such a step, where nothing is wrong with it that is looked for before
abbrev pub IsFirstAlong : List ℕ → ImageFault → Type 0
IsFirstAlong image (CapRange place) = (n : ℕ) × IsChainUpTo image n × (pointer image n ≡ place)
IsFirstAlong image (CapLoop place) =
    (m n : ℕ) × (m < n) × IsChainUpTo image n × (pointer image m ≡ place)
    × (pointer image n ≡ place) × (0x40 ≤ place)
IsFirstAlong image (CapCut place) =
    (n : ℕ) × IsChainUpTo image n × (pointer image n ≡ place) × (0x40 ≤ place)
    × ((k : ℕ) → k < n → pointer image k ≢ place)
IsFirstAlong image _ = ⊥

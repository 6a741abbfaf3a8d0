-- What is told of a domain of a machine.
use Rattle.std.specs.Prelude.{◌≡◌, ◌↔◌, ◌⊎◌, ℕ, true, List, Option, None, Some, String, string_bytes}
use Rattle.std.specs.List.{All, Contains, count_by}
use Rattle.std.specs.Global.{Vec, Global}
use Rattle.pci_spec.specs.Text.{Block}
use Rattle.pci_spec.specs.SizesText.{SizesBlock}
use Rattle.pci_base.specs.declared.range.RootRange.{RootRange}
use Rattle.pci_tree.specs.Roots.{buses_of}
use Rattle.pci_here.specs.Place.{FunctionPlace}
use Rattle.pci_here.specs.Places.{ArePlacesOf}
use Rattle.pci_here.specs.Shown.{Shown}
use Rattle.pci_here.specs.Functions.{IsShownBlockAt, IsSizesAt, IsRootAt}
use Rattle.pci_here.specs.Taken.{Among, is_virtual_function, IsFirstTrouble}
use Rattle.pci_here.specs.declared.trouble.Trouble.{Trouble}
use Rattle.pci_here.specs.declared.trouble.Trouble.TheVariants.{Memory, Unread, Short, NoRoot, TooMany}
use Rattle.pci_here.specs.declared.trouble.TroubleAt.{TroubleAt}
use Rattle.pci_here.specs.HostRanges.{IsToldBy}
use Rattle.pci_here.specs.declared.domain.Domain.{Domain}

-- what a file tells of the root buses; nothing where it can't be read
abbrev pub IsToldInFile : Option (List ℕ) → ℕ → List ℕ → Option (Vec RootRange) → Type 0
IsToldInFile None domain roots list = list ≡ None
IsToldInFile (Some text) domain roots list = IsToldBy domain roots text list

abbrev pub file_text : Option (String Global) → Option (List ℕ)
file_text None = None
file_text (Some text) = Some (string_bytes text)

-- Exactly the functions of the domain that aren't virtual, with their registers and what is told of these; their host
-- buses, what the host sends to these, and how many functions are virtual.
pub record IsDomain (m : Shown) (domain : ℕ) (d : Domain) : Type 0 where
  pub places : List FunctionPlace
  pub are_places : ArePlacesOf m domain places
  pub blocks : (b : Block) → Contains d.dump b ↔ Among (IsShownBlockAt m) places b
  pub sizes : (s : SizesBlock) → Contains d.sizes s ↔ Among (IsSizesAt m) places s
  pub roots : (bus : ℕ) → Contains (buses_of d.roots) bus ↔ Among (IsRootAt m) places bus
  pub io : IsToldInFile m.ioports domain (buses_of d.roots) d.io
  pub mem : IsToldInFile m.iomem domain (buses_of d.roots) d.mem
  pub left_out : d.left_out ≡ count_by (is_virtual_function m) places

-- no function of a domain is there that isn't virtual
abbrev pub HasOnlyVirtual : Shown → ℕ → Type 0
HasOnlyVirtual m domain = (places : List FunctionPlace) × ArePlacesOf m domain places × All (λ p. m.is_virtual p ≡ Some true) places

-- why nothing is told of a domain as a whole
abbrev pub IsUntold : Shown → ℕ → Trouble → Type 0
IsUntold m domain Memory = Unit {0}
IsUntold m domain Unread = (m.names ≡ None) ⊎ HasOnlyVirtual m domain
IsUntold m domain Short = ⊥
IsUntold m domain NoRoot = ⊥
IsUntold m domain TooMany = ⊥

-- why a domain can't be read: the trouble of the first of its functions that has one, or one of no function
abbrev pub IsNoDomain : Shown → ℕ → TroubleAt → Type 0
IsNoDomain m domain at =
    ((places : List FunctionPlace) × ArePlacesOf m domain places × IsFirstTrouble m places at)
    ⊎ ((at.place ≡ None) × IsUntold m domain at.trouble)

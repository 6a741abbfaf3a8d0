-- What was taken of the functions at some places.
use Rattle.std.specs.Prelude.{◌≡◌, ◌↔◌, ℕ, ◌<◌, Bool, true, false, List, [], ◌∷◌, ◌++◌, length, Option, None, Some, replicate, slice_index_or}
use Rattle.std.specs.List.{All, Contains, count_by}
use Rattle.pci_spec.specs.Slot.{IsRising}
use Rattle.pci_spec.specs.Text.{Block, slots_of}
use Rattle.pci_spec.specs.SizesText.{SizesBlock, sized_slots}
use Rattle.pci_here.specs.Place.{FunctionPlace}
use Rattle.pci_here.specs.Shown.{Shown}
use Rattle.pci_here.specs.Functions.{IsShownBlockAt, IsSizesAt, IsRootAt, IsFunctionReadable, IsNotTaken, is_physical_function}
use Rattle.pci_here.specs.declared.trouble.TroubleAt.{TroubleAt}
use Rattle.pci_here.specs.declared.functions.Functions.{Functions}

-- of one of the places
abbrev pub Among : {X : Type 0} → (FunctionPlace → X → Type 0) → List FunctionPlace → X → Type 0
Among Is places x = (p : FunctionPlace) × Contains places p × Is p x

-- whether it is said, and yes
abbrev pub is_yes : Option Bool → Bool
is_yes None = false
is_yes (Some b) = b

-- whether a function is virtual
abbrev pub is_virtual_function : Shown → FunctionPlace → Bool
is_virtual_function m p = is_yes (m.is_virtual p)

-- exactly the blocks and the sizes of those that aren't virtual, by slot; their host buses, and the count of the others
pub record AreFunctionsTaken (m : Shown) (places : List FunctionPlace) (f : Functions) : Type 0 where
  pub blocks : (b : Block) → Contains f.dump b ↔ Among (IsShownBlockAt m) places b
  pub sizes : (s : SizesBlock) → Contains f.sizes s ↔ Among (IsSizesAt m) places s
  pub roots : (bus : ℕ) → bus < 256 → (slice_index_or f.is_root bus false ≡ true) ↔ Among (IsRootAt m) places bus
  pub left_out : f.left_out ≡ count_by (is_virtual_function m) places
  pub count : length f.dump ≡ count_by (is_physical_function m) places
  pub same_slots : sized_slots f.sizes ≡ slots_of f.dump
  pub rising : IsRising (slots_of f.dump)

-- nothing was taken
pub record IsNoneTaken (f : Functions) : Type 0 where
  pub dump : f.dump ≡ []
  pub sizes : f.sizes ≡ []
  pub roots : f.is_root ≡ replicate 256 false
  pub left_out : f.left_out ≡ 0

-- the first of some functions that can't be taken, and why
pub record IsFirstTrouble (m : Shown) (places : List FunctionPlace) (at : TroubleAt) : Type 0 where
  pub before : List FunctionPlace
  pub place : FunctionPlace
  pub behind : List FunctionPlace
  pub parts : places ≡ before ++ place ∷ behind
  pub is_place : at.place ≡ Some place
  pub not_taken : IsNotTaken m before place at.trouble
  pub others : All (IsFunctionReadable m) before

-- The functions of a domain as a machine shows them.
use Rattle.std.specs.Prelude.{◌≡◌, ◌⊎◌, ℕ, ◌≤◌, Bool, true, false, not, List, [], ◌∷◌, ◌++◌, length, Option, None, Some}
use Rattle.pci_spec.specs.Text.{Block}
use Rattle.pci_spec.specs.SizesText.{SizesBlock, sized_slots}
use Rattle.pci_spec.specs.Slot.{Slot, slot_number, IsRising}
use Rattle.pci_spec.specs.Stops.{IsAboveLast, last_slot}
use Rattle.std.specs.List.{All, Contains, count_by}
use Rattle.pci_spec.specs.Resource.{ResourceLine}
use Rattle.pci_here.specs.Place.{FunctionPlace}
use Rattle.pci_here.specs.Link.{IsHostBus, IsNoHostFolder, folders}
use Rattle.pci_here.specs.Log.{completed}
use Rattle.pci_here.specs.Resource.{AreFirstLines}
use Rattle.pci_here.specs.Shown.{Shown, IsFileFront, IsNoFront}
use Rattle.pci_here.specs.declared.function.Function.{Function}
use Rattle.pci_here.specs.declared.trouble.Trouble.{Trouble}
use Rattle.pci_here.specs.declared.trouble.Trouble.TheVariants.{Memory, Unread, Short, NoRoot, TooMany}

-- a function at the place as a dump lists it: its first 256 bytes, and no title
pub record IsShownBlockAt (m : Shown) (p : FunctionPlace) (b : Block) : Type 0 where
  pub own : m.is_virtual p ≡ Some false
  pub slot : b.slot ≡ p.slot
  pub title : b.title ≡ None
  pub image : IsFileFront (m.config p) b.image

-- what is told of its address registers: the first lines of its file `resource`, and the log's in the place of zeros
pub record IsSizesAt (m : Shown) (p : FunctionPlace) (s : SizesBlock) : Type 0 where
  pub own : m.is_virtual p ≡ Some false
  pub slot : s.slot ≡ p.slot
  pub text : List ℕ
  pub resource : m.resource p ≡ Some text
  pub first : List ResourceLine
  pub are_first : AreFirstLines text first
  pub lines : s.lines ≡ completed first (m.log p)

-- the host bus that it is below
pub record IsRootAt (m : Shown) (p : FunctionPlace) (bus : ℕ) : Type 0 where
  pub own : m.is_virtual p ≡ Some false
  pub path : List ℕ
  pub link : m.link p ≡ Some path
  pub is : IsHostBus path bus

pub record IsFunctionTaken (m : Shown) (p : FunctionPlace) (f : Function) : Type 0 where
  pub block : IsShownBlockAt m p f.block
  pub sizes : IsSizesAt m p f.sizes
  pub root : IsRootAt m p f.root

-- what is read at a place: a function, and nothing of a virtual one
abbrev pub IsFunctionRead : Shown → FunctionPlace → Option Function → Type 0
IsFunctionRead m p None = m.is_virtual p ≡ Some true
IsFunctionRead m p (Some f) = IsFunctionTaken m p f

-- that a function can be read
abbrev pub IsFunctionReadable : Shown → FunctionPlace → Type 0
IsFunctionReadable m p = (f : Option Function) × IsFunctionRead m p f

-- why a function can't be read
abbrev pub HasTrouble : Shown → FunctionPlace → Trouble → Type 0
HasTrouble m p Memory = Unit {0}
HasTrouble m p Unread =
    (m.is_virtual p ≡ None) ⊎ (m.config p ≡ None) ⊎ (m.resource p ≡ None) ⊎ (m.link p ≡ None)
HasTrouble m p Short =
    IsNoFront (m.config p) Short
    ⊎ ((text : List ℕ) × (m.resource p ≡ Some text)
    × ((lines : List ResourceLine) → AreFirstLines text lines → ⊥))
HasTrouble m p NoRoot =
    (path : List ℕ) × (m.link p ≡ Some path) × All IsNoHostFolder (folders path)
HasTrouble m p TooMany = ⊥

-- whether it is said, and no
abbrev pub is_no : Option Bool → Bool
is_no None = false
is_no (Some b) = not b

-- whether a function isn't virtual
abbrev pub is_physical_function : Shown → FunctionPlace → Bool
is_physical_function m p = is_no (m.is_virtual p)

-- a place before it, of a function that isn't virtual, has its slot or a higher one
pub record HasOneAt (m : Shown) (before : List FunctionPlace) (p : FunctionPlace) : Type 0 where
  pub other : FunctionPlace
  pub there : Contains before other
  pub own : m.is_virtual other ≡ Some false
  pub slot : slot_number p.slot ≤ slot_number other.slot

-- a function that can be read, and isn't virtual, is one too many: 4,096 such functions are before it, or one at its slot
pub record IsTooMany (m : Shown) (before : List FunctionPlace) (p : FunctionPlace) : Type 0 where
  pub function : Function
  pub read : IsFunctionTaken m p function
  pub crowded : (count_by (is_physical_function m) before ≡ 4096) ⊎ HasOneAt m before p

-- why a function behind others can't be taken: it can't be read, or it is one too many
abbrev pub IsNotTaken : Shown → List FunctionPlace → FunctionPlace → Trouble → Type 0
IsNotTaken m before p Memory = HasTrouble m p Memory
IsNotTaken m before p Unread = HasTrouble m p Unread
IsNotTaken m before p Short = HasTrouble m p Short
IsNotTaken m before p NoRoot = HasTrouble m p NoRoot
IsNotTaken m before p TooMany = IsTooMany m before p

-- ---- two lists by slot that take a function more

-- 4,096 blocks are there, or the slot isn't above the last one
abbrev pub HasNoRoom : List Block → Slot → Type 0
HasNoRoom dump slot = (IsAboveLast (last_slot dump) slot → ⊥) ⊎ (length dump ≡ 4096)

-- the same of sizes
abbrev pub HasNoRoomFor : List SizesBlock → SizesBlock → Type 0
HasNoRoomFor sizes s = (IsRising (sized_slots (sizes ++ s ∷ [])) → ⊥) ⊎ (length sizes ≡ 4096)

-- why they take no function more
abbrev pub IsNotPut : List Block → List SizesBlock → Function → Trouble → Type 0
IsNotPut dump sizes f Memory = Unit {0}
IsNotPut dump sizes f Unread = ⊥
IsNotPut dump sizes f Short = ⊥
IsNotPut dump sizes f NoRoot = ⊥
IsNotPut dump sizes f TooMany = HasNoRoom dump f.block.slot ⊎ HasNoRoomFor sizes f.sizes

-- Which line of a section stands inside which, and from where to where their boxes reach.
use Rattle.std.specs.Prelude.{◌≡◌, ◌<◌, ◌≤◌, ◌+◌, ◌-◌, ◌/◌, ◌⊎◌, ◌↔◌, ℕ, Bool, List, if◌then◌else◌, map, min, length, slice_index, slice_index_or}
use Rattle.pci_picture.specs.Cuts.{is_window_part}
use Rattle.pci_picture.specs.declared.lanes.Width.{Width}
use Rattle.pci_picture.specs.declared.region.Region.{Region}

-- how deep the line at an index stands
abbrev pub depth_at : List Region → ℕ → ℕ
depth_at regions k = slice_index (map (λ (region : Region). region.depth) regions) k

-- the first address of the line at an index
abbrev pub first_address_at : List Region → ℕ → ℕ
first_address_at regions k = slice_index (map (λ (region : Region). region.first) regions) k

-- the last address of the line at an index
abbrev pub last_address_at : List Region → ℕ → ℕ
last_address_at regions k = slice_index (map (λ (region : Region). region.last) regions) k

-- no line stands at depth 0
abbrev pub AreDeep : List Region → Type 0
AreDeep regions = (k : ℕ) → k < length regions → 0 < depth_at regions k

-- the first line stands at depth 1, and each other one at most one deeper than the line before it
pub record IsIndented (regions : List Region) : Type 0 where
  pub deep : AreDeep regions
  pub first : depth_at regions 0 ≤ 1
  pub next : (k : ℕ) → k + 1 < length regions → depth_at regions (k + 1) ≤ depth_at regions k + 1

-- the line at p is the parent of the line at i: the last one before it that stands less deep
pub record IsParent (regions : List Region) (p i : ℕ) : Type 0 where
  pub before : p < i
  pub is_outer : depth_at regions p < depth_at regions i
  pub is_last : (k : ℕ) → p < k → k < i → depth_at regions i ≤ depth_at regions k

-- two lines have the same parent, or both have none
abbrev pub SameParent : List Region → ℕ → ℕ → Type 0
SameParent regions i j = (p : ℕ) → (IsParent regions p i ↔ IsParent regions p j)

-- lines of one parent come in the order of their first addresses
abbrev pub SiblingsRise : List Region → Type 0
SiblingsRise regions = (i j : ℕ) → i < j → j < length regions → SameParent regions i j
    → first_address_at regions i ≤ first_address_at regions j

-- two lines have an address in common
abbrev pub Overlap : List Region → ℕ → ℕ → Type 0
Overlap regions i j =
    (first_address_at regions i ≤ last_address_at regions j) × (first_address_at regions j ≤ last_address_at regions i)

-- the width at an index
abbrev pub width_at : List Width → ℕ → Width
width_at widths k = slice_index_or widths k (record { left = 0; right = 0; inner = 0 })

-- what is inside a box begins between its ends
abbrev pub IsOrdered : Width → Type 0
IsOrdered width = (width.left ≤ width.inner) × (width.inner ≤ width.right)

-- a box stands between two ends, and what is inside it begins between its own
pub record StandsBetween (left right : ℕ) (width : Width) : Type 0 where
  pub from : left ≤ width.left
  pub inner : width.left ≤ width.inner
  pub within : width.inner ≤ width.right
  pub upto : width.right ≤ right

-- each box stands inside that of its parent, behind the parent's own text
abbrev pub AreNested : List Region → List Width → Type 0
AreNested regions widths = (p i : ℕ) → i < length regions → IsParent regions p i
    → StandsBetween (width_at widths p).inner (width_at widths p).right (width_at widths i)

-- one box ends before the other begins
abbrev pub StandApart : Width → Width → Type 0
StandApart one other = (one.right ≤ other.left) ⊎ (other.right ≤ one.left)

-- boxes of one parent that have an address in common stand side by side
abbrev pub StandSideBySide : List Region → List Width → Type 0
StandSideBySide regions widths = (i j : ℕ) → i < j → j < length regions → SameParent regions i j → Overlap regions i j
    → StandApart (width_at widths i) (width_at widths j)

-- where the inside of a box begins: behind the text of a window, which has `column` units or all of a narrower box. Nothing
-- stands inside any other region
abbrev pub inner_begin : Bool → ℕ → Width → ℕ
inner_begin is_window column width = if is_window then min (width.left + column) width.right else width.right

-- each box has its inside there
abbrev pub HaveColumns : List Region → ℕ → List Width → Type 0
HaveColumns regions column widths = (i : ℕ) (d : Region) → i < length regions
    → (width_at widths i).inner ≡ inner_begin (is_window_part (slice_index_or regions i d).part) column (width_at widths i)

-- a box begins before the end of the room that it stands in, if that has a unit: the room of its parent, or the whole
pub record BeginInside (regions : List Region) (left right : ℕ) (widths : List Width) : Type 0 where
  pub top : (i : ℕ) → i < length regions → ((p : ℕ) → IsParent regions p i → ⊥) → left < right → (width_at widths i).left < right
  pub inner : (p i : ℕ) → i < length regions → IsParent regions p i → (width_at widths p).inner < (width_at widths p).right
      → (width_at widths i).left < (width_at widths p).right

-- a line holds an address
abbrev pub HoldsAt : List Region → ℕ → ℕ → Type 0
HoldsAt regions k address = (first_address_at regions k ≤ address) × (address ≤ last_address_at regions k)

-- some lines of one parent, numbered from 0 to n - 1, hold one address: the line at i has the same parent
pub record HoldTogether (regions : List Region) (i n : ℕ) : Type 0 where
  pub address : ℕ
  pub number : ℕ → ℕ
  pub lines : (k : ℕ) → k < n → (j : ℕ) × (j < length regions) × SameParent regions i j × HoldsAt regions j address × (number j ≡ k)

-- a box is at least as wide as a room that is divided by some number of lines that hold one address together
pub record HasShare (regions : List Region) (left right i : ℕ) (width : Width) : Type 0 where
  pub n : ℕ
  pub some : 0 < n
  pub together : HoldTogether regions i n
  pub wide : (right - left) / n ≤ width.right - width.left

-- each box has its share of the room that it stands in: the room of its parent, or the whole
pub record HaveShares (regions : List Region) (left right : ℕ) (widths : List Width) : Type 0 where
  pub top : (i : ℕ) → i < length regions → ((p : ℕ) → IsParent regions p i → ⊥) → HasShare regions left right i (width_at widths i)
  pub inner : (p i : ℕ) → i < length regions → IsParent regions p i
      → HasShare regions (width_at widths p).inner (width_at widths p).right i (width_at widths i)

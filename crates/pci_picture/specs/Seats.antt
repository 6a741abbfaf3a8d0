-- The lanes that lines of a section get.
use Rattle.std.specs.Prelude.{◌≡◌, ◌≢◌, ◌<◌, ◌≤◌, ◌+◌, ◌-◌, ◌*◌, ◌/◌, ◌⊎◌, ◌++◌, ℕ, false, List, [], ◌∷◌, Option, None, Some, min, max, length, slice_index, slice_index_or, slice_set}
use Rattle.pci_picture.specs.Cuts.{is_window_part}
use Rattle.pci_picture.specs.declared.lanes.Level.{Level}
use Rattle.pci_picture.specs.declared.lanes.Seat.{Seat}
use Rattle.pci_picture.specs.declared.lanes.Width.{Width}
use Rattle.pci_picture.specs.declared.region.Region.{Region}
use Rattle.pci_picture.specs.Lanes.{HoldTogether, IsParent, Overlap, inner_begin, width_at}

-- where a lane begins, of some lanes that share the units between left and right
abbrev pub lane_at : ℕ → ℕ → ℕ → ℕ → ℕ
lane_at left right lane lanes = left + min ((right - left) * lane / max 1 lanes) (right - left)

-- the width that a line stands inside: that of its parent, or the whole
abbrev pub outer_at : List Width → Option ℕ → Width → Width
outer_at widths None whole = whole
outer_at widths (Some parent) whole = slice_index_or widths parent whole

-- a width is that of a lane, of some lanes inside another width
pub record IsWidthOfLane (outer : Width) (lane lanes : ℕ) (width : Width) : Type 0 where
  pub begins : width.left ≡ lane_at outer.inner outer.right lane lanes
  pub ends : width.right ≤ lane_at outer.inner outer.right (lane + 1) lanes
  pub full : lane < lanes → width.right ≡ lane_at outer.inner outer.right (lane + 1) lanes
  pub inner : width.left ≤ width.inner
  pub within : width.inner ≤ width.right
  pub inside : outer.inner ≤ outer.right → (outer.inner ≤ width.left) × (width.right ≤ outer.right)

-- the seat at an index
abbrev pub seat_at : List Seat → ℕ → Seat
seat_at seats k = slice_index_or seats k (record { lane = 0; group = 0; parent = None; is_window = false })

-- the width at an index is that of its lane in its parent's width, or in the whole
pub record IsWidthOfSeat (whole : Width) (seats : List Seat) (lanes : List ℕ) (widths : List Width) (k : ℕ) : Type 0 where
  pub outer : Width
  pub is_inner : (p : ℕ) → (seat_at seats k).parent ≡ Some p → p < k → outer ≡ width_at widths p
  pub is_top : (seat_at seats k).parent ≡ None → outer ≡ whole
  pub is_lane : IsWidthOfLane outer (seat_at seats k).lane (slice_index_or lanes (seat_at seats k).group 1) (width_at widths k)

-- each width before an index is that of a seat
abbrev pub AreWidthsOfSeats : Width → List Seat → List ℕ → List Width → ℕ → Type 0
AreWidthsOfSeats whole seats lanes widths n = (k : ℕ) → k < n → IsWidthOfSeat whole seats lanes widths k

-- the parent of the line at an index, or that it has none
abbrev pub HasParent : List Region → ℕ → Option ℕ → Type 0
HasParent regions i None = (p : ℕ) → IsParent regions p i → ⊥
HasParent regions i (Some p) = IsParent regions p i

-- each line is seated inside its parent
abbrev pub HaveParents : List Region → List Seat → Type 0
HaveParents regions seats = (i : ℕ) → i < length regions → HasParent regions i (seat_at seats i).parent

-- lines that are seated inside one parent and have an address in common have different lanes of one group
abbrev pub AreSeatedApart : List Region → List Seat → ℕ → Type 0
AreSeatedApart regions seats n = (i j : ℕ) → i < j → j < n → (seat_at seats i).parent ≡ (seat_at seats j).parent
    → Overlap regions i j → ((seat_at seats i).group ≡ (seat_at seats j).group) × ((seat_at seats i).lane ≢ (seat_at seats j).lane)

-- all lines of a group, if there are any, end before an address
abbrev pub EndsBefore : Option ℕ → ℕ → Type 0
EndsBefore None first = Unit {0}
EndsBefore (Some until) first = until < first

-- a line joined the group of a level
pub record JoinsGroup {A : Type 0} (last : ℕ) (old new : Level A) : Type 0 where
  pub until : ℕ
  pub was : old.until ≡ Some until
  pub is : new.until ≡ Some (max until last)
  pub group : new.group ≡ old.group
  pub ends : new.ends.items ≡ old.ends.items

-- a line began a group, behind all lines of the one before
pub record BeginsGroup {A : Type 0} (first last : ℕ) (old new : Level A) : Type 0 where
  pub was : EndsBefore old.until first
  pub is : new.until ≡ Some last
  pub ends : new.ends.items ≡ []

-- a line got a new lane, or one whose last line ended before it
abbrev pub IsLaneGiven : List ℕ → ℕ → ℕ → ℕ → List ℕ → Type 0
IsLaneGiven old first last lane new =
    ((lane ≡ length old) × (new ≡ old ++ (last ∷ [])))
    ⊎ ((lane < length old) × (slice_index old lane < first) × (new ≡ slice_set old lane last))

-- no lane ends before an address
abbrev pub NoneEndsBefore : ℕ → List ℕ → Type 0
NoneEndsBefore first ends = (lane : ℕ) → lane < length ends → first ≤ slice_index ends lane

-- a level is the same but for its lanes
pub record SameButLanes {A : Type 0} (old new : Level A) : Type 0 where
  pub parent : new.parent ≡ old.parent
  pub group : new.group ≡ old.group
  pub until : new.until ≡ old.until

-- a line was seated in a level
pub record IsSeatGiven {A : Type 0} (first last : ℕ) (old new : Level A) (before after : List Seat) : Type 0 where
  pub seat : Seat
  pub added : after ≡ before ++ (seat ∷ [])
  pub parent : seat.parent ≡ old.parent
  pub kept : new.parent ≡ old.parent
  pub group : seat.group ≡ new.group
  pub between : Level A
  pub is_group : JoinsGroup last old between ⊎ BeginsGroup first last old between
  pub is_same : SameButLanes between new
  pub is_lane : IsLaneGiven between.ends.items first last seat.lane new.ends.items
  pub is_full : NoneEndsBefore old.least old.ends.items → seat.lane ≡ length between.ends.items → NoneEndsBefore first between.ends.items
  pub is_least : first ≤ last → NoneEndsBefore old.least old.ends.items → NoneEndsBefore new.least new.ends.items

-- a level with no line yet was added, for lines inside the last of those that were seated
pub record IsLevelAdded {A : Type 0} (count depth : ℕ) (old new : List (Level A)) : Type 0 where
  pub level : Level A
  pub added : new ≡ old ++ (level ∷ [])
  pub is_top : depth ≤ 1 → level.parent ≡ None
  pub is_inner : 1 < depth → 0 < count → level.parent ≡ Some (count - 1)
  pub is_empty : level.until ≡ None
  pub no_lane : level.ends.items ≡ []

-- the group of a lane has more lanes than the index of that lane
abbrev pub HasLane : List ℕ → ℕ → ℕ → Type 0
HasLane lanes group lane = (group < length lanes) × (lane < slice_index lanes group)

-- no group has fewer lanes than before
pub record KeepLanes (old new : List ℕ) : Type 0 where
  pub longer : length old ≤ length new
  pub grown : (group : ℕ) → slice_index old group ≤ slice_index new group

-- the group of a level, if it has one, is among some groups
abbrev pub IsGroupAmong : Option ℕ → ℕ → ℕ → Type 0
IsGroupAmong None group count = Unit {0}
IsGroupAmong (Some until) group count = group < count

-- each seat has a lane of its group
abbrev pub HaveLanes : List Seat → List ℕ → Type 0
HaveLanes seats lanes = (k : ℕ) → k < length seats → HasLane lanes (seat_at seats k).group (seat_at seats k).lane

-- no group has more lanes than before
abbrev pub AddsNoLane : List ℕ → List ℕ → Type 0
AddsNoLane old new = (group : ℕ) → slice_index new group ≤ slice_index old group

-- one group has room for a lane at most, and no other one has more lanes than before
pub record IsWidened (group lane : ℕ) (old new : List ℕ) : Type 0 where
  pub few : slice_index new group ≤ max (slice_index old group) (lane + 1)
  pub others : (other : ℕ) → other ≢ group → slice_index new other ≤ slice_index old other

-- a level has the group that it had, or the next one behind some groups
abbrev pub IsGroupGiven : {A : Type 0} → Level A → Level A → List ℕ → List ℕ → Type 0
IsGroupGiven old new lanes more =
    ((old.until ≢ None) × (new.group ≡ old.group) × (length more ≡ length lanes))
    ⊎ ((new.group ≡ length lanes) × (length more ≡ length lanes + 1))

-- a seat was added, and its group has its lane
pub record IsLaneAdded {A : Type 0} (old new : Level A) (before after : List Seat) (lanes more : List ℕ) : Type 0 where
  pub seat : Seat
  pub added : after ≡ before ++ (seat ∷ [])
  pub group : seat.group ≡ new.group
  pub kept : KeepLanes lanes more
  pub has : IsGroupAmong old.until old.group (length lanes) → HasLane more seat.group seat.lane
  pub is_group : IsGroupGiven old new lanes more
  pub is_widened : IsWidened seat.group seat.lane lanes more

-- a group has no more lanes than lines of one parent hold one address together
abbrev pub HoldLanesTogether : List Region → List Seat → List ℕ → Type 0
HoldLanesTogether regions seats lanes =
    (i : ℕ) → i < length regions → HoldTogether regions i (slice_index lanes (seat_at seats i).group)

-- the seat that was added says whether its line is a window
pub record IsWindowTold (region : Region) (before after : List Seat) : Type 0 where
  pub seat : Seat
  pub added : after ≡ before ++ (seat ∷ [])
  pub is_window : seat.is_window ≡ is_window_part region.part

-- the seats of the lines before an index say so
abbrev pub HaveWindowsUpTo : List Region → ℕ → List Seat → Type 0
HaveWindowsUpTo regions n seats = (i : ℕ) (d : Region) → i < n → (seat_at seats i).is_window ≡ is_window_part (slice_index_or regions i d).part

abbrev pub HaveWindows : List Region → List Seat → Type 0
HaveWindows regions seats = HaveWindowsUpTo regions (length regions) seats

-- the inside of each box before an index begins where its seat says
abbrev pub HaveSeatColumns : List Seat → ℕ → List Width → ℕ → Type 0
HaveSeatColumns seats column widths n = (k : ℕ) → k < n
    → (width_at widths k).inner ≡ inner_begin (seat_at seats k).is_window column (width_at widths k)

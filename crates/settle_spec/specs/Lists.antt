-- What is asked for: lists of ranges of addresses, of all roots or of one, functions that stay, whether all is placed anew, and room
-- behind slots.
use Rattle.std.specs.Prelude.{ℕ, ◌==◌, nat_lt, Bool, true, false, ◌||◌, not, List, [], ◌∷◌, map, Option, None, Some}
use Rattle.std.specs.List.{list_any, filter}
use Rattle.pci_spec.specs.Slot.{Slot}
use Rattle.pci_spec.specs.Window.{WindowKind, IoWindow, MemoryWindow, PrefetchWindow}
use Rattle.pci_spec.specs.Decoded.{Range}
use Rattle.pci_spec.specs.Bus.{is_root}
use Rattle.plan_spec.specs.Plan.{is_backward}
use Rattle.judge_spec.specs.ToldClaims.{Told}
use Rattle.settle_spec.specs.FirstPlace.{ranges_are_apart}

-- a range, and the root that alone has it: None where all have it
pub record RootRange : Type 0 where
  pub root : Option ℕ
  pub range : Range

-- a list for each class: what comes earlier is taken first
pub record Lists : Type 0 where
  pub io : List RootRange
  pub memory : List RootRange
  pub prefetch : List RootRange

abbrev pub list_of : Lists → WindowKind → List RootRange
list_of lists IoWindow = lists.io
list_of lists MemoryWindow = lists.memory
list_of lists PrefetchWindow = lists.prefetch

-- how many addresses of each class are wanted behind a slot: 0 where none are
pub record Spares : Type 0 where
  pub io : ℕ
  pub memory : ℕ
  pub prefetch : ℕ

abbrev pub wanted_in : Spares → WindowKind → ℕ
wanted_in spares IoWindow = spares.io
wanted_in spares MemoryWindow = spares.memory
wanted_in spares PrefetchWindow = spares.prefetch

-- nothing is wanted behind any slot
abbrev pub no_spares : Spares
no_spares = record { io = 0; memory = 0; prefetch = 0 }

pub record Request : Type 0 where
  -- the root buses
  pub roots : List ℕ
  pub lists : Lists
  -- what may not be written
  pub fixed : List Slot
  -- nothing is left where it stands
  pub anew : Bool
  -- the bridges with a slot, and what is wanted behind each
  pub slots : List Slot
  pub spares : Spares
  -- what a text tells of beside BARs and ROMs
  pub told : Told

-- whether a root has a range
abbrev pub is_had_by : Option ℕ → ℕ → Bool
is_had_by None bus = true
is_had_by (Some root) bus = root == bus

-- the ranges of a class that a root has
abbrev pub class_ranges : Request → WindowKind → ℕ → List Range
class_ranges q c bus =
    map (λ (r : RootRange). r.range) (filter (λ r. is_had_by r.root bus) (list_of q.lists c))

-- ---- lists that are refused

-- whether a range is of a bus that is no root
abbrev pub has_no_root : List ℕ → Option ℕ → Bool
has_no_root roots None = false
has_no_root roots (Some bus) = not (is_root roots bus)

-- whether two ranges of a list share an address
abbrev pub share_address : List RootRange → Bool
share_address [] = false
share_address (r ∷ more) = list_any (λ q. not (ranges_are_apart r.range q.range)) more || share_address more

abbrev pub is_bad_list : List ℕ → List RootRange → Bool
is_bad_list roots list =
    list_any (λ r. is_backward r.range || has_no_root roots r.root) list || share_address list

-- whether a range ends above an address
abbrev pub end_above : ℕ → List RootRange → Bool
end_above last list = list_any (λ r. nat_lt last r.range.last) list

abbrev pub are_bad_lists : List ℕ → Lists → Bool
are_bad_lists roots lists =
    is_bad_list roots lists.io || is_bad_list roots lists.memory || is_bad_list roots lists.prefetch
    || end_above 0xffff_ffff lists.io || end_above 0xffff_ffff lists.memory

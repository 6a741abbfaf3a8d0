-- Which parts stand where they are: in the ranges of their root or the window over them, and apart from those that come before.
use Rattle.std.specs.Prelude.{ℕ, zero, suc, ◌+◌, ◌*◌, ◌-◌, ◌==◌, nat_lt, Bool, false, ◌&&◌, ◌||◌, not, if◌then◌else◌, length, Option, None, Some}
use Rattle.std.specs.Bool.{beq}
use Rattle.std.specs.List.{list_any, list_all}
use Rattle.pci_spec.specs.Slot.{same_slot, slot_number}
use Rattle.pci_spec.specs.Window.{WindowKind, IoWindow, MemoryWindow, PrefetchWindow}
use Rattle.pci_spec.specs.Decoded.{Range}
use Rattle.pci_spec.specs.System.{System, Function, Space, Io, Memory, Part, Window, is_bridge, is_enabled, is_space_on, register_of, space_of}
use Rattle.pci_spec.specs.Bus.{is_behind, is_root, are_siblings}
use Rattle.plan_spec.specs.Plan.{bridges_above, is_open, same_class}
use Rattle.plan_spec.specs.Planning.Layout.{range_of}
use Rattle.judge_spec.specs.ToldClaims.{is_range_on}
use Rattle.judge_spec.specs.ToldRegion.{ToldRegion, told_regions}
use Rattle.settle_spec.specs.FirstPlace.{ranges_are_apart}
use Rattle.settle_spec.specs.Lists.{Request, class_ranges}
use Rattle.settle_spec.specs.Parts.{FunctionPart, system_parts, addresses, is_part, lies_within, holds_range, class_in, bridge_over, are_same_space}
use Rattle.settle_spec.specs.Lines.{line_bus, line_range, is_held_line, is_always_line, is_line_of, keeps_off, keeps_off_part}

abbrev pub is_fixed_part : Request → FunctionPart → Bool
is_fixed_part q r = list_any (same_slot r.function.slot) q.fixed

abbrev pub is_part_on : FunctionPart → Bool
is_part_on r = is_enabled r.function r.part

abbrev pub count : Range → ℕ
count r = r.last + 1 - r.first

-- the slot and the register, as one number
abbrev pub rank : FunctionPart → ℕ
rank r = slot_number r.function.slot * 256 + register_of r.function r.part

-- one comes first by a test, or else by what follows
abbrev pub first_by : Bool → Bool → Bool → Bool
first_by a b rest = (a && not b) || (beq a b && rest)

-- what is fixed comes before the rest, then what is enabled, then what is larger, then the lower slot and register
abbrev pub part_precedes : Request → FunctionPart → FunctionPart → Bool
part_precedes q r t =
    first_by (is_fixed_part q r) (is_fixed_part q t) (first_by (is_part_on r) (is_part_on t)
    (nat_lt (count (addresses t)) (count (addresses r))
    || (count (addresses r) == count (addresses t) && nat_lt (rank r) (rank t))))

abbrev pub part_space : FunctionPart → Space
part_space r = space_of r.function r.part

-- whether two parts are of one space and on one bus: all roots are one
abbrev pub are_beside : Request → FunctionPart → FunctionPart → Bool
are_beside q r t =
    are_siblings q.roots r.function.slot.bus t.function.slot.bus
    && are_same_space (part_space r) (part_space t)

-- whether a range of a list that a root has holds addresses whole
abbrev pub is_listed : Request → ℕ → Range → WindowKind → Bool
is_listed q bus r c = list_any (lies_within r) (class_ranges q c bus)

abbrev pub is_in_lists : Request → ℕ → Range → Space → Bool
is_in_lists q bus r Io = is_listed q bus r IoWindow
is_in_lists q bus r Memory = is_listed q bus r MemoryWindow || is_listed q bus r PrefetchWindow

abbrev pub window_part : WindowKind → Function → FunctionPart
window_part c b = record { function = b; part = Window c }

-- whether the window over a bus stands and holds addresses whole
abbrev pub is_in_window : (FunctionPart → Bool) → WindowKind → Range → Option Function → Bool
is_in_window stands c r None = false
is_in_window stands c r (Some b) =
    lies_within r (addresses (window_part c b)) && stands (window_part c b)

-- whether a part is where it can stand, where `stands` says which windows do
abbrev pub is_in_place : Request → System → (FunctionPart → Bool) → FunctionPart → Bool
is_in_place q s stands r =
    if is_root q.roots r.function.slot.bus
    then is_in_lists q r.function.slot.bus (addresses r) (part_space r)
    else is_in_window stands (class_in q s r.function r.part) (addresses r)
    (bridge_over s r.function.slot.bus)

-- ---- told ranges, and what leads to them

-- whether a line is on: one that is marked `command` is while Command of its function enables the space
abbrev pub is_line_on : Request → System → ToldRegion → Bool
is_line_on q s x = is_range_on q.told s x.told

-- ---- the class of a told range

-- one that is prefetchable is of the memory window over its bus where that holds it, as a prefetchable BAR is
abbrev pub prefetchable_range_class : Request → System → ToldRegion → WindowKind
prefetchable_range_class q s x =
    if is_root q.roots (line_bus x)
    || holds_range MemoryWindow (line_range x) (bridge_over s (line_bus x))
    then MemoryWindow else PrefetchWindow

abbrev pub class_in_space : Space → WindowKind → WindowKind
class_in_space Io c = IoWindow
class_in_space Memory c = c

abbrev pub range_class : Request → System → ToldRegion → WindowKind
range_class q s x =
    class_in_space x.told.space
    (if x.told.prefetchable then prefetchable_range_class q s x else MemoryWindow)

-- ---- which parts lead to one

-- An open window of its class that holds it whole leads to it. So do the BARs and the ROM of the bridge where the range is
-- marked `always`: while they move Command of the bridge is clear.
abbrev pub leads_by : Request → System → Function → Part → ToldRegion → Bool
leads_by q s b (Window c) x =
    same_class c (range_class q s x) && is_open b c
    && lies_within (line_range x) (range_of b (Window c))
leads_by q s b p x = is_always_line x && are_same_space (space_of b p) x.told.space

-- a part of a bridge leads to a told range on a bus behind it
abbrev pub leads_to_range : Request → System → FunctionPart → ToldRegion → Bool
leads_to_range q s r x =
    not (is_held_line x) && is_bridge r.function && is_behind r.function (line_bus x)
    && leads_by q s r.function r.part x

abbrev pub leads_to_told : Request → System → FunctionPart → Bool
leads_to_told q s r = list_any (leads_to_range q s r) (told_regions q.told)

abbrev pub leads_to_one_on : Request → System → FunctionPart → Bool
leads_to_one_on q s r = list_any (λ x. is_line_on q s x && leads_to_range q s r x) (told_regions q.told)

-- ---- what comes before what

-- of two parts one that leads to a told range that is on comes first
abbrev pub told_part_precedes : Request → System → FunctionPart → FunctionPart → Bool
told_part_precedes q s r t =
    first_by (leads_to_one_on q s r) (leads_to_one_on q s t) (part_precedes q r t)

-- of two told ranges one that is on comes first, and then the earlier line
abbrev pub range_precedes : Request → System → ToldRegion → ToldRegion → Bool
range_precedes q s x y = first_by (is_line_on q s x) (is_line_on q s y) (nat_lt x.register y.register)

-- whether a part comes before all told ranges that are off
abbrev pub precedes_off : Request → System → FunctionPart → Bool
precedes_off q s r =
    leads_to_one_on q s r || is_fixed_part q r || is_part_on r

-- a part comes before a told range that is off; one that is on comes before all parts
abbrev pub part_precedes_range : Request → System → FunctionPart → ToldRegion → Bool
part_precedes_range q s r x = not (is_line_on q s x) && precedes_off q s r

-- ---- parts

-- a line keeps a part off: one that is on, or one that is off and that the part doesn't come before
abbrev pub is_kept_off_by : Request → System → FunctionPart → ToldRegion → Bool
is_kept_off_by q s r x =
    keeps_off_part q x r && (is_line_on q s x || not (precedes_off q s r))

abbrev pub is_kept_off : Request → System → FunctionPart → Bool
is_kept_off q s r = list_any (is_kept_off_by q s r) (told_regions q.told)

-- whether a part takes an address of another one that comes after it
abbrev pub takes_from : Request → System → FunctionPart → FunctionPart → Bool
takes_from q s t r =
    are_beside q t r && told_part_precedes q s t r
    && not (ranges_are_apart (addresses t) (addresses r))

-- Whether a part stands, where `stands` says which of those on lower buses and of those before it do. Where all is placed
-- anew, only what leads to a told range can.
abbrev pub stands_if : Request → System → (FunctionPart → Bool) → FunctionPart → Bool
stands_if q s stands r =
    not (is_kept_off q s r) && (leads_to_told q s r || not q.anew)
    && is_part q s r.function r.part && is_in_place q s stands r
    && list_all (λ t. not (takes_from q s t r && stands t)) (system_parts q s)

-- the same, where at most so many others have to be asked one after another
unfoldable pub stands_within : Request → System → ℕ → FunctionPart → Bool
stands_within q s zero r = false
stands_within q s (suc others) r = stands_if q s (stands_within q s others) r

-- each is asked once at most
abbrev pub stands : Request → System → FunctionPart → Bool
stands q s r = stands_within q s (length (system_parts q s)) r

-- ---- told ranges

-- each bridge above a bus enables a space
abbrev pub are_bridges_on : System → Space → ℕ → Bool
are_bridges_on s space bus = list_all (λ b. is_space_on b space) (bridges_above s bus)

-- A told range is on a root, or in a window that stands. Each bridge above one that is marked `always` enables its space.
abbrev pub is_range_in_place : Request → System → (FunctionPart → Bool) → ToldRegion → Bool
is_range_in_place q s stands x =
    is_root q.roots (line_bus x)
    || (is_in_window stands (range_class q s x) (line_range x) (bridge_over s (line_bus x))
    && (not (is_always_line x) || are_bridges_on s x.told.space (line_bus x)))

-- a `held` line keeps a told range off
abbrev pub is_range_kept_off : Request → ToldRegion → Bool
is_range_kept_off q x =
    list_any (λ y. is_held_line y && keeps_off q y x.told.slot x.told.space (line_range x)) (told_regions q.told)

-- a part takes an address of a told range that comes after it
abbrev pub takes_from_range : Request → System → FunctionPart → ToldRegion → Bool
takes_from_range q s r x =
    is_line_of q (part_space r) r.function.slot.bus x && part_precedes_range q s r x
    && not (ranges_are_apart (addresses r) (line_range x))

-- and so does another told range
abbrev pub range_takes_from : Request → System → ToldRegion → ToldRegion → Bool
range_takes_from q s y x =
    is_line_of q y.told.space (line_bus y) x && range_precedes q s y x
    && not (ranges_are_apart (line_range y) (line_range x))

-- whether a told range stands, where `before` says which of those before it do
abbrev pub range_stands_if : Request → System → (ToldRegion → Bool) → ToldRegion → Bool
range_stands_if q s before x =
    not (is_held_line x) && is_range_in_place q s (stands q s) x
    && not (is_range_kept_off q x)
    && list_all (λ r. not (takes_from_range q s r x && stands q s r)) (system_parts q s)
    && list_all (λ y. not (range_takes_from q s y x && before y)) (told_regions q.told)

-- the same, where at most so many others have to be asked one after another
unfoldable pub range_stands_within : Request → System → ℕ → ToldRegion → Bool
range_stands_within q s zero x = false
range_stands_within q s (suc others) x =
    range_stands_if q s (range_stands_within q s others) x

-- each is asked once at most
abbrev pub range_stands : Request → System → ToldRegion → Bool
range_stands q s x = range_stands_within q s (length (told_regions q.told)) x

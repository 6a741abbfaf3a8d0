-- The writes of settling beside what is kept: what is shut and when, which windows are closed meanwhile, and how settling ends.
use Rattle.std.specs.Prelude.{ℕ, ◌+◌, Bool, ◌&&◌, ◌||◌, not, if◌then◌else◌, List, [], ◌∷◌, ◌++◌, Option, None, Some}
use Rattle.std.specs.List.{list_any, flat_map, find}
use Rattle.pci_spec.specs.Registers.{COMMAND}
use Rattle.pci_spec.specs.Header.{command}
use Rattle.pci_spec.specs.Window.{WindowKind, IoWindow, MemoryWindow, PrefetchWindow, bounds_at}
use Rattle.pci_spec.specs.System.{System, Function, Space, Io, Memory, Part, Window, is_bridge, is_space_on, is_window}
use Rattle.pci_spec.specs.Machine.{Write, without_low}
use Rattle.plan_spec.specs.Plan.{bridges_above, is_open}
use Rattle.plan_spec.specs.Place.{nibble_of}
use Rattle.plan_spec.specs.Planning.PlanWrites.{Change, register_write}
use Rattle.judge_spec.specs.ToldRegion.{ToldRegion, told_regions}
use Rattle.judge_spec.specs.ToldClaims.{is_enabled_at}
use Rattle.settle_spec.specs.Items.{range_stays}
use Rattle.settle_spec.specs.Lines.{line_bus, is_held_line, is_command_line, is_always_line}
use Rattle.settle_spec.specs.Lists.{Request, are_bad_lists}
use Rattle.settle_spec.specs.Parts.{FunctionPart, function_parts, has_left, class_in, are_same_space}
use Rattle.settle_spec.specs.Stands.{part_space, window_part, stands, is_line_on, range_stands}
use Rattle.judge_spec.specs.Windows.{with_number, with_bounds}
use Rattle.settle_spec.specs.Writes.{differs_at, part_registers, is_cut_off_in, shut_bounds, closing_registers, setting_registers, Settling, BadLists, Settled, fixed_without, fixed_write, or_fixed, or_lack, or_write, NotKept}
use Rattle.settle_spec.specs.Kept.{Kept, unwished}
use Rattle.settle_spec.specs.Keeping.Places.{lacking}
use Rattle.settle_spec.specs.Keeping.Registers.{settled_function, settled}

-- ---- what changes

-- a register of a part changes
abbrev pub changes_at : Request → System → Kept → Function → Part → Bool
changes_at q s k f p = list_any (differs_at f (settled_function q s k f)) (part_registers f p)

-- the window of a class of a bridge changes: one that was open for more than room that is kept free
abbrev pub changes_window : Request → System → Kept → WindowKind → Function → Bool
changes_window q s k c b =
    changes_at q s k b (Window c) && (not (is_open b c) || changes_at q s (unwished k) b (Window c))

-- that of a bridge above a bus does
abbrev pub changes_above : Request → System → Kept → WindowKind → ℕ → Bool
changes_above q s k c bus = list_any (changes_window q s k c) (bridges_above s bus)

-- a BAR or ROM moves where it doesn't stay, and its register changes or the window of its class of a bridge above it does
abbrev pub moves : Request → System → Kept → FunctionPart → Bool
moves q s k r =
    not (k.stays r)
    && (changes_at q s k r.function r.part
    || changes_above q s k (class_in q s r.function r.part) r.function.slot.bus)

-- ---- what is shut

-- a BAR or ROM of the space moves
abbrev pub has_moving : Request → System → Kept → Space → Function → Bool
has_moving q s k space f =
    list_any (λ r. are_same_space space (part_space r) && not (is_window r.part) && moves q s k r)
    (function_parts q s f)

abbrev pub is_shut_itself : Request → System → Kept → Space → Function → Bool
is_shut_itself q s k space f = has_moving q s k space f || is_cut_off_in q s f space

-- a function is shut in a space for itself or for a bridge above it
abbrev pub is_shut : Request → System → Kept → Space → Function → Bool
is_shut q s k space f =
    is_shut_itself q s k space f
    || list_any (is_shut_itself q s k space) (bridges_above s f.slot.bus)

-- whether it is still on in a space once all is closed: where it was on and isn't shut, and has no I/O BAR that is left
abbrev pub is_left_on : Request → System → Kept → Space → Function → Bool
is_left_on q s k space f =
    not (is_shut q s k space f)
    && (not (are_same_space space Io && has_left q s f) && is_space_on f space)

-- Command once closed
abbrev pub closing_command : Request → System → Kept → Function → ℕ
closing_command q s k f =
    without_low 4 (command f.image) + (if is_left_on q s k Io f then 1 else 0)
    + (if is_left_on q s k Memory f then 2 else 0)

-- ---- which windows are closed meanwhile

-- a window is replaced where it doesn't stay and its registers change: what grows is none of these
abbrev pub is_replaced : Request → System → Kept → Function → WindowKind → Bool
is_replaced q s k f c =
    is_bridge f && not (k.stays (window_part c f)) && changes_window q s k c f

abbrev pub without_window : Request → System → Kept → Function → WindowKind → List ℕ → List ℕ
without_window q s k f c image =
    if is_replaced q s k f c
    then with_bounds c (shut_bounds c (nibble_of c f) (bounds_at c f.image)) image else image

abbrev pub closed_image : Request → System → Kept → Function → List ℕ
closed_image q s k f =
    without_window q s k f PrefetchWindow (without_window q s k f MemoryWindow
    (without_window q s k f IoWindow f.image))

-- a function once all is closed
abbrev pub closed_function : Request → System → Kept → Function → Function
closed_function q s k f = record {
  slot = f.slot;
  image = with_number 2 COMMAND (closing_command q s k f) (closed_image q s k f);
  probe = f.probe;
}

-- ---- the writes

abbrev pub change_to_closed : Request → System → Kept → Function → Change
change_to_closed q s k f = record { old = f; new = closed_function q s k f }

abbrev pub setting_of : Request → System → Kept → Function → Change
setting_of q s k f = record { old = closed_function q s k f; new = settled_function q s k f }

abbrev pub closing_from : Request → System → Kept → Function → List Write
closing_from q s k f = flat_map (register_write (change_to_closed q s k f)) (closing_registers f)

abbrev pub setting_from : Request → System → Kept → Function → List Write
setting_from q s k f =
    flat_map (register_write (setting_of q s k f)) (setting_registers (setting_of q s k f))

abbrev pub opening_from : Request → System → Kept → Function → List Write
opening_from q s k f = register_write (setting_of q s k f) (COMMAND, 2)

-- the highest slot is closed first
abbrev pub closings : Request → System → Kept → System → List Write
closings q s k [] = []
closings q s k (f ∷ more) = closings q s k more ++ closing_from q s k f

-- closing, registers, opening
abbrev pub settle_writes : Request → System → Kept → List Write
settle_writes q s k =
    closings q s k s ++ (flat_map (setting_from q s k) s ++ flat_map (opening_from q s k) s)

-- ---- how settling ends

-- a told range that is on doesn't stand
abbrev pub is_not_reached : Request → System → ToldRegion → Bool
is_not_reached q s x =
    not (is_held_line x) && is_line_on q s x && not (range_stands q s x)

-- one that stands doesn't stay
abbrev pub does_not_stay : Request → System → Kept → ToldRegion → Bool
does_not_stay q s k x = range_stands q s x && not (range_stays q s k.stays x)

-- Command of its function enables one in the result that doesn't stand
abbrev pub would_be_on : Request → System → Kept → ToldRegion → Bool
would_be_on q s k x =
    is_command_line x && not (range_stands q s x)
    && is_enabled_at (settled q s k) x.told.slot x.told.space

-- a bridge above one that is marked `always` is shut in its space for a time
abbrev pub would_be_off : Request → System → Kept → ToldRegion → Bool
would_be_off q s k x =
    is_always_line x
    && list_any (is_shut q s k x.told.space) (bridges_above s (line_bus x))

abbrev pub would_be_switched : Request → System → Kept → ToldRegion → Bool
would_be_switched q s k x = would_be_on q s k x || would_be_off q s k x

-- the earliest line that passes a test
abbrev pub earliest : Request → (ToldRegion → Bool) → Option ToldRegion
earliest q test = find test (told_regions q.told)

abbrev pub or_told : Option ToldRegion → Settling → Settling
or_told None other = other
or_told (Some x) other = NotKept x.told.slot x.register

-- told ranges and then fixed parts that don't stand,
abbrev pub or_not_standing : Request → System → Settling → Settling
or_not_standing q s other =
    or_told (earliest q (is_not_reached q s))
    (or_fixed (fixed_without (stands q s) q s) other)

-- those that don't stay,
abbrev pub or_not_staying : Request → System → Kept → Settling → Settling
or_not_staying q s k other =
    or_told (earliest q (does_not_stay q s k)) (or_fixed (fixed_without k.stays q s) other)

-- fixed functions that would be written, and then told ranges that would be switched
abbrev pub or_written : Request → System → Kept → Settling → Settling
or_written q s k other =
    or_write (fixed_write q (settle_writes q s k))
    (or_told (earliest q (would_be_switched q s k)) other)

-- bad lists come first, and want of room stands before what would be written
abbrev pub settle_keeping : Request → System → Kept → Settling
settle_keeping q s k =
    if are_bad_lists q.roots q.lists then BadLists
    else or_not_standing q s (or_not_staying q s k
    (or_lack (lacking q s k) (or_written q s k (Settled (settle_writes q s k)))))

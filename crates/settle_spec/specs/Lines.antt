-- Lines that tell what is answered beside BARs and ROMs: which addresses of a bus they hold, and what they keep off.
use Rattle.std.specs.Prelude.{ℕ, Bool, true, false, ◌&&◌, not, List, ◌++◌, map}
use Rattle.std.specs.List.{filter}
use Rattle.pci_spec.specs.Slot.{Slot, same_slot}
use Rattle.pci_spec.specs.Decoded.{Range}
use Rattle.pci_spec.specs.System.{Space, is_window, space_of}
use Rattle.pci_spec.specs.Bus.{is_behind, are_siblings}
use Rattle.judge_spec.specs.Told.{Mark, Command, Always, Held}
use Rattle.judge_spec.specs.ToldClaims.{is_marked_held}
use Rattle.judge_spec.specs.ToldRegion.{ToldRegion, told_extent, told_regions}
use Rattle.settle_spec.specs.FirstPlace.{ranges_are_apart}
use Rattle.settle_spec.specs.Lists.{Request}
use Rattle.settle_spec.specs.Parts.{FunctionPart, addresses, are_same_space}

-- ---- where a line is, and of whom it tells

abbrev pub line_bus : ToldRegion → ℕ
line_bus x = x.told.slot.bus

abbrev pub line_range : ToldRegion → Range
line_range x = told_extent x.told

abbrev pub is_marked_command : Mark → Bool
is_marked_command Command = true
is_marked_command Always = false
is_marked_command Held = false

abbrev pub is_marked_always : Mark → Bool
is_marked_always Command = false
is_marked_always Always = true
is_marked_always Held = false

-- a `held` line tells of somebody of whom nothing else is known
abbrev pub is_held_line : ToldRegion → Bool
is_held_line x = is_marked_held x.told.mark

abbrev pub is_command_line : ToldRegion → Bool
is_command_line x = is_marked_command x.told.mark

abbrev pub is_always_line : ToldRegion → Bool
is_always_line x = is_marked_always x.told.mark

-- whether a line is on a bus and of a space: all roots are one bus
abbrev pub is_line_of : Request → Space → ℕ → ToldRegion → Bool
is_line_of q space bus x =
    are_siblings q.roots bus (line_bus x) && are_same_space space x.told.space

-- ---- what it keeps off

-- whether a line can keep off what a function has on its bus: a `held` line of its own slot tells of room that is its own
abbrev pub can_keep_off : Request → ToldRegion → Slot → Space → Bool
can_keep_off q x slot space =
    is_line_of q space slot.bus x && not (is_held_line x && same_slot x.told.slot slot)

-- a line keeps off a range that shares an address with it
abbrev pub keeps_off : Request → ToldRegion → Slot → Space → Range → Bool
keeps_off q x slot space r =
    can_keep_off q x slot space && not (ranges_are_apart (line_range x) r)

abbrev pub keeps_off_part : Request → ToldRegion → FunctionPart → Bool
keeps_off_part q x r = keeps_off q x r.function.slot (space_of r.function r.part) (addresses r)

-- ---- what is taken where a place is looked for

-- what all lines on a bus hold: `held` ones of the slot that looks for a place, too
abbrev pub lines_on : Request → Space → ℕ → List Range
lines_on q space bus = map line_range (filter (is_line_of q space bus) (told_regions q.told))

-- whether a line is of a window's space, on a bus behind its bridge
abbrev pub is_line_behind : FunctionPart → ToldRegion → Bool
is_line_behind w x =
    is_window w.part && is_behind w.function (line_bus x)
    && are_same_space (space_of w.function w.part) x.told.space

-- what lines hold behind a window: nothing is behind a BAR or a ROM
abbrev pub lines_behind : Request → FunctionPart → List Range
lines_behind q w = map line_range (filter (is_line_behind w) (told_regions q.told))

-- what is taken for an item: for a new window what lines hold behind it, too
abbrev pub taken_for : Request → FunctionPart → List Range → List Range
taken_for q r taken = lines_behind q r ++ taken

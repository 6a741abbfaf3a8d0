-- How far a window can grow where it stands: over pages beside it that nothing else on its bridge's bus has (Bridge 1.2, 3.2.5).
use Rattle.std.specs.Prelude.{ℕ, zero, suc, ◌+◌, ◌-◌, ◌*◌, ◌/◌, ◌%◌, ◌==◌, nat_lt, min, max, ◌&&◌, not, if◌then◌else◌, List, ◌++◌, map, Option, None, Some, [], ◌∷◌}
use Rattle.std.specs.List.{filter, find, fold, flat_map}
use Rattle.pci_spec.specs.Window.{WindowKind, IoWindow, MemoryWindow, PrefetchWindow, page_size, lower_pages}
use Rattle.pci_spec.specs.Decoded.{Range}
use Rattle.pci_spec.specs.System.{System, Function}
use Rattle.pci_spec.specs.Bus.{is_root}
use Rattle.plan_spec.specs.Plan.{raised_to}
use Rattle.judge_spec.specs.ToldRegion.{told_regions}
use Rattle.settle_spec.specs.Lines.{line_range, can_keep_off}
use Rattle.settle_spec.specs.Lists.{Request, class_ranges}
use Rattle.settle_spec.specs.Parts.{FunctionPart, system_parts, addresses, bridge_over, lies_within}
use Rattle.settle_spec.specs.Stands.{is_fixed_part, rank, are_beside, window_part, stands, part_space}
use Rattle.settle_spec.specs.Items.{highest_in}

-- ---- halves of a bound

-- so many addresses have one upper half of a base or a limit
abbrev pub half_size : WindowKind → ℕ
half_size c = lower_pages c * page_size c

abbrev pub upper_of : WindowKind → ℕ → ℕ
upper_of c a = a / half_size c

abbrev pub lower_of : WindowKind → ℕ → ℕ
lower_of c a = a % half_size c

-- a greater last address: its lower half is no less than it was
abbrev pub raised_last : WindowKind → ℕ → ℕ → ℕ
raised_last c old last = upper_of c last * half_size c + max (lower_of c old) (lower_of c last)

-- a smaller first address: its lower half is no greater than it was
abbrev pub lowered_first : WindowKind → ℕ → ℕ → ℕ
lowered_first c old first = upper_of c first * half_size c + min (lower_of c old) (lower_of c first)

-- an end up to which last addresses can be raised: where its lower half is less than it was, it is before that upper half
abbrev pub cut_last : WindowKind → ℕ → ℕ → ℕ
cut_last c old last =
    if nat_lt (lower_of c last) (lower_of c old) then upper_of c last * half_size c - 1 else last

abbrev pub cut_first : WindowKind → ℕ → ℕ → ℕ
cut_first c old first =
    if nat_lt (lower_of c old) (lower_of c first) then (upper_of c first + 1) * half_size c else first

abbrev pub cut_to_halves : WindowKind → Range → Range → Range
cut_to_halves c w r = record { first = cut_first c w.first r.first; last = cut_last c w.last r.last }

-- ---- what is beside a window

-- the part of a range that is on the same side of other addresses as a window
abbrev pub clear_of : Range → Range → Range → Range
clear_of w r t =
    if nat_lt w.last t.first then record { first = r.first; last = min r.last (t.first - 1) }
    else record { first = max r.first (t.last + 1); last = r.last }

-- the addresses of the other parts of its space that stand on its bus
abbrev pub standing_beside : Request → System → FunctionPart → List Range
standing_beside q s w =
    map addresses
    (filter (λ t. are_beside q w t && not (rank t == rank w) && stands q s t) (system_parts q s))

abbrev pub no_higher : ℕ → Range → Range
no_higher highest r = record { first = r.first; last = min r.last highest }

abbrev pub whole_pages : ℕ → Range → Range
whole_pages page r =
    record { first = raised_to page r.first; last = (r.last + 1) / page * page - 1 }

-- ---- the reach

-- the ranges in which a window on a root can stand: those of its class, then those of other memory
abbrev pub root_window_ranges : Request → WindowKind → ℕ → List Range
root_window_ranges q IoWindow bus = class_ranges q IoWindow bus
root_window_ranges q MemoryWindow bus = class_ranges q MemoryWindow bus ++ class_ranges q PrefetchWindow bus
root_window_ranges q PrefetchWindow bus = class_ranges q PrefetchWindow bus ++ class_ranges q MemoryWindow bus

abbrev pub range_over : (Function → Range) → Option Function → Option Range
range_over reach None = None
range_over reach (Some b) = Some (reach b)

-- what a window is in: the first range of its root that holds it, or what the window above it can reach
abbrev pub room_around : Request → System → WindowKind → (Function → Range) → Function → Option Range
room_around q s c reach b =
    if is_root q.roots b.slot.bus
    then find (lies_within (addresses (window_part c b))) (root_window_ranges q c b.slot.bus)
    else range_over reach (bridge_over s b.slot.bus)

-- what a range has before a window
abbrev pub before_window : Range → Range → List Range
before_window w r =
    if nat_lt r.first w.first
    then record { first = r.first; last = min r.last (w.first - 1) } ∷ [] else []

-- and what it has behind it
abbrev pub past_window : Range → Range → List Range
past_window w r =
    if nat_lt w.last r.last
    then record { first = max r.first (w.last + 1); last = r.last } ∷ [] else []

-- what lines on its bus hold outside of a window, where they can keep it off
abbrev pub lines_beside : Request → FunctionPart → List Range
lines_beside q w =
    flat_map (λ x. before_window (addresses w) (line_range x) ++ past_window (addresses w) (line_range x))
    (filter (λ x. can_keep_off q x w.function.slot (part_space w)) (told_regions q.told))

-- the pages of a room that a window can take
abbrev pub reach_in : Request → System → WindowKind → Function → Range → Range
reach_in q s c b room =
    cut_to_halves c (addresses (window_part c b))
    (whole_pages (page_size c)
    (fold (clear_of (addresses (window_part c b))) (no_higher (highest_in c b.probe) room)
    (lines_beside q (window_part c b) ++ standing_beside q s (window_part c b))))

-- the window of a fixed bridge can take none, and so can one with no room around it
abbrev pub reach_if : Request → System → WindowKind → Function → Option Range → Range
reach_if q s c b None = addresses (window_part c b)
reach_if q s c b (Some room) =
    if is_fixed_part q (window_part c b) then addresses (window_part c b)
    else reach_in q s c b room

-- the reach of a window that stands, where at most `depth` buses are above one another
unfoldable pub reach_within : Request → System → WindowKind → ℕ → Function → Range
reach_within q s c zero b = addresses (window_part c b)
reach_within q s c (suc depth) b =
    reach_if q s c b (room_around q s c (reach_within q s c depth) b)

-- buses rise on the way down, so 256 of them are all
abbrev pub reach : Request → System → WindowKind → Function → Range
reach q s c b = reach_within q s c 256 b

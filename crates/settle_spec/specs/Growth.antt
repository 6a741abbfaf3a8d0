-- Which windows grow where they stand, and to what: each takes what it has no room for, as far as that is free beside it.
use Rattle.std.specs.Prelude.{ℕ, zero, suc, ◌+◌, ◌-◌, ◌*◌, ◌/◌, nat_lt, min, max, Bool, true, false, ◌&&◌, ◌||◌, not, if◌then◌else◌, List, [], ◌∷◌, ◌++◌, map, length, Option, None, Some}
use Rattle.std.specs.List.{list_all, flat_map, fold}
use Rattle.std.specs.Option.{is_some}
use Rattle.pci_spec.specs.Window.{WindowKind, page_size}
use Rattle.pci_spec.specs.Decoded.{Range}
use Rattle.pci_spec.specs.System.{System, Function, Part, Window, window_space}
use Rattle.pci_spec.specs.Bus.{secondary, are_siblings}
use Rattle.plan_spec.specs.Plan.{bridges_above, raised_to, same_class}
use Rattle.settle_spec.specs.Lines.{lines_on, taken_for}
use Rattle.settle_spec.specs.FirstPlace.{Extent, ranges_are_apart, else_at, first_place_in}
use Rattle.settle_spec.specs.LastPlace.{last_place_in}
use Rattle.settle_spec.specs.Lists.{Request}
use Rattle.settle_spec.specs.Parts.{FunctionPart, system_parts, addresses, class_in, are_same_space}
use Rattle.settle_spec.specs.Stands.{part_space, are_beside, window_part, stands}
use Rattle.settle_spec.specs.Items.{Placed, Placing, AllPlaced, Lacks, taken_by, bus_items, new_window, has_room_behind, place_each}
use Rattle.settle_spec.specs.Reach.{raised_last, lowered_first, reach}

-- ---- what a window takes

-- the place of an extent around a window: the first one from its first address on, or else the last one before it
abbrev pub place_around : Range → Range → List Range → Extent → Option ℕ
place_around w reach taken e =
    else_at (first_place_in (record { first = w.first; last = reach.last }) taken e)
    (if nat_lt reach.first w.first
    then last_place_in (record { first = reach.first; last = w.first - 1 }) taken e else None)

-- the least pages that hold a window and other addresses, where no half of a bound moves inward: so a write of any register
-- leaves a window that holds what it held, and no more than it will
abbrev pub grown_to : WindowKind → Range → List Range → Range
grown_to c w others = record {
  first = lowered_first c w.first
      (fold min w.first (map (λ (r : Range). r.first) others) / page_size c * page_size c);
  last = raised_last c w.last
      (raised_to (page_size c) (fold max w.last (map (λ (r : Range). r.last) others) + 1) - 1);
}

abbrev pub grown_around : WindowKind → Range → List Range → Placing → Option Range
grown_around c w others (Lacks i) = None
grown_around c w others (AllPlaced placed) =
    Some (grown_to c w (others ++ map (λ (p : Placed). taken_by p.item p.at) placed))

-- ---- beside each other: `there` says with which addresses a part is there, None where it isn't

abbrev pub range_list : Option Range → List Range
range_list None = []
range_list (Some r) = r ∷ []

-- the addresses of what is there on a bus and passes a test
abbrev pub there_on : Request → System → (FunctionPart → Option Range) → (FunctionPart → Bool) → ℕ → List Range
there_on q s there test bus =
    flat_map (λ r. if are_siblings q.roots bus r.function.slot.bus && test r then range_list (there r) else [])
    (system_parts q s)

-- the places around a window of what has none behind it, in turn
abbrev pub taken_around : Request → System → (FunctionPart → Option Range) → WindowKind → Function → Placing
taken_around q s there c b =
    place_each
    (λ i taken. place_around (addresses (window_part c b)) (reach q s c b) (taken_for q i.region taken) i.extent)
    (lines_on q (window_space c) (secondary b)
    ++ there_on q s there (λ r. are_same_space (window_space c) (part_space r)) (secondary b))
    (bus_items q s c (λ r. is_some (there r)) (new_window q s c) (secondary b))

-- a window that takes comes to its own addresses, those of its class that are there behind it, and those places
abbrev pub window_comes_to : Request → System → (FunctionPart → Option Range) → WindowKind → Function → Option Range
window_comes_to q s there c b =
    grown_around c (addresses (window_part c b))
    (there_on q s there (λ r. same_class c (class_in q s r.function r.part)) (secondary b))
    (taken_around q s there c b)

-- what a part comes to: None of what doesn't stand, or is no window, or has no place for all that is behind it
abbrev pub part_comes_to : Request → System → (FunctionPart → Option Range) → Function → Part → Option Range
part_comes_to q s there f (Window c) =
    if stands q s (window_part c f) then window_comes_to q s there c f else None
part_comes_to q s there f p = None

-- a part stands at lower addresses of the same space on the same bus
abbrev pub is_lower_beside : Request → FunctionPart → FunctionPart → Bool
is_lower_beside q t r = are_beside q t r && nat_lt (addresses t).first (addresses r).first

abbrev pub is_off : Range → Option Range → Bool
is_off r None = true
is_off r (Some t) = ranges_are_apart r t

-- whether what a part comes to is off all that is there before it
abbrev pub is_clear : Request → System → (FunctionPart → Option Range) → FunctionPart → Option Range → Bool
is_clear q s there r None = false
is_clear q s there r (Some grown) =
    list_all (λ t. not (is_lower_beside q t r) || is_off grown (there t)) (system_parts q s)

-- what grows is there with what it comes to, and else what holds as it stands: `before` says it of those before it
abbrev pub there_if : Request → System → (FunctionPart → Option Range) → (FunctionPart → Option Range) → FunctionPart → Option Range
there_if q s comes before r =
    if is_clear q s before r (comes r) then comes r
    else if has_room_behind q s r then Some (addresses r)
    else None

-- the same, where at most so many others have to be asked one after another
unfoldable pub there_beside : Request → System → (FunctionPart → Option Range) → ℕ → FunctionPart → Option Range
there_beside q s comes zero r = None
there_beside q s comes (suc others) r =
    there_if q s comes (there_beside q s comes others) r

-- the same, where at most `depth` buses are behind one another
unfoldable pub there_within : Request → System → ℕ → FunctionPart → Option Range
there_within q s zero r = None
there_within q s (suc depth) r =
    there_beside q s
    (λ r. part_comes_to q s (there_within q s depth) r.function r.part)
    (length (system_parts q s)) r

-- buses rise on the way down, so 256 of them are all
abbrev pub there : Request → System → FunctionPart → Option Range
there q s r = there_within q s 256 r

abbrev pub comes_to : Request → System → FunctionPart → Option Range
comes_to q s r = part_comes_to q s (there q s) r.function r.part

-- whether a window is there with what it comes to
abbrev pub takes_growth : Request → System → FunctionPart → Bool
takes_growth q s r = is_clear q s (there q s) r (comes_to q s r)

-- whether it grows: so does each window of its class above it
abbrev pub has_grown : Request → System → FunctionPart → Bool
has_grown q s r =
    takes_growth q s r
    && list_all (λ b. takes_growth q s (window_part (class_in q s r.function r.part) b))
    (bridges_above s r.function.slot.bus)

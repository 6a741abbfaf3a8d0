-- Wishes: once all has its place, a slot gets room for a spare in a window that ends later, or that is opened (Bridge 1.2, 3.2.5).
use Rattle.std.specs.Prelude.{ℕ, zero, suc, ◌+◌, ◌-◌, ◌==◌, nat_le, min, Bool, ◌&&◌, not, if◌then◌else◌, List, [], ◌∷◌, ◌++◌, Option, None, Some}
use Rattle.std.specs.List.{list_all, filter, flat_map}
use Rattle.std.specs.Option.{option_map, option_or}
use Rattle.pci_spec.specs.Window.{WindowKind, IoWindow, MemoryWindow, PrefetchWindow, page_size, has_window}
use Rattle.pci_spec.specs.Decoded.{Range}
use Rattle.pci_spec.specs.System.{System, Function, Space, window_space}
use Rattle.pci_spec.specs.Bus.{secondary, is_root, are_siblings}
use Rattle.plan_spec.specs.Plan.{raised_to}
use Rattle.plan_spec.specs.Place.{range_from}
use Rattle.judge_spec.specs.ToldRegion.{told_regions}
use Rattle.settle_spec.specs.Lines.{keeps_off, lines_on, lines_behind}
use Rattle.settle_spec.specs.FirstPlace.{Extent, ranges_are_apart, first_spot, first_place}
use Rattle.settle_spec.specs.Lists.{Request, class_ranges}
use Rattle.settle_spec.specs.Parts.{FunctionPart, bridge_over, are_same_space}
use Rattle.settle_spec.specs.Stands.{is_fixed_part, rank, part_space, is_in_lists, window_part}
use Rattle.settle_spec.specs.Items.{Placed, highest_in, taken_by}
use Rattle.settle_spec.specs.Registers.{changing}
use Rattle.settle_spec.specs.Reach.{raised_last}
use Rattle.settle_spec.specs.Growth.{range_list}
use Rattle.settle_spec.specs.Kept.{Kept}
use Rattle.settle_spec.specs.Keeping.Places.{new_place}

-- ---- what is there

-- the addresses that a part keeps, or else those of its new place: None of a window that is closed
abbrev pub place_then : Request → System → Kept → FunctionPart → Option Range
place_then q s k r =
    if k.stays r then Some (k.range r)
    else option_map (λ (p : Placed). taken_by p.item p.at) (new_place q s k r)

-- the addresses of a part, with the room that is kept free so far
abbrev pub range_then : Request → System → Kept → FunctionPart → Option Range
range_then q s k r = option_or (k.wished r) (place_then q s k r)

-- those of all parts of a space on a bus
abbrev pub there_then : Request → System → Kept → Space → ℕ → List Range
there_then q s k space bus =
    flat_map (λ r. range_list (range_then q s k r))
    (filter (λ r. are_siblings q.roots bus r.function.slot.bus && are_same_space space (part_space r))
    (flat_map (changing q s) s))

-- and what lines hold there
abbrev pub taken_then : Request → System → Kept → Space → ℕ → List Range
taken_then q s k space bus = lines_on q space bus ++ there_then q s k space bus

-- a window has other addresses
abbrev pub with_window : FunctionPart → Range → Kept → Kept
with_window w range k = record k { wished = λ r. if rank r == rank w then Some range else k.wished r }

-- what is asked of the bridge over a bus
abbrev pub with_bridge : {T : Type 0} → (Function → Option T) → Option Function → Option T
with_bridge above None = None
with_bridge above (Some b) = above b

abbrev pub ending_at : Range → ℕ → Range
ending_at w last = record { first = w.first; last = last }

-- what a window gains that ends later
abbrev pub gained : Range → ℕ → Range
gained w last = record { first = w.last + 1; last = last }

-- the end of a window that holds an address: that of a page, its lower half no less than it was
abbrev pub end_over : WindowKind → Range → ℕ → ℕ
end_over c w last = raised_last c w.last (raised_to (page_size c) (last + 1) - 1)

-- where a spare is, and what is kept then
pub record Spared : Type 0 where
  pub at : ℕ
  pub kept : Kept

-- ---- the windows of one class

module _ (q : Request) (s : System) (c : WindowKind) where
  abbrev pub range_of_window : Function → Kept → Option Range
  range_of_window b k = range_then q s k (window_part c b)

  -- ---- an open window ends later

  -- no line on the bridge's bus keeps its window off a range
  abbrev pub is_off_lines : Function → Range → Bool
  is_off_lines b r =
      list_all (λ x. not (keeps_off q x b.slot (window_space c) r)) (told_regions q.told)

  -- a bridge can show a window that ends there, and nothing of its space on the bridge's bus has an address that it gains
  abbrev pub can_end_at : Function → Kept → Range → ℕ → Bool
  can_end_at b k w last =
      is_off_lines b (gained w last)
      && not (is_fixed_part q (window_part c b))
      && (nat_le last (highest_in c b.probe)
      && list_all (ranges_are_apart (gained w last)) (there_then q s k (window_space c) b.slot.bus))

  -- what is around a window holds it all: a range of its root, or the window above it, which ends there at least
  abbrev pub with_room_above : (Function → ℕ → Kept → Option Kept) → Function → Range → Kept → Option Kept
  with_room_above above b w k =
      if is_root q.roots b.slot.bus
      then if is_in_lists q b.slot.bus w (window_space c) then Some k else None
      else with_bridge (λ over. above over w.last k) (bridge_over s b.slot.bus)

  abbrev pub ending_if : (Function → ℕ → Kept → Option Kept) → Function → ℕ → Kept → Option Range → Option Kept
  ending_if above b last k None = None
  ending_if above b last k (Some w) =
      if nat_le last w.last then Some k
      else if can_end_at b k w (end_over c w last)
      then option_map (with_window (window_part c b) (ending_at w (end_over c w last)))
      (with_room_above above b (ending_at w (end_over c w last)) k)
      else None

  -- an open window ends at an address at least, where at most `depth` buses are above one another
  unfoldable pub ending_within : ℕ → Function → ℕ → Kept → Option Kept
  ending_within zero b last k = None
  ending_within (suc depth) b last k =
      ending_if (ending_within depth) b last k (range_of_window b k)

  -- buses rise on the way down, so 256 of them are all
  abbrev pub ending : Function → ℕ → Kept → Option Kept
  ending b last k = ending_within 256 b last k

  -- ---- room for a spare

  -- in an open window: at the first place from its first address on, as if it had no end
  abbrev pub spot_behind : Function → Extent → List Range → Kept → Range → ℕ
  spot_behind b e behind k w =
      first_spot w.first (behind ++ taken_then q s k (window_space c) (secondary b)) e

  abbrev pub spared_at : Function → Extent → Kept → ℕ → Option Spared
  spared_at b e k at =
      if nat_le (range_from at e.size).last e.highest
      then option_map (λ kept. record { at = at; kept = kept }) (ending b (range_from at e.size).last k)
      else None

  -- a window of the spare's size: on a root at its first place in the list of its class, else as a spare in the window above
  abbrev pub spared_above : (Function → Extent → List Range → Kept → Option Spared) → Function → Extent → Kept → Option Spared
  spared_above above b e k =
      if is_root q.roots b.slot.bus
      then option_map (λ at. record { at = at; kept = k })
      (first_place (class_ranges q c b.slot.bus)
      (lines_behind q (window_part c b) ++ taken_then q s k (window_space c) b.slot.bus) e)
      else with_bridge (λ over. above over e (lines_behind q (window_part c b)) k) (bridge_over s b.slot.bus)

  -- no address is above what a window of the bridge can hold
  abbrev pub held_by : Function → Extent → Extent
  held_by b e = record e { highest = min e.highest (highest_in c b.probe) }

  abbrev pub opened_at : Function → Extent → Spared → Spared
  opened_at b e found = record {
    at = found.at;
    kept = with_window (window_part c b) (range_from found.at e.size) found.kept;
  }

  abbrev pub spared_if : (Function → Extent → List Range → Kept → Option Spared) → Function → Extent → List Range → Kept → Option Range → Option Spared
  spared_if above b e behind k None =
      if has_window c b.probe && not (is_fixed_part q (window_part c b))
      then option_map (opened_at b e) (spared_above above b (held_by b e) k)
      else None
  spared_if above b e behind k (Some w) = spared_at b e k (spot_behind b e behind k w)

  -- room for a spare behind a bridge, where at most `depth` buses are above one another
  unfoldable pub spared_within : ℕ → Function → Extent → List Range → Kept → Option Spared
  spared_within zero b e behind k = None
  spared_within (suc depth) b e behind k =
      spared_if (spared_within depth) b e behind k (range_of_window b k)

  abbrev pub spared_behind : Function → Extent → Kept → Option Spared
  spared_behind b e k = spared_within 256 b e [] k

-- ---- one wish after another

-- what is kept so far, and the windows whose spares are denied
pub record Granted : Type 0 where
  pub kept : Kept
  pub denied : List FunctionPart

abbrev pub or_denied : FunctionPart → Granted → Option Spared → Granted
or_denied w g None = record { kept = g.kept; denied = g.denied ++ w ∷ [] }
or_denied w g (Some found) = record { kept = found.kept; denied = g.denied }

-- a spare that has no room changes nothing; a bridge without such a window has no wish
abbrev pub with_spare_of : Request → System → WindowKind → Function → Option Extent → Granted → Granted
with_spare_of q s c b None g = g
with_spare_of q s c b (Some e) g =
    if has_window c b.probe
    then or_denied (window_part c b) g (spared_behind q s c b e g.kept) else g

-- I/O first, then memory, then prefetchable memory
abbrev pub with_spares_of : Request → System → (WindowKind → Function → Option Extent) → Function → Granted → Granted
with_spares_of q s spare b g =
    with_spare_of q s PrefetchWindow b (spare PrefetchWindow b)
    (with_spare_of q s MemoryWindow b (spare MemoryWindow b)
    (with_spare_of q s IoWindow b (spare IoWindow b) g))

-- the highest slot first
abbrev pub with_all_spares : Request → System → (WindowKind → Function → Option Extent) → Granted → System → Granted
with_all_spares q s spare g [] = g
with_all_spares q s spare g (f ∷ more) =
    with_spares_of q s spare f (with_all_spares q s spare g more)

-- all wishes beside what is kept
abbrev pub granted : Request → System → (WindowKind → Function → Option Extent) → Kept → Granted
granted q s spare k = with_all_spares q s spare (record { kept = k; denied = [] }) s

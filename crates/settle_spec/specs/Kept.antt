-- What keeps its place as a system is settled, and where that is: as it stands, or where windows grow.
use Rattle.std.specs.Prelude.{ℕ, Bool, ◌&&◌, ◌||◌, if◌then◌else◌, List, Option, None, Some}
use Rattle.std.specs.List.{list_all}
use Rattle.pci_spec.specs.Decoded.{Range}
use Rattle.pci_spec.specs.System.{System, Function}
use Rattle.plan_spec.specs.Plan.{bridges_above}
use Rattle.settle_spec.specs.Lists.{Request}
use Rattle.settle_spec.specs.Parts.{FunctionPart, addresses, class_in}
use Rattle.settle_spec.specs.Stands.{window_part}
use Rattle.settle_spec.specs.Items.{PlacingItem, Placed, has_room_behind, stays, place_in}
use Rattle.settle_spec.specs.Places.{placed_of, place_among}
use Rattle.settle_spec.specs.Growth.{taken_around, there, comes_to, has_grown}

pub record Kept : Type 0 where
  pub stays : FunctionPart → Bool
  -- the addresses of a part that stays
  pub range : FunctionPart → Range
  -- the place in the window of a bridge that stays for an item on its secondary bus, beside what is taken there
  pub place : Function → PlacingItem → List Range → Option ℕ
  -- the addresses of a window in which room is kept free, where these aren't those of its place
  pub wished : FunctionPart → Option Range

abbrev pub no_wish : FunctionPart → Option Range
no_wish r = None

-- the same without that room
abbrev pub unwished : Kept → Kept
unwished k = record k { wished = no_wish }

-- what stays keeps the addresses that it has
abbrev pub as_it_stands : Request → System → Kept
as_it_stands q s = record {
  stays = stays q s;
  range = addresses;
  place = λ b i taken. place_in (addresses (window_part i.class b)) i taken;
  wished = no_wish;
}

-- ---- where windows grow

-- a part is kept where it grows, or holds as it stands
abbrev pub is_kept : Request → System → FunctionPart → Bool
is_kept q s r = has_grown q s r || has_room_behind q s r

-- a part stays where it is kept and each window of its class above it is
abbrev pub stays_growing : Request → System → FunctionPart → Bool
stays_growing q s r =
    is_kept q s r
    && list_all (λ b. is_kept q s (window_part (class_in q s r.function r.part) b))
    (bridges_above s r.function.slot.bus)

abbrev pub range_or : Option Range → Range → Range
range_or None other = other
range_or (Some r) other = r

-- what it has then
abbrev pub range_growing : Request → System → FunctionPart → Range
range_growing q s r =
    if has_grown q s r then range_or (comes_to q s r) (addresses r) else addresses r

abbrev pub address_of_placed : Option Placed → Option ℕ
address_of_placed None = None
address_of_placed (Some p) = Some p.at

-- in a window that grows an item has the place for which that grows
abbrev pub place_growing : Request → System → Function → PlacingItem → List Range → Option ℕ
place_growing q s b i taken =
    if has_grown q s (window_part i.class b)
    then address_of_placed (place_among i.region (placed_of (taken_around q s (there q s) i.class b)))
    else place_in (addresses (window_part i.class b)) i taken

abbrev pub growing : Request → System → Kept
growing q s = record {
  stays = stays_growing q s;
  range = range_growing q s;
  place = place_growing q s;
  wished = no_wish;
}

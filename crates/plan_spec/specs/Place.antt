-- Where everything is placed: largest first on each bus, from the pool or the bridge's window on (this project's profile).
use Rattle.std.specs.Prelude.{◌≡◌, ℕ, zero, suc, ◌+◌, ◌-◌, ◌==◌, nat_lt, Bool, ◌&&◌, ◌||◌, if◌then◌else◌, IsTrue, IsFalse, List, [], ◌∷◌, ◌++◌, map, Option, None, Some}
use Rattle.std.specs.List.{filter, flat_map, sum, find, range_with_len, Contains}
use Rattle.pci_spec.specs.Slot.{slot_number}
use Rattle.pci_spec.specs.Header.{layout, bar_count}
use Rattle.pci_spec.specs.Window.{WindowKind, bounds_at, has_window, is_wide_window, closed_bounds}
use Rattle.pci_spec.specs.Rom.{rom_at}
use Rattle.pci_spec.specs.Decoded.{Range, decoded_bar, rom_size, aligned_range, window_range}
use Rattle.pci_spec.specs.System.{System, Function, Part, Bar, Rom, Window, is_implemented, bars_and_rom, register_of, is_bridge}
use Rattle.pci_spec.specs.Bus.{secondary, is_root, are_siblings}
use Rattle.plan_spec.specs.Plan.{Pools, pool_of, class_of, size_of, same_class, need_of, window_size, greatest, raised_to, has_behind}

-- ---- items

-- what is placed on a bus: a BAR, a ROM, or the window of a bridge with something behind it
pub record Item : Type 0 where
  pub function : Function
  pub part : Part
  pub size : ℕ

abbrev pub part_item : Function → Part → Item
part_item f part = record { function = f; part = part; size = size_of f part }

-- the window that what is behind a bridge needs
abbrev pub window_item : System → Pools → WindowKind → Function → Item
window_item s pools c b =
    record { function = b; part = Window c; size = window_size c (need_of s pools c (secondary b)) }

-- the items of a class among some parts of a function
abbrev pub items_among : System → Pools → WindowKind → Function → List Part → List Item
items_among s pools c f parts =
    map (part_item f)
    (filter (λ part. same_class c (class_of s pools f part)) (filter (is_implemented f) parts))

-- the items of a class that a function has on its own bus, in the order of their registers
abbrev pub own_items : System → Pools → WindowKind → Function → List Item
own_items s pools c f =
    items_among s pools c f (map Bar (range_with_len 0 (bar_count (layout f.image))))
    ++ ((if is_bridge f && has_behind s pools c f then window_item s pools c f ∷ [] else [])
    ++ items_among s pools c f (Rom ∷ []))

-- what is placed side by side: the items of a bus, those of all roots being one bus's
abbrev pub items_beside : List ℕ → System → Pools → WindowKind → ℕ → List Item
items_beside roots s pools c bus =
    flat_map (λ f. if are_siblings roots bus f.slot.bus then own_items s pools c f else []) s

-- ---- places

-- larger items come first, and of one size those of lower slots, and then of lower registers
abbrev pub comes_before : Item → Item → Bool
comes_before i j =
    nat_lt j.size i.size
    || (i.size == j.size && (nat_lt (slot_number i.function.slot) (slot_number j.function.slot)
    || (slot_number i.function.slot == slot_number j.function.slot
    && nat_lt (register_of i.function i.part) (register_of j.function j.part))))

-- an item stands right behind all that come before it
abbrev pub place_from : ℕ → List Item → Item → ℕ
place_from start items i =
    start + sum (map (λ (j : Item). j.size) (filter (λ j. comes_before j i) items))

-- on the roots the first item stands at the pool's first address, raised to a multiple of the greatest item
abbrev pub start_of_roots : List ℕ → System → Pools → WindowKind → ℕ → ℕ
start_of_roots roots s pools c bus =
    raised_to (greatest (map (λ (i : Item). i.size) (items_beside roots s pools c bus)))
    (pool_of pools c).first

-- behind a bridge it stands where the bridge's window does
abbrev pub behind_window : (Function → ℕ) → ℕ → Option Function → ℕ
behind_window place start None = start
behind_window place start (Some b) = place b

-- where the first item of a bus stands, where at most `depth` buses are above one another
unfoldable pub start_within : List ℕ → System → Pools → WindowKind → ℕ → ℕ → ℕ
start_within roots s pools c zero bus = start_of_roots roots s pools c bus
start_within roots s pools c (suc depth) bus =
    if is_root roots bus then start_of_roots roots s pools c bus
    else behind_window (λ b. place_from (start_within roots s pools c depth b.slot.bus)
    (items_beside roots s pools c b.slot.bus) (window_item s pools c b))
    (start_of_roots roots s pools c bus) (find (λ b. is_bridge b && secondary b == bus) s)

-- buses rise on the way down, so 256 of them are all
abbrev pub start_of : List ℕ → System → Pools → WindowKind → ℕ → ℕ
start_of roots s pools c bus = start_within roots s pools c 256 bus

abbrev pub place_of : List ℕ → System → Pools → WindowKind → Item → ℕ
place_of roots s pools c i =
    place_from (start_of roots s pools c i.function.slot.bus)
    (items_beside roots s pools c i.function.slot.bus) i

-- ---- what the registers show when everything is placed

-- the first address of a BAR or ROM
abbrev pub first_of : Function → Part → ℕ
first_of f (Bar n) = (decoded_bar f.image f.probe n).range.first
first_of f Rom = (aligned_range (rom_at f.image f.image) (rom_size f.image f.probe)).first
first_of f (Window kind) = 0

abbrev pub nibble_of : WindowKind → Function → ℕ
nibble_of kind b = if is_wide_window kind b.probe then 1 else 0

-- the addresses of an item from its place on
abbrev pub range_from : ℕ → ℕ → Range
range_from place size = record { first = place; last = place + (size - 1) }

-- Everything stands at its place.
pub record IsPlaced (roots : List ℕ) (new : System) (pools : Pools) : Type 0 where
  pub parts : (f : Function) (part : Part) → Contains new f → Contains (bars_and_rom f) part
      → first_of f part ≡ place_of roots new pools (class_of new pools f part) (part_item f part)
  pub opened : (b : Function) (c : WindowKind) → Contains new b → IsTrue (is_bridge b)
      → IsTrue (has_window c b.probe) → IsTrue (has_behind new pools c b)
      → window_range c b.image
      ≡ Some (range_from (place_of roots new pools c (window_item new pools c b))
      (window_item new pools c b).size)
  pub closed : (b : Function) (c : WindowKind) → Contains new b → IsTrue (is_bridge b)
      → IsTrue (has_window c b.probe) → IsFalse (has_behind new pools c b)
      → bounds_at c b.image ≡ closed_bounds c (nibble_of c b)

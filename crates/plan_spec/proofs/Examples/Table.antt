-- The worked tree: what is placed largest first on the root, and behind the bridge.
use Rattle.std.proofs.Common.{◌≡◌, ℕ, zero, suc, ◌^◌, ◌<◌, ◌≤◌, List, [], ◌∷◌, ◌&&◌, refl, Bool, true, length, arith, lit<, lit≤, slice_index, slice_index_or}
use Rattle.std.specs.Bool.{IsTrue, nat_lt}
use Rattle.std.specs.List.{Contains, sum}
use Rattle.std.proofs.lemmas.Bool.{and_parts, ltb-true}
use Rattle.pci_spec.specs.Header.{layout, bar_count}
use Rattle.pci_spec.specs.Window.{WindowKind, IoWindow, MemoryWindow, PrefetchWindow}
use Rattle.pci_spec.specs.System.{Function, Part, Bar, Rom, Window, is_bridge}
use Rattle.pci_spec.specs.Bus.{secondary}
use Rattle.pci_spec.specs.Bar.{has_bar}
use Rattle.plan_spec.specs.Plan.{items_within, doubled_to}
use Rattle.plan_spec.specs.Place.{start_within}
use Rattle.plan_spec.specs.Planning.Numbers.{place_at}
use Rattle.plan_spec.specs.Planning.Placing.{IsPower, IsFalling}
use Rattle.plan_spec.specs.Planning.Room.{root_items}
use Rattle.plan_spec.specs.Planning.Table.{Item, size_at, IsOnSide, IsPlacedOn, IsPlacing, IsTable, is_placed, need_behind}
use Rattle.plan_spec.proofs.Planning.Rooms.{table_by_fit}
use Rattle.pci_spec.proofs.Examples.Samples.{host}
use Rattle.plan_spec.proofs.Examples.Plans.{pools}
use Rattle.plan_spec.proofs.Examples.Placed.{start}
use Rattle.plan_spec.proofs.Examples.Planned.{old_bridge, old_device, old_behind, no}
use Rattle.plan_spec.proofs.Examples.Filled.{each_of_start, tree_can_be_planned}
use Rattle.plan_spec.proofs.Examples.Admitted.{tree_is_a_system, tree_is_nested}

abbrev pub first : Function → Part → ℕ
first f p = place_at host start pools f p

-- no register starts a BAR past the last
pub no_such_bar : (f : Function) (n : ℕ) (rest : Bool) → bar_count (layout f.image) ≤ n → ((nat_lt n (bar_count (layout f.image)) && has_bar f.probe n) && rest) ≡ true → ⊥
no_such_bar f n rest past there =
    let less = ltb-true n (bar_count (layout f.image)) (and_parts (nat_lt n (bar_count (layout f.image))) (has_bar f.probe n) (and_parts (nat_lt n (bar_count (layout f.image)) && has_bar f.probe n) rest there).0).0 in
    omega (arith, less, past)

-- ---- memory: the window and the BAR beside it, and the two BARs behind

module _ (x y j k : ℕ) (is_x : x ≡ 2 ^ j) (is_y : y ≡ 2 ^ k) (le : y ≤ x) where
  powers : (i : ℕ) → i < 2 → IsPower (slice_index (x ∷ y ∷ []) i)
  powers zero less = (j, is_x)
  powers (suc zero) less = (k, is_y)
  powers (suc (suc i)) less = absurd (let no : ⊥ = omega (arith, less) in no)

  falls : (a b : ℕ) → a < b → b < 2 → slice_index (x ∷ y ∷ []) b ≤ slice_index (x ∷ y ∷ []) a
  falls a zero below less = absurd (let no : ⊥ = omega (arith, below) in no)
  falls zero (suc zero) below less = le
  falls (suc a) (suc zero) below less = absurd (let no : ⊥ = omega (arith, below) in no)
  falls a (suc (suc b)) below less = absurd (let no : ⊥ = omega (arith, less) in no)

  falling_pair : IsFalling (x ∷ y ∷ [])
  falling_pair = record { powers = powers; falling = falls }

abbrev item : Function → Part → Item
item f p = record { function = f; part = p }

abbrev on_the_root : List Item
on_the_root = item old_bridge (Window MemoryWindow) ∷ item old_device (Bar 0) ∷ []

abbrev behind_it : List Item
behind_it = item old_behind (Bar 0) ∷ item old_behind (Bar 1) ∷ []

-- the item stands in a list
abbrev StandsIn : List Item → Function → Part → Type 0
StandsIn items f p = (k : ℕ) × (k < length items) × ((d : Item) → slice_index_or items k d ≡ item f p)

abbrev IsThere : WindowKind → Function → Part → Type 0
IsThere c f p = IsTrue (is_placed start pools c f p)

bridge_on_the_root : (p : Part) → IsThere MemoryWindow old_bridge p → StandsIn on_the_root old_bridge p
unfolding items_within doubled_to
bridge_on_the_root (Bar zero) there = absurd (no there)
bridge_on_the_root (Bar (suc zero)) there = absurd (no there)
bridge_on_the_root (Bar (suc (suc n))) there = absurd (no_such_bar old_bridge (suc (suc n)) _ (omega arith) there)
bridge_on_the_root Rom there = absurd (no there)
bridge_on_the_root (Window IoWindow) there = absurd (no there)
bridge_on_the_root (Window MemoryWindow) there = (0, lit< tt, λ d. refl)
bridge_on_the_root (Window PrefetchWindow) there = absurd (no there)

device_on_the_root : (p : Part) → IsThere MemoryWindow old_device p → StandsIn on_the_root old_device p
unfolding items_within doubled_to
device_on_the_root (Bar zero) there = (1, lit< tt, λ d. refl)
device_on_the_root (Bar (suc zero)) there = absurd (no there)
device_on_the_root (Bar (suc (suc zero))) there = absurd (no there)
device_on_the_root (Bar (suc (suc (suc zero)))) there = absurd (no there)
device_on_the_root (Bar (suc (suc (suc (suc zero))))) there = absurd (no there)
device_on_the_root (Bar (suc (suc (suc (suc (suc zero)))))) there = absurd (no there)
device_on_the_root (Bar (suc (suc (suc (suc (suc (suc n))))))) there = absurd (no_such_bar old_device (suc (suc (suc (suc (suc (suc n)))))) _ (omega arith) there)
device_on_the_root Rom there = absurd (no there)
device_on_the_root (Window IoWindow) there = absurd (no there)
device_on_the_root (Window MemoryWindow) there = absurd (no there)
device_on_the_root (Window PrefetchWindow) there = absurd (no there)

bars_behind_it : (p : Part) → IsThere MemoryWindow old_behind p → StandsIn behind_it old_behind p
unfolding items_within doubled_to
bars_behind_it (Bar zero) there = (0, lit< tt, λ d. refl)
bars_behind_it (Bar (suc zero)) there = (1, lit< tt, λ d. refl)
bars_behind_it (Bar (suc (suc zero))) there = absurd (no there)
bars_behind_it (Bar (suc (suc (suc zero)))) there = absurd (no there)
bars_behind_it (Bar (suc (suc (suc (suc zero))))) there = absurd (no there)
bars_behind_it (Bar (suc (suc (suc (suc (suc zero)))))) there = absurd (no there)
bars_behind_it (Bar (suc (suc (suc (suc (suc (suc n))))))) there = absurd (no_such_bar old_behind (suc (suc (suc (suc (suc (suc n)))))) _ (omega arith) there)
bars_behind_it Rom there = absurd (no there)
bars_behind_it (Window IoWindow) there = absurd (no there)
bars_behind_it (Window MemoryWindow) there = absurd (no there)
bars_behind_it (Window PrefetchWindow) there = absurd (no there)

-- bus 1 is no root
no_root_1 : Contains host 1 → ⊥
no_root_1 (zero, less, is) = let e : 0 ≡ 1 = is in omega (arith, e)
no_root_1 (suc k, less, is) = let no : ⊥ = omega (arith, less) in no

firsts_on_the_root : (k : ℕ) (d : Item) → k < 2 → first (slice_index_or on_the_root k d).function (slice_index_or on_the_root k d).part ≡ slice_index (0xe0000000 ∷ 0xe0200000 ∷ []) k
unfolding start_within items_within doubled_to
firsts_on_the_root zero d less = refl
firsts_on_the_root (suc zero) d less = refl
firsts_on_the_root (suc (suc k)) d less = absurd (let no : ⊥ = omega (arith, less) in no)

firsts_behind_it : (k : ℕ) (d : Item) → k < 2 → first (slice_index_or behind_it k d).function (slice_index_or behind_it k d).part ≡ slice_index (0xe0000000 ∷ 0xe0100000 ∷ []) k
unfolding start_within items_within doubled_to
firsts_behind_it zero d less = refl
firsts_behind_it (suc zero) d less = refl
firsts_behind_it (suc (suc k)) d less = absurd (let no : ⊥ = omega (arith, less) in no)

root_is_placed : IsPlacedOn (IsOnSide start pools MemoryWindow (λ f. Contains host f.slot.bus)) (size_at start pools MemoryWindow) first (sum (root_items host start pools MemoryWindow)) 0xe0000000 on_the_root
unfolding start_within items_within doubled_to
root_is_placed = record {
  all = λ f p is. each_of_start (λ f. Contains host f.slot.bus → IsThere MemoryWindow f p → StandsIn on_the_root f p)
      (λ side. bridge_on_the_root p) (λ side. device_on_the_root p) (λ side. absurd (no_root_1 side)) f is.0 is.1 is.2;
  falling = falling_pair 0x200000 0x100000 21 20 refl refl (lit≤ tt);
  aligned = λ some. refl;
  at = firsts_on_the_root;
  sums = refl;
}

behind_is_placed : IsPlacedOn (IsOnSide start pools MemoryWindow (λ f. f.slot.bus ≡ 1)) (size_at start pools MemoryWindow) first (need_behind start pools MemoryWindow old_bridge) (first old_bridge (Window MemoryWindow)) behind_it
unfolding start_within items_within doubled_to
behind_is_placed = record {
  all = λ f p is. each_of_start (λ f. f.slot.bus ≡ 1 → IsThere MemoryWindow f p → StandsIn behind_it f p)
      (λ side. absurd (let e : 0 ≡ 1 = side in let no : ⊥ = omega (arith, e) in no)) (λ side. absurd (let e : 0 ≡ 1 = side in let no : ⊥ = omega (arith, e) in no)) (λ side. bars_behind_it p) f is.0 is.1 is.2;
  falling = falling_pair 0x100000 0x1000 20 12 refl refl (lit≤ tt);
  aligned = λ some. refl;
  at = firsts_behind_it;
  sums = refl;
}

pub memory_is_placed : IsPlacing host start pools MemoryWindow first
unfolding items_within doubled_to
memory_is_placed = record {
  placed_roots = on_the_root;
  on_roots = root_is_placed;
  behind_items = λ b. behind_it;
  behind = λ b listed bridge some. each_of_start
      (λ b. IsTrue (is_bridge b) → IsPlacedOn (IsOnSide start pools MemoryWindow (λ f. f.slot.bus ≡ secondary b)) (size_at start pools MemoryWindow) first (need_behind start pools MemoryWindow b) (first b (Window MemoryWindow)) behind_it)
      (λ h. behind_is_placed) (λ h. absurd (no h)) (λ h. absurd (no h)) b listed bridge;
}

pub memory_is_a_table : IsTable host start pools MemoryWindow first
memory_is_a_table = table_by_fit host start pools MemoryWindow tree_is_a_system tree_is_nested first (tree_can_be_planned.room MemoryWindow) (lit< tt) memory_is_placed

-- Where all is placed anew nothing stays, so nothing is taken before, and each item has the first place in its ranges.
use Rattle.std.proofs.Common.{◌≡◌, ◌&&◌, ℕ, suc, List, [], ◌∷◌, map, cond, Bool, true, false, ap, ◌∙◌, refl, Option, None, Some}
use Rattle.std.specs.Bool.{if◌then◌else◌}
use Rattle.std.specs.List.{filter}
use Rattle.std.proofs.lemmas.Bool.{and_right}
use Rattle.pci_spec.specs.Window.{WindowKind}
use Rattle.pci_spec.specs.Decoded.{Range}
use Rattle.pci_spec.specs.System.{System, Function, Space}
use Rattle.pci_spec.specs.Bus.{is_root, are_siblings}
use Rattle.settle_spec.specs.FirstPlace.{first_place}
use Rattle.settle_spec.specs.Lists.{Request}
use Rattle.settle_spec.specs.Parts.{FunctionPart, system_parts, bridge_over, are_same_space}
use Rattle.settle_spec.specs.Stands.{part_space, window_part}
use Rattle.settle_spec.specs.Items.{PlacingItem, Placed, place_all}
use Rattle.settle_spec.specs.Places.{root_ranges, placed_of, place_among, placed_range}
use Rattle.settle_spec.specs.Kept.{Kept}
use Rattle.settle_spec.specs.Keeping.Places.{space_items, taken_at, place_behind, place_of_item, placing_within}
use Rattle.settle_spec.proofs.Buses.{each_same}
use Rattle.settle_laws.proofs.EachPlaced.{each_all}
use Rattle.settle_laws.proofs.Keeping.Buses.{plain_step}
use Rattle.settle_laws.proofs.Untold.{taken_at_is}

pub nowhere : {X : Type 0} (test : X → Bool) (xs : List X) → ((x : X) → test x ≡ false) → filter test xs ≡ []
nowhere test [] none = refl
nowhere test (x ∷ xs) none = ap (λ b. cond b (x ∷ filter test xs) (filter test xs)) (none x) ∙ nowhere test xs none

-- the ranges for an item: those of its root, or the new window over its bus
abbrev pub new_ranges : (ℕ → List Placed) → WindowKind → Option Function → List Range
new_ranges placed c None = []
new_ranges placed c (Some b) = placed_range (place_among (window_part c b) (placed b.slot.bus))

abbrev pub ranges_anew : Request → System → (ℕ → List Placed) → PlacingItem → List Range
ranges_anew q s placed i =
    if is_root q.roots i.region.function.slot.bus then root_ranges q i
    else new_ranges placed i.class (bridge_over s i.region.function.slot.bus)

module _ (q : Request) (untold : q.told.ranges ≡ []) (s : System) (k : Kept) (none : (r : FunctionPart) → k.stays r ≡ false) where
  pub none_taken : (space : Space) (bus : ℕ) → taken_at q s k space bus ≡ []
  none_taken space bus = taken_at_is q untold s k space bus ∙ ap (map k.range) (nowhere (λ r. are_siblings q.roots bus r.function.slot.bus && are_same_space space (part_space r) && k.stays r) (system_parts q s)
      (λ r. and_right (are_siblings q.roots bus r.function.slot.bus && are_same_space space (part_space r)) (k.stays r) (none r)))

  behind_anew : (placed : ℕ → List Placed) (i : PlacingItem) (xs : List Range) (o : Option Function) → place_behind k placed i xs o ≡ first_place (new_ranges placed i.class o) xs i.extent
  behind_anew placed i xs None = refl
  behind_anew placed i xs (Some b) = ap (λ kept. if kept then k.place b i xs else first_place (placed_range (place_among (window_part i.class b) (placed b.slot.bus))) xs i.extent) (none (window_part i.class b))

  place_anew : (placed : ℕ → List Placed) (i : PlacingItem) (xs : List Range) → place_of_item q s k placed i xs ≡ first_place (ranges_anew q s placed i) xs i.extent
  place_anew placed i xs = by (is_root q.roots i.region.function.slot.bus)
    where
      by : (root : Bool) → (if root then first_place (root_ranges q i) xs i.extent else place_behind k placed i xs (bridge_over s i.region.function.slot.bus))
          ≡ first_place (if root then root_ranges q i else new_ranges placed i.class (bridge_over s i.region.function.slot.bus)) xs i.extent
      by true = refl
      by false = behind_anew placed i xs (bridge_over s i.region.function.slot.bus)

  pub placing_anew : (space : Space) (depth bus : ℕ)
      → placing_within q s k space (suc depth) bus ≡ place_all (ranges_anew q s (λ over. placed_of (placing_within q s k space depth over))) [] (space_items q s k space bus)
  placing_anew space depth bus =
      let placed = λ (over : ℕ). placed_of (placing_within q s k space depth over) in
      plain_step q s k untold space depth bus
      ∙ each_same (place_of_item q s k placed) (λ i xs. first_place (ranges_anew q s placed i) xs i.extent) (taken_at q s k space bus) (space_items q s k space bus) (λ i xs has. place_anew placed i xs)
      ∙ each_all (ranges_anew q s placed) (taken_at q s k space bus) (space_items q s k space bus)
      ∙ ap (λ xs. place_all (ranges_anew q s placed) xs (space_items q s k space bus)) (none_taken space bus)

-- Where nothing stays, lines alone are taken before, and each item has the first place in its ranges that is off them.
use Rattle.std.proofs.Common.{◌≡◌, ◌&&◌, ℕ, suc, List, [], ◌∷◌, ◌++◌, map, Bool, true, false, ap, ◌∙◌, refl, Option, None, Some}
use Rattle.std.specs.Bool.{if◌then◌else◌}
use Rattle.std.proofs.lemmas.Bool.{and_right}
use Rattle.pci_spec.specs.Decoded.{Range}
use Rattle.pci_spec.specs.System.{System, Function, Space}
use Rattle.pci_spec.specs.Bus.{is_root, are_siblings}
use Rattle.settle_spec.specs.FirstPlace.{first_place}
use Rattle.settle_spec.specs.Items.{PlacingItem, Placed, place_each}
use Rattle.settle_spec.specs.Kept.{Kept}
use Rattle.settle_spec.specs.Lines.{lines_on, taken_for}
use Rattle.settle_spec.specs.Lists.{Request}
use Rattle.settle_spec.specs.Parts.{FunctionPart, system_parts, bridge_over, are_same_space}
use Rattle.settle_spec.specs.Places.{root_ranges, placed_of, place_among, placed_range}
use Rattle.settle_spec.specs.Stands.{part_space, window_part}
use Rattle.settle_spec.specs.Keeping.Places.{space_items, taken_at, place_behind, place_of_item, placing_within}
use Rattle.settle_spec.proofs.Buses.{each_same}
use Rattle.settle_laws.proofs.Anew.{new_ranges, nowhere, ranges_anew}
use Rattle.settle_laws.proofs.Keeping.Buses.{placing_step}

append_none : (xs : List Range) → (xs ++ []) ≡ xs
append_none [] = refl
append_none (x ∷ xs) = ap (λ ys. x ∷ ys) (append_none xs)

module _ (q : Request) (s : System) (k : Kept) (none : (r : FunctionPart) → k.stays r ≡ false) where
  lines_taken : (space : Space) (bus : ℕ) → taken_at q s k space bus ≡ lines_on q space bus
  lines_taken space bus =
      ap (λ rs. lines_on q space bus ++ map k.range rs) (nowhere (λ r. are_siblings q.roots bus r.function.slot.bus && are_same_space space (part_space r) && k.stays r) (system_parts q s)
      (λ r. and_right (are_siblings q.roots bus r.function.slot.bus && are_same_space space (part_space r)) (k.stays r) (none r)))
      ∙ append_none (lines_on q space bus)

  behind_anew : (placed : ℕ → List Placed) (i : PlacingItem) (xs : List Range) (o : Option Function) → place_behind k placed i xs o ≡ first_place (new_ranges placed i.class o) xs i.extent
  behind_anew placed i xs None = refl
  behind_anew placed i xs (Some b) = ap (λ kept. if kept then k.place b i xs else first_place (placed_range (place_among (window_part i.class b) (placed b.slot.bus))) xs i.extent) (none (window_part i.class b))

  place_anew : (placed : ℕ → List Placed) (i : PlacingItem) (xs : List Range) → place_of_item q s k placed i xs ≡ first_place (ranges_anew q s placed i) xs i.extent
  place_anew placed i xs = by (is_root q.roots i.region.function.slot.bus)
    where
      by : (root : Bool) → (if root then first_place (root_ranges q i) xs i.extent else place_behind k placed i xs (bridge_over s i.region.function.slot.bus))
          ≡ first_place (if root then root_ranges q i else new_ranges placed i.class (bridge_over s i.region.function.slot.bus)) xs i.extent
      by true = refl
      by false = behind_anew placed i xs (bridge_over s i.region.function.slot.bus)

  -- the first place of an item, off lines behind it, too
  abbrev pub find_anew : (ℕ → List Placed) → PlacingItem → List Range → Option ℕ
  find_anew placed i xs = first_place (ranges_anew q s placed i) (taken_for q i.region xs) i.extent

  pub placing_off : (space : Space) (depth bus : ℕ)
      → placing_within q s k space (suc depth) bus ≡ place_each (find_anew (λ over. placed_of (placing_within q s k space depth over))) (lines_on q space bus) (space_items q s k space bus)
  placing_off space depth bus =
      let placed = λ (over : ℕ). placed_of (placing_within q s k space depth over) in
      placing_step q s k space depth bus
      ∙ each_same (λ i xs. place_of_item q s k placed i (taken_for q i.region xs)) (find_anew placed) (taken_at q s k space bus) (space_items q s k space bus) (λ i xs has. place_anew placed i (taken_for q i.region xs))
      ∙ ap (λ xs. place_each (find_anew placed) xs (space_items q s k space bus)) (lines_taken space bus)

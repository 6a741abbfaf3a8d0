-- Around a window that can't grow to all addresses what is marked has no place, and neither has what it marks.
use Rattle.std.proofs.Common.{◌≡◌, ℕ, ◌+◌, ◌-◌, ◌^◌, ◌<◌, ◌≤◌, max, inl, inr, ◌⊎◌, List, [], ◌∷◌, ◌++◌, get_or, Bool, true, false, cond, arith, refl, sym, ◌∙◌, ap, subst, Option, Some, None}
use Rattle.std.specs.Bool.{nat_le, nat_lt}
use Rattle.std.specs.List.{Contains}
use Rattle.std.proofs.lemmas.Bool.{and_parts, leb-true, cases_Bool, ltb-true, false_from_ne_true}
use Rattle.std.proofs.lemmas.Option.{none-some}
use Rattle.pci_spec.specs.Window.{WindowKind, page_size}
use Rattle.pci_spec.specs.Decoded.{Range as DecodedRange}
use Rattle.pci_spec.specs.System.{System, Function, IsSystem, is_bridge}
use Rattle.pci_spec.specs.Bus.{secondary, IsNested}
use Rattle.pci_spec.proofs.Members.{in_nil, in_cons_cases}
use Rattle.settle_spec.specs.FirstPlace.{Extent as ExtentValue, ends_by, first_spot, first_place_in, is_place, else_at}
use Rattle.settle_spec.specs.LastPlace.{last_place_in}
use Rattle.settle_spec.specs.Growth.{place_around}
use Rattle.settle_spec.specs.Lists.{Request}
use Rattle.settle_spec.specs.Parts.{FunctionPart}
use Rattle.settle_spec.specs.Stands.{window_part}
use Rattle.settle_spec.specs.Items.{PlacingItem as ItemValue, Placing, AllPlaced, Lacks, and_placed, place_next, are_placed, taken_by, has_of, bus_items, new_window, place_each}
use Rattle.settle_spec.proofs.FirstSpot.{least_spot, spot_gives}
use Rattle.settle_spec.proofs.Grown.{some_page}
use Rattle.settle_spec.proofs.NewWindows.{window_is_around}
use Rattle.pci_first_fit.specs.declared.extent.Extent.{Extent}
use Rattle.pci_first_fit.specs.Spots.{extent_value}
use Rattle.pci_first_fit.specs.NewWindows.{nowhere, HasMarkedWindows, new_window_extent}
use Rattle.pci_first_fit.proofs.Marked.{told_fits, same_or_large}
use Rattle.pci_kept.specs.Windows.{IsWholeRange}
use Rattle.pci_grow.specs.declared.around.Around.{Around}
use Rattle.pci_base.specs.Ranges.{decoded_range_of}
use Rattle.pci_grow.specs.Arounds.{find_around}
use Rattle.pci_grow.proofs.Comings.{StandFor}
use Rattle.pci_grow.proofs.Places.{place_gives, none_from}

-- ---- one that has no place

placed_less : (i : ItemValue) (a : ℕ) (p : Placing) → are_placed p ≡ false → are_placed (and_placed i a p) ≡ false
placed_less i a (AllPlaced placed) off = absurd (let no : ⊥ = cc in no)
placed_less i a (Lacks j) off = refl

-- where one of some items has no place, whatever is taken, not all of them have one
none_each : (find : ItemValue → List DecodedRange → Option ℕ) (taken : List DecodedRange) (items : List ItemValue) (i : ItemValue) → Contains items i
    → ((now : List DecodedRange) → find i now ≡ None) → are_placed (place_each find taken items) ≡ false
none_each find taken [] i listed none = absurd (in_nil i listed)
none_each find taken (j ∷ items) i listed none = by (find j taken) refl (λ a later. none_each find (taken_by j a ∷ taken) items i later none)
  where
    by : (o : Option ℕ) → find j taken ≡ o → ((a : ℕ) → Contains items i → are_placed (place_each find (taken_by j a ∷ taken) items) ≡ false)
        → are_placed (place_next j o (λ a. place_each find (taken_by j a ∷ taken) items)) ≡ false
    by None is rest = refl
    by (Some a) is rest = elim (in_cons_cases j items i listed) [
      | inl here ↦ absurd (none-some a (sym (subst (λ x. find x taken ≡ None) (sym here) (none taken)) ∙ is))
      | inr later ↦ placed_less j a (place_each find (taken_by j a ∷ taken) items) (rest a later)
    ]

no_first : (r : DecodedRange) (now : List DecodedRange) (e : ExtentValue) → ends_by r e (first_spot r.first now e) ≡ false → first_place_in r now e ≡ None
no_first r now e off = ap (λ b. cond b (Some (first_spot r.first now e)) None) off

-- ---- a mark, and what it marks

module _ (a : Around) where
  abbrev up : DecodedRange
  up = record { first = a.window.first; last = a.reach.last }

  abbrev under : DecodedRange
  under = record { first = a.reach.first; last = a.window.first - 1 }

  abbrev found : ItemValue → List DecodedRange → Option ℕ
  found i now = place_around (decoded_range_of a.window) (decoded_range_of a.reach) now i.extent

  none_around : (i : ItemValue) (now : List DecodedRange) → first_place_in up now i.extent ≡ None → (a.reach.first < a.window.first → last_place_in under now i.extent ≡ None) → found i now ≡ None
  none_around i now first last = ap (λ o. else_at o (cond (nat_lt a.reach.first a.window.first) (last_place_in under now i.extent) None)) first ∙ by (cases_Bool (nat_lt a.reach.first a.window.first))
    where
      by : (nat_lt a.reach.first a.window.first ≡ true) ⊎ (nat_lt a.reach.first a.window.first ≡ false) → cond (nat_lt a.reach.first a.window.first) (last_place_in under now i.extent) None ≡ None
      by (inl less) = ap (λ b. cond b (last_place_in under now i.extent) None) less ∙ last (ltb-true a.reach.first a.window.first less)
      by (inr more) = ap (λ b. cond b (last_place_in under now i.extent) None) more

  mark_none : (i : ItemValue) → i.extent ≡ extent_value nowhere → (now : List DecodedRange) → found i now ≡ None
  mark_none i mark now =
      none_around i now
      (subst (λ (e : ExtentValue). first_place_in up now e ≡ None) (sym mark)
      (no_first up now (extent_value nowhere) (false_from_ne_true _ (λ is.
      let at = first_spot up.first now (extent_value nowhere) in
      let below = leb-true (at + ((extent_value nowhere).size - 1)) 0 (and_parts (nat_le (at + ((extent_value nowhere).size - 1)) up.last) (nat_le (at + ((extent_value nowhere).size - 1)) 0) is).1 in
      let no : ⊥ = omega (arith, below) in no))))
      (λ some. subst (λ (e : ExtentValue). last_place_in under now e ≡ None) (sym mark)
      (none_from under now (extent_value nowhere) (omega arith) (omega arith) (λ b. false_from_ne_true (is_place under now (extent_value nowhere) b) (λ is.
      let high = (place_gives under now (extent_value nowhere) b is).highest in
      let no : ⊥ = omega (arith, high) in no))))

  large_none : (i : ItemValue) → 0 < i.extent.alignment → 2 ^ 64 ≤ i.extent.size → a.reach.last < 2 ^ 64 → a.window.first < 2 ^ 64 → a.reach.first ≤ a.window.first → (IsWholeRange (decoded_range_of a.reach) → ⊥)
      → (now : List DecodedRange) → found i now ≡ None
  large_none i pos large small low inside narrow now =
      none_around i now
      (no_first up now i.extent (false_from_ne_true (ends_by up i.extent at) (λ is.
      let ends = leb-true (at + (i.extent.size - 1)) up.last (and_parts (nat_le (at + (i.extent.size - 1)) up.last) (nat_le (at + (i.extent.size - 1)) i.extent.highest) is).0 in
      let from = (spot_gives up.first now i.extent at (least_spot up.first now i.extent pos).free).from in
      narrow record { first = omega (arith, ends, from, large, small, inside); last = omega (arith, ends, large, small) })))
      (λ some. none_from under now i.extent (omega (arith, large)) pos (λ b. false_from_ne_true (is_place under now i.extent b) (λ is.
      let last = (place_gives under now i.extent b is).last in
      let no : ⊥ = omega (arith, last, large, low) in no)))
    where
      at : ℕ
      at = first_spot up.first now i.extent

module _ (q : Request) (s : System) (system : IsSystem s) (nested : IsNested q.roots s) (c : WindowKind) where
  some_max : (a b : ℕ) → 0 < a → 0 < max a b
  some_max a b pos = omega (arith, pos)

  new_aligned : (f : Function) → Contains s f → is_bridge f ≡ true → 0 < (new_window q s c f).alignment
  new_aligned f listed bridge = subst (λ (e : ExtentValue). 0 < e.alignment) (sym (window_is_around q s c system nested f listed bridge)) (some_max (page_size c) _ (some_page c))

  abbrev window_item : (Function → ExtentValue) → Function → ItemValue
  window_item extent f = record { region = window_part c f; class = c; extent = extent f }

  -- so items with marks stand for those with their own extents
  pub marks_stand : (behind : ItemValue → List DecodedRange) (a : Around) → a.reach.last < 2 ^ 64 → a.window.first < 2 ^ 64 → a.reach.first ≤ a.window.first → (IsWholeRange (decoded_range_of a.reach) → ⊥)
      → (keeps : FunctionPart → Bool) (windows : List (Option Extent)) (bus : ℕ) → HasMarkedWindows q s c windows
      → StandFor behind a (bus_items q s c keeps (new_window_extent windows) bus) (bus_items q s c keeps (new_window q s c) bus)
  marks_stand behind a small low inside narrow keeps windows bus marked =
      elim (same_or_large q s c keeps (new_window_extent windows) (new_window q s c) bus
      (λ f listed beside bridge has. told_fits (has_of q s c f) (new_window q s c f) (get_or windows (secondary f) None) (marked f listed bridge) has)) [
        | inl same ↦ inl same
        | inr has ↦ inr (λ taken. (
          none_each (find_around behind a) taken (bus_items q s c keeps (new_window_extent windows) bus) (window_item (new_window_extent windows) has.of) has.in_low (λ now. mark_none a (window_item (new_window_extent windows) has.of) has.mark (behind (window_item (new_window_extent windows) has.of) ++ now)),
          none_each (find_around behind a) taken (bus_items q s c keeps (new_window q s c) bus) (window_item (new_window q s c) has.of) has.in_high (λ now. large_none a (window_item (new_window q s c) has.of) (new_aligned has.of has.listed has.bridge) has.large small low inside narrow (behind (window_item (new_window q s c) has.of) ++ now)),
        ))
      ]

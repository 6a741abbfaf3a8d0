-- Places of items are put into a table from the last item to the first.
use Rattle.std.proofs.Common.{◌≡◌, ℕ, zero, suc, ◌+◌, ◌<◌, ◌≤◌, inl, inr, List, [], ◌∷◌, map, length, drop, get_or, true, cond, arith, refl, sym, ◌∙◌, ap, subst, Option, Some}
use Rattle.std.specs.Bool.{◌==◌}
use Rattle.std.specs.List.{All, Contains, slice_get}
use Rattle.std.proofs.lemmas.Bool.{cases_Bool, eqb-true, eq-eqb, both_ways}
use Rattle.std.proofs.lemmas.List.{length-map, get_or-map, at_drop_more, drop_all}
use Rattle.std.proofs.lemmas.Option.{slice_get_within, slice_get-get_or, get_or_from_slice_get, same_Some}
use Rattle.pci_spec.specs.Window.{WindowKind}
use Rattle.pci_spec.specs.System.{System, Function, Part, IsSystem, has_part}
use Rattle.settle_spec.specs.FirstPlace.{else_at}
use Rattle.settle_spec.specs.Parts.{FunctionPart}
use Rattle.settle_spec.specs.Stands.{rank}
use Rattle.settle_spec.specs.Items.{PlacingItem as ItemValue, Placed}
use Rattle.settle_spec.specs.Places.{place_among}
use Rattle.settle_spec.specs.Kept.{address_of_placed}
use Rattle.pci_place.specs.Items.{function_in, no_function}
use Rattle.pci_first_fit.specs.declared.item.Item.{Item}
use Rattle.pci_first_fit.specs.declared.item.Part.TheVariants.{Bar}
use Rattle.pci_first_fit.specs.Own.{class_part, asked_item_value}
use Rattle.pci_first_fit.specs.Placings.{at_places}
use Rattle.pci_kept.proofs.Indexes.{index_at}
use Rattle.pci_first_fit.specs.declared.place.Places.{Places}
use Rattle.pci_first_fit.specs.PlaceTables.{placed, PlacesSame}
use Rattle.pci_grow.specs.Putting.{ArePutOver, HasItemPart}
use Rattle.pci_grow.proofs.Ranked.{rank_parts}

-- what an index past the end is read as
abbrev pub no_item : Item
no_item = record { function = 0; part = Bar 0; extent = record { size = 0; alignment = 0; highest = 0 } }

at_length : (items : List ItemValue) (places : List ℕ) → length places ≡ length items → length (at_places items places) ≡ length items
at_length [] places same = refl
at_length (i ∷ items) [] same = absurd (let no : ⊥ = omega (arith, same) in no)
at_length (i ∷ items) (a ∷ places) same = ap suc (at_length items places (omega (arith, same)))

pub at_read : (items : List ItemValue) (places : List ℕ) (k : ℕ) (i : ItemValue) (d : Placed) → length places ≡ length items → k < length items
    → get_or (at_places items places) k d ≡ record { item = get_or items k i; at = get_or places k 0 }
at_read [] places k i d same less = absurd (let no : ⊥ = omega (arith, less) in no)
at_read (x ∷ items) [] k i d same less = absurd (let no : ⊥ = omega (arith, same) in no)
at_read (x ∷ items) (a ∷ places) zero i d same less = refl
at_read (x ∷ items) (a ∷ places) (suc k) i d same less = at_read items places k i d (omega (arith, same)) (omega (arith, less))

abbrev pub region : Function → Part → FunctionPart
region f part = record { function = f; part = part }

abbrev pub all_at : System → WindowKind → List Item → List ℕ → List Placed
all_at s c items firsts = at_places (map (asked_item_value s c) items) firsts

pub all_length : (s : System) (c : WindowKind) (items : List Item) (firsts : List ℕ) → length firsts ≡ length items → length (all_at s c items firsts) ≡ length items
all_length s c items firsts count =
    let more = length-map items (asked_item_value s c) in
    at_length (map (asked_item_value s c) items) firsts (omega (arith, more, count)) ∙ more

pub record ArePutFrom (c : WindowKind) (items : List Item) (firsts : List ℕ) (old now : List Places) (from : ℕ) : Type 0 where
  pub size : length now ≡ length old
  pub each : (s : System) → IsSystem s → length s ≡ length old → All (HasItemPart s c) items → ArePutOver s (drop from (all_at s c items firsts)) old now

module _ (c : WindowKind) (items : List Item) (firsts : List ℕ) (count : length firsts ≡ length items) (old : List Places) where
  pub put_none : (n : ℕ) → length items ≤ n → ArePutFrom c items firsts old old n
  put_none n past = record {
    size = refl;
    each = λ s system same parts k f part at there.
        ap (λ ps. else_at (address_of_placed (place_among (region f part) ps)) (placed old k part))
        (sym (drop_all n (all_at s c items firsts) (let e = all_length s c items firsts count in omega (arith, e, past))));
  }

  module _ (now : List Places) (n : ℕ) (was : ArePutFrom c items firsts old now (n + 1)) (inside : n < length items) (i : Item) (is : get_or items n i ≡ i)
      (low : i.function < length old) (first : ℕ) (first_is : get_or firsts n 0 ≡ first) (new : List Places) (size : length new ≡ length now)
      (put : placed new i.function (class_part c i.part) ≡ Some first) (others : PlacesSame now new i.function (class_part c i.part)) where
    abbrev m : ℕ
    m = i.function

    module _ (s : System) (system : IsSystem s) (same : length s ≡ length old) (parts : All (HasItemPart s c) items) where
      abbrev value : ItemValue
      value = asked_item_value s c i

      abbrev own : Part
      own = value.region.part

      head : drop n (all_at s c items firsts) ≡ record { item = value; at = first } ∷ drop (n + 1) (all_at s c items firsts)
      head =
          let more = length-map items (asked_item_value s c) in
          let e = all_length s c items firsts count in
          at_drop_more (λ xs. xs) (all_at s c items firsts) n (record { item = value; at = first }) (omega (arith, inside, e))
          ∙ ap (λ p. p ∷ drop (n + 1) (all_at s c items firsts))
          (at_read (map (asked_item_value s c) items) firsts n value (record { item = value; at = first }) (omega (arith, more, count)) (omega (arith, more, inside))
          ∙ ap (λ x. record { item = x; at = get_or firsts n 0 }) (get_or-map (asked_item_value s c) items n i value inside ∙ ap (asked_item_value s c) is)
          ∙ ap (λ a. record { item = value; at = a }) first_is)

      at_own : slice_get s m ≡ Some (function_in s m)
      at_own = slice_get-get_or s m no_function (omega (arith, low, same))

      there_own : has_part (function_in s m) own ≡ true
      there_own = subst (HasItemPart s c) is (parts n i inside)

      abbrev later : Function → Part → Option Placed
      later f part = place_among (region f part) (drop (n + 1) (all_at s c items firsts))

      among : (f : Function) (part : Part) → place_among (region f part) (drop n (all_at s c items firsts)) ≡ cond (rank value.region == rank (region f part)) (Some (record { item = value; at = first })) (later f part)
      among f part = ap (place_among (region f part)) head

      by_part : ArePutOver s (drop n (all_at s c items firsts)) old new
      by_part k f part at there = elim (cases_Bool (rank value.region == rank (region f part))) [
        | inl hit ↦
            let listed_f : Contains s f = (k, slice_get_within s k f at, get_or_from_slice_get s k f f at) in
            let listed_own : Contains s (function_in s m) = (m, slice_get_within s m (function_in s m) at_own, get_or_from_slice_get s m (function_in s m) (function_in s m) at_own) in
            let one : value.region ≡ region f part = rank_parts s system value.region (region f part) listed_own listed_f there_own there (eqb-true (rank value.region) (rank (region f part)) hit) in
            let function : function_in s m ≡ f = ap (λ (x : FunctionPart). x.function) one in
            let place : k ≡ m = sym (index_at s system k f at) ∙ index_at s system m f (subst (λ g. slice_get s m ≡ Some g) function at_own) in
            ap (λ j. placed new j part) place
            ∙ ap (placed new m) (sym (ap (λ (x : FunctionPart). x.part) one))
            ∙ put
            ∙ sym (ap (λ o. else_at (address_of_placed o) (placed old k part)) (among f part ∙ ap (λ b. cond b (Some (record { item = value; at = first })) (later f part)) hit))
        | inr miss ↦
            others k part (λ place own_part. both_ways (rank value.region == rank (region f part)) miss
            (eq-eqb (rank value.region) (rank (region f part))
            (let both : Some (function_in s m) ≡ Some f = sym at_own ∙ ap (slice_get s) (sym place) ∙ at in
            ap (λ g. rank (region g own)) (same_Some (function_in s m) f both) ∙ ap (λ p. rank (region f p)) (sym own_part))))
            ∙ was.each s system same parts k f part at there
            ∙ sym (ap (λ o. else_at (address_of_placed o) (placed old k part)) (among f part ∙ ap (λ b. cond b (Some (record { item = value; at = first })) (later f part)) miss))
      ]

    pub put_more : ArePutFrom c items firsts old new n
    put_more = record { size = size ∙ was.size; each = λ s system same parts k f part at there. by_part s system same parts k f part at there }

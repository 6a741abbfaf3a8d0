-- The extents of items, in the order in which they are placed.
use Rattle.std.proofs.Common.{◌≡◌, ℕ, ◌+◌, ◌<◌, List, [], ◌∷◌, ◌++◌, map, take, length, get_or, arith, ap, sym, subst, ◌∙◌, refl, Option, Result, Ok, Err, IfOk}
use Rattle.std.specs.List.{All}
use Rattle.std.specs.List.Sorted.{IsPermutation}
use Rattle.std.proofs.lemmas.List.{take_more, get_or-map, length-map}
use Rattle.std.proofs.lemmas.List.Sorted.{All-permutation, length_permutation}
use Rattle.settle_spec.specs.FirstPlace.{Extent as ExtentValue}
use Rattle.settle_spec.specs.Spares.{with_spare}
use Rattle.settle_spec.specs.Items.{PlacingItem as ItemValue, in_turn, extent_around}
use Rattle.pci_first_fit.specs.declared.extent.Extent.{Extent}
use Rattle.pci_first_fit.specs.declared.item.Item.{Item}
use Rattle.pci_first_fit.specs.declared.item.Part.TheVariants.{Bar}
use Rattle.pci_first_fit.specs.Spots.{extent_value, IsExtent}
use Rattle.pci_first_fit.specs.Placings.{item_extent}
use Rattle.pci_first_fit.specs.Turns.{extent_of_item, HasExtent, IsValued}
use Rattle.pci_first_fit.specs.Windows.{IsAround}

-- what an index past the end is read as
abbrev pub no_item : Item
no_item = record { function = 0; part = Bar 0; extent = record { size = 0; alignment = 0; highest = 0 } }

pub extents_more : (items : List Item) (n : ℕ) (done new : List Extent) → n < length items → done ≡ take n (map extent_of_item items) → new ≡ done ++ (get_or items n no_item).extent ∷ []
    → new ≡ take (n + 1) (map extent_of_item items)
extents_more items n done new within is put =
    let long = length-map items extent_of_item in
    put
    ∙ ap (λ xs. xs ++ (get_or items n no_item).extent ∷ []) is
    ∙ ap (λ e. take n (map extent_of_item items) ++ e ∷ []) (sym (get_or-map extent_of_item items n no_item (extent_of_item no_item) within))
    ∙ sym (take_more (map extent_of_item items) n (extent_of_item no_item) (omega (arith, within, long)))

-- ---- of sorted items

module _ (items sorted : List Item) (moved : IsPermutation items sorted) (extents : List Extent) (are : extents ≡ map extent_of_item sorted) where
  pub extents_lawful : All HasExtent items → All IsExtent extents
  extents_lawful lawful = subst (All IsExtent) (sym are) (λ k d less. (
      let long = length-map sorted extent_of_item in
      let within : k < length sorted = omega (arith, less, long) in
      subst IsExtent (sym (get_or-map extent_of_item sorted k no_item d within)) (All-permutation HasExtent items sorted moved lawful k no_item within)
      ))

  pub extents_some : 0 < length items → 0 < length extents
  extents_some some =
      let count = length_permutation items sorted moved in
      let long = length-map sorted extent_of_item in
      let same = ap length are in
      omega (arith, some, count, long, same)

  same_extents : (value : Item → ItemValue) → IsValued value → (xs : List Item) → map extent_value (map extent_of_item xs) ≡ map item_extent (map value xs)
  same_extents value valued [] = refl
  same_extents value valued (i ∷ xs) =
      ap (λ e. e ∷ map extent_value (map extent_of_item xs)) (sym (valued i)) ∙ ap (λ es. (value i).extent ∷ es) (same_extents value valued xs)

  pub turn_extents : (value : Item → ItemValue) → IsValued value → map value sorted ≡ in_turn (map value items) → map extent_value extents ≡ map item_extent (in_turn (map value items))
  turn_extents value valued turn = ap (map extent_value) are ∙ same_extents value valued sorted ∙ ap (map item_extent) turn

  -- what is around the extents and a spare is around the items and the spare
  pub around_turn : (page highest : ℕ) (spare : Option ExtentValue) (window : Option Extent) (all : List ExtentValue) → all ≡ with_spare spare (map extent_value extents) → IsAround (extent_around page highest all) window
      → (value : Item → ItemValue) → IsValued value → map value sorted ≡ in_turn (map value items)
      → IsAround (extent_around page highest (with_spare spare (map item_extent (in_turn (map value items))))) window
  around_turn page highest spare window all all_is is value valued turn =
      subst (λ es. IsAround (extent_around page highest es) window) (all_is ∙ ap (with_spare spare) (turn_extents value valued turn)) is

pub if_ok_by : {X E : Type 0} (P Q : X → Type 0) (r : Result X E) → ((x : X) → P x → Q x) → IfOk r P → IfOk r Q
if_ok_by P Q (Ok x) by p = by x p
if_ok_by P Q (Err e) by p = tt

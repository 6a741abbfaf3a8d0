-- The rows of a room where one of them is put anew.
use Rattle.std.proofs.Common.{◌≡◌, ℕ, ◌<◌, inl, inr, List, [], map, length, set, get_or, arith, ap, sym, subst, ◌∙◌, Vec, Option, Bool, true, false}
use Rattle.std.specs.Vec.{with_items}
use Rattle.std.proofs.lemmas.Bool.{cases_lt}
use Rattle.std.proofs.lemmas.List.{with_items_is, get_or-map, get_or-set_same, get_or-set_other, length-map, length-set, map-set}
use Rattle.pci_base.specs.declared.range.Range.{Range}
use Rattle.pci_base.specs.declared.window_kind.WindowKind.{WindowKind}
use Rattle.pci_base.specs.declared.window_kind.ByKind.{ByKind}
use Rattle.pci_first_fit.specs.Tables.{TellsSame}
use Rattle.pci_grow.specs.RoomRows.{row_at, AreSameBut, IsEndedIn, IsAddedTo}
use Rattle.pci_grow.specs.LastPlaces.{LastsRise}
use Rattle.pci_first_fit.specs.Spots.{FirstsRise}

module _ {A : Type 0} (rows : List (Vec Range A)) (n : ℕ) where
  abbrev items_of : Vec Range A → List Range
  items_of v = v.items

  pub row_of : (v : Vec Range A) → n < length (map items_of rows) → v ≡ get_or rows n v → v.items ≡ row_at (map items_of rows) n
  row_of v within is =
      let long = length-map rows items_of in
      ap items_of is ∙ sym (get_or-map items_of rows n v [] (omega (arith, within, long)))

  module _ (v : Vec Range A) where
    abbrev new : List (List Range)
    new = map items_of (set rows n v)

    pub row_put : n < length (map items_of rows) → row_at new n ≡ v.items
    row_put within = ap (λ xs. get_or xs n []) (map-set items_of rows n v) ∙ get_or-set_same (map items_of rows) n v.items [] within

    pub row_rest : AreSameBut (map items_of rows) new n
    row_rest m other = ap (λ xs. get_or xs m []) (map-set items_of rows n v) ∙ get_or-set_other (map items_of rows) n m v.items [] other

    pub rows_long : length new ≡ length (map items_of rows)
    rows_long = ap length (map-set items_of rows n v) ∙ length-set (map items_of rows) n v.items

    pub rows_order : n < length (map items_of rows) → ((m : ℕ) → FirstsRise (row_at (map items_of rows) m)) → FirstsRise v.items → (m : ℕ) → FirstsRise (row_at new m)
    rows_order within was put m = elim (cases_lt m n) [
      | inl under ↦ (let other : m ≡ n → ⊥ = λ same. (let no : ⊥ = omega (arith, under, same) in no) in subst FirstsRise (sym (row_rest m other)) (was m))
      | inr from ↦ elim (cases_lt n m) [
        | inl over ↦ (let other : m ≡ n → ⊥ = λ same. (let no : ⊥ = omega (arith, over, same) in no) in subst FirstsRise (sym (row_rest m other)) (was m))
        | inr up ↦
            let same : n ≡ m = omega (arith, from, up) in
            subst (λ k. FirstsRise (row_at new k)) same (subst FirstsRise (sym (row_put within)) put)
      ]
    ]

    pub rows_rising : (old_flags new_flags : List Bool) → n < length (map items_of rows)
        → ((m : ℕ) → get_or old_flags m false ≡ true → LastsRise (row_at (map items_of rows) m))
        → ((m : ℕ) → get_or new_flags m false ≡ true → get_or old_flags m false ≡ true)
        → (get_or new_flags n false ≡ true → LastsRise v.items)
        → (m : ℕ) → get_or new_flags m false ≡ true → LastsRise (row_at new m)
    rows_rising old_flags new_flags within was others put m flag = elim (cases_lt m n) [
      | inl under ↦ (let other : m ≡ n → ⊥ = λ same. (let no : ⊥ = omega (arith, under, same) in no) in subst LastsRise (sym (row_rest m other)) (was m (others m flag)))
      | inr from ↦ elim (cases_lt n m) [
        | inl over ↦ (let other : m ≡ n → ⊥ = λ same. (let no : ⊥ = omega (arith, over, same) in no) in subst LastsRise (sym (row_rest m other)) (was m (others m flag)))
        | inr up ↦
            let same : m ≡ n = omega (arith, from, up) in
            let here = ap (λ k. get_or new_flags k false) (sym same) ∙ flag in
            subst (λ k. LastsRise (row_at new k)) (sym same) (subst LastsRise (sym (row_put within)) (put here))
      ]
    ]

-- what was written over all of a Vec is in it
pub rewritten : {X A : Type 0} (v : Vec X A) (old new : List X) → old ≡ v.items → length new ≡ length old → (with_items v new).items ≡ new
rewritten v old new is count = with_items_is v new (count ∙ ap length is ∙ sym v.ok.0)

-- ---- the same said of lists that are these

pub ended_in : (window : Range) (last : ℕ) (before after old new : List Range) → before ≡ old → new ≡ after → IsEndedIn before after window last → IsEndedIn old new window last
ended_in window last before after old new was is h = subst (λ xs. IsEndedIn xs new window last) was (subst (λ xs. IsEndedIn before xs window last) (sym is) h)

pub added_in : (range : Range) (before after old new : List Range) → before ≡ old → new ≡ after → IsAddedTo before after range → IsAddedTo old new range
added_in range before after old new was is h = subst (λ xs. IsAddedTo xs new range) was (subst (λ xs. IsAddedTo before xs range) (sym is) h)

pub tells_in : (k : ℕ) (class : WindowKind) (before after old new : List (ByKind (Option Range))) → before ≡ old → new ≡ after → TellsSame before after k class → TellsSame old new k class
tells_in k class before after old new was is h = subst (λ t. TellsSame t new k class) was (subst (λ t. TellsSame before t k class) (sym is) h)

-- A walk along a list that looks for something, or keeps something: what is left of it.
use Rattle.std.proofs.Common.{◌≡◌, ◌||◌, ◌&&◌, inl, inr, ℕ, zero, suc, ◌+◌, ◌<◌, ◌≤◌, List, [], ◌∷◌, ◌++◌, map, length, drop, cond, not, get_or, arith, ap, sym, ◌∙◌, refl, true, false, Bool, append_assoc, None}
use Rattle.std.specs.List.{list_any, filter}
use Rattle.std.proofs.lemmas.Bool.{cases_Bool}
use Rattle.std.proofs.lemmas.List.{at_drop_more, get_or-map, length-map, append-nil, map-append}
use Rattle.pci_spec.specs.Decoded.{Range}
use Rattle.pci_spec.specs.Window.{WindowKind}
use Rattle.settle_spec.specs.FirstPlace.{ranges_are_apart}
use Rattle.settle_spec.specs.Lists as lists
use Rattle.settle_spec.specs.Parts.{lies_within}
use Rattle.settle_spec.specs.Stands.{is_listed}
use Rattle.pci_base.specs.declared.range.Range.{Range as CodeRange}
use Rattle.pci_base.specs.Ranges.{decoded_range_of}
use Rattle.pci_base.specs.declared.range.RootRange.{RootRange}
use Rattle.pci_first_fit.specs.Lists.{root_range_value, root_range_holds}

-- what an index past the end is read as
abbrev pub no_range : RootRange
no_range = record { root = None; range = record { first = 0; last = 0 } }

module _ {X Y : Type 0} (v : X → Y) where
  pub left_next : (xs : List X) (n : ℕ) (d : X) → n < length xs → drop n (map v xs) ≡ v (get_or xs n d) ∷ drop (n + 1) (map v xs)
  left_next xs n d within =
      let long = length-map xs v in
      at_drop_more (λ ys. ys) (map v xs) n (v d) (omega (arith, within, long)) ∙ ap (λ y. y ∷ drop (n + 1) (map v xs)) (get_or-map v xs n d (v d) within)

  pub left_none : (xs : List X) (n : ℕ) → length xs ≤ n → drop n (map v xs) ≡ []
  left_none [] zero past = refl
  left_none [] (suc n) past = refl
  left_none (x ∷ xs) zero past = absurd (let no : ⊥ = omega (arith, past) in no)
  left_none (x ∷ xs) (suc n) past = left_none xs n (omega (arith, past))

  -- ---- looking for one

  module _ (p : Y → Bool) where
    pub any_next : (xs : List X) (n : ℕ) (d : X) (all : Bool) → n < length xs → list_any p (drop n (map v xs)) ≡ all → p (v (get_or xs n d)) ≡ false → list_any p (drop (n + 1) (map v xs)) ≡ all
    any_next xs n d all within is not = sym (ap (λ b. b || list_any p (drop (n + 1) (map v xs))) not) ∙ sym (ap (list_any p) (left_next xs n d within)) ∙ is

    pub any_here : (xs : List X) (n : ℕ) (d : X) (all : Bool) → n < length xs → list_any p (drop n (map v xs)) ≡ all → p (v (get_or xs n d)) ≡ true → true ≡ all
    any_here xs n d all within is here = sym (ap (λ b. b || list_any p (drop (n + 1) (map v xs))) here) ∙ sym (ap (list_any p) (left_next xs n d within)) ∙ is

    pub any_none : (xs : List X) (n : ℕ) (all : Bool) → length xs ≤ n → list_any p (drop n (map v xs)) ≡ all → false ≡ all
    any_none xs n all past is = sym (ap (list_any p) (left_none xs n past)) ∙ is

-- ---- looking for two

abbrev pub shares_range : Range → List lists.RootRange → Bool
shares_range r more = list_any (λ (q : lists.RootRange). not (ranges_are_apart r q.range)) more

module _ {X : Type 0} (v : X → lists.RootRange) where
  pub two_next : (xs : List X) (n : ℕ) (d : X) (all : Bool) → n < length xs → lists.share_address (drop n (map v xs)) ≡ all → shares_range (v (get_or xs n d)).range (drop (n + 1) (map v xs)) ≡ false
      → lists.share_address (drop (n + 1) (map v xs)) ≡ all
  two_next xs n d all within is not = sym (ap (λ b. b || lists.share_address (drop (n + 1) (map v xs))) not) ∙ sym (ap lists.share_address (left_next v xs n d within)) ∙ is

  pub two_here : (xs : List X) (n : ℕ) (d : X) (all : Bool) → n < length xs → lists.share_address (drop n (map v xs)) ≡ all → shares_range (v (get_or xs n d)).range (drop (n + 1) (map v xs)) ≡ true → true ≡ all
  two_here xs n d all within is here = sym (ap (λ b. b || lists.share_address (drop (n + 1) (map v xs))) here) ∙ sym (ap lists.share_address (left_next v xs n d within)) ∙ is

  pub two_none : (xs : List X) (n : ℕ) (all : Bool) → length xs ≤ n → lists.share_address (drop n (map v xs)) ≡ all → false ≡ all
  two_none xs n all past is = sym (ap lists.share_address (left_none v xs n past)) ∙ is

-- ---- keeping what passes a test

module _ {X Y Z : Type 0} (v : X → Y) (p : Y → Bool) (f : Y → Z) where
  abbrev pub kept : List Y → List Z
  kept ys = map f (filter p ys)

  pub kept_more : (xs : List X) (n : ℕ) (d : X) (done : List Z) (all : List Z) → n < length xs → done ++ kept (drop n (map v xs)) ≡ all → p (v (get_or xs n d)) ≡ true
      → (done ++ f (v (get_or xs n d)) ∷ []) ++ kept (drop (n + 1) (map v xs)) ≡ all
  kept_more xs n d done all within is here =
      append_assoc done (f (v (get_or xs n d)) ∷ []) (kept (drop (n + 1) (map v xs)))
      ∙ ap (λ b. done ++ map f (cond b (v (get_or xs n d) ∷ filter p (drop (n + 1) (map v xs))) (filter p (drop (n + 1) (map v xs))))) (sym here)
      ∙ ap (λ ys. done ++ kept ys) (sym (left_next v xs n d within)) ∙ is

  pub kept_less : (xs : List X) (n : ℕ) (d : X) (done : List Z) (all : List Z) → n < length xs → done ++ kept (drop n (map v xs)) ≡ all → p (v (get_or xs n d)) ≡ false
      → done ++ kept (drop (n + 1) (map v xs)) ≡ all
  kept_less xs n d done all within is not =
      ap (λ b. done ++ map f (cond b (v (get_or xs n d) ∷ filter p (drop (n + 1) (map v xs))) (filter p (drop (n + 1) (map v xs))))) (sym not)
      ∙ ap (λ ys. done ++ kept ys) (sym (left_next v xs n d within)) ∙ is

  pub kept_all : (xs : List X) (n : ℕ) (done : List Z) (all : List Z) → length xs ≤ n → done ++ kept (drop n (map v xs)) ≡ all → done ≡ all
  kept_all xs n done all past is = sym (append-nil done) ∙ ap (λ ys. done ++ kept ys) (sym (left_none v xs n past)) ∙ is

-- ---- the ranges that a root has

abbrev pub had : ℕ → List lists.RootRange → List Range
had bus list = map (λ (r : lists.RootRange). r.range) (filter (λ r. lists.is_had_by r.root bus) list)

-- one of the ranges that a root has holds another
pub any_had : (bus : ℕ) (r : Range) (list : List lists.RootRange) → list_any (root_range_holds bus r) list ≡ list_any (lies_within r) (had bus list)
any_had bus r [] = refl
any_had bus r (one ∷ list) = elim (cases_Bool (lists.is_had_by one.root bus)) [
  | inl has ↦ ap (λ b. (b && lies_within r one.range) || list_any (root_range_holds bus r) list) has
      ∙ ap (λ b. lies_within r one.range || b) (any_had bus r list)
      ∙ sym (ap (λ b. list_any (lies_within r) (map (λ (r : lists.RootRange). r.range) (cond b (one ∷ filter (λ (r : lists.RootRange). lists.is_had_by r.root bus) list) (filter (λ (r : lists.RootRange). lists.is_had_by r.root bus) list)))) has)
  | inr not ↦ ap (λ b. (b && lies_within r one.range) || list_any (root_range_holds bus r) list) not
      ∙ any_had bus r list
      ∙ sym (ap (λ b. list_any (lies_within r) (map (λ (r : lists.RootRange). r.range) (cond b (one ∷ filter (λ (r : lists.RootRange). lists.is_had_by r.root bus) list) (filter (λ (r : lists.RootRange). lists.is_had_by r.root bus) list)))) not)
]

-- of the list of a class
pub listed_is : (q : lists.Request) (l : lists.Lists) → q.lists ≡ l → (bus : ℕ) (r : Range) (c : WindowKind) → list_any (root_range_holds bus r) (lists.list_of l c) ≡ is_listed q bus r c
listed_is q l same bus r c =
    any_had bus r (lists.list_of l c) ∙ ap (λ x. list_any (lies_within r) (had bus (lists.list_of x c))) (sym same)

module _ (bus : ℕ) (list : List RootRange) (n : ℕ) (ranges : List CodeRange) where
  pub had_more : (d : RootRange) (new : List CodeRange) → n < length list → map decoded_range_of ranges ++ had bus (drop n (map root_range_value list)) ≡ had bus (map root_range_value list)
      → lists.is_had_by (get_or list n d).root bus ≡ true → new ≡ ranges ++ (get_or list n d).range ∷ []
      → map decoded_range_of new ++ had bus (drop (n + 1) (map root_range_value list)) ≡ had bus (map root_range_value list)
  had_more d new within is here put =
      ap (λ xs. map decoded_range_of xs ++ had bus (drop (n + 1) (map root_range_value list))) put
      ∙ ap (λ xs. xs ++ had bus (drop (n + 1) (map root_range_value list))) (map-append decoded_range_of ranges ((get_or list n d).range ∷ []))
      ∙ kept_more root_range_value (λ (r : lists.RootRange). lists.is_had_by r.root bus) (λ (r : lists.RootRange). r.range) list n d (map decoded_range_of ranges) (had bus (map root_range_value list)) within is here

  pub had_less : (d : RootRange) (new : List CodeRange) → n < length list → map decoded_range_of ranges ++ had bus (drop n (map root_range_value list)) ≡ had bus (map root_range_value list)
      → lists.is_had_by (get_or list n d).root bus ≡ false → new ≡ ranges
      → map decoded_range_of new ++ had bus (drop (n + 1) (map root_range_value list)) ≡ had bus (map root_range_value list)
  had_less d new within is not same =
      ap (λ xs. map decoded_range_of xs ++ had bus (drop (n + 1) (map root_range_value list))) same
      ∙ kept_less root_range_value (λ (r : lists.RootRange). lists.is_had_by r.root bus) (λ (r : lists.RootRange). r.range) list n d (map decoded_range_of ranges) (had bus (map root_range_value list)) within is not

  pub had_all : length list ≤ n → map decoded_range_of ranges ++ had bus (drop n (map root_range_value list)) ≡ had bus (map root_range_value list)
      → map decoded_range_of ranges ≡ had bus (map root_range_value list)
  had_all past is =
      kept_all root_range_value (λ (r : lists.RootRange). lists.is_had_by r.root bus) (λ (r : lists.RootRange). r.range) list n (map decoded_range_of ranges) (had bus (map root_range_value list)) past is

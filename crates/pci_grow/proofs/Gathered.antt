-- What is gathered of a row, part by part: addresses, and the least range that holds them.
use Rattle.std.proofs.Common.{◌≡◌, ℕ, zero, suc, ◌+◌, ◌-◌, ◌<◌, ◌≤◌, ◌⊎◌, inl, inr, min, max, List, [], ◌∷◌, ◌++◌, map, length, take, drop, get_or, Bool, true, false, cond, refl, arith, ap, sym, ◌∙◌, Option}
use Rattle.std.specs.Bool.{◌==◌}
use Rattle.std.specs.List.{AllWithin, filter, flat_map, fold, slice_range}
use Rattle.std.proofs.lemmas.Bool.{cases_lt, ne_eqb, eq-eqb}
use Rattle.std.proofs.lemmas.List.{take_more, take_all, append-nil, map-append}
use Rattle.std.proofs.lemmas.List.Concat.{flat_map-append}
use Rattle.std.proofs.lemmas.List.Sums.{fold_push}
use Rattle.pci_base.specs.declared.range.Range.{Range}
use Rattle.pci_first_fit.specs.declared.item.Item.{Item}
use Rattle.pci_first_fit.specs.Spots.{extent_range}
use Rattle.pci_kept.specs.declared.region.Region.{Region}
use Rattle.pci_grow.specs.Rows.{region_row_number}
use Rattle.pci_grow.specs.There.{listed, in_row, holding, placed_ranges}

-- ---- a part of a list that passes a test

module _ {X : Type 0} (test : X → Bool) where
  none_passes : (xs : List X) → ((k : ℕ) (d : X) → k < length xs → test (get_or xs k d) ≡ false) → filter test xs ≡ []
  none_passes [] off = refl
  none_passes (x ∷ xs) off =
      ap (λ b. cond b (x ∷ filter test xs) (filter test xs)) (off 0 x (omega arith))
      ∙ none_passes xs (λ k d less. off (suc k) d (omega (arith, less)))

  -- what passes are so many elements from an index on
  pub part_passes : (xs : List X) (first n : ℕ) → first + n ≤ length xs
      → ((k : ℕ) (d : X) → k < first → test (get_or xs k d) ≡ false)
      → ((k : ℕ) (d : X) → first ≤ k → k < first + n → test (get_or xs k d) ≡ true)
      → ((k : ℕ) (d : X) → first + n ≤ k → k < length xs → test (get_or xs k d) ≡ false)
      → take n (drop first xs) ≡ filter test xs
  part_passes [] first n within below between above =
      let none : n ≡ 0 = omega (arith, within) in
      ap (λ m. take m (drop first [])) none
  part_passes (x ∷ xs) zero zero within below between above =
      sym (none_passes (x ∷ xs) (λ k d less. above k d (omega arith) less))
  part_passes (x ∷ xs) zero (suc n) within below between above =
      ap (λ ys. x ∷ ys) (part_passes xs 0 n (omega (arith, within)) (λ k d less. absurd (let no : ⊥ = omega (arith, less) in no))
      (λ k d from less. between (suc k) d (omega arith) (omega (arith, less)))
      (λ k d from less. above (suc k) d (omega (arith, from)) (omega (arith, less))))
      ∙ sym (ap (λ b. cond b (x ∷ filter test xs) (filter test xs)) (between 0 x (omega arith) (omega arith)))
  part_passes (x ∷ xs) (suc first) n within below between above =
      part_passes xs first n (omega (arith, within)) (λ k d less. below (suc k) d (omega (arith, less)))
      (λ k d from less. between (suc k) d (omega (arith, from)) (omega (arith, less)))
      (λ k d from less. above (suc k) d (omega (arith, from)) (omega (arith, less)))
      ∙ sym (ap (λ b. cond b (x ∷ filter test xs) (filter test xs)) (below 0 x (omega arith)))

-- the parts of a row stand from the first one in it or a later one up to the first one behind it
pub row_is : (rows : List Region) (number first end : ℕ) → first ≤ end → end ≤ length rows
    → AllWithin (λ r. region_row_number r < number) rows 0 first → AllWithin (λ r. number ≤ region_row_number r) rows first (length rows)
    → AllWithin (λ r. region_row_number r < number + 1) rows 0 end → AllWithin (λ r. number + 1 ≤ region_row_number r) rows end (length rows)
    → slice_range rows first end ≡ in_row number rows
row_is rows number first end up within below from below_next from_next =
    part_passes (λ r. region_row_number r == number) rows first (end - first) (omega (arith, up, within))
    (λ k d less. ne_eqb (region_row_number (get_or rows k d)) number (λ same. let low = below k d (omega arith) less in let no : ⊥ = omega (arith, low, same) in no))
    (λ k d after less. eq-eqb (region_row_number (get_or rows k d)) number
    (let low = below_next k d (omega arith) (omega (arith, less, up)) in let high = from k d after (omega (arith, less, up, within)) in omega (arith, low, high)))
    (λ k d after less. ne_eqb (region_row_number (get_or rows k d)) number (λ same. let high = from_next k d (omega (arith, after, up)) less in let no : ⊥ = omega (arith, high, same) in no))

-- and it begins no later than the next one does
pub row_rises : (rows : List Region) (number first end : ℕ) → first ≤ length rows → end ≤ length rows
    → AllWithin (λ r. region_row_number r < number) rows 0 first → AllWithin (λ r. number + 1 ≤ region_row_number r) rows end (length rows) → first ≤ end
row_rises [] number first end bound within below from = omega (arith, bound)
row_rises (r ∷ rows) number first end bound within below from = by (cases_lt end first)
  where
    by : (end < first) ⊎ (first ≤ end) → first ≤ end
    by (inl less) =
        let low = below end r (omega arith) less in
        let high = from end r (omega arith) (omega (arith, less, bound)) in
        absurd (let no : ⊥ = omega (arith, low, high) in no)
    by (inr le) = le

-- ---- part by part

pub gathered_more : {X : Type 0} (told : X → Option Range) (row : List X) (i : ℕ) (r d : X) → i < length row → r ≡ get_or row i d → (o : Option Range) → o ≡ told r
    → flat_map (λ x. listed (told x)) (take (i + 1) row) ≡ flat_map (λ x. listed (told x)) (take i row) ++ listed o
gathered_more told row i r d within is o told_is =
    ap (flat_map (λ x. listed (told x))) (take_more row i d within)
    ∙ flat_map-append (λ x. listed (told x)) (take i row) (get_or row i d ∷ [])
    ∙ ap (λ ys. flat_map (λ x. listed (told x)) (take i row) ++ ys)
    (append-nil (listed (told (get_or row i d))) ∙ ap (λ x. listed (told x)) (sym is) ∙ ap listed (sym told_is))

pub gathered_all : {X : Type 0} (told : X → Option Range) (row : List X) (i : ℕ) → length row ≤ i → flat_map (λ x. listed (told x)) (take i row) ≡ flat_map (λ x. listed (told x)) row
gathered_all told row i past = ap (flat_map (λ x. listed (told x))) (take_all i row past)

-- a range that holds some holds one more
pub holding_more : (r : Range) (others : List Range) (t : Range)
    → holding r (others ++ t ∷ []) ≡ record { first = min (holding r others).first t.first; last = max (holding r others).last t.last }
holding_more r others t =
    ap (λ n. record { first = n; last = fold max r.last (map (λ (x : Range). x.last) (others ++ t ∷ [])) })
    (ap (fold min r.first) (map-append (λ (x : Range). x.first) others (t ∷ [])) ∙ fold_push min r.first (map (λ (x : Range). x.first) others) t.first)
    ∙ ap (λ n. record { first = min (holding r others).first t.first; last = n })
    (ap (fold max r.last) (map-append (λ (x : Range). x.last) others (t ∷ [])) ∙ fold_push max r.last (map (λ (x : Range). x.last) others) t.last)

-- ---- items at their places

pub ranges_more : (items : List Item) (places : List ℕ) (n : ℕ) (i : Item) → length places ≡ length items → n < length items
    → placed_ranges (take (n + 1) items) (take (n + 1) places) ≡ placed_ranges (take n items) (take n places) ++ extent_range (get_or items n i).extent (get_or places n 0) ∷ []
ranges_more [] places n i count less = absurd (let no : ⊥ = omega (arith, less) in no)
ranges_more (x ∷ items) [] n i count less = absurd (let no : ⊥ = omega (arith, count) in no)
ranges_more (x ∷ items) (a ∷ places) zero i count less = refl
ranges_more (x ∷ items) (a ∷ places) (suc n) i count less =
    let next : suc n + 1 ≡ suc (n + 1) = omega arith in
    ap (λ m. placed_ranges (take m (x ∷ items)) (take m (a ∷ places))) next
    ∙ ap (λ rs. extent_range x.extent a ∷ rs) (ranges_more items places n i (omega (arith, count)) (omega (arith, less)))

-- what holds another range and so many items holds one item more
pub places_more : (held : Range) (items : List Item) (places : List ℕ) (n : ℕ) (i : Item) → length places ≡ length items → n < length items
    → (all : Range) → all ≡ holding held (placed_ranges (take n items) (take n places))
    → (new : Range) → new.first ≡ min all.first (get_or places n 0) → new.last ≡ max all.last (get_or places n 0 + ((get_or items n i).extent.size - 1))
    → new ≡ holding held (placed_ranges (take (n + 1) items) (take (n + 1) places))
places_more held items places n i count less all is new first last =
    let t = extent_range (get_or items n i).extent (get_or places n 0) in
    let so_far = placed_ranges (take n items) (take n places) in
    ap (λ a. record { first = a; last = new.last }) (first ∙ ap (λ (r : Range). min r.first t.first) is)
    ∙ ap (λ b. record { first = min (holding held so_far).first t.first; last = b }) (last ∙ ap (λ (r : Range). max r.last t.last) is)
    ∙ sym (holding_more held so_far t)
    ∙ sym (ap (holding held) (ranges_more items places n i count less))

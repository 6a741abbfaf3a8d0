-- Walks along the capabilities list: how long they get, and where they lead.
use Rattle.std.proofs.Common.{◌≡◌, ◌≢◌, ℕ, zero, suc, ◌+◌, ◌-◌, ◌*◌, ◌/◌, ◌%◌, ◌<◌, ◌≤◌, List, map, length, get_or, refl, true, false, inl, inr, arith, sym, ◌∙◌, ap, subst, lit≤}
use Rattle.std.specs.Bool.{nat_eq}
use Rattle.std.specs.List.{IsDistinct, list_any, range_with_len}
use Rattle.std.proofs.Math.Dec.{eqb}
use Rattle.std.proofs.lemmas.Bool.{cases_Bool, cases_lt, or_cases, eqb-true, ne_eqb, both_ways}
use Rattle.std.proofs.lemmas.List.FromFn.{length-map-range_with_len, get_or-map-range_with_len}
use Rattle.std.proofs.lemmas.Map.Keys.{IsDistinct-from_apart}
use Rattle.std.proofs.lemmas.Map.Steps.{length-le_from_distinct_below}
use Rattle.pci_spec.specs.Number.{has_bit, IsImage}
use Rattle.pci_spec.specs.Header.{status}
use Rattle.pci_spec.specs.Capability.{pointer, pointer_at, IsChain, HasChain, HasLowPlace, ComesTwiceTo, HasCutBody, body_length}

-- ---- different numbers below a bound

-- a number that is found among the values of a row is one of them
any_of_row : (f : ℕ → ℕ) (q count low : ℕ) → list_any (eqb q) (map f (range_with_len low count)) ≡ true → (i : ℕ) × (i < low + count) × (q ≡ f i)
any_of_row f q zero low h = absurd (let no : ⊥ = both_ways false refl h in no)
any_of_row f q (suc count) low h = elim (or_cases (eqb q (f low)) _ h) [
  | inl here ↦ (low, omega arith, eqb-true q (f low) here)
  | inr later ↦ let found = any_of_row f q count (low + 1) later in (found.0, omega (arith, found.1), found.2)
]

-- as many numbers as are all different, are all below their count or more
pub count-of_different : (f : ℕ → ℕ) (count bound : ℕ) → ((i : ℕ) → i < count → f i < bound)
    → ((i j : ℕ) → i < j → j < count → f i ≢ f j) → count ≤ bound
count-of_different f count bound below differ =
    let xs = map f (range_with_len 0 count) in
    let size : length xs ≡ count = length-map-range_with_len f 0 count in
    let distinct : IsDistinct eqb xs = IsDistinct-from_apart eqb xs (λ i j d before within.
    let near : j < count = omega (arith, size, within) in
    let here = get_or-map-range_with_len f 0 count i i d (omega arith) (omega arith) in
    let there = get_or-map-range_with_len f 0 count j j d near (omega arith) in
    rw (here, there) (ne_eqb (f i) (f j) (differ i j before near))) in
    let fits = length-le_from_distinct_below xs bound distinct (λ q h.
    let found = any_of_row f q count 0 h in
    let less = below found.0 (omega (arith, found.1)) in
    omega (arith, less, found.2)) in
    omega (arith, size, fits)

-- ---- places

-- a pointer is a multiple of four below 256
pub pointer_at-quarter : (image : List ℕ) (offset : ℕ) → IsImage image → (pointer_at image offset / 4 * 4 ≡ pointer_at image offset) × (pointer_at image offset ≤ 0xfc)
pointer_at-quarter image offset is = let b = is.bytes offset in (omega arith, omega (arith, b))

-- so are all pointers of a walk
pub pointer-quarter : (image : List ℕ) (n : ℕ) → IsImage image → (pointer image n / 4 * 4 ≡ pointer image n) × (pointer image n ≤ 0xfc)
pointer-quarter image zero is = elim (cases_Bool (has_bit (status image) 4)) [
  | inl there ↦ rw there (pointer_at-quarter image 0x34 is)
  | inr absent ↦ rw absent (refl, lit≤ tt)
]
pointer-quarter image (suc n) is = elim (cases_Bool (nat_eq (pointer image n) 0)) [
  | inl ended ↦ rw ended (refl, lit≤ tt)
  | inr on ↦ rw on (pointer_at-quarter image (pointer image n + 1) is)
]

-- a pointer of any image is a multiple of four
quarter : (image : List ℕ) (n : ℕ) → pointer image n / 4 * 4 ≡ pointer image n
quarter image zero = elim (cases_Bool (has_bit (status image) 4)) [ inl there ↦ rw there (omega arith) | inr absent ↦ rw absent refl ]
quarter image (suc n) = elim (cases_Bool (nat_eq (pointer image n) 0)) [ inl ended ↦ rw ended refl | inr on ↦ rw on (omega arith) ]

-- a place is a multiple of four
pub pointer-aligned : (image : List ℕ) (n : ℕ) → pointer image n % 4 ≡ 0
pointer-aligned image n = let place = quarter image n in omega (arith, place)

-- places from 40h to FCh that are all different are at most 48
pub places-at_most_48 : (image : List ℕ) (count : ℕ) → ((n : ℕ) → n < count → (0x40 ≤ pointer image n) × (pointer image n ≤ 0xfc))
    → ((m n : ℕ) → m < n → n < count → pointer image m ≢ pointer image n) → count ≤ 48
places-at_most_48 image count range differ =
    count-of_different (λ n. pointer image n / 4 - 16) count 48
    (λ n within. let place = quarter image n in let at = range n within in omega (arith, place, at.0, at.1))
    (λ m n before within same.
    let first = quarter image m in
    let second = quarter image n in
    let at = range m (omega arith) in
    let at' = range n within in
    differ m n before within (omega (arith, same, first, second, at.0, at'.0)))

-- a walk that meets no place twice and stays at or above 40h has at most 48 places
pub walk-at_most_48 : (image : List ℕ) (count : ℕ) → IsImage image → ((n : ℕ) → n < count → 0x40 ≤ pointer image n)
    → ((m n : ℕ) → m < n → n < count → pointer image m ≢ pointer image n) → count ≤ 48
walk-at_most_48 image count is above differ =
    places-at_most_48 image count (λ n within. (above n within, (pointer-quarter image n is).1)) differ

-- the places of a chain are 40h to FCh, and at most 48
pub chain-range : (image places : List ℕ) → IsChain image places → (n : ℕ) → n < length places → (0x40 ≤ get_or places n 0) × (get_or places n 0 ≤ 0xfc)
chain-range image places chain n within =
    let at = chain.in_range n within in
    let same = chain.each n within in
    (omega (arith, at.0, same), omega (arith, at.1, same))

-- a chain has at most 48 places
pub chain-at_most_48 : (image places : List ℕ) → IsChain image places → length places ≤ 48
chain-at_most_48 image places chain = places-at_most_48 image (length places) chain.in_range chain.distinct

-- ---- a chain has no fault

-- a walk that has ended stays at its end
ended_past : (image : List ℕ) (n more : ℕ) → pointer image n ≡ 0 → pointer image (more + n) ≡ 0
ended_past image n zero h = let e : 0 + n ≡ n = omega arith in ap (pointer image) e ∙ h
ended_past image n (suc more) h =
    let before = ended_past image n more h in
    let e : suc more + n ≡ suc (more + n) = omega arith in
    ap (pointer image) e ∙ rw before refl

-- after its end a walk stays there
pub pointer-ended : (image : List ℕ) (m n : ℕ) → m ≤ n → pointer image m ≡ 0 → pointer image n ≡ 0
pointer-ended image m n order h = let e : n - m + m ≡ n = omega arith in subst (λ k. pointer image k ≡ 0) e (ended_past image m (n - m) h)

-- what the walk of a chain comes to is one of its places
come_within : (image places : List ℕ) → IsChain image places → (n place : ℕ) → pointer image n ≡ place → place ≢ 0 → n < length places
come_within image places chain n place at nonzero = elim (cases_lt n (length places)) [
  | inl within ↦ within
  | inr past ↦ absurd (nonzero (sym at ∙ pointer-ended image (length places) n past chain.end))
]

-- a chain comes to no place inside the header
pub chain-no_low_place : (image : List ℕ) (place : ℕ) → HasChain image → HasLowPlace image place → ⊥
chain-no_low_place image place (places, chain) ((n, at, nonzero), low) =
    let above = (chain.in_range n (come_within image places chain n place at nonzero)).0 in
    omega (arith, above, at, low)

-- a chain comes to no place twice
pub chain-no_loop : (image : List ℕ) (place : ℕ) → HasChain image → ComesTwiceTo image place → ⊥
chain-no_loop image place (places, chain) (m, n, before, first, second, nonzero) =
    chain.distinct m n before (come_within image places chain n place second nonzero) (first ∙ sym second)

-- no body of a chain passes the end
pub chain-no_cut_body : (image : List ℕ) (place : ℕ) → HasChain image → HasCutBody image place → ⊥
chain-no_cut_body image place (places, chain) ((n, at, nonzero), cut) =
    let fits = chain.bodies n (come_within image places chain n place at nonzero) in
    let same = ap (body_length image) at in
    omega (arith, fits, at, cut, same)

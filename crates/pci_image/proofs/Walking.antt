-- A walk along the capabilities list, place by place.
use Rattle.std.proofs.Common.{◌≡◌, ◌≢◌, ℕ, zero, suc, ◌+◌, ◌/◌, ◌%◌, ◌<◌, ◌≤◌, ◌||◌, List, [], ◌∷◌, ◌++◌, length, get_or, length-append, refl, true, false, inl, inr, arith, sym, ◌∙◌, ap, subst, add-one}
use Rattle.std.specs.Bool.{nat_eq}
use Rattle.std.specs.List.{list_any}
use Rattle.std.proofs.Math.Dec.{eqb}
use Rattle.std.proofs.lemmas.Bool.{cases_lt, or_cases, eqb-true, eqb-false, ne_eqb, both_ways, or_parts}
use Rattle.std.proofs.lemmas.List.{get_or_append_left}
use Rattle.std.proofs.lemmas.List.Folds.{list_any-append}
use Rattle.std.proofs.Math.Bool.{or-false}
use Rattle.std.proofs.Math.Seq.{get_or-append_seam}
use Rattle.pci_spec.specs.Number.{has_bit}
use Rattle.pci_spec.specs.Capability.{pointer, pointer_at, body_length, IsChain, ComesTwiceTo}
use Rattle.pci_image.specs.Caps.{IsChainUpTo}
use Rattle.pci_spec.proofs.Walks.{places-at_most_48, pointer-aligned}

-- the walk came along these places, and stands at the next one
pub record IsWalk (image places : List ℕ) (place : ℕ) : Type 0 where
  pub each : (n : ℕ) → n < length places → get_or places n 0 ≡ pointer image n
  pub here : place ≡ pointer image (length places)
  pub in_range : (n : ℕ) → n < length places → (0x40 ≤ pointer image n) × (pointer image n ≤ 0xfc)
  pub distinct : (m n : ℕ) → m < n → n < length places → pointer image m ≢ pointer image n
  pub bodies : (n : ℕ) → n < length places → pointer image n + body_length image (pointer image n) ≤ 256

-- what holds of the places so far and of the next one holds of all of them
below_next : (P : ℕ → Type 0) (count : ℕ) → ((n : ℕ) → n < count → P n) → P count → (n : ℕ) → n < count + 1 → P n
below_next P count before here n within = elim (cases_lt n count) [
  | inl below ↦ before n below
  | inr at ↦ let e : count ≡ n = omega arith in subst P e here
]

-- the walk goes on to a place that it has not come to
pub walk_step : (image places : List ℕ) (place next : ℕ) → IsWalk image places place → 0x40 ≤ place → place ≤ 0xfc
    → ((n : ℕ) → n < length places → get_or places n 0 ≢ place) → place + body_length image place ≤ 256
    → next ≡ pointer_at image (place + 1) → IsWalk image (places ++ place ∷ []) next
walk_step image places place next walk low high fresh fits is =
    let longer : length (places ++ place ∷ []) ≡ length places + 1 = length-append places (place ∷ []) in
    let on : nat_eq (pointer image (length places)) 0 ≡ false = ne_eqb _ 0 (λ none. let here = walk.here in omega (arith, here, none, low)) in
    let following : pointer image (length places + 1) ≡ pointer_at image (pointer image (length places) + 1) = ap (pointer image) (add-one (length places)) ∙ rw on refl in
    record {
      each = λ n within.
          below_next (λ j. get_or (places ++ place ∷ []) j 0 ≡ pointer image j) (length places)
          (λ j below. get_or_append_left places (place ∷ []) 0 j below ∙ walk.each j below)
          (get_or-append_seam places place [] 0 ∙ walk.here) n (omega (arith, longer, within));
      here = is ∙ ap (λ p. pointer_at image (p + 1)) walk.here ∙ sym following ∙ ap (pointer image) (sym longer);
      in_range = λ n within.
          below_next (λ j. (0x40 ≤ pointer image j) × (pointer image j ≤ 0xfc)) (length places) walk.in_range
          (let here = walk.here in (omega (arith, here, low), omega (arith, here, high))) n (omega (arith, longer, within));
      distinct = λ m n before within. elim (cases_lt n (length places)) [
        | inl below ↦ walk.distinct m n before below
        | inr at ↦
            let e : length places ≡ n = omega (arith, longer, within) in
            let earlier : m < length places = omega arith in
            (λ same. fresh m earlier (walk.each m earlier ∙ same ∙ ap (pointer image) (sym e) ∙ sym walk.here))
      ];
      bodies = λ n within.
          below_next (λ j. pointer image j + body_length image (pointer image j) ≤ 256) (length places) walk.bodies
          (subst (λ p. p + body_length image p ≤ 256) walk.here fits) n (omega (arith, longer, within));
    }

-- a walk that has ended is a chain
pub walk_end : (image places : List ℕ) (place : ℕ) → IsWalk image places place → place ≡ 0 → IsChain image places
walk_end image places place walk none = record {
  each = walk.each;
  end = sym walk.here ∙ none;
  in_range = walk.in_range;
  distinct = walk.distinct;
  bodies = walk.bodies;
}

-- a walk has at most 48 places
pub walk-at_most_48 : (image places : List ℕ) (place : ℕ) → IsWalk image places place → length places ≤ 48
walk-at_most_48 image places place walk = places-at_most_48 image (length places) walk.in_range walk.distinct

-- ---- places among others

-- a set has the places of a list, each by its number among the multiples of four
abbrev pub HasPlaces : ℕ → List ℕ → Type 0
HasPlaces bits places = (k : ℕ) → has_bit bits k ≡ list_any (λ p. nat_eq (p / 4) k) places

-- one more place
pub places-more : (bits more place : ℕ) (places : List ℕ) → HasPlaces bits places
    → ((k : ℕ) → has_bit more k ≡ (has_bit bits k || nat_eq (place / 4) k)) → HasPlaces more (places ++ place ∷ [])
places-more bits more place places set added k =
    added k ∙ ap (λ b. b || nat_eq (place / 4) k) (set k) ∙ ap (λ b. list_any (λ p. nat_eq (p / 4) k) places || b) (sym (or-false (nat_eq (place / 4) k)))
    ∙ sym (list_any-append (λ p. nat_eq (p / 4) k) places (place ∷ []))

-- a place whose number is not found is not among them
place-fresh : (places : List ℕ) (place : ℕ) → list_any (λ p. nat_eq (p / 4) (place / 4)) places ≡ false → (n : ℕ) → n < length places → get_or places n 0 ≢ place
place-fresh [] place h n within = absurd (let no : ⊥ = omega (arith, within) in no)
place-fresh (p ∷ places) place h zero within = λ same. eqb-false _ _ (or_parts (nat_eq (p / 4) (place / 4)) _ h).0 (ap (λ q. q / 4) same)
place-fresh (p ∷ places) place h (suc n) within = place-fresh places place (or_parts (nat_eq (p / 4) (place / 4)) _ h).1 n (omega (arith, within))

-- a number that is found is that of one of them
place-found : (places : List ℕ) (place : ℕ) → list_any (λ p. nat_eq (p / 4) (place / 4)) places ≡ true → (n : ℕ) × (n < length places) × (get_or places n 0 / 4 ≡ place / 4)
place-found [] place h = absurd (let no : ⊥ = both_ways false refl h in no)
place-found (p ∷ places) place h = elim (or_cases (nat_eq (p / 4) (place / 4)) _ h) [
  | inl here ↦ (0, omega arith, eqb-true _ _ here)
  | inr later ↦ let found = place-found places place later in (suc found.0, omega (arith, found.1), found.2)
]

-- ---- faults

-- a place is a multiple of four
pub walk-aligned : (image places : List ℕ) (place : ℕ) → IsWalk image places place → place % 4 ≡ 0
walk-aligned image places place walk = let q = pointer-aligned image (length places) in let here = walk.here in omega (arith, q, here)

-- it came to no place that a chain can't have
pub walk-up_to : (image places : List ℕ) (place : ℕ) → IsWalk image places place → IsChainUpTo image (length places)
walk-up_to image places place walk = record { in_range = walk.in_range; distinct = walk.distinct; bodies = walk.bodies }

-- to one that is found among its places it came at a step before
pub walk-before : (image places : List ℕ) (place bits : ℕ) → IsWalk image places place → HasPlaces bits places → has_bit bits (place / 4) ≡ true
    → (m : ℕ) × (m < length places) × (pointer image m ≡ place)
walk-before image places place bits walk set h =
    let found = place-found places place (sym (set (place / 4)) ∙ h) in
    let met = walk.each found.0 found.1 in
    let same = found.2 in
    let before = pointer-aligned image found.0 in
    let here = walk-aligned image places place walk in
    (found.0, found.1, omega (arith, met, same, before, here))

-- so it comes to it twice
pub walk-twice : (image places : List ℕ) (place bits : ℕ) → IsWalk image places place → HasPlaces bits places → place ≢ 0 → has_bit bits (place / 4) ≡ true → ComesTwiceTo image place
walk-twice image places place bits walk set nonzero h =
    let before = walk-before image places place bits walk set h in
    (before.0, length places, before.1, before.2, sym walk.here, nonzero)

-- to one that is not found among them it didn't
pub walk-not_before : (image places : List ℕ) (place bits : ℕ) → IsWalk image places place → HasPlaces bits places → has_bit bits (place / 4) ≡ false
    → (k : ℕ) → k < length places → pointer image k ≢ place
walk-not_before image places place bits walk set h k within same = place-fresh places place (sym (set (place / 4)) ∙ h) k within (walk.each k within ∙ same)

-- ---- the loop's step

-- one more place
pub walk_on : (image places : List ℕ) (place next bits : ℕ) → IsWalk image places place → HasPlaces bits places → 0x40 ≤ place → place < 256 → has_bit bits (place / 4) ≡ false
    → place + body_length image place ≤ 256 → next ≡ pointer_at image (place + 1) → IsWalk image (places ++ place ∷ []) next
walk_on image places place next bits walk set low small fresh fits following =
    let aligned = walk-aligned image places place walk in
    walk_step image places place next walk low (omega (arith, small, aligned)) (place-fresh places place (sym (set (place / 4)) ∙ fresh)) fits following

-- there is room for one more place
pub walk-room : (image places : List ℕ) (place bits : ℕ) → IsWalk image places place → HasPlaces bits places → 0x40 ≤ place → place < 256 → has_bit bits (place / 4) ≡ false
    → place + body_length image place ≤ 256 → length places < 48
walk-room image places place bits walk set low small fresh fits =
    let next = walk_on image places place _ bits walk set low small fresh fits refl in
    let most = walk-at_most_48 image (places ++ place ∷ []) _ next in
    let longer = length-append places (place ∷ []) in
    omega (arith, most, longer)

-- ---- places of a chain

-- each is a multiple of four
pub chain-aligned : (image places : List ℕ) (n : ℕ) → IsChain image places → n < length places → get_or places n 0 % 4 ≡ 0
chain-aligned image places n chain within = let q = pointer-aligned image n in let here = chain.each n within in omega (arith, q, here)

-- and the body of the capability there ends within the image
pub chain-fits : (image places : List ℕ) (n : ℕ) → IsChain image places → n < length places → get_or places n 0 + body_length image (get_or places n 0) ≤ 256
chain-fits image places n chain within = subst (λ p. p + body_length image p ≤ 256) (sym (chain.each n within)) (chain.bodies n within)

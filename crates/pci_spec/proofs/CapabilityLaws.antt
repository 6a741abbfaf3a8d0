-- The places of a walk: aligned, at most 48, and the same for each chain of an image.
use Rattle.std.proofs.Common.{◌≡◌, ℕ, refl, Bool, false, ◌*◌, zero, suc, ◌+◌, ◌-◌, ◌/◌, ◌%◌, ◌<◌, ◌≤◌, inl, inr, List, true, arith, sym, ◌∙◌, ap, length, get_or, map, add-zero}
use Rattle.std.specs.Int.{bit_at}
use Rattle.std.specs.Prelude.{if◌then◌else◌, ◌==◌}
use Rattle.std.specs.Bool.{nat_eq}
use Rattle.std.specs.List.{range_with_len, list_any, IsDistinct}
use Rattle.std.proofs.lemmas.Bool.{cases_lt, cond_both, cond-true, cond-false, eqb-true, eq-eqb, ne_eqb}
use Rattle.std.proofs.lemmas.List.{ext_get_or}
use Rattle.std.proofs.lemmas.List.Folds.{Any-from_list_any}
use Rattle.std.proofs.lemmas.List.FromFn.{length-map-range_with_len, get_or-map-range_with_len}
use Rattle.std.proofs.lemmas.Map.Keys.{IsDistinct-from_apart}
use Rattle.std.proofs.lemmas.Map.Steps.{length-le_from_distinct_below}
use Rattle.pci_spec.specs.Number.{has_bit, IsImage}
use Rattle.pci_spec.specs.Header.{status}
use Rattle.pci_spec.specs.Capability.{pointer, pointer_at, IsChain}
use Rattle.pci_spec.proofs.Bits.{digit, digit_of_bit}
use Rattle.pci_spec.specs.CapabilityLaws.{MsiLengthByBits, WalkStartsAtPointer, NoListHasNoWalk, WalkGoesOnByNextByte, PointerIsAligned, WalkStaysEnded, WalkHasAtMost48Places, ChainHasAtMost48Places, ChainPlacesAreAligned, ImageHasOneChain}

abbrev pub IsAligned : ℕ → Type 0
IsAligned place = (place ≤ 0xfc) × (place % 4 ≡ 0)

pointer_at-aligned : (image : List ℕ) (offset : ℕ) → IsImage image → IsAligned (pointer_at image offset)
pointer_at-aligned image offset h = let b = h.bytes offset in (omega (arith, b), omega arith)

zero_is_aligned : IsAligned 0
zero_is_aligned = (omega arith, omega arith)

pub pointer_is_aligned : PointerIsAligned
pointer_is_aligned image zero h = cond_both (has_bit (status image) 4) (pointer_at image 0x34) 0 IsAligned (λ _. pointer_at-aligned image 0x34 h) (λ _. zero_is_aligned)
pointer_is_aligned image (suc n) h = cond_both (pointer image n == 0) 0 (pointer_at image (pointer image n + 1)) IsAligned (λ _. zero_is_aligned) (λ _. pointer_at-aligned image (pointer image n + 1) h)

pub walk_stays_ended : WalkStaysEnded
walk_stays_ended image n zero h = ap (pointer image) (add-zero n) ∙ h
walk_stays_ended image n (suc more) h =
    let e : n + suc more ≡ suc (n + more) = omega arith in
    ap (pointer image) e ∙ cond-true (pointer image (n + more) == 0) 0 (pointer_at image (pointer image (n + more) + 1)) (eq-eqb (pointer image (n + more)) 0 (walk_stays_ended image n more h))

pub walk_starts_at_pointer : WalkStartsAtPointer
walk_starts_at_pointer image list = cond-true (has_bit (status image) 4) (pointer_at image 0x34) 0 list

pub no_list_has_no_walk : NoListHasNoWalk
no_list_has_no_walk image n none =
    let start : pointer image 0 ≡ 0 = cond-false (has_bit (status image) 4) (pointer_at image 0x34) 0 none in
    let e : n ≡ 0 + n = omega arith in
    ap (pointer image) e ∙ walk_stays_ended image 0 n start

pub walk_goes_on_by_next_byte : WalkGoesOnByNextByte
walk_goes_on_by_next_byte image n some =
    let e : n + 1 ≡ suc n = omega arith in
    ap (pointer image) e ∙ cond-false (pointer image n == 0) 0 (pointer_at image (pointer image n + 1)) (ne_eqb (pointer image n) 0 some)

-- ---- 48 places

-- the places behind the header by their number, from 0 to 47
abbrev pub place_number : List ℕ → ℕ → ℕ
place_number image i = pointer image i / 4 - 16

abbrev pub place_numbers : List ℕ → ℕ → List ℕ
place_numbers image n = map (place_number image) (range_with_len 0 n)

number_at_place : (image : List ℕ) (n i d : ℕ) → i < n → get_or (place_numbers image n) i d ≡ place_number image i
number_at_place image n i d below = get_or-map-range_with_len (place_number image) 0 n i i d below (omega arith)

pub walk_has_at_most_48_places : WalkHasAtMost48Places
walk_has_at_most_48_places image n h behind distinct =
    let numbers = place_numbers image n in
    let many : length numbers ≡ n = length-map-range_with_len (place_number image) 0 n in
    let apart : IsDistinct nat_eq numbers = IsDistinct-from_apart nat_eq numbers (λ i j d order below. ne_eqb _ _ (λ same.
    let in_walk : j < n = omega (arith, below, many) in
    let a = number_at_place image n i d (omega arith) in
    let b = number_at_place image n j d in_walk in
    let low = behind i (omega arith) in
    let high = behind j in_walk in
    let left = pointer_is_aligned image i h in
    let right = pointer_is_aligned image j h in
    distinct i j order in_walk (omega (arith, same, a, b, low, high, left.1, right.1)))) in
    let small : (q : ℕ) → list_any (nat_eq q) numbers ≡ true → q < 48 = λ q found.
    let any = Any-from_list_any (nat_eq q) numbers found in
    let in_walk : any.0 < n = (let b = any.2 in omega (arith, b, many)) in
    let a = number_at_place image n any.0 any.1 in_walk in
    let e = eqb-true q any.1 any.4 in
    let at = any.3 in
    let top = pointer_is_aligned image any.0 h in
    omega (arith, a, e, at, top.0) in
    let bound = length-le_from_distinct_below numbers 48 apart small in
    omega (arith, many, bound)

pub chain_has_at_most_48_places : ChainHasAtMost48Places
chain_has_at_most_48_places image places h chain = walk_has_at_most_48_places image (length places) h (λ i below. (chain.in_range i below).0) chain.distinct

pub chain_places_are_aligned : ChainPlacesAreAligned
chain_places_are_aligned image places k h chain below =
    let e = chain.each k below in
    let range = chain.in_range k below in
    let aligned = pointer_is_aligned image k h in
    (omega (arith, e, range.0), omega (arith, e, range.1), omega (arith, e, aligned.1))

-- ---- one chain

not_shorter : (image places others : List ℕ) → IsChain image places → IsChain image others → length places < length others → ⊥
not_shorter image places others chain other below =
    let low = (other.in_range (length places) below).0 in
    let end = chain.end in
    omega (arith, low, end)

pub image_has_one_chain : ImageHasOneChain
image_has_one_chain image places others chain other =
    let same : length places ≡ length others = elim (cases_lt (length places) (length others)) [
      | inl below ↦ absurd (not_shorter image places others chain other below)
      | inr rest ↦ elim (cases_lt (length others) (length places)) [
        | inl below ↦ absurd (not_shorter image others places other chain below)
        | inr least ↦ omega arith
      ]
    ] in
    ext_get_or 0 places others same (λ i below. chain.each i below ∙ sym (other.each i (omega (arith, below, same))))

-- ---- MSI

length_by : (wide masked : Bool) → (if masked then (if wide then 24 else 20) else (if wide then 14 else 10)) ≡ 10 + 4 * digit wide + 10 * digit masked
length_by true true = refl
length_by true false = refl
length_by false true = refl
length_by false false = refl

pub msi_length_by_bits : MsiLengthByBits
msi_length_by_bits control =
    let wide = digit_of_bit control 7 in
    let masked = digit_of_bit control 8 in
    length_by (has_bit control 7) (has_bit control 8) ∙ ap (λ n. 10 + 4 * n + 10 * digit (has_bit control 8)) wide ∙ ap (λ n. 10 + 4 * bit_at control 7 + 10 * n) masked

-- The capabilities of a list, and their places.
use Rattle.std.proofs.lemmas.List.{get_or-map, length-map}
use Rattle.std.proofs.lemmas.List.Sums.{take_while-cons}
use Rattle.std.proofs.Common.{get_or, add-zero, zero-add, ◌≡◌, ◌≢◌, ℕ, zero, suc, ◌+◌, ◌%◌, ◌<◌, ◌≤◌, ◌==◌, true, false, not, List, [], ◌∷◌, length, map, slice_index, refl, sym, ◌∙◌, ap, subst, arith, inl, inr}
use Rattle.std.specs.List.{All, take_while, range_with_len}
use Rattle.std.proofs.lemmas.Bool.{cases_Bool, ne_eqb, eq-eqb}
use Rattle.pci_spec.specs.Number.{has_bit}
use Rattle.pci_spec.specs.Header.{status}
use Rattle.pci_spec.specs.Capability.{pointer, body_length, IsChain}
use Rattle.pci_spec.specs.Listing.{places_of}
use Rattle.pci_image.specs.Caps.{place_of, IsCapIn}
use Rattle.pci_image.specs.declared.capability.Cap.{Cap}
use Rattle.pci_listing.specs.CapabilityLines.{IsListed}

-- a pointer is a multiple of four
pointer-aligned : (image : List ℕ) (n : ℕ) → pointer image n % 4 ≡ 0
pointer-aligned image zero = elim (cases_Bool (has_bit (status image) 4)) [
  | inl there ↦ rw there (omega arith)
  | inr absent ↦ rw absent refl
]
pointer-aligned image (suc n) = elim (cases_Bool (pointer image n == 0)) [
  | inl ended ↦ rw ended refl
  | inr on ↦ rw on (omega arith)
]

-- a place that all of a body fits behind
record IsFine (image : List ℕ) (place : ℕ) : Type 0 where
  aligned : place % 4 ≡ 0
  fits : place + body_length image place ≤ 256

fine_places : (image places : List ℕ) → IsChain image places → (n : ℕ) → n < length places → IsFine image (slice_index places n)
fine_places image places chain n within =
    let P : ℕ → Type 0 = IsFine image in
    subst P (sym (chain.each n within)) (record { aligned = pointer-aligned image n; fits = chain.bodies n within })

-- the capabilities of a list stand in the image
pub listed : (image : List ℕ) (caps : List Cap) → IsChain image (map place_of caps) → All (IsCapIn image) caps → All (IsListed image) caps
listed image caps chain each k d within =
    let cap : Cap = get_or caps k d in
    let size : length (map place_of caps) ≡ length caps = length-map caps place_of in
    let fine : IsFine image (get_or (map place_of caps) k 0) = fine_places image (map place_of caps) chain k (omega (arith, size, within)) in
    let here : get_or (map place_of caps) k 0 ≡ place_of cap = get_or-map place_of caps k d 0 within in
    let P : ℕ → Type 0 = IsFine image in
    let at : IsFine image (place_of cap) = subst P here fine in
    let is : IsCapIn image cap = each k d within in
    record { kind = is.kind; aligned = at.aligned; fits = at.fits }

-- the pointers from a step on, up to one that is 0
taken : (image places : List ℕ) (low count : ℕ) → length places ≤ count
    → ((n : ℕ) → n < length places → get_or places n 0 ≡ pointer image (low + n))
    → ((n : ℕ) → n < length places → pointer image (low + n) ≢ 0)
    → (length places < count → pointer image (low + length places) ≡ 0)
    → take_while (λ place. not (place == 0)) (map (pointer image) (range_with_len low count)) ≡ places
taken image [] low zero room each some end = refl
taken image [] low (suc count) room each some end =
    let first : pointer image low ≡ 0 = ap (pointer image) (sym (add-zero low)) ∙ end (omega arith) in
    let test : (pointer image low == 0) ≡ true = eq-eqb (pointer image low) 0 first in
    take_while-cons (λ place. not (place == 0)) (pointer image low) (map (pointer image) (range_with_len (low + 1) count)) ∙ rw test refl
taken image (x ∷ places) low zero room each some end = absurd (omega arith)
taken image (x ∷ places) low (suc count) room each some end =
    let start : pointer image (low + 0) ≡ pointer image low = ap (pointer image) (add-zero low) in
    let first : x ≡ pointer image low = each 0 (omega arith) ∙ start in
    let test : (pointer image low == 0) ≡ false = ne_eqb (pointer image low) 0 (λ e. some 0 (omega arith) (start ∙ e)) in
    let next : (n : ℕ) → pointer image (low + suc n) ≡ pointer image (low + 1 + n) = λ n. ap (pointer image) {x = low + suc n} {y = low + 1 + n} (omega arith) in
    let rest = taken image places (low + 1) count (omega (arith, room)) (λ n within. each (suc n) (omega (arith, within)) ∙ next n)
    (λ n within e. some (suc n) (omega (arith, within)) (next n ∙ e)) (λ less. sym (next (length places)) ∙ end (omega (arith, less))) in
    take_while-cons (λ place. not (place == 0)) (pointer image low) (map (pointer image) (range_with_len (low + 1) count))
    ∙ rw test (rw (rest, first) refl)

-- the places of a list that ends
pub places_of-chain : (image places : List ℕ) → IsChain image places → length places ≤ 48 → places_of image ≡ places
unfolding places_of
places_of-chain image places chain few =
    taken image places 0 48 few (λ n within. chain.each n within ∙ ap (pointer image) (sym (zero-add n)))
    (λ n within e. let low = (chain.in_range n within).0 in let same = ap (pointer image) (zero-add n) in omega (arith, low, e, same))
    (λ less. ap (pointer image) (zero-add (length places)) ∙ chain.end)

-- Capabilities lists: where the walk comes to, how long bodies are, and what makes a list or none.
use Rattle.std.proofs.Common.{◌≡◌, ℕ, zero, suc, ◌+◌, ◌*◌, ◌%◌, ◌<◌, ◌≤◌, List, [], ◌∷◌, ◌&&◌, if◌then◌else◌, refl, true, map, length, arith, lit<, lit≤, ap, sym, ◌∙◌}
use Rattle.std.specs.Prelude.{◌==◌, nat_le, slice_index}
use Rattle.std.specs.List.{range_with_len}
use Rattle.std.proofs.lemmas.Bool.{cond-true, eq-eqb, cond-false, ne_eqb, eqb-true}
use Rattle.pci_spec.specs.Number.{each_from}
use Rattle.pci_spec.specs.Capability.{pointer, pointer_at, body_length, msi_length, power_state, ComesTo, ComesTwiceTo, HasChain, HasLowPlace, HasCutBody}
use Rattle.pci_spec.specs.Fault.{IsNotInD0}
use Rattle.pci_spec.proofs.Bits.{each_from-at}
use Rattle.pci_spec.proofs.Examples.Samples.{put_bytes, blank}

-- a header whose Status says that there is a list, with these bytes
abbrev with_list : List (ℕ × ℕ) → List ℕ
with_list bytes = put_bytes bytes (put_bytes ((0x06, 0x10) ∷ []) (blank 0 0))

abbrev first_pointers : List ℕ → List ℕ
first_pointers image = pointer image 0 ∷ pointer image 1 ∷ pointer image 2 ∷ []

-- ---- the walk

abbrev single : List ℕ
single = with_list ((0x34, 0x43) ∷ (0x40, 9) ∷ (0x41, 0) ∷ [])

pointers_are_without_their_low_bits : first_pointers single ≡ 0x40 ∷ 0 ∷ 0 ∷ []
pointers_are_without_their_low_bits = refl

next_pointer_stands_after_the_id : first_pointers (with_list ((0x34, 0x40) ∷ (0x40, 9) ∷ (0x41, 0x4b) ∷ (0x48, 5) ∷ (0x49, 0x50) ∷ [])) ≡ 0x40 ∷ 0x48 ∷ 0x50 ∷ []
next_pointer_stands_after_the_id = refl

no_list_without_its_status_bit : first_pointers (put_bytes ((0x06, 0xef) ∷ (0x34, 0x40) ∷ []) (blank 0 0)) ≡ 0 ∷ 0 ∷ 0 ∷ []
no_list_without_its_status_bit = refl

pointer_below_4_ends_the_list : first_pointers (with_list ((0x34, 3) ∷ (0x01, 0x40) ∷ [])) ≡ 0 ∷ 0 ∷ 0 ∷ []
pointer_below_4_ends_the_list = refl

-- ---- bodies

power_management_has_8_bytes : body_length (with_list ((0x40, 1) ∷ [])) 0x40 ≡ 8
power_management_has_8_bytes = refl

others_are_read_for_4_bytes : body_length (with_list ((0x40, 0xff) ∷ (0x42, 0x80) ∷ [])) 0x40 ≡ 4
others_are_read_for_4_bytes = refl

msi_of_32_bits : body_length (with_list ((0x40, 5) ∷ (0x42, 0x0c) ∷ [])) 0x40 ≡ 10
msi_of_32_bits = refl

msi_of_64_bits : body_length (with_list ((0x40, 5) ∷ (0x42, 0x80) ∷ [])) 0x40 ≡ 14
msi_of_64_bits = refl

msi_of_32_bits_with_masking : body_length (with_list ((0x40, 5) ∷ (0x42, 0x2b) ∷ (0x43, 1) ∷ [])) 0x40 ≡ 20
msi_of_32_bits_with_masking = refl

msi_of_64_bits_with_masking : body_length (with_list ((0x40, 5) ∷ (0x42, 0xab) ∷ (0x43, 1) ∷ [])) 0x40 ≡ 24
msi_of_64_bits_with_masking = refl

other_bits_of_message_control_add_nothing : msi_length 0xfe7f ≡ 10
other_bits_of_message_control_add_nothing = refl

power_state_is_in_bits_1_and_0 : power_state (with_list ((0x40, 1) ∷ (0x42, 0x03) ∷ (0x43, 0xce) ∷ (0x44, 0x03) ∷ (0x45, 0x81) ∷ [])) 0x40 ∷ power_state (with_list ((0x40, 1) ∷ (0x44, 0xfc) ∷ (0x45, 0xff) ∷ [])) 0x40 ∷ [] ≡ 3 ∷ 0 ∷ []
power_state_is_in_bits_1_and_0 = refl

second_power_management_asleep : IsNotInD0 (with_list ((0x34, 0x40) ∷ (0x40, 1) ∷ (0x41, 0x48) ∷ (0x48, 1) ∷ (0x4c, 1) ∷ []))
second_power_management_asleep = (0x48, (1, refl, λ e. omega (arith, e)), (refl, λ e. let no : 1 ≡ 0 = e in omega (arith, no)))

-- ---- lists

below_one : (P : ℕ → Type 0) → P 0 → (n : ℕ) → n < 1 → P n
below_one P h zero less = h
below_one P h (suc n) less = absurd (let no : ⊥ = omega (arith, less) in no)

-- the list of a walk that ends after its first place
one_capability : (image : List ℕ) (place : ℕ) → place ≡ pointer image 0 → pointer image 1 ≡ 0 → (0x40 ≤ pointer image 0) × (pointer image 0 ≤ 0xfc) → pointer image 0 + body_length image (pointer image 0) ≤ 256 → HasChain image
one_capability image place first end in_range whole = (
  place ∷ [],
  record {
    each = below_one _ first;
    end = end;
    in_range = below_one _ in_range;
    distinct = λ m n less below. absurd (let no : ⊥ = omega (arith, less, below) in no);
    bodies = below_one _ whole;
  },
)

one_raw_capability : HasChain single
one_raw_capability = one_capability single 0x40 refl refl (lit≤ tt, lit≤ tt) (lit≤ tt)

body_may_end_with_the_image : HasChain (with_list ((0x34, 0xf8) ∷ (0xf8, 1) ∷ []))
body_may_end_with_the_image = one_capability (with_list ((0x34, 0xf8) ∷ (0xf8, 1) ∷ [])) 0xf8 refl refl (lit≤ tt, lit≤ tt) (lit≤ tt)

raw_body_at_the_last_place : HasChain (with_list ((0x34, 0xff) ∷ (0xfc, 9) ∷ []))
raw_body_at_the_last_place = one_capability (with_list ((0x34, 0xff) ∷ (0xfc, 9) ∷ [])) 0xfc refl refl (lit≤ tt, lit≤ tt) (lit≤ tt)

-- a list has the walk's first place, if there is one
has_first : (image : List ℕ) (place : ℕ) (chain : HasChain image) → pointer image 0 ≡ suc place → 0 < length chain.0
has_first image place ([], is) first = let end = is.end in absurd (let no : ⊥ = omega (arith, end, first) in no)
has_first image place (p ∷ places, is) first = omega arith

low_place : HasLowPlace (with_list ((0x34, 0x43) ∷ (0x40, 9) ∷ (0x41, 0x3c) ∷ [])) 0x3c
low_place = ((1, refl, λ e. omega (arith, e)), lit< tt)

abbrev low_list : List ℕ
low_list = with_list ((0x34, 0x3c) ∷ [])

list_with_a_low_place_is_none : HasChain low_list → ⊥
list_with_a_low_place_is_none chain = let low = (chain.1.in_range 0 (has_first low_list 0x3b chain refl)).0 in omega (arith, low)

looped : ComesTwiceTo (with_list ((0x34, 0x40) ∷ (0x41, 0x48) ∷ (0x49, 0x40) ∷ [])) 0x40
looped = (0, 2, lit< tt, refl, refl, λ e. omega (arith, e))

-- past its end a walk stays there
ended : (n : ℕ) → pointer single (suc n) ≡ 0
ended zero = refl
ended (suc n) = cond-true (pointer single (suc n) == 0) 0 (pointer_at single (pointer single (suc n) + 1)) (eq-eqb (pointer single (suc n)) 0 (ended n))

one_visit_is_no_loop : ComesTwiceTo single 0x40 → ⊥
one_visit_is_no_loop (m, zero, less, first, second, some) = omega (arith, less)
one_visit_is_no_loop (m, suc n, less, first, second, some) = some (sym second ∙ ended n)

end_of_a_walk_is_no_place : ComesTo single 0 → ⊥
end_of_a_walk_is_no_place comes = comes.2 refl

cut_body : HasCutBody (with_list ((0x34, 0xfc) ∷ (0xfc, 1) ∷ [])) 0xfc
cut_body = ((0, refl, λ e. omega (arith, e)), lit< tt)

msi_of_24_bytes_is_cut : HasCutBody (with_list ((0x34, 0xec) ∷ (0xec, 5) ∷ (0xee, 0xab) ∷ (0xef, 1) ∷ [])) 0xec
msi_of_24_bytes_is_cut = ((0, refl, λ e. omega (arith, e)), lit< tt)

body_that_ends_with_the_image_is_not_cut : HasCutBody (with_list ((0x34, 0xf8) ∷ (0xf8, 1) ∷ [])) 0xf8 → ⊥
body_that_ends_with_the_image_is_not_cut cut = let past : 256 < 0xf8 + 8 = cut.1 in omega (arith, past)

first_place_behind_the_header_is_not_low : HasLowPlace single 0x40 → ⊥
first_place_behind_the_header_is_not_low low = let below : 0x40 < 0x40 = low.1 in omega (arith, below)

-- two bytes too many, the least that can be: places and lengths are even
abbrev cut_list : List ℕ
cut_list = with_list ((0x34, 0xf8) ∷ (0xf8, 5) ∷ [])

msi_of_10_bytes_is_cut : HasCutBody cut_list 0xf8
msi_of_10_bytes_is_cut = ((0, refl, λ e. omega (arith, e)), lit< tt)

list_with_a_cut_body_is_none : HasChain cut_list → ⊥
list_with_a_cut_body_is_none chain = let whole : 0xf8 + 10 ≤ 256 = chain.1.bodies 0 (has_first cut_list 0xf7 chain refl) in omega (arith, whole)

msi_of_20_bytes_fits : HasChain (with_list ((0x34, 0xec) ∷ (0xec, 5) ∷ (0xee, 0x2b) ∷ (0xef, 1) ∷ []))
msi_of_20_bytes_fits = one_capability (with_list ((0x34, 0xec) ∷ (0xec, 5) ∷ (0xee, 0x2b) ∷ (0xef, 1) ∷ [])) 0xec refl refl (lit≤ tt, lit≤ tt) (lit≤ tt)

-- ---- a list through all 48 places behind the header; its last next pointer ends it, or leads back to the first

abbrev byte_of_full : ℕ → ℕ → ℕ
byte_of_full last offset =
    if offset == 0x06 then 0x10
    else if offset == 0x34 then 0x40
    else if offset == 0xfd then last
    else if nat_le 0x40 offset && offset % 4 == 0 then 9
    else if nat_le 0x40 offset && offset % 4 == 1 then offset + 3
    else 0

abbrev full : ℕ → List ℕ
full last = map (byte_of_full last) (range_with_len 0 256)

step : (image : List ℕ) (n p q : ℕ) → pointer image n ≡ p → (p ≡ 0 → ⊥) → pointer_at image (p + 1) ≡ q → pointer image (suc n) ≡ q
step image n p q is some next =
    cond-false (pointer image n == 0) 0 (pointer_at image (pointer image n + 1)) (ne_eqb (pointer image n) 0 (λ z. some (sym is ∙ z)))
    ∙ ap (λ (x : ℕ). pointer_at image (x + 1)) is ∙ next

-- what each of the two lists shows at its places
nexts : (last : ℕ) → each_from 0 47 (λ n. pointer_at (full last) (64 + 4 * n + 1) == 64 + 4 * (n + 1)) ≡ true → pointer (full last) 0 ≡ 64 → (n : ℕ) → n < 48 → pointer (full last) n ≡ 64 + 4 * n
nexts last h first zero less = first
nexts last h first (suc n) less =
    let here = nexts last h first n (omega (arith, less)) in
    let next = eqb-true _ _ (each_from-at 0 47 (λ n. pointer_at (full last) (64 + 4 * n + 1) == 64 + 4 * (n + 1)) h n (omega arith) (omega (arith, less))) in
    step (full last) n (64 + 4 * n) (64 + 4 * suc n) here (λ z. omega (arith, z)) (next ∙ let e : 64 + 4 * (n + 1) ≡ 64 + 4 * suc n = omega arith in e)

abbrev all_places : List ℕ
all_places = map (λ n. 64 + 4 * n) (range_with_len 0 48)

walk : (n : ℕ) → n < 48 → pointer (full 0) n ≡ 64 + 4 * n
unfolding each_from
walk = nexts 0 refl refl

listed : each_from 0 48 (λ n. slice_index all_places n == 64 + 4 * n) ≡ true
unfolding each_from
listed = refl

raw : each_from 0 48 (λ n. body_length (full 0) (64 + 4 * n) == 4) ≡ true
unfolding each_from
raw = refl

forty_eight_places : HasChain (full 0)
forty_eight_places = (
  all_places,
  record {
    each = λ n less. eqb-true _ _ (each_from-at 0 48 (λ n. slice_index all_places n == 64 + 4 * n) listed n (omega arith) less) ∙ sym (walk n less);
    end = step (full 0) 47 252 0 (walk 47 (lit< tt)) (λ z. omega (arith, z)) refl;
    in_range = λ n less. let here = walk n less in (omega (arith, here), omega (arith, here, less));
    distinct = λ m n less below e. let one = walk m (omega (arith, less, below)) in let two = walk n below in omega (arith, e, one, two, less);
    bodies = λ n less.
        let here = walk n less in
        let size = eqb-true _ _ (each_from-at 0 48 (λ n. body_length (full 0) (64 + 4 * n) == 4) raw n (omega arith) less) in
        let same = ap (λ (p : ℕ). body_length (full 0) p) here ∙ size in
        omega (arith, here, same, less);
  },
)

walk_that_turns_back : (n : ℕ) → n < 48 → pointer (full 0x40) n ≡ 64 + 4 * n
unfolding each_from
walk_that_turns_back = nexts 0x40 refl refl

loop_after_48_places : ComesTwiceTo (full 0x40) 0x40
loop_after_48_places = (0, 48, lit< tt, refl, step (full 0x40) 47 252 0x40 (walk_that_turns_back 47 (lit< tt)) (λ z. omega (arith, z)) refl, λ e. omega (arith, e))

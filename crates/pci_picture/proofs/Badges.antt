-- What the tree shows of the faults of a text.
use Rattle.std.proofs.Common.{◌≡◌, ◌<◌, ◌+◌, ◌-◌, ◌*◌, ◌==◌, ◌&&◌, ℕ, Bool, true, false, cond, inl, inr, length, List, [], ◌∷◌, ◌++◌, map, get_or, Option, Some, None, refl, sym, ap, subst, ◌∙◌, arith}
use Rattle.std.specs.Prelude.{nat_le, slice_index, if◌then◌else◌}
use Rattle.std.specs.List.{All, find, flat_map, slice_split}
use Rattle.std.specs.List.Sorted.{IsNonDecreasingBy, IsPermutation}
use Rattle.std.specs.Option.{IfSome, is_some}
use Rattle.std.proofs.lemmas.Bool.{and_parts, cases_Bool, leb-true}
use Rattle.std.proofs.lemmas.Grind.{flat_map-append}
use Rattle.std.proofs.lemmas.List.{append-nil, map-append}
use Rattle.std.proofs.lemmas.List.Elements.{All-append, All-map, All-nil}
use Rattle.std.proofs.lemmas.List.Sorted.{All-permutation}
use Rattle.pci_picture.specs.Badges.{badge_of, badges_begun, badges_of_line, badges_told, bridge_slots, slots_of_keys}
use Rattle.pci_picture.specs.Lines.{decimal_digit_value, is_decimal, is_feed, nth_word, words_in_line}
use Rattle.pci_picture.specs.Marks.{keys_of_fault, number_before_blank}
use Rattle.pci_picture.specs.Ranks.{bit_of, rank_of_badge}
use Rattle.pci_picture.specs.declared.badge.Badge.{Badge}

-- ---- the first slot of a line

pub find_holds : {X : Type 0} (p : X → Bool) (xs : List X) (x : X) → find p xs ≡ Some x → p x ≡ true
find_holds p [] x found = cc
find_holds p (y ∷ xs) x found = elim (p y) as (λ b. p y ≡ b → cond b (Some y) (find p xs) ≡ Some x → p x ≡ true) [
  | true ↦ λ holds same. search
  | false ↦ λ fails same. find_holds p xs x same
] refl found

pub number_there : (o : Option ℕ) (n : ℕ) → IfSome o (λ x. x ≡ n) → is_some o ≡ true → o ≡ Some n
number_there None n is there = cc
number_there (Some x) n is there = ap Some is

-- ---- the badges of a text

-- one more line
pub badges_more : {X : Type 0} (now : X → List ℕ) (lines : List X) (line : X) (bytes : List ℕ) (old new : List Badge) → bytes ≡ now line
    → old ≡ flat_map badges_of_line (map now lines) → new ≡ old ++ badges_of_line bytes → new ≡ flat_map badges_of_line (map now (lines ++ line ∷ []))
badges_more now lines line bytes old new same before adds =
    adds ∙ ap (λ l. l ++ badges_of_line bytes) before ∙ ap (λ b. flat_map badges_of_line (map now lines) ++ badges_of_line b) same
    ∙ ap (λ l. flat_map badges_of_line (map now lines) ++ l) (sym (append-nil (badges_of_line (now line))))
    ∙ sym (flat_map-append badges_of_line (map now lines) (now line ∷ []))
    ∙ ap (flat_map badges_of_line) (sym (map-append now lines (line ∷ [])))

pub badges_whole : {X : Type 0} (now : X → List ℕ) (lines : List X) (text : List ℕ) (badges sorted : List Badge) → map now lines ≡ slice_split is_feed text
    → badges ≡ flat_map badges_of_line (map now lines) → IsPermutation badges sorted → IsPermutation (badges_told text) sorted
badges_whole now lines text badges sorted whole are moved = subst (λ bs. IsPermutation bs sorted) (are ∙ ap (flat_map badges_of_line) whole) moved

-- ---- their numbers have two digits

abbrev pub IsSmall : Badge → Type 0
IsSmall badge = badge.number < 256

small_of : (number : ℕ) (is_bridge : Bool) (slots : List ℕ) → number < 256 → All IsSmall (map (badge_of number is_bridge) slots)
small_of number is_bridge slots less = All-map IsSmall (badge_of number is_bridge) slots (λ k d lt. less)

digit_small : (b : ℕ) → is_decimal b ≡ true → decimal_digit_value b < 10
digit_small b is = let most = leb-true b 57 (and_parts (nat_le 48 b) (nat_le b 57) is).1 in omega (arith, most)

two_digits_small : (one other : ℕ) (blank : Bool)
    → IfSome (if is_decimal one && is_decimal other && blank then Some (decimal_digit_value one * 10 + decimal_digit_value other) else None) (λ number. number < 256)
two_digits_small one other blank = elim (cases_Bool (is_decimal one && is_decimal other && blank)) [
  | inl holds ↦
      let both = and_parts (is_decimal one) (is_decimal other) (and_parts (is_decimal one && is_decimal other) blank holds).0 in
      let tens = digit_small one both.0 in
      let ones = digit_small other both.1 in
      rw holds (omega (arith, tens, ones))
  | inr fails ↦ rw fails tt
]

begun_small : (number : Option ℕ) (line : List ℕ) → IfSome number (λ n. n < 256) → All IsSmall (badges_begun number line)
begun_small None line less = All-nil IsSmall
begun_small (Some number) line less =
    let words = words_in_line line in
    All-append IsSmall (map (badge_of number true) (bridge_slots number (nth_word words (length words - 1)))) (map (badge_of number false) (slots_of_keys (keys_of_fault number words) words))
    (small_of number true (bridge_slots number (nth_word words (length words - 1))) less) (small_of number false (slots_of_keys (keys_of_fault number words) words) less)

line_small : (line : List ℕ) → All IsSmall (badges_of_line line)
unfolding number_before_blank
line_small line = begun_small (number_before_blank line) line (two_digits_small (slice_index line 0) (slice_index line 1) (slice_index line 2 == 32))

lines_small : (lines : List (List ℕ)) → All IsSmall (flat_map badges_of_line lines)
lines_small [] = All-nil IsSmall
lines_small (line ∷ lines) = All-append IsSmall (badges_of_line line) (flat_map badges_of_line lines) (line_small line) (lines_small lines)

pub text_small : (lines : List (List ℕ)) (badges sorted : List Badge) → badges ≡ flat_map badges_of_line lines → IsPermutation badges sorted
    → All IsSmall sorted
text_small lines badges sorted are moved = All-permutation IsSmall badges sorted moved (subst (All IsSmall) (sym are) (lines_small lines))

-- ---- their order

pub bit_small : (b : Bool) → bit_of b < 2
bit_small true = omega arith
bit_small false = omega arith

-- by rank they stand by slot
pub ranked_slots : (badges : List Badge) → All IsSmall badges → IsNonDecreasingBy (λ (badge : Badge). rank_of_badge badge) badges → IsNonDecreasingBy (λ (badge : Badge). badge.slot) badges
ranked_slots badges small up i j d le lt =
    let less = up i j d le lt in
    let low = small i d (omega (arith, le, lt)) in
    let high = small j d lt in
    let one = bit_small (get_or badges i d).is_bridge in
    let other = bit_small (get_or badges j d).is_bridge in
    omega (arith, less, low, high, one, other)

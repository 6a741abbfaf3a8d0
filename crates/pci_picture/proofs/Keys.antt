-- Keys that words of a line name.
use Rattle.std.proofs.Common.{◌≡◌, ◌≤◌, ◌<◌, ◌+◌, ℕ, Bool, true, false, ◌&&◌, ◌==◌, slice_index, IsTrue, List, [], length, drop, Some, None, refl, sym, ap, ◌∙◌, ◌*◌, ◌^◌, min, inl, inr, arith}
use Rattle.std.specs.List.{slice_split}
use Rattle.std.proofs.lemmas.Bool.{and_parts, cases_lt, eqb-true}
use Rattle.std.proofs.lemmas.List.Splits.{length-slice_split}
use Rattle.std.proofs.lemmas.List.Sums.{length-filter, count_by-le-length}
use Rattle.std.proofs.lemmas.Option.{slice_get_past}
use Rattle.pci_picture.specs.Lines.{decimal_value, hex_value, is_blank_byte, is_digit, is_nonempty_word, is_register, is_slot, is_told_number, nth_word, slot_number_of, words_in_line}
use Rattle.pci_picture.specs.Marks.{is_register_or_told, key_named_at, key_of_words, number_in_slot}

-- a line has at most one word more than bytes
words_within : (line : List ℕ) → length (words_in_line line) ≤ length line + 1
unfolding words_in_line
words_within line =
    omega (
      arith,
      length-filter is_nonempty_word (slice_split is_blank_byte line),
      count_by-le-length is_nonempty_word (slice_split is_blank_byte line),
      length-slice_split is_blank_byte line,
      count_by-le-length is_blank_byte line,
    )

no_slot : is_slot [] ≡ false
unfolding is_slot
no_slot = refl

-- behind the last word there is no slot
past_words : (words : List (List ℕ)) (n : ℕ) → length words ≤ n → is_slot (nth_word words n) ≡ false
past_words words n past = rw (slice_get_past words n past) no_slot

-- the index behind a slot's word is no further than the number of words
slot_inside : (line : List ℕ) (n : ℕ) → length line < 2 ^ 63 → is_slot (nth_word (words_in_line line) n) ≡ true → n + 1 < 2 ^ 64
slot_inside line n short is = elim (cases_lt n (length (words_in_line line))) [
  | inl inside ↦ omega (arith, inside, short, words_within line)
  | inr past ↦ absurd (let none = past_words (words_in_line line) n past in cc)
]

pub behind_slot : (line : List ℕ) (n next : ℕ) (slot place : List ℕ) → length line < 2 ^ 63 → slot ≡ nth_word (words_in_line line) n → is_slot slot ≡ true
    → next ≡ min (n + 1) 18446744073709551615 → place ≡ nth_word (words_in_line line) next → place ≡ nth_word (words_in_line line) (n + 1)
behind_slot line n next slot place short at is behind of =
    let inside = slot_inside line n short (sym (ap is_slot at) ∙ is) in
    of ∙ ap (nth_word (words_in_line line)) (omega (arith, behind, inside))

-- ---- the key of two words

pub no_place_no_key : (words : List (List ℕ)) (n : ℕ) (slot place : List ℕ) → slot ≡ nth_word words n → place ≡ nth_word words (n + 1)
    → is_slot slot ≡ true → is_register_or_told place ≡ false → key_named_at words n ≡ None
unfolding key_of_words
no_place_no_key words n slot place at behind is none =
    rw (sym (ap is_slot at) ∙ is, sym (ap is_register_or_told behind) ∙ none) refl

pub key_found : (words : List (List ℕ)) (n : ℕ) (slot place : List ℕ) (number inner key : ℕ) → slot ≡ nth_word words n → place ≡ nth_word words (n + 1)
    → is_slot slot ≡ true → is_register_or_told place ≡ true → number ≡ slot_number_of slot → inner ≡ number_in_slot place → key ≡ number * 65536 + inner
    → key_named_at words n ≡ Some key
unfolding key_of_words
key_found words n slot place number inner key at behind is named of within told =
    rw (sym at, sym behind, is, named)
    (ap Some (ap (λ k. k * 65536 + number_in_slot place) (sym of) ∙ ap (λ k. number * 65536 + k) (sym within) ∙ sym told))

pub register_key : (slot place : List ℕ) (number offset key : ℕ) → is_slot slot ≡ true → is_register place ≡ true → number ≡ slot_number_of slot
    → offset ≡ hex_value place → key ≡ number * 65536 + offset → key_of_words slot place ≡ Some key
unfolding key_of_words number_in_slot
register_key slot place number offset key is named of within told =
    rw (is, named)
    (ap Some (ap (λ k. k * 65536 + hex_value place) (sym of) ∙ ap (λ k. number * 65536 + k) (sym within) ∙ sym told))

plus_no_digit : (b : ℕ) → (b == 43) ≡ true → is_digit b ≡ false
plus_no_digit b is = ap is_digit (eqb-true b 43 is)

fails_between : (a b : Bool) → (a && false && b) ≡ false
fails_between true b = refl
fails_between false b = refl

-- a told range begins with `+`
told_no_register : (word : List ℕ) → IsTrue (is_told_number word) → is_register word ≡ false
unfolding is_told_number is_register
told_no_register word is =
    let most = and_parts _ _ is in
    let digits = and_parts _ _ most.0 in
    let nonzero = and_parts _ _ digits.0 in
    let plus = and_parts _ _ nonzero.0 in
    rw (plus_no_digit (slice_index word 0) plus.1) (fails_between (length word == 2) (is_digit (slice_index word 1)))

pub told_key : (slot place : List ℕ) (number told key : ℕ) → is_slot slot ≡ true → is_told_number place ≡ true → number ≡ slot_number_of slot
    → told ≡ decimal_value (drop 1 place) → told ≤ 4096 → key ≡ number * 65536 + min (told + 256) 65535 → key_of_words slot place ≡ Some key
unfolding key_of_words number_in_slot
told_key slot place number told key is named of within most is_key =
    rw (is, told_no_register place named, named)
    (ap Some (ap (λ k. k * 65536 + (decimal_value (drop 1 place) + 256)) (sym of) ∙ ap (λ k. number * 65536 + (k + 256)) (sym within)
    ∙ omega (arith, is_key, most)))

-- Which words are ranges.
use Rattle.std.proofs.Common.{◌≡◌, ◌≤◌, ◌<◌, ◌+◌, ℕ, true, false, ◌&&◌, cond, ltb, leb, List, length, take, drop, Option, Some, None, refl, sym, ap, subst, ◌∙◌, inl, inr}
use Rattle.std.specs.List.{position_or_len, before_first, after_first}
use Rattle.std.proofs.lemmas.Bool.{cases_Bool, and_left, and_right, le-leb, lt-leb}
use Rattle.pci_picture.specs.Lines.{is_dash_byte, is_number, hex_number_of, hex_value, is_range}

none_number : (digits : List ℕ) → hex_number_of digits ≡ None → is_number digits ≡ false
none_number digits is =
    elim (cases_Bool (is_number digits)) [
      | inl holds ↦ let e : hex_number_of digits ≡ Some (hex_value digits) = rw holds refl in absurd (cc)
      | inr fails ↦ fails
    ]

some_number : (digits : List ℕ) (n : ℕ) → hex_number_of digits ≡ Some n → (is_number digits ≡ true) × (hex_value digits ≡ n)
some_number digits n is =
    elim (cases_Bool (is_number digits)) [
      | inl holds ↦ let e : hex_number_of digits ≡ Some (hex_value digits) = rw holds refl in (holds, cc)
      | inr fails ↦ let e : hex_number_of digits ≡ None = rw fails refl in absurd (cc)
    ]

abbrev dash_at : List ℕ → ℕ
dash_at word = position_or_len is_dash_byte word

abbrev pub Found : List ℕ → Option ℕ → Type 0
Found word r = r ≡ cond (ltb (dash_at word) (length word)) (Some (dash_at word)) None

no_dash_at : (word : List ℕ) (r : Option ℕ) → Found word r → r ≡ None → ltb (dash_at word) (length word) ≡ false
no_dash_at word r found none =
    elim (cases_Bool (ltb (dash_at word) (length word))) [
      | inl holds ↦ let e : r ≡ Some (dash_at word) = rw holds at found in absurd (cc)
      | inr fails ↦ fails
    ]

pub a_dash_at : (word : List ℕ) (r : Option ℕ) (dash : ℕ) → Found word r → r ≡ Some dash → (ltb (dash_at word) (length word) ≡ true) × (dash ≡ dash_at word)
a_dash_at word r dash found is =
    elim (cases_Bool (ltb (dash_at word) (length word))) [
      | inl holds ↦ let e : r ≡ Some (dash_at word) = rw holds at found in (holds, cc)
      | inr fails ↦ let e : r ≡ None = rw fails at found in absurd (cc)
    ]

pub no_range : (word : List ℕ) (r : Option ℕ) → Found word r → r ≡ None → is_range word ≡ false
unfolding is_range
no_range word r found none = rw (no_dash_at word r found none) refl

first_of : (word front : List ℕ) (r : Option ℕ) (dash : ℕ) → Found word r → r ≡ Some dash → front ≡ take dash word → front ≡ before_first is_dash_byte word
first_of word front r dash found is at = at ∙ ap (λ n. take n word) ((a_dash_at word r dash found is).1)

last_of : (word back : List ℕ) (r : Option ℕ) (dash : ℕ) → Found word r → r ≡ Some dash → back ≡ drop (dash + 1) word → back ≡ after_first is_dash_byte word
last_of word back r dash found is at = at ∙ ap (λ n. drop (n + 1) word) ((a_dash_at word r dash found is).1)

pub no_first : (word front : List ℕ) (r number : Option ℕ) (dash : ℕ) → Found word r → r ≡ Some dash → front ≡ take dash word
    → number ≡ hex_number_of front → number ≡ None → is_range word ≡ false
unfolding is_range
no_first word front r number dash found is at read none =
    let bad : is_number (before_first is_dash_byte word) ≡ false =
    subst (λ l. is_number l ≡ false) (first_of word front r dash found is at) (none_number front (sym read ∙ none)) in
    and_left _ _ (and_left _ _ (and_right (ltb (dash_at word) (length word)) (is_number (before_first is_dash_byte word)) bad))

pub no_last : (word back : List ℕ) (r number : Option ℕ) (dash : ℕ) → Found word r → r ≡ Some dash → back ≡ drop (dash + 1) word
    → number ≡ hex_number_of back → number ≡ None → is_range word ≡ false
unfolding is_range
no_last word back r number dash found is at read none =
    let bad : is_number (after_first is_dash_byte word) ≡ false =
    subst (λ l. is_number l ≡ false) (last_of word back r dash found is at) (none_number back (sym read ∙ none)) in
    and_left _ _ (and_right (ltb (dash_at word) (length word) && is_number (before_first is_dash_byte word)) (is_number (after_first is_dash_byte word)) bad)

-- both ends and their numbers
pub record AreEnds (word : List ℕ) (first last : ℕ) : Type 0 where
  pub dashed : ltb (dash_at word) (length word) ≡ true
  pub front : is_number (before_first is_dash_byte word) ≡ true
  pub back : is_number (after_first is_dash_byte word) ≡ true
  pub low : hex_value (before_first is_dash_byte word) ≡ first
  pub high : hex_value (after_first is_dash_byte word) ≡ last

pub are_ends : (word front back : List ℕ) (r one other : Option ℕ) (dash first last : ℕ) → Found word r → r ≡ Some dash
    → front ≡ take dash word → back ≡ drop (dash + 1) word
    → one ≡ hex_number_of front → one ≡ Some first → other ≡ hex_number_of back → other ≡ Some last → AreEnds word first last
are_ends word front back r one other dash first last found is at behind read some read' some' =
    let low = some_number front first (sym read ∙ some) in
    let high = some_number back last (sym read' ∙ some') in
    let f = first_of word front r dash found is at in
    let b = last_of word back r dash found is behind in
    record {
      dashed = (a_dash_at word r dash found is).0;
      front = subst (λ l. is_number l ≡ true) f low.0;
      back = subst (λ l. is_number l ≡ true) b high.0;
      low = subst (λ l. hex_value l ≡ first) f low.1;
      high = subst (λ l. hex_value l ≡ last) b high.1;
    }

pub falls : (word : List ℕ) (first last : ℕ) → AreEnds word first last → last < first → is_range word ≡ false
unfolding is_range
falls word first last ends less =
    and_right _ (leb (hex_value (before_first is_dash_byte word)) (hex_value (after_first is_dash_byte word)))
    (rw (ends.low, ends.high) (lt-leb first last less))

pub rises : (word : List ℕ) (first last : ℕ) → AreEnds word first last → first ≤ last → is_range word ≡ true
unfolding is_range
rises word first last ends le =
    let v : leb (hex_value (before_first is_dash_byte word)) (hex_value (after_first is_dash_byte word)) ≡ true = rw (ends.low, ends.high) (le-leb first last le) in
    rw (ends.dashed, ends.front, ends.back, v) refl

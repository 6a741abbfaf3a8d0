-- What functions are called, while their titles and names are written.
use Rattle.std.proofs.Common.{◌≡◌, ◌≤◌, ◌<◌, ◌+◌, ◌-◌, ◌==◌, ℕ, zero, suc, Bool, true, false, cond, Option, Some, None, List, [], ◌∷◌, ◌++◌, fold, length, ltb, get_or, map, set, take, drop, refl, sym, ap, subst, ◌∙◌, arith, ◌⊎◌, inl, inr, if◌then◌else◌}
use Rattle.std.specs.Prelude.{codes}
use Rattle.std.specs.List.{before_first, after_first, slice_split}
use Rattle.std.specs.List.Sorted.{IsNonDecreasingBy, IsPartitionPoint}
use Rattle.std.proofs.lemmas.Bool.{and_right, cases_eq, cases_lt, eq-eqb, le-leb, ne_eqb, ltb-true, ltb-false}
use Rattle.std.proofs.lemmas.List.{append-nil, append_assoc, drop_all, get_or-map, get_or-set_same, get_or-set_other, drop-append-le, drop_at, take-append-le, length-append, length-drop, length-map, length-take, map-set, take_all}
use Rattle.pci_picture.specs.Lines.{hex_value, is_feed, is_register, is_slot, slot_number_of}
use Rattle.pci_picture.specs.Named.{HasNameIn, is_title_line, low_digits, name_of_function, name_of_class, name_of_numbers, title_from_line, function_titled, with_title, with_titles, words_of_buses}
use Rattle.pci_picture.specs.Roots.{Listed, listed_function, listed_functions}
use Rattle.pci_picture.specs.declared.function.Buses.{Buses}
use Rattle.pci_picture.specs.declared.function.Function.{Function}
use Rattle.pci_picture.proofs.Listings.{all_taken, line_taken}

-- ---- titles

-- an empty line gives no title
empty_line : (functions : List Listed) → title_from_line functions [] ≡ functions
unfolding is_title_line
empty_line functions = refl

pub all_titled : (functions all : List Listed) (rest : List ℕ) → length rest ≤ 0 → fold title_from_line functions (slice_split is_feed rest) ≡ all
    → functions ≡ all
all_titled functions all rest none is = all_taken title_from_line empty_line functions all rest none is

pub line_titled : (before after all : List Listed) (rest line behind : List ℕ) → line ≡ before_first is_feed rest → behind ≡ after_first is_feed rest
    → after ≡ title_from_line before line → fold title_from_line before (slice_split is_feed rest) ≡ all
    → fold title_from_line after (slice_split is_feed behind) ≡ all
line_titled before after all rest line behind = line_taken title_from_line empty_line before after all rest line behind

-- titles leave the slots
slots_titled : (slot : ℕ) (title : List ℕ) (functions : List Listed) → map (λ f. f.slot) (with_title slot title functions) ≡ map (λ f. f.slot) functions
slots_titled slot title [] = refl
slots_titled slot title (function ∷ functions) =
    elim (function.slot == slot) as (λ b. map (λ (f : Listed). f.slot) (if b then function_titled function title ∷ functions else function ∷ with_title slot title functions)
    ≡ function.slot ∷ map (λ (f : Listed). f.slot) functions) [
      | true ↦ refl
      | false ↦ ap (λ l. function.slot ∷ l) (slots_titled slot title functions)
    ]

pub slots_of_line : (functions : List Listed) (line : List ℕ) → map (λ f. f.slot) (title_from_line functions line) ≡ map (λ f. f.slot) functions
slots_of_line functions line =
    elim (is_title_line line) as (λ b. map (λ (f : Listed). f.slot)
    (if b then with_title (slot_number_of (take 7 line)) (drop 8 line) functions else functions) ≡ map (λ (f : Listed). f.slot) functions) [
      | true ↦ slots_titled (slot_number_of (take 7 line)) (drop 8 line) functions
      | false ↦ refl
    ]

slot_same : (before after : List Listed) (i : ℕ) (d : Listed) → map (λ f. f.slot) after ≡ map (λ f. f.slot) before → (get_or after i d).slot ≡ (get_or before i d).slot
slot_same [] [] i d is = refl
slot_same [] (a ∷ after) i d is = absurd (cc)
slot_same (b ∷ before) [] i d is = absurd (cc)
slot_same (b ∷ before) (a ∷ after) zero d is = ap (λ l. get_or l 0 0) is
slot_same (b ∷ before) (a ∷ after) (suc i) d is = slot_same before after i d (ap (drop 1) is)

pub rises_titled : (before after : List Listed) (line : List ℕ) → after ≡ title_from_line before line
    → IsNonDecreasingBy (λ (function : Listed). function.slot) before → IsNonDecreasingBy (λ (function : Listed). function.slot) after
rises_titled before after line is rise i j d up inside =
    let slots : map (λ (f : Listed). f.slot) after ≡ map (λ (f : Listed). f.slot) before = ap (map (λ (f : Listed). f.slot)) is ∙ slots_of_line before line in
    let long : length after ≡ length before = sym (length-map after (λ f. f.slot)) ∙ ap length slots ∙ length-map before (λ f. f.slot) in
    let low : (get_or after i d).slot ≡ (get_or before i d).slot = slot_same before after i d slots in
    let high : (get_or after j d).slot ≡ (get_or before j d).slot = slot_same before after j d slots in
    let less : (get_or before i d).slot ≤ (get_or before j d).slot = rise i j d up (omega (arith, inside, long)) in
    omega (arith, low, high, less)

-- functions by rising slot stand by rising number
pub numbers_rise : (functions : List Function) → IsNonDecreasingBy (λ (function : Listed). function.slot) (listed_functions functions)
    → IsNonDecreasingBy (λ (function : Function). function.number) functions
numbers_rise functions rise i j d up inside =
    let long : length (listed_functions functions) ≡ length functions = length-map functions listed_function in
    let one = listed_function d in
    let low : (get_or (listed_functions functions) i one).slot ≡ (get_or functions i d).number =
    ap (λ f. f.slot) (get_or-map listed_function functions i d one (omega (arith, up, inside, long))) in
    let high : (get_or (listed_functions functions) j one).slot ≡ (get_or functions j d).number =
    ap (λ f. f.slot) (get_or-map listed_function functions j d one (omega (arith, inside, long))) in
    let less : (get_or (listed_functions functions) i one).slot ≤ (get_or (listed_functions functions) j one).slot = rise i j one up (omega (arith, inside, long)) in
    omega (arith, low, high, less)

-- the function at an index has the title, where no function before it has the slot
title_set : (functions : List Function) (i slot : ℕ) (title : List ℕ) (d : Function) → i < length functions
    → ((k : ℕ) → k < i → (get_or functions k d).number ≡ slot → ⊥) → (get_or functions i d).number ≡ slot
    → set (listed_functions functions) i (function_titled (listed_function (get_or functions i d)) title) ≡ with_title slot title (listed_functions functions)
title_set [] i slot title d inside before at = absurd (omega (arith, inside))
title_set (one ∷ functions) zero slot title d inside before at = rw (eq-eqb one.number slot at) refl
title_set (one ∷ functions) (suc i) slot title d inside before at =
    ap (λ l. listed_function one ∷ l)
    (title_set functions i slot title d (omega (arith, inside)) (λ k less. before (suc k) (omega (arith, less))) at)
    ∙ rw (ne_eqb one.number slot (before 0 (omega arith))) refl

-- no function has the title, where none has the slot
title_nowhere : (functions : List Function) (slot : ℕ) (title : List ℕ)
    → ((k : ℕ) (d : Function) → k < length functions → (get_or functions k d).number ≡ slot → ⊥)
    → listed_functions functions ≡ with_title slot title (listed_functions functions)
title_nowhere [] slot title none = refl
title_nowhere (one ∷ functions) slot title none =
    ap (λ l. listed_function one ∷ l) (title_nowhere functions slot title (λ k d less. none (suc k) d (omega (arith, less))))
    ∙ rw (ne_eqb one.number slot (none 0 one (omega arith))) refl

abbrev is_below : ℕ → Function → Bool
is_below slot function = ltb function.number slot

pub title_given : (functions after : List Function) (function : Function) (line : List ℕ) (i slot : ℕ) (d : Function) → after ≡ set functions i function
    → is_title_line line ≡ true → slot ≡ slot_number_of (take 7 line) → i < length functions
    → IsPartitionPoint (λ f. is_below slot f ≡ true) (λ f. is_below slot f ≡ false) functions i → (get_or functions i d).number ≡ slot
    → listed_function function ≡ function_titled (listed_function (get_or functions i d)) (drop 8 line)
    → listed_functions after ≡ title_from_line (listed_functions functions) line
title_given functions after function line i slot d new is_line slot_is inside parted at is =
    ap listed_functions new
    ∙ map-set listed_function functions i function
    ∙ ap (set (listed_functions functions) i) is
    ∙ title_set functions i slot (drop 8 line) d inside
    (λ k less same.
    let below : (get_or functions k d).number < slot = ltb-true (get_or functions k d).number slot (parted.0 k d (omega arith) less) in
    absurd (omega (arith, same, below))) at
    ∙ ap (λ n. with_title n (drop 8 line) (listed_functions functions)) slot_is
    ∙ rw is_line refl

pub title_missed : (functions : List Function) (line : List ℕ) (i slot : ℕ)
    → is_title_line line ≡ true → slot ≡ slot_number_of (take 7 line)
    → IsPartitionPoint (λ f. is_below slot f ≡ true) (λ f. is_below slot f ≡ false) functions i
    → IsNonDecreasingBy (λ (function : Function). function.number) functions
    → ((d : Function) → i < length functions → (get_or functions i d).number ≡ slot → ⊥)
    → listed_functions functions ≡ title_from_line (listed_functions functions) line
title_missed functions line i slot is_line slot_is parted rise apart =
    title_nowhere functions slot (drop 8 line)
    (λ k d inside same. elim (cases_lt k i) [
      | inl less ↦
          let below : (get_or functions k d).number < slot = ltb-true (get_or functions k d).number slot (parted.0 k d (omega arith) less) in
          absurd (omega (arith, same, below))
      | inr behind ↦
          let first : slot ≤ (get_or functions i d).number = ltb-false (get_or functions i d).number slot (parted.1 i d (omega arith) (omega (arith, behind, inside))) in
          let up : (get_or functions i d).number ≤ (get_or functions k d).number = rise i k d behind inside in
          apart d (omega (arith, behind, inside)) (omega (arith, first, up, same))
    ])
    ∙ ap (λ n. with_title n (drop 8 line) (listed_functions functions)) slot_is
    ∙ rw is_line refl

pub is_titled : (line : List ℕ) → 9 ≤ length line → get_or line 7 0 ≡ 32 → is_slot (take 7 line) ≡ true → is_title_line line ≡ true
unfolding is_title_line
is_titled line long blank is = rw (le-leb 9 (length line) long, eq-eqb (get_or line 7 0) 32 blank, is) refl

-- ---- classes

no_register : (word : List ℕ) → length word < 2 → is_register word ≡ false
unfolding is_register
no_register word short = rw (ne_eqb (length word) 2 (λ same. omega (arith, same, short))) refl

-- a word of less than four digits has no name
short_class : (word : List ℕ) (name : Option (List ℕ)) → name ≡ None → length word < 4 → name ≡ name_of_class word
unfolding name_of_class
short_class word name none short =
    let long : length (take 2 (drop 2 word)) < 2 = omega (arith, length-take 2 (drop 2 word), length-drop 2 word, short) in
    none
    ∙ sym (ap (λ b. if b then name_of_numbers (hex_value (take 2 word)) (hex_value (take 2 (drop 2 word))) else None)
    (and_right (is_register (take 2 word)) (is_register (take 2 (drop 2 word))) (no_register (take 2 (drop 2 word)) long)))

pub cut_class : (word : List ℕ) (name : Option (List ℕ)) (begin end : ℕ) → name ≡ None → begin ≤ end → end ≤ 4
    → (end < begin) ⊎ (length word < end) → name ≡ name_of_class word
cut_class word name begin end none up few (inl bad) = absurd (omega (arith, up, bad))
cut_class word name begin end none up few (inr short) = short_class word name none (omega (arith, few, short))

-- ---- buses

pub buses_put : (old one two three four : List ℕ) (buses : Option Buses) (found : Buses) (first last : ℕ) → buses ≡ Some found
    → (found.subordinate ≡ 0 → ⊥) → (found.secondary ≡ found.subordinate → ⊥) → first ≡ found.secondary → last ≡ found.subordinate
    → one ≡ old ++ codes "buses " → two ≡ one ++ low_digits 2 first → three ≡ two ++ codes "-" → four ≡ three ++ low_digits 2 last
    → four ≡ old ++ words_of_buses buses
buses_put old one two three four buses found first last is some apart is_first is_last put_one put_two put_three put_four =
    let low : List ℕ = low_digits 2 first in
    let high : List ℕ = low_digits 2 last in
    put_four
    ∙ ap (λ l. l ++ high) (put_three ∙ ap (λ l. l ++ codes "-") (put_two ∙ ap (λ l. l ++ low) put_one))
    ∙ ap (λ l. l ++ codes "-" ++ high) (append_assoc old (codes "buses ") low)
    ∙ ap (λ l. l ++ high) (append_assoc old (codes "buses " ++ low) (codes "-"))
    ∙ append_assoc old (codes "buses " ++ low ++ codes "-") high
    ∙ ap (λ n. old ++ (codes "buses " ++ low_digits 2 n ++ codes "-" ++ high)) is_first
    ∙ ap (λ n. old ++ (codes "buses " ++ low_digits 2 found.secondary ++ codes "-" ++ low_digits 2 n)) is_last
    ∙ ap (λ l. old ++ l) (sym (ap words_of_buses is ∙ rw (ne_eqb found.subordinate 0 some, ne_eqb found.secondary found.subordinate apart) refl))

-- ---- where names stand

named_before : (names more : List ℕ) (function : Function) → HasNameIn names function → HasNameIn (names ++ more) function
named_before names more function named =
    let begin : ℕ = function.name.begin in
    let end : ℕ = function.name.end in
    record {
      rises = named.rises;
      inside = omega (arith, named.inside, length-append names more);
      is =
          ap (take (end - begin)) (drop-append-le begin names more (omega (arith, named.rises, named.inside)))
          ∙ take-append-le (end - begin) (drop begin names) more (omega (arith, named.rises, named.inside, length-drop begin names))
          ∙ named.is;
    }

pub named_last : (names name : List ℕ) (function : Function) → function.name.begin ≡ length names → function.name.end ≡ length (names ++ name)
    → name ≡ name_of_function (listed_function function) → HasNameIn (names ++ name) function
named_last names name function begins ends is =
    let long : length (names ++ name) ≡ length names + length name = length-append names name in
    let count : ℕ = function.name.end - function.name.begin in
    record {
      rises = omega (arith, begins, ends, long);
      inside = omega (arith, ends);
      is =
          ap (take count) (drop_at names name function.name.begin (sym begins))
          ∙ take_all count name (omega (arith, begins, ends, long))
          ∙ is;
    }

-- the names of the first functions stand there
abbrev pub AreFirstNamed : List ℕ → List Function → ℕ → Type 0
AreFirstNamed names functions i = (k : ℕ) (d : Function) → k < i → HasNameIn names (get_or functions k d)

pub named_more : (functions : List Function) (function : Function) (names after name : List ℕ) (i : ℕ) → i < length functions → after ≡ names ++ name
    → HasNameIn (names ++ name) function → AreFirstNamed names functions i → AreFirstNamed after (set functions i function) (i + 1)
named_more functions function names after name i inside is last before k d less = elim (cases_eq k i) [
  | inl same ↦
      subst (λ n. HasNameIn n (get_or (set functions i function) k d)) (sym is)
      (subst (HasNameIn (names ++ name)) (sym (ap (λ n. get_or (set functions i function) n d) same ∙ get_or-set_same functions i function d inside)) last)
  | inr apart ↦
      subst (λ n. HasNameIn n (get_or (set functions i function) k d)) (sym is)
      (subst (HasNameIn (names ++ name)) (sym (get_or-set_other functions i k function d apart))
      (named_before names name (get_or functions k d) (before k d (omega (arith, less, apart)))))
]

-- ---- a slice of functions that is written back

count_of_lines : (lines : List (List ℕ)) (functions : List Listed) → length (fold title_from_line functions lines) ≡ length functions
count_of_lines [] functions = refl
count_of_lines (line ∷ lines) functions =
    count_of_lines lines (title_from_line functions line)
    ∙ sym (length-map (title_from_line functions line) (λ f. f.slot)) ∙ ap length (slots_of_line functions line) ∙ length-map functions (λ f. f.slot)

count_with_titles : (titles : List ℕ) (before after : List Function) → listed_functions after ≡ with_titles titles (listed_functions before)
    → length after ≡ length before
count_with_titles titles before after is =
    sym (length-map after listed_function) ∙ ap length is ∙ count_of_lines (slice_split is_feed titles) (listed_functions before)
    ∙ length-map before listed_function

count_listed : (before after : List Function) → listed_functions after ≡ listed_functions before → length after ≡ length before
count_listed before after is = sym (length-map after listed_function) ∙ ap length is ∙ length-map before listed_function

written_back : (new old : List Function) (count : ℕ) → count ≡ length old → length new ≡ length old → take count (new ++ drop (length new) old) ≡ new
written_back new old count is same =
    ap (λ l. take count (new ++ l)) (drop_all (length new) old (omega (arith, same)))
    ∙ ap (take count) (append-nil new)
    ∙ take_all count new (omega (arith, is, same))

-- functions that are listed, get their titles, and then get their names
module _ (titles : List ℕ) (items lent titled again named : List Function) (count : ℕ) (long : count ≡ length items) (first : lent ≡ items)
    (is_titled : listed_functions titled ≡ with_titles titles (listed_functions lent))
    (second : again ≡ take count (titled ++ drop (length titled) items)) (is_named : listed_functions named ≡ listed_functions again) where
  titled_back : take count (titled ++ drop (length titled) items) ≡ titled
  titled_back = written_back titled items count long (count_with_titles titles lent titled is_titled ∙ ap length first)

  pub named_back : take count (named ++ drop (length named) (take count (titled ++ drop (length titled) items))) ≡ named
  named_back =
      let same : again ≡ titled = second ∙ titled_back in
      ap (λ l. take count (named ++ drop (length named) l)) titled_back
      ∙ written_back named titled count (long ∙ sym (count_with_titles titles lent titled is_titled ∙ ap length first))
      (count_listed again named is_named ∙ ap length same)

  pub listed_back : listed_functions (take count (named ++ drop (length named) (take count (titled ++ drop (length titled) items))))
      ≡ with_titles titles (listed_functions items)
  listed_back =
      ap listed_functions named_back ∙ is_named ∙ ap listed_functions (second ∙ titled_back) ∙ is_titled
      ∙ ap (λ l. with_titles titles (listed_functions l)) first

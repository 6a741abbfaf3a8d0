-- The words that tell a region in its box, put one behind the other.
use Rattle.std.proofs.Common.{◌≡◌, ◌≤◌, ◌+◌, ◌-◌, ◌==◌, ◌&&◌, not, if◌then◌else◌, ℕ, Bool, true, false, List, [], ◌∷◌, ◌++◌, map, length, drop, refl, sym, ap, ◌∙◌, arith}
use Rattle.std.specs.Prelude.{codes}
use Rattle.std.specs.List.{filter, flat_map, list_all, range_with_len}
use Rattle.std.proofs.lemmas.List.{append-nil, append_assoc}
use Rattle.std.proofs.lemmas.List.Concat.{flat_map-append}
use Rattle.std.proofs.lemmas.List.FromFn.{filter_of_map_range_with_len_more}
use Rattle.pci_picture.specs.Lines.{is_decimal, nth_word, says}
use Rattle.pci_picture.specs.RegionNames.{AreTextsOf, register_word}
use Rattle.pci_picture.specs.RegionWords.{any_number, called_by, class_of_first, first_words, fault_digits, is_uncalled, words_called, words_if_off, words_of_numbers, words_of_region, words_of_size, numbers_naming}
use Rattle.pci_picture.specs.Roots.{Listed}
use Rattle.pci_picture.specs.Slots.{slot_word}
use Rattle.pci_picture.specs.Titles.{says_free, says_window}

-- ---- slot, register and size

pub size_put : (size old between after : List ℕ) → list_all is_decimal size ≡ true → between ≡ old ++ size → after ≡ between ++ codes " B"
    → after ≡ old ++ words_of_size size
unfolding words_of_size
size_put size old between after digits first unit =
    unit ∙ ap (λ l. l ++ codes " B") first ∙ append_assoc old size (codes " B")
    ∙ sym (ap (λ b. old ++ (if b then size ++ codes " B" else size)) digits)

pub region_put : (words : List (List ℕ)) (size slot register name old between after : List ℕ) → AreTextsOf words size slot register name
    → between ≡ old ++ (slot ++ 32 ∷ (register ++ 44 ∷ 32 ∷ [])) → after ≡ between ++ words_of_size size → after ≡ old ++ words_of_region words
unfolding words_of_region
region_put words size slot register name old between after texts parts put =
    let sized = words_of_size size in
    put ∙ ap (λ l. l ++ sized) parts ∙ append_assoc old (slot ++ 32 ∷ (register ++ 44 ∷ 32 ∷ [])) sized
    ∙ ap (λ l. old ++ l)
    (ap (λ l. l ++ sized) (sym (append_assoc slot (32 ∷ []) (register ++ 44 ∷ 32 ∷ [])) ∙ sym (append_assoc (slot ++ 32 ∷ []) register (44 ∷ 32 ∷ [])))
    ∙ ap (λ s. (((s ++ 32 ∷ []) ++ register) ++ 44 ∷ 32 ∷ []) ++ sized) texts.slot_is
    ∙ ap (λ r. (((slot_word words ++ 32 ∷ []) ++ r) ++ 44 ∷ 32 ∷ []) ++ sized) texts.register_is
    ∙ ap (λ s. (((slot_word words ++ 32 ∷ []) ++ register_word words) ++ 44 ∷ 32 ∷ []) ++ words_of_size s) texts.size_is)

-- ---- the numbers of faults

-- the first numbers from 60 on that pass a test
abbrev pub numbers_below : (ℕ → Bool) → ℕ → List ℕ
numbers_below is n = filter is (map (λ k. k) (range_with_len 60 (n - 60)))

-- two digits each, and a blank between two
abbrev pub spaced : List ℕ → List ℕ
spaced numbers = drop 1 (flat_map (λ number. 32 ∷ fault_digits number) numbers)

number_next : (is : ℕ → Bool) (n : ℕ) → 60 ≤ n → numbers_below is (n + 1) ≡ numbers_below is n ++ (if is n then n ∷ [] else [])
number_next is n low =
    let one : n + 1 - 60 ≡ n - 60 + 1 = omega (arith, low) in
    ap (λ k. filter is (map (λ j. j) (range_with_len 60 k))) one
    ∙ filter_of_map_range_with_len_more is (λ j. j) 60 (n - 60) n (omega (arith, low))

pub number_passes : (is : ℕ → Bool) (n : ℕ) → 60 ≤ n → is n ≡ true → numbers_below is (n + 1) ≡ numbers_below is n ++ n ∷ []
number_passes is n low passes = number_next is n low ∙ ap (λ b. numbers_below is n ++ (if b then n ∷ [] else [])) passes

pub number_fails : (is : ℕ → Bool) (n : ℕ) → 60 ≤ n → is n ≡ false → numbers_below is (n + 1) ≡ numbers_below is n
number_fails is n low fails =
    number_next is n low ∙ ap (λ b. numbers_below is n ++ (if b then n ∷ [] else [])) fails ∙ append-nil (numbers_below is n)

any_more : (numbers : List ℕ) (n : ℕ) → any_number (numbers ++ n ∷ []) ≡ true
any_more [] n = refl
any_more (m ∷ numbers) n = refl

first_spaced : (numbers : List ℕ) (n : ℕ) → any_number numbers ≡ false → spaced (numbers ++ n ∷ []) ≡ spaced numbers ++ fault_digits n
first_spaced [] n none = refl
first_spaced (m ∷ numbers) n none = absurd (cc)

next_spaced : (numbers : List ℕ) (n : ℕ) → any_number numbers ≡ true → spaced (numbers ++ n ∷ []) ≡ spaced numbers ++ 32 ∷ fault_digits n
next_spaced [] n some = absurd (cc)
next_spaced (m ∷ numbers) n some = ap (λ l. fault_digits m ++ l) (flat_map-append (λ number. 32 ∷ fault_digits number) numbers (n ∷ []))

-- a number more is put behind those before it
pub mark_first : (is : ℕ → Bool) (n : ℕ) (old before after : List ℕ) → 60 ≤ n → is n ≡ true → any_number (numbers_below is n) ≡ false
    → before ≡ old ++ spaced (numbers_below is n) → after ≡ before ++ fault_digits n → after ≡ old ++ spaced (numbers_below is (n + 1))
mark_first is n old before after low passes none so_far put =
    put ∙ ap (λ l. l ++ fault_digits n) so_far ∙ append_assoc old (spaced (numbers_below is n)) (fault_digits n)
    ∙ ap (λ l. old ++ l) (sym (first_spaced (numbers_below is n) n none) ∙ ap spaced (sym (number_passes is n low passes)))

pub mark_next : (is : ℕ → Bool) (n : ℕ) (old before between after : List ℕ) → 60 ≤ n → is n ≡ true → any_number (numbers_below is n) ≡ true
    → before ≡ old ++ spaced (numbers_below is n) → between ≡ before ++ 32 ∷ [] → after ≡ between ++ fault_digits n → after ≡ old ++ spaced (numbers_below is (n + 1))
mark_next is n old before between after low passes some so_far blank put =
    put ∙ ap (λ l. l ++ fault_digits n) (blank ∙ ap (λ l. l ++ 32 ∷ []) so_far)
    ∙ append_assoc (old ++ spaced (numbers_below is n)) (32 ∷ []) (fault_digits n) ∙ append_assoc old (spaced (numbers_below is n)) (32 ∷ fault_digits n)
    ∙ ap (λ l. old ++ l) (sym (next_spaced (numbers_below is n) n some) ∙ ap spaced (sym (number_passes is n low passes)))

pub any_passes : (is : ℕ → Bool) (n : ℕ) → 60 ≤ n → is n ≡ true → any_number (numbers_below is (n + 1)) ≡ true
any_passes is n low passes = ap any_number (number_passes is n low passes) ∙ any_more (numbers_below is n) n

-- all numbers, and a colon where there is one
pub marks_put : (named : ℕ → ℕ → ℕ → Bool) (key n : ℕ) (old before after : List ℕ) (is_marked : Bool) → n ≡ 64
    → is_marked ≡ any_number (numbers_below (λ k. named k k key) n) → before ≡ old ++ spaced (numbers_below (λ k. named k k key) n)
    → after ≡ before ++ (if is_marked then 58 ∷ 32 ∷ [] else []) → after ≡ old ++ words_of_numbers (numbers_naming named key)
unfolding words_of_numbers numbers_naming
marks_put named key n old before after is_marked last marked so_far put =
    let numbers = numbers_below (λ k. named k k key) n in
    put ∙ ap (λ b. before ++ (if b then 58 ∷ 32 ∷ [] else [])) marked ∙ ap (λ l. l ++ (if any_number numbers then 58 ∷ 32 ∷ [] else [])) so_far
    ∙ append_assoc old (spaced numbers) (if any_number numbers then 58 ∷ 32 ∷ [] else [])
    ∙ ap (λ k. old ++ (spaced (numbers_below (λ j. named j j key) k) ++ (if any_number (numbers_below (λ j. named j j key) k) then 58 ∷ 32 ∷ [] else []))) last

pub any_mark : (named : ℕ → ℕ → ℕ → Bool) (key n : ℕ) → n ≡ 64 → any_number (numbers_below (λ k. named k k key) n) ≡ any_number (numbers_naming named key)
unfolding numbers_naming
any_mark named key n last = ap (λ k. any_number (numbers_below (λ j. named j j key) k)) last

-- ---- what a region is called

pub uncalled_if_empty : (functions : List Listed) (words : List (List ℕ)) → says (nth_word words 2) (codes "held") ≡ true
    → (length (called_by functions words) == 0) ≡ true → is_uncalled functions words ≡ true
uncalled_if_empty functions words held empty = rw (held, empty) refl

and_false : (b : Bool) → (b && false) ≡ false
and_false true = refl
and_false false = refl

pub called_if_named : (functions : List Listed) (words : List (List ℕ)) → (length (called_by functions words) == 0) ≡ false
    → is_uncalled functions words ≡ false
called_if_named functions words some =
    ap (λ b. says (nth_word words 2) (codes "held") && not (not b)) some ∙ and_false (says (nth_word words 2) (codes "held"))

pub called_if_other : (functions : List Listed) (words : List (List ℕ)) → says (nth_word words 2) (codes "held") ≡ false → is_uncalled functions words ≡ false
called_if_other functions words other = rw other refl

pub uncalled_put : (functions : List Listed) (words : List (List ℕ)) (old : List ℕ) → is_uncalled functions words ≡ true → old ≡ old ++ words_called functions words
unfolding words_called
uncalled_put functions words old is = sym (ap (λ b. old ++ (if b then [] else codes ", " ++ called_by functions words)) is ∙ append-nil old)

pub called_put : (functions : List Listed) (words : List (List ℕ)) (called old between after : List ℕ) → is_uncalled functions words ≡ false
    → called ≡ called_by functions words → between ≡ old ++ codes ", " → after ≡ between ++ called → after ≡ old ++ words_called functions words
unfolding words_called
called_put functions words called old between after is named comma put =
    put ∙ ap (λ l. l ++ called) comma ∙ append_assoc old (codes ", ") called ∙ ap (λ l. old ++ (codes ", " ++ l)) named
    ∙ sym (ap (λ b. old ++ (if b then [] else codes ", " ++ called_by functions words)) is)

-- ---- the first line of a box

pub free_words : (numbers : List ℕ) (functions : List Listed) (words : List (List ℕ)) (size old between after : List ℕ) → says_free words ≡ true
    → size ≡ nth_word words 1 → between ≡ old ++ codes "free " → after ≡ between ++ words_of_size size → after ≡ old ++ first_words numbers functions words
unfolding first_words
free_words numbers functions words size old between after free is_size first put =
    rw free
    (put ∙ ap (λ l. l ++ words_of_size size) first ∙ append_assoc old (codes "free ") (words_of_size size)
    ∙ ap (λ s. old ++ (codes "free " ++ words_of_size s)) is_size)

pub window_words : (numbers : List ℕ) (functions : List Listed) (words : List (List ℕ)) (old after : List ℕ) → says_free words ≡ false → says_window words ≡ true
    → after ≡ old ++ words_of_region words → after ≡ old ++ first_words numbers functions words
unfolding first_words
window_words numbers functions words old after other window put = rw (other, window) put

pub other_words : (numbers : List ℕ) (functions : List Listed) (words : List (List ℕ)) (old marks region after : List ℕ) → says_free words ≡ false → says_window words ≡ false
    → marks ≡ old ++ words_of_numbers numbers → region ≡ marks ++ words_of_region words → after ≡ region ++ words_called functions words
    → after ≡ old ++ first_words numbers functions words
unfolding first_words
other_words numbers functions words old marks region after free window first second third =
    let named = words_of_numbers numbers in
    let told = words_of_region words in
    let called = words_called functions words in
    rw (free, window)
    (third ∙ ap (λ l. l ++ called) (second ∙ ap (λ l. l ++ told) first ∙ append_assoc old named told) ∙ append_assoc old (named ++ told) called)

pub free_class : (numbers : List ℕ) (words : List (List ℕ)) → says_free words ≡ true → codes "quiet" ≡ class_of_first numbers words
unfolding class_of_first
free_class numbers words free = rw free refl

pub window_class : (numbers : List ℕ) (words : List (List ℕ)) → says_free words ≡ false → says_window words ≡ true → codes "bold" ≡ class_of_first numbers words
unfolding class_of_first
window_class numbers words other window = rw (other, window) refl

pub other_class : (numbers : List ℕ) (words : List (List ℕ)) (class : List ℕ) → says_free words ≡ false → says_window words ≡ false
    → class ≡ (if any_number numbers then codes "alarm" else []) → class ≡ class_of_first numbers words
unfolding class_of_first
other_class numbers words class free window is = rw (free, window) is

-- ---- what is off

pub off_put : (functions : List Listed) (words : List (List ℕ)) (range first second after : List ℕ) → range ≡ nth_word words 0 → first ≡ [] ++ words_of_region words
    → second ≡ first ++ 44 ∷ 32 ∷ (range ++ []) → after ≡ second ++ words_called functions words → after ≡ words_if_off functions words
unfolding words_if_off
off_put functions words range first second after is_range begins comma called =
    let told = words_of_region words in
    called
    ∙ ap (λ l. l ++ words_called functions words)
    (comma ∙ ap (λ l. l ++ 44 ∷ 32 ∷ (range ++ [])) begins ∙ ap (λ l. told ++ 44 ∷ 32 ∷ l) (append-nil range)
    ∙ sym (append_assoc told (44 ∷ 32 ∷ []) range) ∙ ap (λ r. (told ++ 44 ∷ 32 ∷ []) ++ r) is_range)

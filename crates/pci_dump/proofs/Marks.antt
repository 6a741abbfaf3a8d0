-- Titles that name assumed registers, as the code reads and writes them.
use Rattle.std.specs.Prelude.{◌==◌, nat_lt, codes, IfSome}
use Rattle.std.proofs.Common.{◌≡◌, ℕ, ◌+◌, ◌-◌, ◌*◌, ◌<◌, ◌≤◌, Bool, true, false, cond, get_or, take, List, [], ◌∷◌, ◌++◌, drop, length, Option, None, Some, inl, inr, refl, arith, sym, ◌∙◌, ap, subst}
use Rattle.std.specs.List.{All}
use Rattle.std.proofs.lemmas.Bool.{both_ways, cases_Bool, eqb-true, ltb-true}
use Rattle.std.proofs.lemmas.List.{append_assoc, append-nil, drop_all, drop_more, get_or_default, length-append, length-drop, take_all}
use Rattle.pci_spec.specs.Text.{IsTitle, hex_digit, hex_byte}
use Rattle.pci_spec.specs.Mark.{behind_word, digit, mark, marked, named_behind, or_none_named, put_before, registers_in, spelled, two_of}
use Rattle.pci_spec.proofs.Marks.{behind_is, behind_stands, digit_reads, digit_is, mark_is_title}
use Rattle.pci_dump.specs.Marks.{register_at}

-- ---- digits

no_digit : (c : ℕ) → ((d : ℕ) → d < 16 → c ≡ hex_digit d → None ≡ Some d) → (o : Option ℕ) → digit c ≡ o → None ≡ o
no_digit c found None is = refl
no_digit c found (Some d) is = let there = digit_is c d is in found d there.0 there.1

pub digit_by : (o : Option ℕ) (c : ℕ) → IfSome o (λ d. (d ≤ 15) × (c ≡ hex_digit d)) → ((d : ℕ) → d < 16 → c ≡ hex_digit d → o ≡ Some d) → o ≡ digit c
digit_by None c some found = no_digit c found (digit c) refl
digit_by (Some d) c some found = let small = some.0 in sym (ap digit some.1 ∙ digit_reads d (omega (arith, small)))

-- ---- a register at the front

not_short : (n : ℕ) → 3 ≤ n → nat_lt n 3 ≡ false
not_short n long = elim (cases_Bool (nat_lt n 3)) [
  | inl short ↦ absurd (let less = ltb-true n 3 short in let no : ⊥ = omega (arith, less, long) in no)
  | inr fine ↦ fine
]

at_front : (b : Bool) (o : Option ℕ) (more : Option (List ℕ)) → cond b (put_before o more) None ≡ put_before (cond b o None) more
at_front true o more = refl
at_front false o more = refl

pub one_more : (separator : ℕ) (text : List ℕ) → 1 ≤ length text → registers_in separator text ≡ put_before (register_at separator text) (registers_in 44 (drop 3 text))
unfolding registers_in
one_more separator [] some = absurd (let no : ⊥ = omega (arith, some) in no)
one_more separator (s ∷ []) some = refl
one_more separator (s ∷ high ∷ []) some = refl
one_more separator (s ∷ high ∷ low ∷ rest) some =
    let long = not_short (length (s ∷ high ∷ low ∷ rest)) (omega arith) in
    at_front (s == separator) (two_of (digit high) (digit low)) (registers_in 44 rest)
    ∙ sym (ap (λ b. put_before (cond b None (cond (s == separator) (two_of (digit high) (digit low)) None)) (registers_in 44 rest)) long)

-- ---- the registers so far

abbrev pub put_all : List ℕ → Option (List ℕ) → Option (List ℕ)
put_all registers None = None
put_all registers (Some more) = Some (registers ++ more)

put_next : (registers : List ℕ) (r : ℕ) (o : Option (List ℕ)) → put_all registers (put_before (Some r) o) ≡ put_all (registers ++ r ∷ []) o
put_next registers r None = refl
put_next registers r (Some more) = ap Some (sym (append_assoc registers (r ∷ []) more))

-- registers that are read, and the text that is left
pub record IsSoFar (text registers rest : List ℕ) (separator : ℕ) : Type 0 where
  pub room : 3 * length registers + length rest ≤ 193
  pub so_far : put_all registers (registers_in separator rest) ≡ registers_in 32 text

none_put : (o : Option (List ℕ)) → put_all [] o ≡ o
none_put None = refl
none_put (Some more) = refl

pub begun : (text : List ℕ) → length text ≤ 193 → IsSoFar text [] text 32
begun text few = record { room = omega (arith, few); so_far = none_put (registers_in 32 text) }

pub some_left : (rest : List ℕ) (empty : Bool) → empty ≡ (length rest == 0) → empty ≡ false → 1 ≤ length rest
some_left [] empty is none = absurd (both_ways false refl (sym none ∙ is))
some_left (c ∷ rest) empty is none = omega arith

pub long_enough : (separator : ℕ) (rest : List ℕ) (r : ℕ) → register_at separator rest ≡ Some r → 3 ≤ length rest
long_enough separator [] r is = absurd (let no : ⊥ = cc in no)
long_enough separator (s ∷ []) r is = absurd (let no : ⊥ = cc in no)
long_enough separator (s ∷ high ∷ []) r is = absurd (let no : ⊥ = cc in no)
long_enough separator (s ∷ high ∷ low ∷ rest) r is = omega arith

-- the text behind the first three bytes, as a slice has it
pub behind_three : (rest : List ℕ) → take (length rest - 3) (drop 3 rest) ≡ drop 3 rest
behind_three rest = let less = length-drop 3 rest in take_all (length rest - 3) (drop 3 rest) (omega (arith, less))

pub shorter : (rest : List ℕ) → 3 ≤ length rest → length (take (length rest - 3) (drop 3 rest)) < length rest
shorter rest long =
    let less = ap length (behind_three rest) in
    let now = length-drop 3 rest in
    omega (arith, less, now, long)

pub so_far_more : (text registers rest : List ℕ) (separator r : ℕ) → IsSoFar text registers rest separator → register_at separator rest ≡ Some r → IsSoFar text (registers ++ r ∷ []) (drop 3 rest) 44
so_far_more text registers rest separator r before at =
    let long = long_enough separator rest r at in
    let room = before.room in
    let more = length-append registers (r ∷ []) in
    let less = length-drop 3 rest in
    record {
      room = omega (arith, long, room, more, less);
      so_far =
          sym (put_next registers r (registers_in 44 (drop 3 rest)))
          ∙ sym (ap (put_all registers) (one_more separator rest (omega (arith, long)) ∙ ap (λ o. put_before o (registers_in 44 (drop 3 rest))) at)) ∙ before.so_far;
    }

pub none_more : (text registers rest : List ℕ) (separator : ℕ) → IsSoFar text registers rest separator → 1 ≤ length rest → register_at separator rest ≡ None → [] ≡ or_none_named (registers_in 32 text)
none_more text registers rest separator before some at =
    ap or_none_named
    (sym (ap (put_all registers) (one_more separator rest some ∙ ap (λ o. put_before o (registers_in 44 (drop 3 rest))) at)) ∙ before.so_far)

no_rest : (rest : List ℕ) (empty : Bool) → empty ≡ (length rest == 0) → empty ≡ true → rest ≡ []
no_rest [] empty is none = refl
no_rest (c ∷ rest) empty is none = absurd (let zero_long = eqb-true (length (c ∷ rest)) 0 (sym is ∙ none) in let no : ⊥ = omega (arith, zero_long) in no)

pub all_read : (text registers rest : List ℕ) (separator : ℕ) (empty : Bool) → empty ≡ (length rest == 0) → empty ≡ true → IsSoFar text registers rest separator → registers ≡ or_none_named (registers_in 32 text)
unfolding registers_in
all_read text registers rest separator empty is none before =
    let gone = no_rest rest empty is none in
    sym (append-nil registers) ∙ ap (λ (t : List ℕ). or_none_named (put_all registers (registers_in separator t))) (sym gone) ∙ ap or_none_named before.so_far

-- ---- behind the word

no_word_by : (word text : List ℕ) → ((rest : List ℕ) → text ≡ word ++ rest → ⊥) → (o : Option (List ℕ)) → behind_word word text ≡ o → o ≡ None
no_word_by word text other None is = refl
no_word_by word text other (Some rest) is = absurd (other rest (behind_is word text rest is))

pub no_word : (title : List ℕ) → ((rest : List ℕ) → title ≡ codes "assumed" ++ rest → ⊥) → [] ≡ marked (Some title)
no_word title other =
    let none = no_word_by (codes "assumed") title other (behind_word (codes "assumed") title) refl in
    sym (ap named_behind none)

pub with_word : (title rest : List ℕ) → title ≡ codes "assumed" ++ rest → or_none_named (registers_in 32 rest) ≡ marked (Some title)
with_word title rest is = sym (ap (λ t. named_behind (behind_word (codes "assumed") t)) is ∙ ap named_behind (behind_stands (codes "assumed") rest))

-- ---- a title that is written

-- the registers before an index stand in a text
pub record IsWritten (registers : List ℕ) (index : ℕ) (text : List ℕ) (separator : ℕ) : Type 0 where
  pub room : length text ≡ 7 + 3 * index
  pub so_far : text ++ spelled separator (drop index registers) ≡ codes "assumed" ++ spelled 32 registers

pub word_written : (registers : List ℕ) → IsWritten registers 0 (codes "assumed") 32
word_written registers = record { room = refl; so_far = refl }

pub one_written : (registers : List ℕ) (index : ℕ) (text new : List ℕ) (separator : ℕ) → index < length registers → new ≡ text ++ (separator ∷ hex_byte (get_or registers index 0)) → IsWritten registers index text separator
    → IsWritten registers (index + 1) new 44
unfolding spelled
one_written registers index text new separator within is before =
    let r = get_or registers index 0 in
    let room = before.room in
    let long = ap length is in
    let more = length-append text (separator ∷ hex_byte r) in
    record {
      room = omega (arith, room, long, more);
      so_far =
          ap (λ (t : List ℕ). t ++ spelled 44 (drop (index + 1) registers)) is
          ∙ append_assoc text (separator ∷ hex_byte r) (spelled 44 (drop (index + 1) registers))
          ∙ ap (λ (rs : List ℕ). text ++ spelled separator rs) (sym (drop_more registers index 0 within)) ∙ before.so_far;
    }

pub mark_some : (registers : List ℕ) → 1 ≤ length registers → Some (codes "assumed" ++ spelled 32 registers) ≡ mark registers
mark_some [] some = absurd (let no : ⊥ = omega (arith, some) in no)
mark_some (r ∷ more) some = refl

pub all_written : (registers : List ℕ) (index : ℕ) (text : List ℕ) (separator : ℕ) → length registers ≤ index → IsWritten registers index text separator → text ≡ codes "assumed" ++ spelled 32 registers
unfolding spelled
all_written registers index text separator past written =
    sym (append-nil text) ∙ ap (λ (rs : List ℕ). text ++ spelled separator rs) (sym (drop_all index registers past)) ∙ written.so_far

pub is_title : (registers text : List ℕ) → 1 ≤ length registers → length registers ≤ 64 → ((i : ℕ) → get_or registers i 0 < 256) → text ≡ codes "assumed" ++ spelled 32 registers → IsTitle text
is_title registers text some few bytes is =
    let all : All (λ r. r < 256) registers = λ k d within. subst (λ n. n < 256) (get_or_default registers k 0 d within) (bytes k) in
    let titled : IfSome (Some text) IsTitle = subst (λ o. IfSome o IsTitle) (sym (ap Some is ∙ mark_some registers some)) (mark_is_title registers all few) in
    titled

-- Titles that name assumed registers: what is written is read, and what is read was written so.
use Rattle.std.specs.Prelude.{codes, IsTrue, IfSome}
use Rattle.std.proofs.Common.{◌≡◌, ℕ, ◌+◌, ◌*◌, ◌/◌, ◌%◌, ◌<◌, ◌≤◌, Bool, true, false, cond, List, [], ◌∷◌, ◌++◌, length, Option, None, Some, inl, inr, refl, arith, sym, ◌∙◌, ap, subst}
use Rattle.std.specs.Bool.{◌==◌}
use Rattle.std.specs.List.{All, Contains, find, range_with_len}
use Rattle.std.proofs.lemmas.Bool.{agree_below_at, both_ways, cases_Bool, cond-false, cond-true, eqb-true, eq-eqb}
use Rattle.std.proofs.lemmas.Option.{same_Some}
use Rattle.std.proofs.lemmas.List.Elements.{All-append, All-cons, All-head, All-nil, All-tail}
use Rattle.pci_spec.specs.Text.{IsTitle, is_title_byte, hex_digit, hex_byte}
use Rattle.pci_spec.specs.Mark.{spelled, mark, digit, two_of, put_before, registers_in, behind_word, or_none_named, named_behind, marked}
use Rattle.pci_spec.proofs.Members.{in_head, in_tail, in_range_to}

-- ---- digits

abbrev is_number : Option ℕ → ℕ → Bool
is_number None d = false
is_number (Some e) d = e == d

some_number : (o : Option ℕ) (d : ℕ) → is_number o d ≡ true → o ≡ Some d
some_number None d h = absurd (both_ways false refl h)
some_number (Some e) d h = ap Some (eqb-true e d h)

abbrev IsByte : ℕ → Type 0
IsByte r = r < 256

abbrev IsOfTitle : ℕ → Type 0
IsOfTitle c = IsTrue (is_title_byte c)

pub digit_reads : (d : ℕ) → d < 16 → digit (hex_digit d) ≡ Some d
unfolding digit
digit_reads d small = some_number (digit (hex_digit d)) d (agree_below_at (λ d. is_number (digit (hex_digit d)) d) (λ _. true) 16 d refl small)

find_is : {X : Type 0} (p : X → Bool) (xs : List X) (x : X) → find p xs ≡ Some x → (p x ≡ true) × Contains xs x
find_is p [] x h = absurd (let no : ⊥ = cc in no)
find_is p (y ∷ ys) x h = elim (cases_Bool (p y)) [
  | inl hit ↦
      let e = same_Some y x (sym (cond-true (p y) (Some y) (find p ys) hit) ∙ h) in
      (ap p (sym e) ∙ hit, subst (λ z. Contains (y ∷ ys) z) e (in_head y ys))
  | inr miss ↦
      let more = find_is p ys x (sym (cond-false (p y) (Some y) (find p ys) miss) ∙ h) in
      (more.0, in_tail y ys x more.1)
]

pub digit_is : (c d : ℕ) → digit c ≡ Some d → (d < 16) × (c ≡ hex_digit d)
unfolding digit
digit_is c d h =
    let found = find_is (λ d. hex_digit d == c) (range_with_len 0 16) d h in
    let low = (in_range_to 0 16 d found.1).1 in
    (omega (arith, low), sym (eqb-true (hex_digit d) c found.0))

-- ---- what is written is read

spelled_reads : (separator : ℕ) (registers : List ℕ) → All (λ r. r < 256) registers → registers_in separator (spelled separator registers) ≡ Some registers
unfolding spelled registers_in
spelled_reads separator [] all = refl
spelled_reads separator (r ∷ more) all =
    let high = digit_reads (r / 16) (let small = All-head IsByte r more all in omega (arith, small)) in
    let low = digit_reads (r % 16) (omega arith) in
    let number : 16 * (r / 16) + r % 16 ≡ r = omega arith in
    ap (λ b. cond b (put_before (two_of (digit (hex_digit (r / 16))) (digit (hex_digit (r % 16)))) (registers_in 44 (spelled 44 more))) None) (eq-eqb separator separator refl)
    ∙ ap (λ o. put_before (two_of o (digit (hex_digit (r % 16)))) (registers_in 44 (spelled 44 more))) high
    ∙ ap (λ o. put_before (two_of (Some (r / 16)) o) (registers_in 44 (spelled 44 more))) low
    ∙ ap (λ o. put_before (Some (16 * (r / 16) + r % 16)) o) (spelled_reads 44 more (All-tail IsByte r more all)) ∙ ap (λ n. Some (n ∷ more)) number

pub mark_names : (registers : List ℕ) → All (λ r. r < 256) registers → marked (mark registers) ≡ registers
unfolding spelled registers_in behind_word
mark_names [] all = refl
mark_names (r ∷ more) all = ap or_none_named (spelled_reads 32 (r ∷ more) all)

-- ---- what is read was written so

pub record IsPut (a b : Option ℕ) (o : Option (List ℕ)) (registers : List ℕ) : Type 0 where
  pub high : ℕ
  pub low : ℕ
  pub more : List ℕ
  pub is_high : a ≡ Some high
  pub is_low : b ≡ Some low
  pub is_more : o ≡ Some more
  pub are : registers ≡ (16 * high + low) ∷ more

put_is : (a b : Option ℕ) (o : Option (List ℕ)) (registers : List ℕ) → put_before (two_of a b) o ≡ Some registers → IsPut a b o registers
put_is None b o registers h = absurd (let no : ⊥ = cc in no)
put_is (Some high) None o registers h = absurd (let no : ⊥ = cc in no)
put_is (Some high) (Some low) None registers h = absurd (let no : ⊥ = cc in no)
put_is (Some high) (Some low) (Some more) registers h = record {
  high = high;
  low = low;
  more = more;
  is_high = refl;
  is_low = refl;
  is_more = refl;
  are = sym (same_Some ((16 * high + low) ∷ more) registers h);
}

-- a text spells registers, which are bytes
pub record IsSpelled (separator : ℕ) (text registers : List ℕ) : Type 0 where
  pub text_is : text ≡ spelled separator registers
  pub bytes : All (λ r. r < 256) registers

pub spelled_is : (separator : ℕ) (text registers : List ℕ) → registers_in separator text ≡ Some registers → IsSpelled separator text registers
unfolding spelled registers_in
spelled_is separator [] registers h =
    subst (λ (rs : List ℕ). IsSpelled separator [] rs) (same_Some [] registers h) record { text_is = refl; bytes = All-nil IsByte }
spelled_is separator (s ∷ []) registers h = absurd (let no : ⊥ = cc in no)
spelled_is separator (s ∷ high ∷ []) registers h = absurd (let no : ⊥ = cc in no)
spelled_is separator (s ∷ high ∷ low ∷ rest) registers h = elim (cases_Bool (s == separator)) [
  | inr other ↦ absurd (let e = sym (cond-false (s == separator) (put_before (two_of (digit high) (digit low)) (registers_in 44 rest)) None other) ∙ h in let no : ⊥ = cc in no)
  | inl same ↦
      let put = put_is (digit high) (digit low) (registers_in 44 rest) registers (sym (cond-true (s == separator) (put_before (two_of (digit high) (digit low)) (registers_in 44 rest)) None same) ∙ h) in
      let more = spelled_is 44 rest put.more put.is_more in
      let first = digit_is high put.high put.is_high in
      let second = digit_is low put.low put.is_low in
      let small = first.0 in
      let less = second.0 in
      let separator_is : s ≡ separator = eqb-true s separator same in
      let up : put.high ≡ (16 * put.high + put.low) / 16 = omega (arith, less) in
      let down : put.low ≡ (16 * put.high + put.low) % 16 = omega (arith, less) in
      let digits : high ∷ low ∷ [] ≡ hex_byte (16 * put.high + put.low) =
      ap (λ c. c ∷ low ∷ []) (first.1 ∙ ap hex_digit up) ∙ ap (λ c. hex_digit ((16 * put.high + put.low) / 16) ∷ c ∷ []) (second.1 ∙ ap hex_digit down) in
      subst (λ (rs : List ℕ). IsSpelled separator (s ∷ high ∷ low ∷ rest) rs) (sym put.are) record {
        text_is = ap (λ c. c ∷ high ∷ low ∷ rest) separator_is ∙ ap (λ (ds : List ℕ). separator ∷ ds ++ rest) digits ∙ ap (λ (t : List ℕ). (separator ∷ hex_byte (16 * put.high + put.low)) ++ t) more.text_is;
        bytes = All-cons IsByte (16 * put.high + put.low) put.more (omega (arith, small, less)) more.bytes;
      }
]

pub behind_is : (word text rest : List ℕ) → behind_word word text ≡ Some rest → text ≡ word ++ rest
unfolding behind_word
behind_is [] text rest h = same_Some text rest h
behind_is (c ∷ word) [] rest h = absurd (let no : ⊥ = cc in no)
behind_is (c ∷ word) (d ∷ text) rest h = elim (cases_Bool (d == c)) [
  | inr other ↦ absurd (let e = sym (cond-false (d == c) (behind_word word text) None other) ∙ h in let no : ⊥ = cc in no)
  | inl same ↦
      let more = behind_is word text rest (sym (cond-true (d == c) (behind_word word text) None same) ∙ h) in
      ap (λ e. e ∷ text) (eqb-true d c same) ∙ ap (λ (t : List ℕ). c ∷ t) more
]

pub behind_stands : (word rest : List ℕ) → behind_word word (word ++ rest) ≡ Some rest
unfolding behind_word
behind_stands [] rest = refl
behind_stands (c ∷ word) rest = ap (λ b. cond b (behind_word word (word ++ rest)) None) (eq-eqb c c refl) ∙ behind_stands word rest

marked_by : (registers : List ℕ) (register : ℕ) → Contains registers register → Some (codes "assumed" ++ spelled 32 registers) ≡ mark registers
marked_by [] register there = absurd (none_in register there) where
  none_in : (x : ℕ) → Contains {X = ℕ} [] x → ⊥
  none_in x h = let low = h.1 in omega (arith, low)
marked_by (r ∷ more) register there = refl

named_by : (text : List ℕ) (register : ℕ) (o : Option (List ℕ)) → registers_in 32 text ≡ o → Contains (or_none_named o) register → Some (codes "assumed" ++ text) ≡ mark (or_none_named o)
named_by text register None is there = absurd (none_in register there) where
  none_in : (x : ℕ) → Contains {X = ℕ} [] x → ⊥
  none_in x h = let low = h.1 in omega (arith, low)
named_by text register (Some registers) is there =
    ap (λ t. Some (codes "assumed" ++ t)) (spelled_is 32 text registers is).text_is ∙ marked_by registers register there

named_in_title : (title : List ℕ) (register : ℕ) (o : Option (List ℕ)) → behind_word (codes "assumed") title ≡ o → Contains (named_behind o) register → Some title ≡ mark (named_behind o)
named_in_title title register None is there = absurd (none_in register there) where
  none_in : (x : ℕ) → Contains {X = ℕ} [] x → ⊥
  none_in x h = let low = h.1 in omega (arith, low)
named_in_title title register (Some text) is there =
    ap Some (behind_is (codes "assumed") title text is) ∙ named_by text register (registers_in 32 text) refl there

pub named_is_mark : (title : Option (List ℕ)) (register : ℕ) → Contains (marked title) register → title ≡ mark (marked title)
named_is_mark None register there = absurd (none_in register there) where
  none_in : (x : ℕ) → Contains {X = ℕ} [] x → ⊥
  none_in x h = let low = h.1 in omega (arith, low)
named_is_mark (Some title) register there = named_in_title title register (behind_word (codes "assumed") title) refl there

-- ---- a mark is a title

pub length-spelled : (separator : ℕ) (registers : List ℕ) → length (spelled separator registers) ≡ 3 * length registers
unfolding spelled
length-spelled separator [] = refl
length-spelled separator (r ∷ more) = let rest = length-spelled 44 more in omega (arith, rest)

pub digit_is_of_title : (d : ℕ) → d < 16 → is_title_byte (hex_digit d) ≡ true
digit_is_of_title d small = agree_below_at (λ d. is_title_byte (hex_digit d)) (λ _. true) 16 d refl small

spelled_of_title : (separator : ℕ) (registers : List ℕ) → is_title_byte separator ≡ true → All (λ r. r < 256) registers → All (λ c. IsTrue (is_title_byte c)) (spelled separator registers)
unfolding spelled
spelled_of_title separator [] fine all = All-nil IsOfTitle
spelled_of_title separator (r ∷ more) fine all =
    let small = All-head IsByte r more all in
    let low = All-cons IsOfTitle (hex_digit (r % 16)) (spelled 44 more) (digit_is_of_title (r % 16) (omega arith)) (spelled_of_title 44 more refl (All-tail IsByte r more all)) in
    let high = All-cons IsOfTitle (hex_digit (r / 16)) (hex_digit (r % 16) ∷ spelled 44 more) (digit_is_of_title (r / 16) (omega (arith, small))) low in
    All-cons IsOfTitle separator (hex_byte r ++ spelled 44 more) fine high

pub mark_is_title : (registers : List ℕ) → All (λ r. r < 256) registers → length registers ≤ 64 → IfSome (mark registers) IsTitle
mark_is_title [] all few = tt
mark_is_title (r ∷ more) all few =
    let count = length-spelled 32 (r ∷ more) in
    let word : All IsOfTitle (codes "assumed") =
    All-cons IsOfTitle 97 (codes "ssumed") refl (All-cons IsOfTitle 115 (codes "sumed") refl (All-cons IsOfTitle 115 (codes "umed") refl
    (All-cons IsOfTitle 117 (codes "med") refl (All-cons IsOfTitle 109 (codes "ed") refl (All-cons IsOfTitle 101 (codes "d") refl (All-cons IsOfTitle 100 [] refl (All-nil IsOfTitle))))))) in
    (omega (arith, count), omega (arith, count, few), All-append IsOfTitle (codes "assumed") (spelled 32 (r ∷ more)) word (spelled_of_title 32 (r ∷ more) refl all))

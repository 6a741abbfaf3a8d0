-- What bytes are read as is the beginning of a line, and where they end one, the line of the range that was read.
use Rattle.std.proofs.Common.{lit<, lit≤, ◌≡◌, ℕ, zero, suc, ◌+◌, ◌*◌, ◌/◌, ◌%◌, ◌^◌, ◌<◌, ◌≤◌, ◌==◌, nat_lt, nat_le, true, false, ◌&&◌, List, [], ◌∷◌, ◌++◌, length, take, get_or, refl, sym, ◌∙◌, ap, subst, arith, append_assoc, append-nil, Option, Some, None, IsTrue}
use Rattle.std.proofs.lemmas.Bool.{cond_both, eqb-true, eqb-false, ltb-true, ltb-false, leb-true, and_parts}
use Rattle.std.proofs.lemmas.List.{take_more, take_all, length-append}
use Rattle.std.proofs.lemmas.List.Elements.{All-push}
use Rattle.pci_spec.specs.System.{Space, Io, Memory, IsAddress}
use Rattle.pci_spec.specs.Text.{hex_digit, hex_byte, slot_text}
use Rattle.pci_spec.specs.Line.{hex_number, address_text}
use Rattle.pci_spec.proofs.HexNumbers.{hex_number-more, more_below}
use Rattle.judge_spec.specs.Told.{ToldRange, is_name_byte, IsName, IsToldLine}
use Rattle.judge_spec.specs.ToldText.{space_word, mark_word, name_text, range_head, told_line}
use Rattle.judge_spec.specs.ToldForm.{Begun, Field, Bus, Device, Function, First, Last, Place, Digits, After, InSpace, InMark, InName, blank, no_line, Step, Wrong, Goes, Ends, goes_at, digit_in, digits_of, greatest_digit, after_digits, digit_step, separator, behind, space_begins, mark_begins, space_step, mark_step, name_step, step_at, step, IsFit, IsUnnamed, IsBegun}

-- ---- steps

abbrev pub from : Step → ℕ → Step
from Wrong c = Wrong
from (Goes l) c = step l c
from (Ends r) c = Wrong

abbrev pub steps : Step → List ℕ → Step
steps s [] = s
steps s (c ∷ bytes) = steps (from s c) bytes

pub steps-append : (s : Step) (xs ys : List ℕ) → steps s (xs ++ ys) ≡ steps (steps s xs) ys
steps-append s [] ys = refl
steps-append s (c ∷ xs) ys = steps-append (from s c) xs ys

-- ---- the text of what is read

abbrev pub before_space : ToldRange → List ℕ
before_space r = slot_text r.slot ++ 32 ∷ []

abbrev pub before : Field → ToldRange → List ℕ
before Bus r = []
before Device r = hex_byte r.slot.bus ++ 58 ∷ []
before Function r = ((hex_byte r.slot.bus ++ 58 ∷ []) ++ hex_byte r.slot.device) ++ 46 ∷ []
before First r = (before_space r ++ space_word r.space r.prefetchable) ++ 32 ∷ []
before Last r = (((before_space r ++ space_word r.space r.prefetchable) ++ 32 ∷ []) ++ address_text r.space r.first) ++ 45 ∷ []

abbrev pub before_mark : ToldRange → List ℕ
before_mark r = (before Last r ++ address_text r.space r.last) ++ 32 ∷ []

-- a number that is read
abbrev pub number_text : Field → ToldRange → List ℕ
number_text Bus r = hex_byte r.slot.bus
number_text Device r = hex_byte r.slot.device
number_text Function r = hex_digit r.slot.function ∷ []
number_text First r = address_text r.space r.first
number_text Last r = address_text r.space r.last

abbrev pub text_at : Place → ℕ → ToldRange → List ℕ
text_at (Digits f k) n r = before f r ++ hex_number k n
text_at (After f) n r = before f r ++ number_text f r
text_at (InSpace k) n r = before_space r ++ take k (space_word r.space r.prefetchable)
text_at (InMark k) n r = before_mark r ++ take k (mark_word r.mark)
text_at InName n r = ((before_mark r ++ mark_word r.mark) ++ 32 ∷ []) ++ r.name

-- ---- a line that is begun

pub record IsAt (part : List ℕ) (place : Place) (n : ℕ) (r : ToldRange) : Type 0 where
  pub text : part ≡ text_at place n r
  pub plain : r.space ≡ Io → r.prefetchable ≡ false
  pub name : IsName r.name
  pub unnamed : IsUnnamed place r
  pub fits : IsFit place n r

-- what was read of some bytes
abbrev pub IsRead : List ℕ → Step → Type 0
IsRead bytes Wrong = Unit {0}
IsRead bytes (Goes l) = IsAt bytes l.place l.number l.range
IsRead bytes (Ends r) = IsToldLine r × (bytes ≡ told_line r)

-- ---- digits

pub digit_read : (c d : ℕ) → digit_in c ≡ Some d → (d < 16) × (c ≡ hex_digit d)
unfolding digit_in
digit_read c d e = grind arith

-- a byte that is no digit goes into none of them
pub digit_known : (d : ℕ) → d < 16 → digit_in (hex_digit d) ≡ Some d
unfolding digit_in
digit_known d small = grind arith

two_digits : (n : ℕ) → n < 256 → hex_number 2 n ≡ hex_byte n
two_digits n small = let e : n / 16 % 16 ≡ n / 16 = omega (arith, small) in ap (λ (h : ℕ). hex_digit h ∷ hex_digit (n % 16) ∷ []) e

one_digit : (n : ℕ) → n < 16 → hex_number 1 n ≡ hex_digit n ∷ []
one_digit n small = let e : n % 16 ≡ n = omega (arith, small) in ap (λ (h : ℕ). hex_digit h ∷ []) e

pub address_digits : (space : Space) (w m : ℕ) → w ≡ digits_of First space → hex_number w m ≡ address_text space m
address_digits Io w m e = ap (λ (k : ℕ). hex_number k m) e
address_digits Memory w m e = ap (λ (k : ℕ). hex_number k m) e

address_small : (space : Space) (w m : ℕ) → w ≡ digits_of First space → m < 16 ^ w → IsAddress space m
address_small Io w m e h = subst (λ (k : ℕ). m < 16 ^ k) e h
address_small Memory w m e h = subst (λ (k : ℕ). m < 16 ^ k) e h

pub digits_alike : (space : Space) → digits_of Last space ≡ digits_of First space
digits_alike Io = refl
digits_alike Memory = refl

-- one digit more
more_text : (x part : List ℕ) (k n d c : ℕ) → part ≡ x ++ hex_number k n → d < 16 → c ≡ hex_digit d → part ++ c ∷ [] ≡ x ++ hex_number (suc k) (16 * n + d)
more_text x part k n d c e small ce =
    (λ i. e i ++ ce i ∷ []) ∙ append_assoc x (hex_number k n) (hex_digit d ∷ []) ∙ ap (λ (t : List ℕ). x ++ t) (sym (hex_number-more k n d small))

sound_digit : (f : Field) (k n : ℕ) (r : ToldRange) (part : List ℕ) (c d : ℕ) → IsAt part (Digits f k) n r → d < 16 → c ≡ hex_digit d → d ≤ greatest_digit f k → IsRead (part ++ c ∷ []) (after_digits f (k + 1) (16 * n + d) r)
sound_digit Bus zero n r part c d a small ce most =
    record { text = more_text [] part 0 n d c a.text small ce; plain = a.plain; name = a.name; unnamed = a.unnamed; fits = (lit< tt, (let f = a.fits.1 in omega (arith, f, small))) }
sound_digit Bus (suc zero) n r part c d a small ce most =
    let below : 16 * n + d < 256 = (let f = a.fits.1 in omega (arith, f, small)) in
    record { text = more_text [] part 1 n d c a.text small ce ∙ two_digits (16 * n + d) below; plain = a.plain; name = a.name; unnamed = a.unnamed; fits = below }
sound_digit Bus (suc (suc k)) n r part c d a small ce most = absurd (let f = a.fits.0 in let no : ⊥ = omega (arith, f) in no)
sound_digit Device zero n r part c d a small ce most =
    record { text = more_text (before Device r) part 0 n d c a.text small ce; plain = a.plain; name = a.name; unnamed = a.unnamed; fits = (lit< tt, (let f = a.fits.1 in omega (arith, f, most)), a.fits.2) }
sound_digit Device (suc zero) n r part c d a small ce most =
    let below : 16 * n + d < 32 = (let f = a.fits.1 in omega (arith, f, small)) in
    record {
      text = more_text (before Device r) part 1 n d c a.text small ce ∙ ap (λ (t : List ℕ). before Device r ++ t) (two_digits (16 * n + d) (omega (arith, below)));
      plain = a.plain;
      name = a.name;
      unnamed = a.unnamed;
      fits = (a.fits.2, below);
    }
sound_digit Device (suc (suc k)) n r part c d a small ce most = absurd (let f = a.fits.0 in let no : ⊥ = omega (arith, f) in no)
sound_digit Function zero n r part c d a small ce most =
    let below : 16 * n + d < 8 = (let f = a.fits.1 in omega (arith, f, most)) in
    record {
      text = more_text (before Function r) part 0 n d c a.text small ce ∙ ap (λ (t : List ℕ). before Function r ++ t) (one_digit (16 * n + d) (omega (arith, below)));
      plain = a.plain;
      name = a.name;
      unnamed = a.unnamed;
      fits = (a.fits.2, a.fits.3, below);
    }
sound_digit Function (suc k) n r part c d a small ce most = absurd (let f = a.fits.0 in let no : ⊥ = omega (arith, f) in no)
sound_digit First k n r part c d a small ce most =
    let m : ℕ = 16 * n + d in
    let s : suc k ≡ k + 1 = omega arith in
    let text : part ++ c ∷ [] ≡ before First r ++ hex_number (k + 1) m = more_text (before First r) part k n d c a.text small ce ∙ ap (λ (j : ℕ). before First r ++ hex_number j m) s in
    let below : m < 16 ^ (k + 1) = subst (λ (j : ℕ). m < 16 ^ j) s (more_below k n d small a.fits.1) in
    cond_both (k + 1 == digits_of First r.space) _ _ (λ (t : Step). IsRead (part ++ c ∷ []) t)
    (λ yes. (let e = eqb-true (k + 1) (digits_of First r.space) yes in record {
      text = text ∙ ap (λ (t : List ℕ). before First r ++ t) (address_digits r.space (k + 1) m e);
      plain = a.plain;
      name = a.name;
      unnamed = a.unnamed;
      fits = (a.fits.2, address_small r.space (k + 1) m e below);
    }))
    (λ no. (let e = eqb-false (k + 1) (digits_of First r.space) no in let f = a.fits.0 in record {
      text = text;
      plain = a.plain;
      name = a.name;
      unnamed = a.unnamed;
      fits = (omega (arith, f, e), below, a.fits.2);
    }))
sound_digit Last k n r part c d a small ce most =
    let m : ℕ = 16 * n + d in
    let s : suc k ≡ k + 1 = omega arith in
    let text : part ++ c ∷ [] ≡ before Last r ++ hex_number (k + 1) m = more_text (before Last r) part k n d c a.text small ce ∙ ap (λ (j : ℕ). before Last r ++ hex_number j m) s in
    let below : m < 16 ^ (k + 1) = subst (λ (j : ℕ). m < 16 ^ j) s (more_below k n d small a.fits.1) in
    cond_both (k + 1 == digits_of Last r.space) _ _ (λ (t : Step). IsRead (part ++ c ∷ []) t)
    (λ yes. (let e = eqb-true (k + 1) (digits_of Last r.space) yes ∙ digits_alike r.space in record {
      text = text ∙ ap (λ (t : List ℕ). before Last r ++ t) (address_digits r.space (k + 1) m e);
      plain = a.plain;
      name = a.name;
      unnamed = a.unnamed;
      fits = (a.fits.2, a.fits.3, address_small r.space (k + 1) m e below);
    }))
    (λ no. (let e = eqb-false (k + 1) (digits_of Last r.space) no in let f = a.fits.0 in let g = digits_alike r.space in record {
      text = text;
      plain = a.plain;
      name = a.name;
      unnamed = a.unnamed;
      fits = (omega (arith, f, e, g), below, a.fits.2, a.fits.3);
    }))

sound_digits : (f : Field) (k n : ℕ) (r : ToldRange) (part : List ℕ) (c : ℕ) (o : Option ℕ) → digit_in c ≡ o → IsAt part (Digits f k) n r → IsRead (part ++ c ∷ []) (digit_step f k n r o)
sound_digits f k n r part c None e a = tt
sound_digits f k n r part c (Some d) e a =
    let digit = digit_read c d e in
    cond_both (nat_le d (greatest_digit f k)) _ _ (λ (t : Step). IsRead (part ++ c ∷ []) t)
    (λ yes. sound_digit f k n r part c d a digit.0 digit.1 (leb-true d (greatest_digit f k) yes))
    (λ no. tt)

-- ---- what stands behind numbers

-- a byte behind a text, and an empty part behind both
then_byte : (part x : List ℕ) (c b : ℕ) → part ≡ x → c ≡ b → part ++ c ∷ [] ≡ x ++ b ∷ []
then_byte part x c b e f = λ i. e i ++ f i ∷ []

then_none : (part x : List ℕ) (c b : ℕ) → part ≡ x → c ≡ b → part ++ c ∷ [] ≡ (x ++ b ∷ []) ++ []
then_none part x c b e f = then_byte part x c b e f ∙ sym (append-nil (x ++ b ∷ []))

digits_some : (space : Space) → 0 < digits_of First space
digits_some Io = lit< tt
digits_some Memory = lit< tt

sound_after : (f : Field) (n : ℕ) (r : ToldRange) (part : List ℕ) (c : ℕ) → IsAt part (After f) n r → c ≡ separator f → IsRead (part ++ c ∷ []) (goes_at (behind f) r)
sound_after Bus n r part c a e = record { text = then_none part (hex_byte r.slot.bus) c 58 a.text e; plain = a.plain; name = a.name; unnamed = a.unnamed; fits = (lit< tt, lit< tt, a.fits) }
sound_after Device n r part c a e =
    record { text = then_none part (before Device r ++ hex_byte r.slot.device) c 46 a.text e; plain = a.plain; name = a.name; unnamed = a.unnamed; fits = (lit< tt, lit< tt, a.fits.0, a.fits.1) }
sound_after Function n r part c a e =
    record { text = then_none part (slot_text r.slot) c 32 a.text e; plain = a.plain; name = a.name; unnamed = a.unnamed; fits = (omega arith, a.fits) }
sound_after First n r part c a e =
    record { text = then_none part (before First r ++ address_text r.space r.first) c 45 a.text e; plain = a.plain; name = a.name; unnamed = a.unnamed; fits = (digits_some r.space, lit< tt, a.fits.0, a.fits.1) }
sound_after Last n r part c a e =
    record { text = then_none part (before Last r ++ address_text r.space r.last) c 32 a.text e; plain = a.plain; name = a.name; unnamed = a.unnamed; fits = (omega arith, a.fits.0, a.fits.1, a.fits.2) }

-- ---- words

none_of : (x w : List ℕ) (k : ℕ) → k ≡ 0 → x ++ take k w ≡ x
none_of x w k e = ap (λ (j : ℕ). x ++ take j w) e ∙ append-nil x

all_of : (x w : List ℕ) (k : ℕ) → k ≤ length w → length w ≤ k → x ++ take k w ≡ x ++ w
all_of x w k a b = ap (λ (t : List ℕ). x ++ t) (take_all k w b)

letter_more : (x w part : List ℕ) (k c : ℕ) → part ≡ x ++ take k w → k < length w → get_or w k 0 ≡ c → part ++ c ∷ [] ≡ x ++ take (k + 1) w
letter_more x w part k c e less at =
    (λ i. e i ++ sym at i ∷ []) ∙ append_assoc x (take k w) (get_or w k 0 ∷ []) ∙ ap (λ (t : List ℕ). x ++ t) (sym (take_more w k 0 less))

space_at_first : (k n : ℕ) (r : ToldRange) (part : List ℕ) (c : ℕ) → IsAt part (InSpace k) n r → k ≡ 0 → IsRead (part ++ c ∷ []) (space_begins r c)
space_at_first k n r part c a zero_ =
    let text : part ≡ before_space r = a.text ∙ none_of (before_space r) (space_word r.space r.prefetchable) k zero_ in
    let P : Step → Type 0 = λ t. IsRead (part ++ c ∷ []) t in
    cond_both (c == 105) _ _ P
    (λ yes. record { text = then_byte part (before_space r) c 105 text (eqb-true c 105 yes); plain = (λ _. refl); name = a.name; unnamed = a.unnamed; fits = (lit≤ tt, a.fits.1) })
    (λ no. cond_both (c == 109) _ _ P
    (λ yes. record { text = then_byte part (before_space r) c 109 text (eqb-true c 109 yes); plain = (λ _. refl); name = a.name; unnamed = a.unnamed; fits = (lit≤ tt, a.fits.1) })
    (λ no. cond_both (c == 112) _ _ P
    (λ yes. record { text = then_byte part (before_space r) c 112 text (eqb-true c 112 yes); plain = (λ e. absurd cc); name = a.name; unnamed = a.unnamed; fits = (lit≤ tt, a.fits.1) })
    (λ no. tt)))

space_goes_on : (k n : ℕ) (r : ToldRange) (part : List ℕ) (c : ℕ) → IsAt part (InSpace k) n r → IsRead (part ++ c ∷ []) (space_step k r c)
space_goes_on k n r part c a =
    let w : List ℕ = space_word r.space r.prefetchable in
    let P : Step → Type 0 = λ t. IsRead (part ++ c ∷ []) t in
    cond_both (nat_lt k (length w)) _ _ P
    (λ less. (let below = ltb-true k (length w) less in cond_both (get_or w k 0 == c) _ _ P
    (λ yes. record {
      text = letter_more (before_space r) w part k c a.text below (eqb-true (get_or w k 0) c yes);
      plain = a.plain;
      name = a.name;
      unnamed = a.unnamed;
      fits = (omega (arith, below), a.fits.1);
    })
    (λ no. tt)))
    (λ over. (let past = ltb-false k (length w) over in let within = a.fits.0 in cond_both (c == 32) _ _ P
    (λ yes. record {
      text = then_none part (before_space r ++ w) c 32 (a.text ∙ all_of (before_space r) w k within past) (eqb-true c 32 yes);
      plain = a.plain;
      name = a.name;
      unnamed = a.unnamed;
      fits = (digits_some r.space, lit< tt, a.fits.1);
    })
    (λ no. tt)))

sound_space : (k n : ℕ) (r : ToldRange) (part : List ℕ) (c : ℕ) → IsAt part (InSpace k) n r → IsRead (part ++ c ∷ []) (step_at (InSpace k) n r c)
unfolding step_at
sound_space k n r part c a =
    cond_both (k == 0) _ _ (λ (t : Step). IsRead (part ++ c ∷ []) t) (λ yes. space_at_first k n r part c a (eqb-true k 0 yes)) (λ no. space_goes_on k n r part c a)

-- ---- the end of a line

-- parts that were put together one by one
joined_range : (w a b : List ℕ) → (((w ++ 32 ∷ []) ++ a) ++ 45 ∷ []) ++ b ≡ w ++ (32 ∷ (a ++ (45 ∷ b)))
joined_range w a b = append_assoc ((w ++ 32 ∷ []) ++ a) (45 ∷ []) b ∙ append_assoc (w ++ 32 ∷ []) a (45 ∷ b) ∙ append_assoc w (32 ∷ []) (a ++ (45 ∷ b))

pub head_text : (r : ToldRange) → before Last r ++ address_text r.space r.last ≡ range_head r
head_text r = ap (λ (t : List ℕ). slot_text r.slot ++ (32 ∷ t)) (joined_range (space_word r.space r.prefetchable) (address_text r.space r.first) (address_text r.space r.last))

mark_text : (r : ToldRange) → before_mark r ++ mark_word r.mark ≡ range_head r ++ (32 ∷ mark_word r.mark)
mark_text r = append_assoc (before Last r ++ address_text r.space r.last) (32 ∷ []) (mark_word r.mark) ∙ ap (λ (t : List ℕ). t ++ (32 ∷ mark_word r.mark)) (head_text r)

unnamed_line : (r : ToldRange) → r.name ≡ [] → (before_mark r ++ mark_word r.mark) ++ 10 ∷ [] ≡ told_line r
unfolding told_line
unnamed_line r e =
    ap (λ (t : List ℕ). t ++ 10 ∷ []) (mark_text r ∙ sym (append-nil (range_head r ++ (32 ∷ mark_word r.mark))) ∙ ap (λ (name : List ℕ). (range_head r ++ (32 ∷ mark_word r.mark)) ++ name_text name) (sym e))

some_name : (name : List ℕ) → (length name ≡ 0 → ⊥) → 32 ∷ name ≡ name_text name
some_name [] e = absurd (e refl)
some_name (c ∷ name) e = refl

named_line : (r : ToldRange) → (length r.name ≡ 0 → ⊥) → (((before_mark r ++ mark_word r.mark) ++ 32 ∷ []) ++ r.name) ++ 10 ∷ [] ≡ told_line r
unfolding told_line
named_line r e =
    ap (λ (t : List ℕ). t ++ 10 ∷ []) (append_assoc (before_mark r ++ mark_word r.mark) (32 ∷ []) r.name ∙ (λ i. mark_text r i ++ some_name r.name e i))

-- ---- marks and names

mark_at_first : (k n : ℕ) (r : ToldRange) (part : List ℕ) (c : ℕ) → IsAt part (InMark k) n r → k ≡ 0 → IsRead (part ++ c ∷ []) (mark_begins r c)
mark_at_first k n r part c a zero_ =
    let text : part ≡ before_mark r = a.text ∙ none_of (before_mark r) (mark_word r.mark) k zero_ in
    let P : Step → Type 0 = λ t. IsRead (part ++ c ∷ []) t in
    cond_both (c == 99) _ _ P
    (λ yes. record { text = then_byte part (before_mark r) c 99 text (eqb-true c 99 yes); plain = a.plain; name = a.name; unnamed = a.unnamed; fits = (lit≤ tt, a.fits.1, a.fits.2, a.fits.3) })
    (λ no. cond_both (c == 97) _ _ P
    (λ yes. record { text = then_byte part (before_mark r) c 97 text (eqb-true c 97 yes); plain = a.plain; name = a.name; unnamed = a.unnamed; fits = (lit≤ tt, a.fits.1, a.fits.2, a.fits.3) })
    (λ no. cond_both (c == 104) _ _ P
    (λ yes. record { text = then_byte part (before_mark r) c 104 text (eqb-true c 104 yes); plain = a.plain; name = a.name; unnamed = a.unnamed; fits = (lit≤ tt, a.fits.1, a.fits.2, a.fits.3) })
    (λ no. tt)))

mark_goes_on : (k n : ℕ) (r : ToldRange) (part : List ℕ) (c : ℕ) → IsAt part (InMark k) n r → IsRead (part ++ c ∷ []) (mark_step k r c)
mark_goes_on k n r part c a =
    let w : List ℕ = mark_word r.mark in
    let P : Step → Type 0 = λ t. IsRead (part ++ c ∷ []) t in
    cond_both (nat_lt k (length w)) _ _ P
    (λ less. (let below = ltb-true k (length w) less in cond_both (get_or w k 0 == c) _ _ P
    (λ yes. record {
      text = letter_more (before_mark r) w part k c a.text below (eqb-true (get_or w k 0) c yes);
      plain = a.plain;
      name = a.name;
      unnamed = a.unnamed;
      fits = (omega (arith, below), a.fits.1, a.fits.2, a.fits.3);
    })
    (λ no. tt)))
    (λ over. (let past = ltb-false k (length w) over in
    let text : part ≡ before_mark r ++ w = (let within = a.fits.0 in a.text ∙ all_of (before_mark r) w k within past) in
    cond_both (c == 10) _ _ P
    (λ yes. (
      record { slot = a.fits.1; plain = a.plain; first = a.fits.2; last = a.fits.3; name = a.name },
      then_byte part (before_mark r ++ w) c 10 text (eqb-true c 10 yes) ∙ unnamed_line r a.unnamed,
    ))
    (λ no. cond_both (c == 32) _ _ P
    (λ yes. record {
      text = then_byte part (before_mark r ++ w) c 32 text (eqb-true c 32 yes) ∙ sym (append-nil ((before_mark r ++ w) ++ 32 ∷ [])) ∙ ap (λ (t : List ℕ). ((before_mark r ++ w) ++ 32 ∷ []) ++ t) (sym a.unnamed);
      plain = a.plain;
      name = a.name;
      unnamed = tt;
      fits = (a.fits.1, a.fits.2, a.fits.3);
    })
    (λ no. tt))))

sound_mark : (k n : ℕ) (r : ToldRange) (part : List ℕ) (c : ℕ) → IsAt part (InMark k) n r → IsRead (part ++ c ∷ []) (step_at (InMark k) n r c)
unfolding step_at
sound_mark k n r part c a =
    cond_both (k == 0) _ _ (λ (t : Step). IsRead (part ++ c ∷ []) t) (λ yes. mark_at_first k n r part c a (eqb-true k 0 yes)) (λ no. mark_goes_on k n r part c a)

name_more : (name : List ℕ) (c : ℕ) → IsName name → is_name_byte c ≡ true → length name < 32 → IsName (name ++ c ∷ [])
name_more name c h byte less =
    let l = length-append name (c ∷ []) in
    (omega (arith, l, less), All-push (λ x. IsTrue (is_name_byte x)) name c h.1 byte)

sound_name : (n : ℕ) (r : ToldRange) (part : List ℕ) (c : ℕ) → IsAt part InName n r → IsRead (part ++ c ∷ []) (name_step r c)
sound_name n r part c a =
    let P : Step → Type 0 = λ t. IsRead (part ++ c ∷ []) t in
    let x : List ℕ = (before_mark r ++ mark_word r.mark) ++ 32 ∷ [] in
    cond_both (c == 10) _ _ P
    (λ end. cond_both (length r.name == 0) _ _ P
    (λ yes. tt)
    (λ no. (
      record { slot = a.fits.0; plain = a.plain; first = a.fits.1; last = a.fits.2; name = a.name },
      then_byte part (x ++ r.name) c 10 a.text (eqb-true c 10 end) ∙ named_line r (eqb-false (length r.name) 0 no),
    )))
    (λ other. cond_both (is_name_byte c && nat_lt (length r.name) 32) _ _ P
    (λ yes. (let parts = and_parts (is_name_byte c) (nat_lt (length r.name) 32) yes in record {
      text = (λ i. a.text i ++ c ∷ []) ∙ append_assoc x r.name (c ∷ []);
      plain = a.plain;
      name = name_more r.name c a.name parts.0 (ltb-true (length r.name) 32 parts.1);
      unnamed = tt;
      fits = a.fits;
    }))
    (λ no. tt))

-- ---- steps are of lines

sound_step : (place : Place) (n : ℕ) (r : ToldRange) (part : List ℕ) (c : ℕ) → IsAt part place n r → IsRead (part ++ c ∷ []) (step_at place n r c)
unfolding step_at
sound_step (Digits f k) n r part c a = sound_digits f k n r part c (digit_in c) refl a
sound_step (After f) n r part c a = cond_both (c == separator f) _ _ (λ (t : Step). IsRead (part ++ c ∷ []) t) (λ yes. sound_after f n r part c a (eqb-true c (separator f) yes)) (λ no. tt)
sound_step (InSpace k) n r part c a = sound_space k n r part c a
sound_step (InMark k) n r part c a = sound_mark k n r part c a
sound_step InName n r part c a = sound_name n r part c a

sound_from : (s : Step) (part : List ℕ) (c : ℕ) → IsRead part s → IsRead (part ++ c ∷ []) (from s c)
sound_from Wrong part c h = tt
sound_from (Goes l) part c h = sound_step l.place l.number l.range part c h
sound_from (Ends r) part c h = tt

sound_steps : (s : Step) (part bytes : List ℕ) → IsRead part s → IsRead (part ++ bytes) (steps s bytes)
sound_steps s part [] h = subst (λ (t : List ℕ). IsRead t s) (sym (append-nil part)) h
sound_steps s part (c ∷ bytes) h = subst (λ (t : List ℕ). IsRead t (steps (from s c) bytes)) (append_assoc part (c ∷ []) bytes) (sound_steps (from s c) (part ++ c ∷ []) bytes (sound_from s part c h))

pub nothing_at : IsAt [] (Digits Bus 0) 0 blank
nothing_at = record { text = refl; plain = (λ _. refl); name = (lit≤ tt, λ k d below. absurd (let no : ⊥ = omega (arith, below) in no)); unnamed = refl; fits = (lit< tt, lit< tt) }

pub line_read : (bytes : List ℕ) → IsRead bytes (steps (Goes no_line) bytes)
line_read bytes = sound_steps (Goes no_line) [] bytes nothing_at

-- a line that is begun goes on as one, whatever its bytes were
abbrev pub StaysBegun : Step → Type 0
StaysBegun Wrong = Unit {0}
StaysBegun (Goes l) = IsBegun l
StaysBegun (Ends r) = Unit {0}

begun_of : (bytes : List ℕ) (s : Step) → IsRead bytes s → StaysBegun s
begun_of bytes Wrong h = tt
begun_of bytes (Goes l) h = record { plain = h.plain; name = h.name; unnamed = h.unnamed; fits = h.fits }
begun_of bytes (Ends r) h = tt

pub stays_begun : (l : Begun) (c : ℕ) → IsBegun l → StaysBegun (step l c)
stays_begun l c h =
    let text : List ℕ = text_at l.place l.number l.range in
    let at : IsAt text l.place l.number l.range = record { text = refl; plain = h.plain; name = h.name; unnamed = h.unnamed; fits = h.fits } in
    begun_of (text ++ c ∷ []) (step l c) (sound_step l.place l.number l.range text c at)

pub nothing_begun : IsBegun no_line
nothing_begun = record { plain = nothing_at.plain; name = nothing_at.name; unnamed = nothing_at.unnamed; fits = nothing_at.fits }

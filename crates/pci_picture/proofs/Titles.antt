-- Which titles begin with a region of a map.
use Rattle.std.proofs.Common.{◌≡◌, ◌≤◌, ◌<◌, ℕ, zero, suc, Bool, true, false, not, ◌==◌, cond, ltb, IsTrue, List, [], ◌∷◌, ◌++◌, length, take, drop, get_or, refl, ap, subst, ◌∙◌, append_assoc, arith}
use Rattle.std.specs.List.{All, position_or_len}
use Rattle.std.proofs.lemmas.Bool.{and_parts, not-true, ne_eqb, eqb-true}
use Rattle.std.proofs.lemmas.Bool.Decides.{nat_tests}
use Rattle.std.proofs.lemmas.List.{get_or-take, get_or-drop}
use Rattle.std.proofs.lemmas.List.Elements.{All-head, All-tail, All-from_get_or, All-weaker}
use Rattle.std.proofs.lemmas.List.Splits.{slice_split_none}
use Rattle.pci_picture.specs.Lines.{is_blank_byte, is_feed, is_dash_byte, is_digit, is_one_line, is_range, is_region_line, is_register, is_slot, is_nonempty_word, nth_word, line_if_region, words_in_line}
use Rattle.pci_picture.specs.Boxes.{first_title_line, titled_line}

-- ---- a title that is one line, and one with more below its first line

first_of_one : (line : List ℕ) → IsTrue (is_one_line line) → first_title_line line ≡ line
first_of_one [] one = refl
first_of_one (b ∷ line) one =
    let parts = and_parts (not (is_feed b)) (is_one_line line) one in
    rw (not-true (is_feed b) parts.0) (ap (λ l. b ∷ l) (first_of_one line parts.1))

first_of_more : (line below : List ℕ) → IsTrue (is_one_line line) → first_title_line (line ++ 10 ∷ below) ≡ line
first_of_more [] below one = refl
first_of_more (b ∷ line) below one =
    let parts = and_parts (not (is_feed b)) (is_one_line line) one in
    rw (not-true (is_feed b) parts.0) (ap (λ l. b ∷ l) (first_of_more line below parts.1))

told : (line : List ℕ) → IsTrue (is_region_line line) → line_if_region line ≡ line ∷ []
told line is = rw is refl

pub title_alone : (line title : List ℕ) → IsTrue (is_one_line line) → IsTrue (is_region_line line) → title ≡ line → titled_line title ≡ line ∷ []
title_alone line title one is same = ap titled_line same ∙ ap line_if_region (first_of_one line one) ∙ told line is

pub title_with : (line below title : List ℕ) → IsTrue (is_one_line line) → IsTrue (is_region_line line) → title ≡ (line ++ 10 ∷ []) ++ below
    → titled_line title ≡ line ∷ []
title_with line below title one is same =
    ap titled_line same ∙ ap line_if_region (ap first_title_line (append_assoc line (10 ∷ []) below) ∙ first_of_more line below one) ∙ told line is

-- a line, a line feed and two texts, put one behind the other
pub title_put : (line name about first second third title : List ℕ) → IsTrue (is_one_line line) → IsTrue (is_region_line line)
    → first ≡ line → second ≡ first ++ 10 ∷ [] → third ≡ second ++ name → title ≡ third ++ about → titled_line title ≡ line ∷ []
title_put line name about first second third title one is a b c d =
    title_with line (name ++ about) title one is
    (d ∙ ap (λ l. l ++ about) (c ∙ ap (λ l. l ++ name) (b ∙ ap (λ l. l ++ 10 ∷ []) a)) ∙ append_assoc (line ++ 10 ∷ []) name about)

-- ---- a title whose first word has no dash

unranged : (word : List ℕ) → ltb (position_or_len is_dash_byte word) (length word) ≡ false → is_range word ≡ false
unfolding is_range
unranged word none = rw none refl

untold : (line : List ℕ) → is_range (nth_word (words_in_line line) 0) ≡ false → line_if_region line ≡ []
unfolding is_region_line
untold line none = rw none refl

no_dash : (word : List ℕ) → All (λ b. is_dash_byte b ≡ false) word → ltb (position_or_len is_dash_byte word) (length word) ≡ false
no_dash [] all = refl
no_dash (b ∷ word) all =
    let none = no_dash word (All-tail (λ b. is_dash_byte b ≡ false) b word all) in
    rw (All-head (λ b. is_dash_byte b ≡ false) b word all) (grind (arith, nat_tests))

-- two digits and a blank, as the first line of a fault has them
first_word : (d e : ℕ) (below : List ℕ) → (d == 32) ≡ false → (e == 32) ≡ false
    → nth_word (words_in_line (d ∷ e ∷ 32 ∷ below)) 0 ≡ d ∷ e ∷ []
unfolding words_in_line
first_word d e below db eb = rw (db, eb) refl

first_bytes : (d e : ℕ) (below : List ℕ) → (d == 10) ≡ false → (e == 10) ≡ false
    → first_title_line (d ∷ e ∷ 32 ∷ below) ≡ d ∷ e ∷ 32 ∷ first_title_line below
first_bytes d e below df ef = rw (df, ef) refl

dashless : (d e : ℕ) → (d == 45) ≡ false → (e == 45) ≡ false → ltb (position_or_len is_dash_byte (d ∷ e ∷ [])) (length (d ∷ e ∷ [])) ≡ false
dashless d e dd ed = rw (dd, ed) refl

numbered : (d e : ℕ) (below : List ℕ) → (d == 10) ≡ false → (e == 10) ≡ false → (d == 32) ≡ false → (e == 32) ≡ false → (d == 45) ≡ false → (e == 45) ≡ false
    → titled_line (d ∷ e ∷ 32 ∷ below) ≡ []
numbered d e below df ef db eb dd ed =
    ap line_if_region (first_bytes d e below df ef)
    ∙ untold (d ∷ e ∷ 32 ∷ first_title_line below) (ap is_range (first_word d e (first_title_line below) db eb) ∙ unranged (d ∷ e ∷ []) (dashless d e dd ed))

pub fault_title : (d e : ℕ) (lines start title : List ℕ) → 48 ≤ d → 48 ≤ e → start ≡ d ∷ e ∷ 32 ∷ [] → title ≡ start ++ lines → titled_line title ≡ []
fault_title d e lines start title low low' begins same =
    ap titled_line (same ∙ ap (λ s. s ++ lines) begins)
    ∙ numbered d e lines (ne_eqb d 10 (λ x. omega (arith, x, low))) (ne_eqb e 10 (λ x. omega (arith, x, low'))) (ne_eqb d 32 (λ x. omega (arith, x, low)))
    (ne_eqb e 32 (λ x. omega (arith, x, low'))) (ne_eqb d 45 (λ x. omega (arith, x, low))) (ne_eqb e 45 (λ x. omega (arith, x, low')))

-- ---- a slot

-- no line feed, no blank and no dash
abbrev IsPlain : ℕ → Type 0
IsPlain b = (is_feed b ≡ false) × (is_blank_byte b ≡ false) × (is_dash_byte b ≡ false)

plain_at : (b : ℕ) → 45 < b → IsPlain b
plain_at b high = (ne_eqb b 10 (λ x. omega (arith, x, high)), ne_eqb b 32 (λ x. omega (arith, x, high)), ne_eqb b 45 (λ x. omega (arith, x, high)))

digit_high : (b : ℕ) → IsTrue (is_digit b) → 45 < b
digit_high b is = grind (arith, nat_tests)

seven : (P : ℕ → Type 0) → P 0 → P 1 → P 2 → P 3 → P 4 → P 5 → P 6 → (i : ℕ) → i < 7 → P i
seven P a b c d e f g zero lt = a
seven P a b c d e f g (suc zero) lt = b
seven P a b c d e f g (suc (suc zero)) lt = c
seven P a b c d e f g (suc (suc (suc zero))) lt = d
seven P a b c d e f g (suc (suc (suc (suc zero)))) lt = e
seven P a b c d e f g (suc (suc (suc (suc (suc zero))))) lt = f
seven P a b c d e f g (suc (suc (suc (suc (suc (suc zero)))))) lt = g
seven P a b c d e f g (suc (suc (suc (suc (suc (suc (suc i))))))) lt = absurd (omega arith)

register_digits : (word : List ℕ) → IsTrue (is_register word) → IsTrue (is_digit (get_or word 0 0)) × IsTrue (is_digit (get_or word 1 0))
unfolding is_register
register_digits word is =
    let both = and_parts _ _ is in
    ((and_parts _ _ both.0).1, both.1)

slot_high : (slot : List ℕ) → IsTrue (is_slot slot) → (i : ℕ) → i < length slot → 45 < get_or slot i 0
unfolding is_slot
slot_high slot is i inside =
    let last = and_parts _ _ is in
    let device = and_parts _ _ last.0 in
    let bus = and_parts _ _ device.0 in
    let dot = and_parts _ _ bus.0 in
    let colon = and_parts _ _ dot.0 in
    let b = register_digits (take 2 slot) bus.1 in
    let d = register_digits (take 2 (drop 3 slot)) device.1 in
    let long : length slot ≡ 7 = eqb-true (length slot) 7 colon.0 in
    let P : ℕ → Type 0 = λ k. 45 < get_or slot k 0 in
    seven P
    (subst (λ x. 45 < x) (get_or-take 2 slot 0 0 (omega arith)) (digit_high _ b.0))
    (subst (λ x. 45 < x) (get_or-take 2 slot 1 0 (omega arith)) (digit_high _ b.1))
    (let at : get_or slot 2 0 ≡ 58 = eqb-true _ 58 colon.1 in omega arith)
    (subst (λ x. 45 < x) (get_or-take 2 (drop 3 slot) 0 0 (omega arith) ∙ get_or-drop 3 slot 0 0) (digit_high _ d.0))
    (subst (λ x. 45 < x) (get_or-take 2 (drop 3 slot) 1 0 (omega arith) ∙ get_or-drop 3 slot 1 0) (digit_high _ d.1))
    (let at : get_or slot 5 0 ≡ 46 = eqb-true _ 46 dot.1 in omega arith)
    (digit_high _ last.1)
    i (omega arith)

plain_slot : (slot : List ℕ) → IsTrue (is_slot slot) → All IsPlain slot
plain_slot slot is = All-from_get_or IsPlain slot 0 (λ i inside. plain_at (get_or slot i 0) (slot_high slot is i inside))

first_of_plain : (text : List ℕ) → All IsPlain text → first_title_line text ≡ text
first_of_plain [] all = refl
first_of_plain (b ∷ text) all =
    rw ((All-head IsPlain b text all).0) (ap (λ l. b ∷ l) (first_of_plain text (All-tail IsPlain b text all)))

one_word : (text : List ℕ) → All IsPlain text → words_in_line text ≡ cond (is_nonempty_word text) (text ∷ []) []
unfolding words_in_line
one_word text all = rw (slice_split_none is_blank_byte text (All-weaker IsPlain (λ b. is_blank_byte b ≡ false) (λ b p. p.1) text all)) refl

plain_range : (is : Bool) (text : List ℕ) → All IsPlain text → is_range (nth_word (cond is (text ∷ []) []) 0) ≡ false
plain_range true text all = unranged text (no_dash text (All-weaker IsPlain (λ c. is_dash_byte c ≡ false) (λ c p. p.2) text all))
plain_range false text all = unranged [] refl

pub slot_title : (slot : List ℕ) → IsTrue (is_slot slot) → titled_line slot ≡ []
slot_title slot is =
    let all = plain_slot slot is in
    ap line_if_region (first_of_plain slot all)
    ∙ untold slot (ap (λ ws. is_range (nth_word ws 0)) (one_word slot all) ∙ plain_range (is_nonempty_word slot) slot all)

-- A text is cut behind the first byte of this value.
use Rattle.std.proofs.Common.{arith, ◌≡◌, ℕ, suc, ◌+◌, ◌<◌, ◌≤◌, ◌==◌, ◌&&◌, List, [], ◌∷◌, length, take, get_or, Bool, true, false, not, cond, refl, sym, ap, ◌∙◌, subst}
use Rattle.std.proofs.lemmas.Bool.{eqb-true, true≢false, false_from_ne_true}
use Rattle.std.proofs.lemmas.List.Sums.{passes_at_first, position_or_len_is}
use Rattle.std.proofs.lemmas.Str.{IsCharBoundary-after_ascii}
use Rattle.std.specs.List.{position_or_len}
use Rattle.std.specs.Cmp.Lexicographic.{pointwise}
use Rattle.std.specs.Prelude.{nat_eq}
use Rattle.std.specs.Str.{IsUtf8, IsCharBoundary}
use Rattle.memchr.specs.Find.{NoneBefore, Nowhere, Passes, is_byte}
use Rattle.pci_json.specs.Lines.{is_blank, is_word, behind_words}

ascii_there : (byte : ℕ) (s : List ℕ) → byte < 128 → position_or_len (λ b. b == byte) s < length s → get_or s (position_or_len (λ b. b == byte) s) 0 < 128
ascii_there byte s small here =
    let is = eqb-true (get_or s (position_or_len (λ b. b == byte) s) 0) byte (passes_at_first (λ b. b == byte) s 0 here) in
    omega (arith, is, small)

pub cut_behind : (byte : ℕ) (text items : List ℕ) (n : ℕ) → items ≡ text → IsUtf8 items → byte < 128 → n ≡ position_or_len (λ b. b == byte) items → n < length text → IsCharBoundary text (n + 1)
cut_behind byte text items n same utf8 small is here =
    let long = ap (λ s. length s) same in
    let inside : position_or_len (λ b. b == byte) items < length items = omega (arith, is, here, long) in
    let ascii = subst (λ k. get_or items k 0 < 128) (sym is) (ascii_there byte items small inside) in
    let short : n < length items = omega (arith, here, long) in
    subst (λ s. IsCharBoundary s (n + 1)) same (IsCharBoundary-after_ascii items n utf8 short ascii)

-- ---- the place that a search finds

pub place_found : (byte : ℕ) (text items : List ℕ) (n : ℕ) → items ≡ text → NoneBefore (Passes (is_byte byte) items) 0 (length items) n → Passes (is_byte byte) items n
    → n ≡ position_or_len (λ b. b == byte) text
place_found byte text items n same none here =
    let short : n ≤ length items = omega (arith, none.high) in
    subst (λ s. n ≡ position_or_len (λ b. b == byte) s) same
    (sym (position_or_len_is (λ b. b == byte) items n 0 short (λ k less. false_from_ne_true _ (none.before k (omega arith) less)) (λ _. here)))

pub no_place : (byte : ℕ) (text items : List ℕ) → items ≡ text → Nowhere (Passes (is_byte byte) items) 0 (length items) → length text ≡ position_or_len (λ b. b == byte) text
no_place byte text items same none =
    let all : length items ≤ length items = omega arith in
    subst (λ s. length s ≡ position_or_len (λ b. b == byte) s) same
    (sym (position_or_len_is (λ b. b == byte) items (length items) 0 all (λ k less. false_from_ne_true _ (none k (omega arith) less)) (λ past. absurd (let no : ⊥ = omega (arith, past) in no))))

-- ---- texts that begin apart

apart_at : (blank : Bool) (a b n : ℕ) (s w : List ℕ) → nat_eq a b ≡ false → pointwise nat_eq (take (cond (not blank) (1 + n) 0) (a ∷ s)) (b ∷ w) ≡ false
apart_at true a b n s w apart = refl
apart_at false a b n s w apart =
    let one : 1 + n ≡ suc n = omega arith in
    ap (λ k. pointwise nat_eq (take k (a ∷ s)) (b ∷ w)) one ∙ ap (λ (t : Bool). t && pointwise nat_eq (take n s) w) apart

pub apart : (s w : List ℕ) → (length s == 0) ≡ false → (length w == 0) ≡ false → nat_eq (get_or s 0 0) (get_or w 0 0) ≡ false → is_word 0 w s ≡ false
unfolding behind_words
apart [] w some also differ = absurd (true≢false some)
apart (a ∷ s) [] some also differ = absurd (true≢false also)
apart (a ∷ s) (b ∷ w) some also differ = apart_at (is_blank a) a b (position_or_len is_blank s) s w differ

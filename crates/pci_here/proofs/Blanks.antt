-- Blanks at the front of a line.
use Rattle.std.proofs.Common.{◌≡◌, ◌≢◌, ℕ, zero, suc, ◌<◌, List, [], ◌∷◌, ◌++◌, length, get_or, drop, replicate, None, Some, refl, sym, ◌∙◌, ap, arith}
use Rattle.std.specs.Str.Pattern.{FindsCharPrefix, CutsPrefixes, IsFullyTrimmed, IsTrimStartMatches}
use Rattle.std.proofs.lemmas.Str.{encode_ascii, len_utf8_ascii}
use Rattle.std.proofs.lemmas.Str.Pattern.{drop_at_char}
use Rattle.pciplan_lists.proofs.Without.{Without}

-- a text doesn't begin with a blank
abbrev pub NoBlank : List ℕ → Type 0
NoBlank text = (rest : List ℕ) → text ≢ 32 ∷ rest

one_more : (n : ℕ) (text : List ℕ) → replicate n 32 ++ 32 ∷ text ≡ replicate (suc n) 32 ++ text
one_more zero text = refl
one_more (suc n) text = ap (λ t. 32 ∷ t) (one_more n text)

cut_off : (line rest : List ℕ) (widths : List ℕ) → CutsPrefixes (FindsCharPrefix 32) line widths rest → line ≡ replicate (length widths) 32 ++ rest
cut_off line rest [] same = sym same
cut_off line rest (n ∷ widths) (middle, cuts, finds, is) =
    let first : middle ≡ 32 ∷ drop n middle = drop_at_char 32 middle 0 n finds (omega arith) in
    cut_off line middle widths cuts ∙ ap (λ t. replicate (length widths) 32 ++ t) (first ∙ ap (λ t. 32 ∷ t) (sym is)) ∙ one_more (length widths) rest

no_blank_left : (rest : List ℕ) → IsFullyTrimmed (FindsCharPrefix 32) rest → NoBlank rest
no_blank_left rest (None, none, empty) = λ more is. none more (is ∙ ap (λ t. t ++ more) (sym (encode_ascii 32 (omega arith))))
no_blank_left rest (Some n, finds, empty) = λ more is. omega (arith, finds.ends, empty, len_utf8_ascii 32 (omega arith))

same_behind : (n m : ℕ) (text other : List ℕ) → NoBlank text → NoBlank other → replicate n 32 ++ text ≡ replicate m 32 ++ other → text ≡ other
same_behind zero zero text other clean none same = same
same_behind zero (suc m) text other clean none same = absurd (clean (replicate m 32 ++ other) same)
same_behind (suc n) zero text other clean none same = absurd (none (replicate n 32 ++ text) (sym same))
same_behind (suc n) (suc m) text other clean none same = same_behind n m text other clean none (ap (λ t. drop 1 t) same)

pub blanks_cut : (line rest : List ℕ) → IsTrimStartMatches (FindsCharPrefix 32) line rest → (n : ℕ) × (line ≡ replicate n 32 ++ rest)
blanks_cut line rest trimmed = (length trimmed.0.0, cut_off line rest trimmed.0.0 trimmed.0.1)

-- what stands behind the blanks is left where it doesn't begin with one
pub trimmed_to : (line rest : List ℕ) → IsTrimStartMatches (FindsCharPrefix 32) line rest
    → (n : ℕ) (text : List ℕ) → NoBlank text → line ≡ replicate n 32 ++ text → rest ≡ text
trimmed_to line rest trimmed n text none is =
    let cut = blanks_cut line rest trimmed in
    same_behind cut.0 n rest text (no_blank_left rest trimmed.1) none (sym cut.1 ∙ is)

pub no_blank : (text more : List ℕ) → 0 < length text → Without 32 text → NoBlank (text ++ more)
no_blank [] more some none = absurd (omega (arith, some))
no_blank (x ∷ text) more some none = λ rest is. none 0 (omega arith) (ap (λ t. get_or t 0 0) is)

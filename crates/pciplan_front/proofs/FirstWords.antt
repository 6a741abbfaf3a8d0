-- The first word says whose the words are.
use Rattle.std.proofs.Common.{◌≡◌, ◌<◌, ℕ, List, [], ◌∷◌, refl, sym, ap, ◌∙◌, codes, get_or, arith}
use Rattle.pciplan_front.specs.FirstWords.{AreOfTexts, HasFirstWord, IsCommandOfWords}
use Rattle.pciplan_front.specs.declared.first.First.{First}
use Rattle.pciplan_front.specs.declared.first.First.TheVariants.{Texts, Here, Explain, Version, Json, Picture}

-- words begin with one word alone
not_both : (words : List (List ℕ)) (a b : List ℕ) → (a ≡ b → ⊥) → HasFirstWord words a → HasFirstWord words b → ⊥
not_both [] a b differ first second = first
not_both (word ∷ rest) a b differ first second = differ (sym first ∙ second)

less_apart : (a b : ℕ) → a < b → a ≡ b → ⊥
less_apart a b less same = omega arith

here_explain : codes "here" ≡ codes "explain" → ⊥
here_explain same = cc same

here_version : codes "here" ≡ codes "version" → ⊥
here_version same = cc same

here_json : codes "here" ≡ codes "json" → ⊥
here_json same = less_apart 104 106 (omega arith) (ap (λ (v : List ℕ). get_or v 0 0) same)

explain_version : codes "explain" ≡ codes "version" → ⊥
explain_version same = less_apart 101 118 (omega arith) (ap (λ (v : List ℕ). get_or v 0 0) same)

explain_json : codes "explain" ≡ codes "json" → ⊥
explain_json same = cc same

version_json : codes "version" ≡ codes "json" → ⊥
version_json same = cc same

here_picture : codes "here" ≡ codes "picture" → ⊥
here_picture same = cc same

explain_picture : codes "explain" ≡ codes "picture" → ⊥
explain_picture same = less_apart 101 112 (omega arith) (ap (λ (v : List ℕ). get_or v 0 0) same)

version_picture : codes "version" ≡ codes "picture" → ⊥
version_picture same = less_apart 112 118 (omega arith) (ap (λ (v : List ℕ). get_or v 0 0) (sym same))

json_picture : codes "json" ≡ codes "picture" → ⊥
json_picture same = cc same

-- words that are another's are none of two texts
pub not_texts : (words : List (List ℕ)) (first : First) → IsCommandOfWords words first → (first ≡ Texts → ⊥) → AreOfTexts words → ⊥
not_texts words Texts is other of = other refl
not_texts words Here is other of = of.no_here is
not_texts words Explain is other of = of.no_explain is
not_texts words Version is other of = of.no_version is
not_texts words Json is other of = of.no_json is
not_texts words Picture is other of = of.no_picture is

pub of_here : (words : List (List ℕ)) (first : First) → IsCommandOfWords words first → HasFirstWord words (codes "here") → first ≡ Here
of_here words Texts is begins = absurd (is.no_here begins)
of_here words Here is begins = refl
of_here words Explain is begins = absurd (not_both words _ _ here_explain begins is)
of_here words Version is begins = absurd (not_both words _ _ here_version begins is)
of_here words Json is begins = absurd (not_both words _ _ here_json begins is)
of_here words Picture is begins = absurd (not_both words _ _ here_picture begins is)

pub of_explain : (words : List (List ℕ)) (first : First) → IsCommandOfWords words first → HasFirstWord words (codes "explain") → first ≡ Explain
of_explain words Texts is begins = absurd (is.no_explain begins)
of_explain words Here is begins = absurd (not_both words _ _ here_explain is begins)
of_explain words Explain is begins = refl
of_explain words Version is begins = absurd (not_both words _ _ explain_version begins is)
of_explain words Json is begins = absurd (not_both words _ _ explain_json begins is)
of_explain words Picture is begins = absurd (not_both words _ _ explain_picture begins is)

pub of_version : (words : List (List ℕ)) (first : First) → IsCommandOfWords words first → HasFirstWord words (codes "version") → first ≡ Version
of_version words Texts is begins = absurd (is.no_version begins)
of_version words Here is begins = absurd (not_both words _ _ here_version is begins)
of_version words Explain is begins = absurd (not_both words _ _ explain_version is begins)
of_version words Version is begins = refl
of_version words Json is begins = absurd (not_both words _ _ version_json begins is)
of_version words Picture is begins = absurd (not_both words _ _ version_picture begins is)

pub of_json : (words : List (List ℕ)) (first : First) → IsCommandOfWords words first → HasFirstWord words (codes "json") → first ≡ Json
of_json words Texts is begins = absurd (is.no_json begins)
of_json words Here is begins = absurd (not_both words _ _ here_json is begins)
of_json words Explain is begins = absurd (not_both words _ _ explain_json is begins)
of_json words Version is begins = absurd (not_both words _ _ version_json is begins)
of_json words Json is begins = refl
of_json words Picture is begins = absurd (not_both words _ _ json_picture begins is)

pub of_picture : (words : List (List ℕ)) (first : First) → IsCommandOfWords words first → HasFirstWord words (codes "picture") → first ≡ Picture
of_picture words Texts is begins = absurd (is.no_picture begins)
of_picture words Here is begins = absurd (not_both words _ _ here_picture is begins)
of_picture words Explain is begins = absurd (not_both words _ _ explain_picture is begins)
of_picture words Version is begins = absurd (not_both words _ _ version_picture is begins)
of_picture words Json is begins = absurd (not_both words _ _ json_picture is begins)
of_picture words Picture is begins = refl

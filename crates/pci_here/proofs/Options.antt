-- Options and their words, one word at a time.
use Rattle.std.proofs.Common.{◌≡◌, ℕ, suc, ◌+◌, ◌-◌, ◌<◌, Bool, true, false, cond, List, [], ◌∷◌, ◌++◌, length, get_or, drop, map, None, refl, sym, ◌∙◌, ap, arith, append-nil, inl, inr}
use Rattle.std.specs.List.{Contains, filter, range_with_len}
use Rattle.std.proofs.lemmas.Bool.{cases_Bool}
use Rattle.std.proofs.lemmas.List.{append_assoc, drop_more}
use Rattle.pci_spec.specs.Text.{hex_byte}
use Rattle.pci_base.specs.declared.range.RootRange.{RootRange}
use Rattle.pci_tree.specs.Roots.{set_in, buses_of}
use Rattle.pci_tree.specs.declared.roots.Roots.{Roots}
use Rattle.pci_tree.proofs.RootLists.{in_set_to, in_set_from}
use Rattle.pci_here.specs.Words.{option_text, range_word}

-- what stands there, with the words that are left, is the whole
abbrev pub IsWhole : List ℕ → List ℕ → List (List ℕ) → List ℕ → Type 0
IsWhole text before left whole = text ++ option_text before left ≡ whole

word_more : (text next before word : List ℕ) (words left : List (List ℕ)) (whole : List ℕ) → words ≡ word ∷ left → next ≡ text ++ (before ++ word)
    → IsWhole text before words whole → IsWhole next (44 ∷ []) left whole
word_more text next before word words left whole first more is =
    ap (λ t. t ++ option_text (44 ∷ []) left) more ∙ append_assoc text (before ++ word) (option_text (44 ∷ []) left)
    ∙ ap (λ t. text ++ t) (append_assoc before word (option_text (44 ∷ []) left))
    ∙ sym (ap (λ ws. text ++ option_text before ws) first) ∙ is

pub word_none : (text before whole : List ℕ) (words : List (List ℕ)) → words ≡ [] → IsWhole text before words whole → text ≡ whole
word_none text before whole words none is = sym (append-nil text) ∙ sym (ap (λ ws. text ++ option_text before ws) none) ∙ is

-- the root buses from n on
pub roots_from : List Bool → ℕ → List ℕ
roots_from flags n = filter (λ bus. get_or flags bus false) (range_with_len n (256 - n))

from_next : (flags : List Bool) (n : ℕ) → n < 256 → roots_from flags n ≡ cond (get_or flags n false) (n ∷ roots_from flags (n + 1)) (roots_from flags (n + 1))
unfolding roots_from
from_next flags n small =
    let e : 256 - n ≡ suc (256 - (n + 1)) = omega (arith, small) in
    ap (λ k. filter (λ bus. get_or flags bus false) (range_with_len n k)) e

from_more : (flags : List Bool) (n : ℕ) → n < 256 → get_or flags n false ≡ true → roots_from flags n ≡ n ∷ roots_from flags (n + 1)
from_more flags n small is = from_next flags n small ∙ ap (λ b. cond b (n ∷ roots_from flags (n + 1)) (roots_from flags (n + 1))) is

from_same : (flags : List Bool) (n : ℕ) → n < 256 → get_or flags n false ≡ false → roots_from flags n ≡ roots_from flags (n + 1)
from_same flags n small is = from_next flags n small ∙ ap (λ b. cond b (n ∷ roots_from flags (n + 1)) (roots_from flags (n + 1))) is

pub roots_all : (flags : List Bool) → roots_from flags 0 ≡ set_in flags
unfolding set_in roots_from
roots_all flags = refl

none_from : (flags : List Bool) → map hex_byte (roots_from flags 256) ≡ []
unfolding roots_from
none_from flags = refl

pub roots_none : (flags : List Bool) (n : ℕ) → n ≡ 256 → map hex_byte (roots_from flags n) ≡ []
roots_none flags n e = ap (λ k. map hex_byte (roots_from flags k)) e ∙ none_from flags

pub root_set : (roots : Roots) (n : ℕ) → Contains (buses_of roots) n → get_or roots.flags n false ≡ true
root_set roots n has = in_set_to roots.flags n has

pub root_unset : (roots : Roots) (n : ℕ) → n < 256 → (Contains (buses_of roots) n → ⊥) → get_or roots.flags n false ≡ false
root_unset roots n small none = elim (cases_Bool (get_or roots.flags n false)) [
  | inl is ↦ absurd (none (in_set_from roots.flags n small is))
  | inr is ↦ is
]

pub root_more : (flags : List Bool) (n : ℕ) (text next before later whole : List ℕ) → n < 256 → get_or flags n false ≡ true → next ≡ text ++ (before ++ hex_byte n)
    → later ≡ 44 ∷ [] → IsWhole text before (map hex_byte (roots_from flags n)) whole → IsWhole next later (map hex_byte (roots_from flags (n + 1))) whole
root_more flags n text next before later whole small is more comma so_far =
    ap (λ b. next ++ option_text b (map hex_byte (roots_from flags (n + 1)))) comma
    ∙ word_more text next before (hex_byte n) (map hex_byte (roots_from flags n)) (map hex_byte (roots_from flags (n + 1))) whole
    (ap (map hex_byte) (from_more flags n small is)) more so_far

pub root_same : (flags : List Bool) (n : ℕ) (text next before later whole : List ℕ) → n < 256 → get_or flags n false ≡ false → next ≡ text → later ≡ before
    → IsWhole text before (map hex_byte (roots_from flags n)) whole → IsWhole next later (map hex_byte (roots_from flags (n + 1))) whole
root_same flags n text next before later whole small is same still so_far =
    ap (λ t. t ++ option_text later (map hex_byte (roots_from flags (n + 1)))) same
    ∙ ap (λ b. text ++ option_text b (map hex_byte (roots_from flags (n + 1)))) still
    ∙ sym (ap (λ buses. text ++ option_text before (map hex_byte buses)) (from_same flags n small is)) ∙ so_far

abbrev no_range : RootRange
no_range = record { root = None; range = record { first = 0; last = 0 } }

pub range_more : (list : List RootRange) (i : ℕ) (text next before whole : List ℕ) → i < length list → next ≡ text ++ (before ++ range_word (get_or list i no_range))
    → IsWhole text before (map range_word (drop i list)) whole → IsWhole next (44 ∷ []) (map range_word (drop (i + 1) list)) whole
range_more list i text next before whole inside more so_far =
    word_more text next before (range_word (get_or list i no_range)) (map range_word (drop i list)) (map range_word (drop (i + 1) list)) whole
    (ap (map range_word) (drop_more list i no_range inside)) more so_far

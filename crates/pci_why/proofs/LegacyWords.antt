-- Bridges of a list, entry by entry, and the words of their lines.
use Rattle.std.proofs.Common.{◌≡◌, ℕ, ◌+◌, ◌<◌, List, [], ◌∷◌, ◌++◌, length, get_or, take, map, Bool, true, false, inl, inr, arith, sym, ◌∙◌, ap, refl, codes}
use Rattle.std.specs.List.{list_any}
use Rattle.std.proofs.Math.ListN.{get_or-map}
use Rattle.std.proofs.lemmas.Bool.{both_ways, false_from_ne_true}
use Rattle.std.proofs.lemmas.List.{length-map, append_assoc}
use Rattle.std.proofs.lemmas.List.Folds.{list_any_at}
use Rattle.pci_spec.specs.Slot.{Slot}
use Rattle.pci_spec.specs.Text.{slot_text}
use Rattle.pci_spec.specs.System.{Space}
use Rattle.pci_spec.specs.Decoded.{DecodedWindows}
use Rattle.pci_spec.specs.Listing.{words, on_text}
use Rattle.pci_spec.specs.Why.{windows_text}
use Rattle.pci_why.specs.Bridges.{bridge_start}
use Rattle.pci_claims.proofs.Parts.{any_more}
use Rattle.pci_why.specs.Lines.{spaced}

-- ---- entries

module _ {X Y : Type 0} (value : X → Y) (test : Y → Bool) (xs : List X) (i : ℕ) (e : X) (within : i < length xs) (at : e ≡ get_or xs i e) where
  pub one_found : test (value e) ≡ true → list_any test (map value xs) ≡ true
  one_found here =
      let same : get_or (map value xs) i (value e) ≡ value e = get_or-map value xs i e ∙ ap value (sym at) in
      list_any_at test (map value xs) i (value e) (omega (arith, within, length-map xs value)) (ap test same ∙ here)

  pub none_more : list_any test (map value (take i xs)) ≡ false → test (value e) ≡ false → list_any test (map value (take (i + 1) xs)) ≡ false
  none_more before none = false_from_ne_true _ (λ some. elim ((any_more test value xs i e within at).0 some) [
    | inl was ↦ both_ways _ before was
    | inr is ↦ both_ways _ none is
  ])

-- ---- words

-- what ends a line of words
pub words_spaced : (ws : List (List ℕ)) → words ws ≡ spaced ws ++ 10 ∷ []
words_spaced [] = refl
words_spaced (w ∷ ws) = ap (λ t. (32 ∷ w) ++ t) (words_spaced ws) ∙ sym (append_assoc (32 ∷ w) (spaced ws) (10 ∷ []))

-- words behind others
spaced_both : (xs ys : List (List ℕ)) → spaced (xs ++ ys) ≡ spaced xs ++ spaced ys
spaced_both [] ys = refl
spaced_both (x ∷ xs) ys = ap (λ t. (32 ∷ x) ++ t) (spaced_both xs ys) ∙ sym (append_assoc (32 ∷ x) (spaced xs) (spaced ys))

pub two_words : (told mid worded : List ℕ) (xs ys : List (List ℕ)) → mid ≡ told ++ spaced xs → worded ≡ mid ++ spaced ys → worded ≡ told ++ spaced (xs ++ ys)
two_words told mid worded xs ys first second =
    second ∙ ap (λ t. t ++ spaced ys) first ∙ append_assoc told (spaced xs) (spaced ys) ∙ ap (λ t. told ++ t) (sym (spaced_both xs ys))

-- the line of a bridge, by what was appended for it
pub line_ended : (start told worded last : List ℕ) (slot : Slot) (on : Bool) (space : Space) (prefetch : Bool) (windows : DecodedWindows) (ws : List (List ℕ))
    → told ≡ start ++ bridge_start slot on space prefetch windows → worded ≡ told ++ spaced ws → last ≡ worded ++ 10 ∷ []
    → last ≡ start ++ (codes "  bridge" ++ ((32 ∷ slot_text slot) ++ ((32 ∷ on_text on) ++ ((32 ∷ windows_text space prefetch windows) ++ words ws))))
line_ended start told worded last slot on space prefetch windows ws begun word more =
    more ∙ rw (word, begun, words_spaced ws) (simp append_assoc)

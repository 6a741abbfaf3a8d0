-- A text that is cut at its first separator.
use Rattle.std.proofs.Common.{◌≡◌, ◌≢◌, ℕ, ◌<◌, List, [], ◌∷◌, length, get_or, Bor, Some, None, refl, ◌∙◌, ap, false, eqb}
use Rattle.std.specs.List.{All, slice_split}
use Rattle.std.proofs.lemmas.Bool.{ne_eqb, eq-eqb}
use Rattle.std.proofs.lemmas.List.Elements.{All-from_get_or}
use Rattle.std.proofs.lemmas.List.Splits.{slice_split_none, slice_split_at}
use Rattle.std.proofs.lemmas.Str.Pattern.{IsSplitOnceResult, split_parts}

lacks : (c : ℕ) (text : List ℕ) → ((i : ℕ) → i < length text → get_or text i 0 ≢ c) → All (λ byte. eqb byte c ≡ false) text
lacks c text none = All-from_get_or (λ byte. eqb byte c ≡ false) text 0 (λ i inside. ne_eqb (get_or text i 0) c (none i inside))

pub one_part : (c : ℕ) (text : List ℕ) → IsSplitOnceResult c text None → c < 128 → slice_split (λ byte. eqb byte c) text ≡ text ∷ []
one_part c text cut ascii = slice_split_none (λ byte. eqb byte c) text (lacks c text (split_parts c text None cut ascii))

pub more_parts : (c : ℕ) (text : List ℕ) (parts : Bor (List ℕ) × Bor (List ℕ)) → IsSplitOnceResult c text (Some parts) → c < 128
    → slice_split (λ byte. eqb byte c) text ≡ parts.0.now ∷ slice_split (λ byte. eqb byte c) parts.1.now
more_parts c text parts cut ascii =
    let is = split_parts c text (Some parts) cut ascii in
    ap (λ t. slice_split (λ byte. eqb byte c) t) is.0
    ∙ slice_split_at (λ byte. eqb byte c) parts.0.now c parts.1.now (lacks c parts.0.now is.1) (eq-eqb c c refl)

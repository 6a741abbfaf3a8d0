-- A line is cut behind its blanks.
use Rattle.std.proofs.Common.{arith, ◌≡◌, ◌==◌, ◌<◌, ◌≤◌, ℕ, ◌+◌, List, [], ◌∷◌, length, Bool, true, false, cond, refl, sym, subst}
use Rattle.std.proofs.lemmas.Bool.{eqb-true}
use Rattle.std.proofs.lemmas.Str.{IsCharBoundary-start, IsCharBoundary-after_ascii, IsCharBoundary-from_rest, IsUtf8-drop}
use Rattle.std.specs.List.{prefix_len}
use Rattle.std.specs.Str.{IsUtf8, IsCharBoundary}
use Rattle.pci_json.specs.Lines.{is_blank}

cut_step : (here : Bool) (b : ℕ) (s : List ℕ) → (b == 32) ≡ here → IsUtf8 (b ∷ s) → (IsUtf8 s → IsCharBoundary s (prefix_len is_blank s))
    → IsCharBoundary (b ∷ s) (cond here (1 + prefix_len is_blank s) 0)
cut_step true b s is text more =
    let blank : b ≡ 32 = eqb-true b 32 is in
    let some : 0 < length (b ∷ s) = omega arith in
    let ascii : b < 128 = omega (arith, blank) in
    let one : IsCharBoundary (b ∷ s) 1 = IsCharBoundary-after_ascii (b ∷ s) 0 text some ascii in
    let fits : 1 ≤ length (b ∷ s) = omega arith in
    IsCharBoundary-from_rest (b ∷ s) 1 (prefix_len is_blank s) fits (more (IsUtf8-drop (b ∷ s) 1 text one))
cut_step false b s is text more = IsCharBoundary-start (b ∷ s) text

pub cut_behind_blanks : (s : List ℕ) → IsUtf8 s → IsCharBoundary s (prefix_len is_blank s)
cut_behind_blanks [] text = IsCharBoundary-start [] text
cut_behind_blanks (b ∷ s) text = cut_step (is_blank b) b s refl text (λ more. cut_behind_blanks s more)

pub cut_there : (s : List ℕ) (n : ℕ) → IsUtf8 s → n ≡ prefix_len is_blank s → IsCharBoundary s n
cut_there s n text is = subst (IsCharBoundary s) (sym is) (cut_behind_blanks s text)

pub cut_of : (line items : List ℕ) (n : ℕ) → items ≡ line → IsUtf8 items → n ≡ prefix_len is_blank line → IsCharBoundary line n
cut_of line items n same text is = cut_there line n (subst IsUtf8 same text) is

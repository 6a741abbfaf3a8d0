-- The ranges of the lines of a text, one line at a time.
use Rattle.std.proofs.Common.{◌≡◌, ℕ, List, [], ◌∷◌, ◌++◌, refl, sym, subst, inl, inr}
use Rattle.std.proofs.lemmas.List.{append_assoc, append-nil}
use Rattle.pci_base.specs.declared.range.RootRange.{RootRange}
use Rattle.pci_here.specs.HostRanges.{AreRangesOf, IsHostLine, IsNoHostLine, HasFound}

pub found_none : (domain : ℕ) (roots : List ℕ) (lines : List (List ℕ)) → HasFound domain roots lines lines []
found_none domain roots lines = λ more are. are

pub found_other : (domain : ℕ) (roots : List ℕ) (lines left rest : List (List ℕ)) (line : List ℕ) (found : List RootRange) → left ≡ line ∷ rest
    → IsNoHostLine domain roots line → HasFound domain roots lines left found → HasFound domain roots lines rest found
found_other domain roots lines left rest line found first none has = λ more are.
    has more (subst (λ l. AreRangesOf domain roots l more) (sym first) (inr (none, are)))

pub found_more : (domain : ℕ) (roots : List ℕ) (lines left rest : List (List ℕ)) (line : List ℕ) (found : List RootRange) (r : RootRange) → left ≡ line ∷ rest
    → IsHostLine domain roots line r → HasFound domain roots lines left found → HasFound domain roots lines rest (found ++ r ∷ [])
found_more domain roots lines left rest line found r first is has = λ more are.
    subst (λ l. AreRangesOf domain roots lines l) (sym (append_assoc found (r ∷ []) more))
    (has (r ∷ more) (subst (λ l. AreRangesOf domain roots l (r ∷ more)) (sym first) (inl (r, more, is, are, refl))))

pub found_all : (domain : ℕ) (roots : List ℕ) (lines left : List (List ℕ)) (found : List RootRange) → left ≡ [] → HasFound domain roots lines left found
    → AreRangesOf domain roots lines found
found_all domain roots lines left found none has =
    subst (λ l. AreRangesOf domain roots lines l) (append-nil found) (has [] (subst (λ l. AreRangesOf domain roots l []) (sym none) refl))

-- Lists of ranges: what is read of one, and that nothing else has its word.
use Rattle.std.proofs.Common.{◌≡◌, ◌≢◌, ℕ, List, [], ◌∷◌, ◌++◌, length, codes, refl, ◌∙◌, ap, subst, arith}
use Rattle.std.proofs.lemmas.List.{append_assoc}
use Rattle.pci_base.specs.declared.range.RootRange.{RootRange}
use Rattle.pciplan_lists.specs.Joined.{AreJoined}
use Rattle.pciplan_lists.specs.ListWords.{HasListedRanges, IsRangeWord, IsListWord, bus_text}
use Rattle.pciplan_lists.proofs.Without.{Without, without_one, not_without}

pub of_ranges : (word : List ℕ) (list : List RootRange) → AreJoined IsRangeWord (44 ∷ word) list → IsListWord word list
of_ranges word [] are = absurd (omega (arith, ap length are))
of_ranges word (r ∷ more) are = are

pub to_ranges : (word : List ℕ) (list : List RootRange) → word ≢ codes "none" → IsListWord word list → AreJoined IsRangeWord (44 ∷ word) list
to_ranges word [] other is = absurd (other is)
to_ranges word (r ∷ more) other is = is

pub some_ranges : (word : List ℕ) (list : List RootRange) → AreJoined IsRangeWord (44 ∷ word) list → HasListedRanges word
some_ranges word [] are = absurd (omega (arith, ap length are))
some_ranges word (r ∷ more) are = (r, more, are)

-- no range is in the word of the list that has none
regroup : (bus first last rest : List ℕ) → (bus ++ (first ++ 45 ∷ last)) ++ rest ≡ (bus ++ first) ++ 45 ∷ (last ++ rest)
regroup bus first last rest = simp append_assoc

without_minus : Without 45 (44 ∷ codes "none")
without_minus =
    without_one 45 44 (110 ∷ 111 ∷ 110 ∷ 101 ∷ []) (omega arith) (without_one 45 110 (111 ∷ 110 ∷ 101 ∷ []) (omega arith)
    (without_one 45 111 (110 ∷ 101 ∷ []) (omega arith) (without_one 45 110 (101 ∷ []) (omega arith)
    (without_one 45 101 [] (omega arith) (λ i inside. absurd (omega (arith, inside)))))))

pub none_only : (list : List RootRange) → IsListWord (codes "none") list → [] ≡ list
none_only [] is = refl
none_only (r ∷ more) (rest, ahead, are) =
    let word = ahead.is in
    let text : 44 ∷ codes "none" ≡ (44 ∷ (bus_text r.root ++ word.range.first)) ++ 45 ∷ (word.range.last ++ rest)
    = ahead.parts ∙ ap (λ w. 44 ∷ (w ++ rest)) (word.text ∙ ap (λ a. bus_text r.root ++ a) word.range.parts)
    ∙ ap (λ t. 44 ∷ t) (regroup (bus_text r.root) word.range.first word.range.last rest) in
    absurd (not_without 45 (44 ∷ (bus_text r.root ++ word.range.first)) (word.range.last ++ rest) (subst (λ t. Without 45 t) text without_minus))

-- What is between ranges that stand by first address.
use Rattle.std.proofs.Common.{◌≡◌, ℕ, ◌+◌, ◌<◌, ◌≤◌, List, ◌++◌, length, drop, get_or, sym, ap, ◌∙◌, max}
use Rattle.std.proofs.lemmas.List.{append_assoc, drop_all, drop_more}
use Rattle.pci_base.specs.declared.range.Range.{Range}
use Rattle.pci_claims.specs.Gaps.{between, gaps}

-- one more range
pub gap_more : (range : Range) (rs : List Range) (k from first last : ℕ) (z : Range) (old new whole : List Range) (next : ℕ) → k < length rs
    → first ≡ (get_or rs k z).first → last ≡ (get_or rs k z).last → next ≡ max from (last + 1)
    → new ≡ old ++ between range from first → old ++ gaps range from (drop k rs) ≡ whole
    → new ++ gaps range next (drop (k + 1) rs) ≡ whole
unfolding gaps
gap_more range rs k from first last z old new whole next within is_first is_last is_next more so =
    let d : Range = get_or rs k z in
    ap (λ n. new ++ gaps range n (drop (k + 1) rs)) (is_next ∙ ap (λ n. max from (n + 1)) is_last)
    ∙ ap (λ t. t ++ gaps range (max from (d.last + 1)) (drop (k + 1) rs)) (more ∙ ap (λ f. old ++ between range from f) is_first)
    ∙ append_assoc old (between range from d.first) (gaps range (max from (d.last + 1)) (drop (k + 1) rs))
    ∙ sym (ap (λ ds. old ++ gaps range from ds) (drop_more rs k z within))
    ∙ so

-- behind the last one
pub gap_all : (range : Range) (rs : List Range) (k from end : ℕ) (old new whole : List Range) → length rs ≤ k → end ≡ range.last + 1
    → new ≡ old ++ between range from end → old ++ gaps range from (drop k rs) ≡ whole → new ≡ whole
unfolding gaps
gap_all range rs k from end old new whole past is_end more so =
    more ∙ ap (λ n. old ++ between range from n) is_end ∙ sym (ap (λ ds. old ++ gaps range from ds) (drop_all k rs past)) ∙ so

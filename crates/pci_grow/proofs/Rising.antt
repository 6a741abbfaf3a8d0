-- Ranges by rising last addresses, up to an index.
use Rattle.std.proofs.Common.{◌≡◌, ℕ, ◌+◌, ◌-◌, ◌<◌, ◌≤◌, inl, inr, List, length, get_or, ap, ◌∙◌, arith}
use Rattle.std.proofs.lemmas.Bool.{cases_lt}
use Rattle.std.proofs.lemmas.List.{get_or_default}
use Rattle.pci_base.specs.declared.range.Range.{Range}

-- last addresses rise before an index
abbrev pub LastsRiseTo : List Range → ℕ → Type 0
LastsRiseTo xs index = (j k : ℕ) (d : Range) → j < k → k < index → (get_or xs j d).last ≤ (get_or xs k d).last

pub lasts_next : (xs : List Range) (index : ℕ) (e : Range) → 0 < index → index < length xs → LastsRiseTo xs index → (get_or xs (index - 1) e).last ≤ (get_or xs index e).last → LastsRiseTo xs (index + 1)
lasts_next xs index e some within rise step j k d less inside = elim (cases_lt k index) [
  | inl under ↦ rise j k d less under
  | inr from ↦
      let here : k ≡ index = omega (arith, from, inside) in
      let at_k = ap (λ n. (get_or xs n d).last) here ∙ ap (λ (r : Range). r.last) (get_or_default xs index d e within) in
      elim (cases_lt j (index - 1)) [
        | inl below ↦
            let was = rise j (index - 1) d below (omega (arith, some)) in
            let at_last = ap (λ (r : Range). r.last) (get_or_default xs (index - 1) d e (omega (arith, some, within))) in
            omega (arith, was, at_last, at_k, step)
        | inr last ↦
            let one : j ≡ index - 1 = omega (arith, last, less, here) in
            let at_j = ap (λ n. (get_or xs n d).last) one ∙ ap (λ (r : Range). r.last) (get_or_default xs (index - 1) d e (omega (arith, some, within))) in
            omega (arith, at_j, at_k, step)
      ]
]

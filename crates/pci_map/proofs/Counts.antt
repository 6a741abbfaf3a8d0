-- How many runs begin before an address.
use Rattle.std.proofs.Common.{◌≡◌, ℕ, suc, ◌+◌, ◌<◌, ◌≤◌, List, [], ◌∷◌, length, drop, ap, ◌∙◌, subst, arith, if◌then◌else◌, inl, inr}
use Rattle.std.specs.Prelude.{nat_le}
use Rattle.std.proofs.lemmas.Bool.{cases_Bool, leb-true, le-leb}
use Rattle.std.proofs.lemmas.List.{drop_all}
use Rattle.pci_base.specs.declared.range.Range.{Range}
use Rattle.pci_map.specs.Walk.{ahead}

none_ahead : (end : ℕ) (r : Range) (rs : List Range) → end ≤ r.first → ahead end (r ∷ rs) ≡ 0
unfolding ahead
none_ahead end r rs low = ap (λ b. if b then 0 else suc (ahead end rs)) (le-leb end r.first low)

one_ahead : (end : ℕ) (r : Range) (rs : List Range) → r.first < end → ahead end (r ∷ rs) ≡ suc (ahead end rs)
unfolding ahead
one_ahead end r rs low = elim (cases_Bool (nat_le end r.first)) [
  | inl past ↦ (let over = leb-true end r.first past in absurd (let no : ⊥ = omega (arith, over, low) in no))
  | inr early ↦ ap (λ b. if b then 0 else suc (ahead end rs)) early
]

end_ahead : (end : ℕ) → ahead end [] ≡ 0
unfolding ahead
end_ahead end = (let e : 0 ≡ 0 = omega arith in e)

module _ (end k : ℕ) (runs : List Range) (n whole : ℕ) (counted : n ≡ k) (so : n + ahead end (drop k runs) ≡ whole) where
  pub count_here : (r d : Range) → drop k runs ≡ d ∷ drop (k + 1) runs → r ≡ d → end ≤ r.first → n ≡ whole
  count_here r d here same low =
      let none : ahead end (drop k runs) ≡ 0 = ap (ahead end) here ∙ none_ahead end d (drop (k + 1) runs) (subst (λ (x : Range). end ≤ x.first) same low) in
      omega (arith, none, so)

  pub count_more : (r d : Range) → drop k runs ≡ d ∷ drop (k + 1) runs → r ≡ d → r.first < end → n + 1 + ahead end (drop (k + 1) runs) ≡ whole
  count_more r d here same low =
      let one : ahead end (drop k runs) ≡ suc (ahead end (drop (k + 1) runs)) = ap (ahead end) here ∙ one_ahead end d (drop (k + 1) runs) (subst (λ (x : Range). x.first < end) same low) in
      omega (arith, one, so)

  pub count_all : length runs ≤ k → n ≡ whole
  count_all past =
      let none : ahead end (drop k runs) ≡ 0 = ap (ahead end) (drop_all k runs past) ∙ end_ahead end in
      omega (arith, none, so)

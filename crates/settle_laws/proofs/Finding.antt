-- What a search through a list finds.
use Rattle.std.proofs.Common.{◌≡◌, inl, inr, List, [], ◌∷◌, refl, Bool, true, cond, ◌||◌, Some, sym, ◌∙◌, ap, subst}
use Rattle.std.specs.List.{Contains, find, list_any}
use Rattle.std.proofs.lemmas.Bool.{cases_Bool, both_ways}
use Rattle.pci_spec.proofs.Members.{in_head, in_tail}

module _ {X : Type 0} (test : X → Bool) where
  -- what is found is in the list, and passes
  pub found : (xs : List X) (x : X) → find test xs ≡ Some x → Contains xs x × (test x ≡ true)
  found [] x e = cc
  found (y ∷ xs) x e = elim (cases_Bool (test y)) [
    | inl fine ↦
        let here : Some y ≡ Some x = sym (ap (λ b. cond b (Some y) (find test xs)) fine) ∙ e in
        let same : y ≡ x = cc in
        (subst (Contains (y ∷ xs)) same (in_head y xs), subst (λ z. test z ≡ true) same fine)
    | inr off ↦
        let more = found xs x (sym (ap (λ b. cond b (Some y) (find test xs)) off) ∙ e) in
        (in_tail y xs x more.0, more.1)
  ]

  -- where something passes, something is found
  pub is_found : (xs : List X) → list_any test xs ≡ true → (x : X) × (find test xs ≡ Some x)
  is_found [] some = absurd (both_ways (list_any test []) refl some)
  is_found (y ∷ xs) some = elim (cases_Bool (test y)) [
    | inl fine ↦ (y, ap (λ b. cond b (Some y) (find test xs)) fine)
    | inr off ↦
        let more = is_found xs (sym (ap (λ b. b || list_any test xs) off) ∙ some) in
        (more.0, ap (λ b. cond b (Some y) (find test xs)) off ∙ more.1)
  ]

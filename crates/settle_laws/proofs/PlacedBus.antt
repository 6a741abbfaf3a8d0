-- Two members of a list of which each two are related are the same, or related one way.
use Rattle.std.proofs.Common.{◌≡◌, ◌⊎◌, inl, inr, List, [], ◌∷◌, true, false, refl, sym, ◌∙◌, subst}
use Rattle.std.specs.List.{Contains, AllPairs}
use Rattle.std.proofs.lemmas.Bool.{both_ways}
use Rattle.pci_spec.proofs.Members.{in_nil, in_cons_cases, pairs_head, pairs_tail}
use Rattle.settle_spec.specs.Items.{Placed, Placing, AllPlaced, Lacks, are_placed}

-- all is placed, at these places
pub placed_list : (p : Placing) → are_placed p ≡ true → (placed : List Placed) × (p ≡ AllPlaced placed)
placed_list (AllPlaced placed) is = (placed, refl)
placed_list (Lacks i) is = absurd (both_ways false refl is)

-- of two in a list of pairs, one comes first
pub pairs_either : {X : Type 0} (R : X → X → Type 0) (xs : List X) → AllPairs R xs → (x y : X) → Contains xs x → Contains xs y → (x ≡ y) ⊎ (R x y ⊎ R y x)
pairs_either R [] pairs x y in_x in_y = absurd (in_nil x in_x)
pairs_either R (z ∷ xs) pairs x y in_x in_y = elim (in_cons_cases z xs x in_x) [
  | inl at_x ↦ elim (in_cons_cases z xs y in_y) [
    | inl at_y ↦ inl (sym at_x ∙ at_y)
    | inr later ↦ inr (inl (subst (λ v. R v y) at_x (pairs_head R z xs y pairs later)))
  ]
  | inr later ↦ elim (in_cons_cases z xs y in_y) [
    | inl at_y ↦ inr (inr (subst (λ v. R v x) at_y (pairs_head R z xs x pairs later)))
    | inr more ↦ pairs_either R xs (pairs_tail R z xs pairs) x y later more
  ]
]

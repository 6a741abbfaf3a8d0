-- What stands at one place in two systems that agree place by place.
use Rattle.std.proofs.Common.{zero, suc, [], ◌∷◌, refl, arith, subst}
use Rattle.std.specs.List.{AllZip, Contains}
use Rattle.pci_spec.specs.System.{System, Function}

pub member_back : (R : Function → Function → Type 0) (s t : System) → AllZip R s t → (g : Function) → Contains t g → (f : Function) × Contains s f × R f g
member_back R [] [] pairs g (k, less, is) = absurd (let impossible : ⊥ = omega (arith, less) in impossible)
member_back R [] (y ∷ t) pairs g listed = absurd pairs
member_back R (x ∷ s) [] pairs g listed = absurd pairs
member_back R (x ∷ s) (y ∷ t) (first, rest) g (zero, less, is) = (x, (0, omega arith, refl), subst (λ (h : Function). R x h) is first)
member_back R (x ∷ s) (y ∷ t) (first, rest) g (suc k, less, is) =
    let found = member_back R s t rest g (k, omega (arith, less), is) in
    (found.0, (suc found.1.0, (let l = found.1.1 in omega (arith, l)), found.1.2), found.2)

pub member_forth : (R : Function → Function → Type 0) (s t : System) → AllZip R s t → (f : Function) → Contains s f → (g : Function) × Contains t g × R f g
member_forth R [] [] pairs f (k, less, is) = absurd (let impossible : ⊥ = omega (arith, less) in impossible)
member_forth R [] (y ∷ t) pairs f listed = absurd pairs
member_forth R (x ∷ s) [] pairs f listed = absurd pairs
member_forth R (x ∷ s) (y ∷ t) (first, rest) f (zero, less, is) = (y, (0, omega arith, refl), subst (λ (h : Function). R h y) is first)
member_forth R (x ∷ s) (y ∷ t) (first, rest) f (suc k, less, is) =
    let found = member_forth R s t rest f (k, omega (arith, less), is) in
    (found.0, (suc found.1.0, (let l = found.1.1 in omega (arith, l)), found.1.2), found.2)

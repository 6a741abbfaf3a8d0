-- What leaves a list as it is leaves each of its members.
use Rattle.std.proofs.Common.{◌≡◌, inl, inr, [], ◌∷◌, subst, map}
use Rattle.std.specs.List.{Contains}
use Rattle.pci_spec.specs.System.{System, Function}
use Rattle.pci_spec.proofs.Members.{in_nil, in_cons_cases}

pub fixed_each : (g : Function → Function) (t : System) → map g t ≡ t → (f : Function) → Contains t f → g f ≡ f
fixed_each g [] e f has = absurd (in_nil f has)
fixed_each g (x ∷ t) e f has =
    let first : g x ≡ x = cc in
    let rest : map g t ≡ t = cc in
    elim (in_cons_cases x t f has) [
      | inl is ↦ subst (λ y. g y ≡ y) is first
      | inr more ↦ fixed_each g t rest f more
    ]

-- Where no register of a list differs, nothing is written.
use Rattle.std.proofs.Common.{◌≡◌, ℕ, List, [], ◌∷◌, ◌++◌, cond, refl, ◌∙◌, ap}
use Rattle.std.specs.List.{Contains, flat_map}
use Rattle.std.proofs.lemmas.Bool.{eq-eqb}
use Rattle.pci_spec.specs.Number.{number_at}
use Rattle.pci_spec.specs.Machine.{Write}
use Rattle.pci_spec.proofs.Members.{in_head, in_tail}
use Rattle.plan_spec.specs.Planning.PlanWrites.{Change, register_write}

-- ---- between states that show the same nothing is written

pub none_flat : {X : Type 0} (g : X → List Write) (xs : List X) → ((x : X) → Contains xs x → g x ≡ []) → flat_map g xs ≡ []
none_flat g [] none = refl
none_flat g (x ∷ xs) none = ap (λ ws. ws ++ flat_map g xs) (none x (in_head x xs)) ∙ none_flat g xs (λ y has. none y (in_tail x xs y has))

pub no_difference : (c : Change) (r : ℕ × ℕ) → number_at c.new.image r.0 r.1 ≡ number_at c.old.image r.0 r.1 → register_write c r ≡ []
no_difference c r e = ap (λ t. cond t [] (record { slot = c.old.slot; offset = r.0; width = r.1; value = number_at c.new.image r.0 r.1 } ∷ []))
    (eq-eqb (number_at c.new.image r.0 r.1) (number_at c.old.image r.0 r.1) e)

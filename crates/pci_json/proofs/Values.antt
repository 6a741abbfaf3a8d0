-- The values under a name in lists of members.
use Rattle.std.proofs.Common.{◌≡◌, ℕ, List, [], ◌∷◌, ◌++◌, Bool, true, false, refl, ap, if◌then◌else◌}
use Rattle.std.specs.Prelude.{nat_eq}
use Rattle.std.specs.Cmp.Lexicographic.{pointwise}
use Rattle.json.specs.Json.{Json}
use Rattle.pci_json.specs.Members.{members_of}
use Rattle.pci_json.specs.Values.{values_in}

more_if : (same : Bool) (value : Json) (a b c : List Json) → a ≡ b ++ c
    → (if same then value ∷ a else a) ≡ (if same then value ∷ b else b) ++ c
more_if true value a b c more = ap (λ vs. value ∷ vs) more
more_if false value a b c more = more

pub values_of_more : (name : List ℕ) (ms ns : List (List ℕ × Json))
    → values_in name (members_of (ms ++ ns)) ≡ values_in name (members_of ms) ++ values_in name (members_of ns)
values_of_more name [] ns = refl
values_of_more name (m ∷ ms) ns =
    more_if (pointwise nat_eq m.0 name) m.1 (values_in name (members_of (ms ++ ns))) (values_in name (members_of ms)) (values_in name (members_of ns)) (values_of_more name ms ns)

-- Writes and functions in the order of their slots.
use Rattle.std.proofs.Common.{◌≡◌, ◌<◌, inl, inr, List, [], ◌∷◌, ◌++◌, refl, Bool, true, false, cond, arith, subst, get_or}
use Rattle.std.specs.List.{AllPairs, Contains}
use Rattle.std.proofs.lemmas.List.{get_or_default}
use Rattle.std.proofs.lemmas.List.Elements.{Contains-append_right}
use Rattle.pci_spec.specs.Slot.{slot_number}
use Rattle.pci_spec.specs.System.{System, Function, IsSystem}
use Rattle.pci_spec.specs.Machine.{Write}
use Rattle.pci_spec.proofs.Members.{in_nil, in_cons_cases, pairs_head, pairs_tail}
use Rattle.pci_spec.proofs.Nesting.{earlier_is_lower}

pub in_command : (b : Bool) (w x : Write) → Contains (cond b [] (w ∷ [])) x → (b ≡ false) × (w ≡ x)
in_command false w x has = (refl, elim (in_cons_cases w [] x has) [ inl is ↦ is | inr none ↦ absurd (in_nil x none) ])
in_command true w x has = absurd (in_nil x has)

abbrev pub Lower : Function → Function → Type 0
Lower f g = slot_number f.slot < slot_number g.slot

pub system_rises : (s : System) → IsSystem s → AllPairs Lower s
system_rises s system j k d less within =
    earlier_is_lower s system (get_or s j d) (get_or s k d)
    (j, omega (arith, less, within), get_or_default s j (get_or s j d) d (omega (arith, less, within)))
    (k, within, get_or_default s k (get_or s k d) d within) less

pub split_pairs : {X : Type 0} (R : X → X → Type 0) (a b : List X) → AllPairs R (a ++ b) → (x y : X) → Contains a x → Contains b y → R x y
split_pairs R [] b pairs x y in_x in_y = absurd (in_nil x in_x)
split_pairs R (z ∷ a) b pairs x y in_x in_y = elim (in_cons_cases z a x in_x) [
  | inl is ↦ subst (λ v. R v y) is (pairs_head R z (a ++ b) y pairs (Contains-append_right a b y in_y))
  | inr more ↦ split_pairs R a b (pairs_tail R z (a ++ b) pairs) x y more in_y
]

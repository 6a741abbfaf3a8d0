-- What the host sends to a root bus, and the root bus that a path begins at.
use Rattle.std.proofs.Common.{◌≡◌, ℕ, List, [], ◌∷◌, length, map, Option, None, Some, arith, subst, sym, ◌∙◌, ap}
use Rattle.std.specs.Prelude.{MatchOption}
use Rattle.pci_spec.specs.Slot.{Slot}
use Rattle.pci_spec.specs.System.{System, Function, Space, Leads}
use Rattle.pci_base.specs.declared.range.Range.{Range}
use Rattle.pci_tree.specs.Ranges.{Holds, Covers, IsLeastOutside}
use Rattle.judge_spec.specs.Given.{Given}
use Rattle.pci_claims.specs.Sent.{IsSentTo}
use Rattle.pci_claims.specs.Outside.{IsSent, IsLeastUnsent, IsRootOfPath}

-- what a list of ranges leaves of a range, where the list is what is sent
pub unsent_of : (given : Given) (space : Space) (root : ℕ) (sent : List Range) (r : Range) (o : Option ℕ) → IsSentTo given space root sent
    → MatchOption o ((a : ℕ) → Holds r a → Covers sent a) (λ a. IsLeastOutside r sent a)
    → MatchOption o ((a : ℕ) → Holds r a → IsSent given space root a) (λ a. IsLeastUnsent given space root r a)
unsent_of given space root sent r None is all = λ a held. (is.exact a).0 (all a held)
unsent_of given space root sent r (Some a) is least = record {
  held = least.held;
  unsent = λ h. least.outside ((is.exact a).1 h);
  least = λ b less held. (is.exact b).0 (least.least b less held);
}

-- the root that the bridges of a path lead from
pub root_of : (s : System) (from : ℕ) (bridges : List Function) (to : ℕ) (path : List Slot) (root : ℕ) → Leads s from bridges to → map (λ f. f.slot) bridges ≡ path → IsRootOfPath path to root
    → from ≡ root
root_of s from [] to path root leads e is = leads ∙ is.none (ap length (sym e))
root_of s from (b ∷ bridges) to path root (has, bridge, on, rest) e is =
    let first : IsRootOfPath (b.slot ∷ map (λ (f : Function). f.slot) bridges) to root = subst (λ p. IsRootOfPath p to root) (sym e) is in
    sym on ∙ first.some (omega arith) b.slot

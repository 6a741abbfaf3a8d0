-- Whether each address of a range is sent.
use Rattle.std.proofs.Common.{◌≡◌, ℕ, List, Bool, true, false, not, Option, None, Some, sym}
use Rattle.std.specs.Prelude.{MatchOption, MatchBool, is_some}
use Rattle.std.proofs.lemmas.Bool.{false≢true}
use Rattle.pci_base.specs.declared.range.Range.{Range}
use Rattle.pci_tree.specs.Ranges.{Holds, Covers, IsLeastOutside}
use Rattle.pci_map.specs.Addresses.{HasUnsent}

module _ (rs : List Range) (r : Range) where
  abbrev pub IsAnswer : Bool → Type 0
  IsAnswer b = MatchBool b ((a : ℕ) → Holds r a → Covers rs a) (HasUnsent rs r)

  pub all_sent : (o : Option ℕ) (b : Bool) → is_some o ≡ not b → MatchOption o ((a : ℕ) → Holds r a → Covers rs a) (λ a. IsLeastOutside r rs a) → IsAnswer b
  all_sent None true is all = all
  all_sent None false is all = absurd (false≢true is)
  all_sent (Some a) true is least = absurd (false≢true (sym is))
  all_sent (Some a) false is least = record { address = a; held = least.held; unsent = least.outside }

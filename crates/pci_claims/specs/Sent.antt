-- What the host sends to a root bus.
use Rattle.std.specs.Prelude.{ℕ, ◌≤◌, ◌↔◌, IsTrue, List, map}
use Rattle.std.specs.List.{All, list_any}
use Rattle.pci_base.specs.declared.range.Range.{Range}
use Rattle.pci_spec.specs.System.{Space, IsAddress}
use Rattle.pci_tree.specs.Ranges.{Covers, IsCanonical}
use Rattle.judge_spec.specs.Given.{Given, starts, sends}
use Rattle.pci_base.specs.declared.range.RootRange.{RootRange}
use Rattle.pci_claims.specs.Values.{host_value}

-- the addresses of a space to which accesses start on a root bus
pub record IsSentTo (given : Given) (space : Space) (root : ℕ) (out : List Range) : Type 0 where
  pub canonical : IsCanonical out
  pub exact : (a : ℕ) → Covers out a ↔ (IsAddress space a × IsTrue (starts given space root a))

-- an address of the space that the host sends to the root bus by the range
abbrev pub IsPartAt : RootRange → Space → ℕ → ℕ → Type 0
IsPartAt range space root a = IsAddress space a × IsTrue (sends root a (host_value range))

-- ranges with the addresses of the space that the host sends to the root bus by some ranges
pub record ArePartsOf (ranges : List RootRange) (space : Space) (root : ℕ) (out : List Range) : Type 0 where
  pub lawful : All (λ r. r.first ≤ r.last) out
  pub exact : (a : ℕ) → Covers out a
      ↔ (IsAddress space a × IsTrue (list_any (sends root a) (map host_value ranges)))

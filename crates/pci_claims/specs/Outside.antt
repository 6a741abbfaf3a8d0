-- Addresses that the host doesn't send to a root bus, and the root bus that a path begins at.
use Rattle.std.specs.Prelude.{◌≡◌, ℕ, ◌<◌, IsTrue, List, length}
use Rattle.std.specs.List.{HoldsAt}
use Rattle.pci_spec.specs.Slot.{Slot}
use Rattle.pci_spec.specs.System.{Space, IsAddress}
use Rattle.pci_base.specs.declared.range.Range.{Range}
use Rattle.pci_tree.specs.Ranges.{Holds}
use Rattle.judge_spec.specs.Given.{Given, starts}

-- an address of the space to which accesses start on the root bus
abbrev pub IsSent : Given → Space → ℕ → ℕ → Type 0
IsSent given space root a = IsAddress space a × IsTrue (starts given space root a)

-- the least address of a range that isn't one
pub record IsLeastUnsent (given : Given) (space : Space) (root : ℕ) (r : Range) (a : ℕ) : Type 0 where
  pub held : Holds r a
  pub unsent : IsSent given space root a → ⊥
  pub least : (b : ℕ) → b < a → Holds r b → IsSent given space root b

-- the root bus that a path begins at, the path ending at a bus
pub record IsRootOfPath (path : List Slot) (end root : ℕ) : Type 0 where
  pub some : 0 < length path → HoldsAt (λ slot. slot.bus ≡ root) path 0
  pub none : length path ≡ 0 → end ≡ root

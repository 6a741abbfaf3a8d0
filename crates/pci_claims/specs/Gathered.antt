-- Lists of ranges made of others.
use Rattle.std.specs.Prelude.{◌≡◌, ℕ, ◌≤◌, ◌⊎◌, ◌↔◌, List}
use Rattle.std.specs.List.{All}
use Rattle.pci_base.specs.declared.range.Range.{Range}
use Rattle.pci_tree.specs.Ranges.{Covers, IsCanonical}

-- the same addresses, by ranges that rise with a gap between two
pub record IsGathered (rs out : List Range) : Type 0 where
  pub canonical : IsCanonical out
  pub exact : (a : ℕ) → Covers out a ↔ Covers rs a

-- the addresses of both lists
pub record IsCommon (rs ss out : List Range) : Type 0 where
  pub canonical : IsCanonical out
  pub exact : (a : ℕ) → Covers out a ↔ (Covers rs a × Covers ss a)

-- from the first address of one range to the last of both
pub record IsJoined (r s m : Range) : Type 0 where
  pub first : m.first ≡ r.first
  pub last : (m.last ≡ r.last) ⊎ (m.last ≡ s.last)
  pub high : (r.last ≤ m.last) × (s.last ≤ m.last)

-- some ranges, none of them empty, and behind them those of others that have an address
pub record AreLawfulBehind (before rs out : List Range) : Type 0 where
  pub lawful : All (λ r. r.first ≤ r.last) before → All (λ r. r.first ≤ r.last) out
  pub exact : (a : ℕ) → Covers out a ↔ (Covers before a ⊎ Covers rs a)

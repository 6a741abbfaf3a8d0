-- What a bridge misses.
use Rattle.std.specs.Prelude.{ℕ, ◌<◌, List}
use Rattle.pci_base.specs.declared.range.Range.{Range}
use Rattle.pci_tree.specs.Ranges.{Holds, Covers}

-- the least address of a range that is sent, and isn't passed
pub record IsLeastMissed (r : Range) (sent passed : List Range) (a : ℕ) : Type 0 where
  pub held : Holds r a
  pub sent_there : Covers sent a
  pub stopped : Covers passed a → ⊥
  pub least : (b : ℕ) → b < a → Holds r b → Covers sent b → Covers passed b

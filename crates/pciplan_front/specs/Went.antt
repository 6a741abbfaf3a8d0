-- What became of a sink.
use Rattle.std.specs.Prelude.{ℕ, List, Option}

-- the bytes that it took before and after, where they are told; that it is unchanged; and that a write of it failed
pub record Went : Type 1 where
  pub before : Option (List ℕ)
  pub after : Option (List ℕ)
  pub same : Type 0
  pub failed : Type 0

abbrev pub went : Option (List ℕ) → Option (List ℕ) → Type 0 → Type 0 → Went
went before after same failed =
    record { before = before; after = after; same = same; failed = failed }

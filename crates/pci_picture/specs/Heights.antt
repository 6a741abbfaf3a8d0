-- The heights of a section, by its cuts.
use Rattle.std.specs.Prelude.{◌≡◌, ◌<◌, ◌≤◌, ◌+◌, ◌-◌, ◌^◌, ℕ}

-- two cuts with no cut between them
pub record AreNeighbours (IsCut : ℕ → Type 0) (low high : ℕ) : Type 0 where
  pub low_is_cut : IsCut low
  pub high_is_cut : IsCut high
  pub rises : low < high
  pub none_between : (address : ℕ) → IsCut address → low < address → address < high → ⊥

-- how high so many addresses stand: a line of words, and one unit for each doubling past 2^base
pub record IsHeightOf (base count height : ℕ) : Type 0 where
  pub doublings : ℕ
  pub height_is : height ≡ 14 + doublings
  pub is_below : count < 2 ^ (base + doublings + 1)
  pub reaches : 0 < doublings → 2 ^ (base + doublings) ≤ count

-- the first cut stands at the top, and the last one at the bottom. Each next one stands lower by the height of the addresses between
-- where something covers them, else by 14 units
pub record HasHeights (base top bottom : ℕ) (IsCut IsCovered : ℕ → Type 0) (height_of : ℕ → ℕ) : Type 0 where
  pub begins : (first : ℕ) → IsCut first → ((other : ℕ) → IsCut other → first ≤ other) → height_of first ≡ top
  pub covered : (low high : ℕ) → AreNeighbours IsCut low high → IsCovered low
      → (height : ℕ) × IsHeightOf base (high - low) height × (height_of high ≡ height_of low + height)
  pub ends : (last : ℕ) → IsCut last → ((other : ℕ) → IsCut other → other ≤ last) → height_of last ≡ bottom
  pub gap : (low high : ℕ) → AreNeighbours IsCut low high → (IsCovered low → ⊥) → height_of high ≡ height_of low + 14

-- a range of addresses, by its first and its last one
pub record AddressRange : Type 0 where
  pub first : ℕ
  pub last : ℕ

-- Where the addresses of a section stand.
use Rattle.std.specs.Prelude.{◌≡◌, ◌<◌, ◌≤◌, ◌+◌, ◌-◌, ◌++◌, ℕ, Bool, true, false, List, [], ◌∷◌, nat_lt, if◌then◌else◌}
use Rattle.std.specs.List.{Any, Contains}
use Rattle.std.specs.List.Sorted.{IsNonDecreasingBy}
use Rattle.pci_picture.specs.Cuts.{HasCutAt}
use Rattle.pci_picture.specs.Heights.{HasHeights, IsHeightOf}
use Rattle.pci_picture.specs.declared.heights.Cut.{Cut}
use Rattle.pci_picture.specs.declared.heights.Run.{Run}

-- where an address stands: at the first run that begins at it or behind it, or below all
abbrev pub height_at : List Run → ℕ → ℕ → ℕ
height_at [] bottom address = bottom
height_at (run ∷ runs) bottom address = if nat_lt run.begin address then height_at runs bottom address else run.y

-- of two cuts the one with the greater address stands lower
abbrev pub CutsRise : List Cut → List Run → ℕ → Type 0
CutsRise cuts runs bottom = (low high : Cut) → Contains cuts low → Contains cuts high → low.at < high.at
    → height_at runs bottom low.at < height_at runs bottom high.at

-- what begins at some cut or before it ends behind an address
abbrev pub IsCoveredIn : List Cut → ℕ → Type 0
IsCoveredIn cuts address = Any (λ cut. (cut.at ≤ address) × (address < cut.end)) cuts

-- the heights of some cuts: the runs stand in their order, from a height on
pub record AreHeights (base top : ℕ) (cuts : List Cut) (runs : List Run) (bottom : ℕ) : Type 0 where
  pub rise : CutsRise cuts runs bottom
  pub sorted : IsNonDecreasingBy (λ (run : Run). run.begin) runs
  pub by_rule : HasHeights base top bottom (HasCutAt cuts) (IsCoveredIn cuts) (height_at runs bottom)

-- how high the addresses of a run stand
abbrev pub IsRunHeight : ℕ → Bool → ℕ → ℕ → Type 0
IsRunHeight base true count height = IsHeightOf base count height
IsRunHeight base false count height = height ≡ 14

-- a run that begins at an address and stands at a height; it has an address, and its height is not 0
pub record IsRunAt (address height : ℕ) (run : Run) : Type 0 where
  pub begins : run.begin ≡ address
  pub stands : run.y ≡ height
  pub reaches : address < run.end
  pub is_high : 0 < run.height

-- a run was added from an address and a height on, at most 142 units high
pub record IsRunAdded (base : ℕ) (is_covered : Bool) (old : List Run) (address height end : ℕ) (new : List Run) (bottom : ℕ) : Type 0 where
  pub run : Run
  pub covers : run.is_covered ≡ is_covered
  pub tall : IsRunHeight base is_covered (end - address) run.height
  pub stands : IsRunAt address height run
  pub ends : run.end ≡ end
  pub is_low : run.height ≤ 142
  pub added : new ≡ old ++ (run ∷ [])
  pub below : bottom ≡ height + run.height

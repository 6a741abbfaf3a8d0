-- The new places of all parts where nothing stands, and what can't be placed.
use Rattle.std.specs.Prelude.{◌≡◌, ℕ, IsTrue, List, [], Some, ⊤}
use Rattle.pci_spec.specs.Window.{WindowKind}
use Rattle.pci_spec.specs.System.{System}
use Rattle.settle_spec.specs.Lists.{Request}
use Rattle.settle_spec.specs.Kept.{as_it_stands}
use Rattle.settle_spec.specs.Keeping.Places.{lacking}
use Rattle.pci_base.specs.declared.memory.Refused.{Refused}
use Rattle.pci_base.specs.declared.memory.Refused.TheVariants as refused
use Rattle.pci_base.specs.WindowKinds.{kind_value}
use Rattle.pci_first_fit.specs.Slots.{Demand, demand_of}
use Rattle.pci_settle_places.specs.declared.places.Places.{Places}
use Rattle.pci_settle_places.specs.declared.anew.Unplaced.{Unplaced}
use Rattle.pci_settle_places.specs.declared.anew.Unplaced.TheVariants as unplaced
use Rattle.pci_settle_places.specs.Candidates.{candidate_value}
use Rattle.pci_settle_places.specs.Placed.{ArePartsPlaced}
use Rattle.pci_settle_places.specs.Placed as placed

-- all is placed anew below these roots, in these lists and behind these slots, and nothing is told that lets a window stay
pub record IsAnewIn (q : Request) (roots : List ℕ) (d : Demand) : Type 0 where
  pub rooted : q.roots ≡ roots
  pub anew : IsTrue q.anew
  pub demands : demand_of q ≡ d
  pub untold : q.told.ranges ≡ []

-- each part of a function has the place that it gets
abbrev pub ArePlacedAnew : Request → System → List Places → Type 0
ArePlacedAnew q s table = ArePartsPlaced q s (as_it_stands q s) table

-- a new window is too large, and where it is of memory, nothing lacks a place in I/O
abbrev pub IsTooLargeAnew : Request → System → WindowKind → ℕ → Type 0
IsTooLargeAnew q s c k = placed.IsFirstWindowTooLarge q s (as_it_stands q s) c k

abbrev pub AreNewPlaces : List ℕ → System → Demand → List Places → Type 0
AreNewPlaces roots s d table = (q : Request) → IsAnewIn q roots d → ArePlacedAnew q s table

abbrev pub IsUnplaced : List ℕ → System → Demand → Refused Unplaced → Type 0
IsUnplaced roots s d refused.Memory = ⊤
IsUnplaced roots s d (refused.Fault (unplaced.Lacks x)) =
    (q : Request) → IsAnewIn q roots d → lacking q s (as_it_stands q s) ≡ Some (candidate_value s x)
IsUnplaced roots s d (refused.Fault (unplaced.TooLarge class k)) =
    (q : Request) → IsAnewIn q roots d → IsTooLargeAnew q s (kind_value class) k

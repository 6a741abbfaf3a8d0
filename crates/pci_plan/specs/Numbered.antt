-- What functions hold with everything at its place, before a dump of it is made.
use Rattle.std.specs.Prelude.{◌≡◌, ℕ, List, length, take}
use Rattle.std.specs.List.{AllZip}
use Rattle.pci_spec.specs.Window.{WindowKind}
use Rattle.pci_spec.specs.System.{System, Function}
use Rattle.plan_spec.specs.Plan.{Pools}
use Rattle.plan_spec.specs.PlanPromise.{CanBePlanned}
use Rattle.plan_spec.specs.Planning.Numbers.{IsPlannedFunction}
use Rattle.pci_tree.specs.Admission.{Admission}
use Rattle.pci_place.specs.Above.{system_in}
use Rattle.pci_place.specs.Needs.{AreAllNeeds}
use Rattle.pci_place.specs.Places.{HasPlaces}
use Rattle.pci_place.specs.declared.need.Needs.{Needs}
use Rattle.pci_place.specs.declared.place.Places.{Places}
use Rattle.pci_base.specs.declared.window_kind.ByKind.{ByKind}

-- what numbering goes by: pools with room for all, what the buses need, and the places of each function's parts
pub record CanBeNumbered (a : Admission) (pools : Pools) (needed : ByKind Needs)
    (table : List Places) : Type 0 where
  -- what fits its pool ends below 2^64, so each number fits its register
  pub plannable : CanBePlanned a.roots (system_in a) pools
  -- a window's limit is told by what is behind it
  pub needs : AreAllNeeds a.roots (system_in a) pools needed
  -- a function's places stand where its record does
  pub count : length table ≡ length (system_in a)
  -- what a register gets is read off them
  pub places : (c : WindowKind) → HasPlaces a.roots (system_in a) pools c table

-- the first 64 bytes of an image with which a function has everything at its place
pub record IsNewHeader (roots : List ℕ) (s : System) (pools : Pools) (f : Function)
    (header : List ℕ) : Type 0 where
  pub image : List ℕ
  pub planned : IsPlannedFunction roots s pools f record f { image = image }
  pub first : header ≡ take 64 image

abbrev pub AreNewHeaders : Admission → Pools → List (List ℕ) → Type 0
AreNewHeaders a pools headers =
    AllZip (IsNewHeader a.roots (system_in a) pools) (system_in a) headers

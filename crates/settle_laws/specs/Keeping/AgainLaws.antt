-- Laws of what is settled beside what is kept: it stands where it is.
use Rattle.std.specs.Prelude.{◌≡◌, IsTrue, IsFalse, []}
use Rattle.std.specs.List.{Contains}
use Rattle.pci_spec.specs.System.{System}
use Rattle.settle_spec.specs.Lists.{Request}
use Rattle.settle_spec.specs.Parts.{FunctionPart, system_parts}
use Rattle.settle_spec.specs.Stands.{stands}
use Rattle.settle_spec.specs.Kept.{Kept}
use Rattle.settle_spec.specs.Keeping.Registers.{settled}
use Rattle.settle_laws.specs.Keeping.PlacesLaws.{CanSettle}

-- Each part of what is settled stands where it is, unless all is placed anew.
abbrev pub SettledPartsStand : Type 0
SettledPartsStand =
    (q : Request) → q.told.ranges ≡ [] → (s : System) (k : Kept) → CanSettle q s k → IsFalse q.anew → (r : FunctionPart)
    → Contains (system_parts q (settled q s k)) r → IsTrue (stands q (settled q s k) r)

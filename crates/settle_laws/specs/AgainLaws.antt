-- Laws of settling once more: what is settled stays as it is.
use Rattle.std.specs.Prelude.{◌≡◌, IsTrue, IsFalse, []}
use Rattle.std.specs.List.{Contains}
use Rattle.pci_spec.specs.System.{System, Function, IsSystem, Io, Part, has_part, is_space_on}
use Rattle.pci_spec.specs.Sound.{IsSound}
use Rattle.settle_spec.specs.Lists.{Request}
use Rattle.settle_spec.specs.Parts.{FunctionPart, system_parts, has_left}
use Rattle.settle_spec.specs.Stands.{stands}
use Rattle.settle_spec.specs.Items.{stays}
use Rattle.settle_spec.specs.Kept.{Kept, as_it_stands, growing}
use Rattle.settle_spec.specs.Keeping.Registers.{settled, settled_function}
use Rattle.settle_spec.specs.Keeping.Writes.{settle_writes}
use Rattle.settle_laws.specs.KeptLaws.{WishesNothing}
use Rattle.settle_laws.specs.Keeping.PlacesLaws.{CanSettle, end_range}

-- What can be settled beside what is kept can be settled again beside what stays as it stands then:
abbrev pub CanSettleAgain : Type 0
CanSettleAgain =
    (q : Request) → q.told.ranges ≡ [] → (s : System) (k : Kept) → CanSettle q s k
    → CanSettle q (settled q s k) (as_it_stands q (settled q s k))

-- each of its parts stays, unless all is placed anew,
abbrev pub SettledPartsStay : Type 0
SettledPartsStay =
    (q : Request) → q.told.ranges ≡ [] → (s : System) (k : Kept) → CanSettle q s k → IsFalse q.anew → (r : FunctionPart)
    → Contains (system_parts q (settled q s k)) r → IsTrue (stays q (settled q s k) r)

-- and each part ends where it ended: where all is placed anew, this is asked only if nothing is wished.
abbrev pub PartsEndWhereTheyEnded : Type 0
PartsEndWhereTheyEnded =
    (q : Request) → q.told.ranges ≡ [] → (s : System) (k : Kept) → CanSettle q s k → (IsTrue q.anew → WishesNothing k) → (f : Function) (p : Part) → Contains s f
    → IsTrue (has_part f p)
    → end_range q (settled q s k) (as_it_stands q (settled q s k)) record { function = settled_function q s k f; part = p }
    ≡ end_range q s k record { function = f; part = p }

-- So nothing changes,
abbrev pub SettledStays : Type 0
SettledStays =
    (q : Request) → q.told.ranges ≡ [] → (s : System) (k : Kept) → CanSettle q s k → (IsTrue q.anew → WishesNothing k)
    → settled q (settled q s k) (as_it_stands q (settled q s k)) ≡ settled q s k

-- and nothing is written.
abbrev pub SettlingAgainWritesNothing : Type 0
SettlingAgainWritesNothing =
    (q : Request) → q.told.ranges ≡ [] → (s : System) (k : Kept) → CanSettle q s k → (IsTrue q.anew → WishesNothing k)
    → settle_writes q (settled q s k) (as_it_stands q (settled q s k)) ≡ []

-- A sound start is settled already where each part of it stands, and I/O is off in each function with an I/O BAR that is left.
abbrev pub StandingStartIsSettled : Type 0
StandingStartIsSettled =
    (q : Request) → q.told.ranges ≡ [] → (s : System) → IsSystem s → IsSound q.roots s
    → ((r : FunctionPart) → Contains (system_parts q s) r → IsTrue (stands q s r))
    → ((f : Function) → Contains s f → IsTrue (has_left q s f) → IsFalse (is_space_on f Io))
    → (settled q s (as_it_stands q s) ≡ s) × (settle_writes q s (as_it_stands q s) ≡ [])
    × (settled q s (growing q s) ≡ s) × (settle_writes q s (growing q s) ≡ [])

-- Laws of what settling beside what is kept comes to: it shows where parts end, changes nothing else, and is sound.
use Rattle.std.specs.Prelude.{◌≡◌, ℕ, ◌≤◌, ◌⊎◌, IsTrue, IsFalse, None, length, take}
use Rattle.std.specs.List.{AllZip, Contains}
use Rattle.pci_spec.specs.Window.{WindowKind}
use Rattle.pci_spec.specs.Decoded.{Range}
use Rattle.pci_spec.specs.System.{System, Function, Part, Window, is_space_on, space_of}
use Rattle.pci_spec.specs.Bus.{LeadsTo}
use Rattle.pci_spec.specs.Machine.{system_after}
use Rattle.pci_spec.specs.Sound.{IsInProfile, IsSound}
use Rattle.plan_spec.specs.Plan.{IsMoved, is_open}
use Rattle.plan_spec.specs.Planning.Layout.{range_of}
use Rattle.settle_spec.specs.Lists.{Request}
use Rattle.settle_spec.specs.Stands.{window_part}
use Rattle.settle_spec.specs.Items.{Placed}
use Rattle.settle_spec.specs.Kept.{Kept}
use Rattle.settle_spec.specs.Keeping.Registers.{settled, settled_function}
use Rattle.settle_spec.specs.Keeping.Writes.{closings, settle_writes}
use Rattle.settle_laws.specs.Keeping.PlacesLaws.{CanSettle, GetsPlace, EndsAt, end_range}

-- ---- registers

-- Each part that ends somewhere has just these addresses once it is settled,
abbrev pub SettledShowsPlaces : Type 0
SettledShowsPlaces =
    (q : Request) (s : System) (k : Kept) → CanSettle q s k → (f : Function) (p : Part) (t : Range)
    → EndsAt q s k f p t → range_of (settled_function q s k f) p ≡ t

-- and each window that does is open,
abbrev pub SettledOpensPlaces : Type 0
SettledOpensPlaces =
    (q : Request) (s : System) (k : Kept) → CanSettle q s k → (b : Function) (kind : WindowKind)
    (t : Range) → EndsAt q s k b (Window kind) t → IsTrue (is_open (settled_function q s k b) kind)

-- and no other.
abbrev pub SettledClosesTheRest : Type 0
SettledClosesTheRest =
    (q : Request) (s : System) (k : Kept) → CanSettle q s k → (b : Function) (kind : WindowKind)
    → Contains s b → end_range q s k (window_part kind b) ≡ None
    → IsFalse (is_open (settled_function q s k b) kind)

-- Address bits and Command's enables of I/O and memory alone change,
abbrev pub SettlingKeepingMoves : Type 0
SettlingKeepingMoves = (q : Request) (s : System) (k : Kept) → CanSettle q s k → AllZip IsMoved s (settled q s k)

-- so what is settled is in the profile.
abbrev pub SettledIsInProfile : Type 0
SettledIsInProfile = (q : Request) (s : System) (k : Kept) → CanSettle q s k → IsInProfile q.roots (settled q s k)

-- ---- Command

-- The bridge to the bus of what gets a place is enabled.
abbrev pub BridgesAreEnabled : Type 0
BridgesAreEnabled =
    (q : Request) (s : System) (k : Kept) → CanSettle q s k → (f b : Function) (p : Part) (x : Placed)
    → GetsPlace q s k f p x → LeadsTo s b f.slot.bus
    → IsTrue (is_space_on (settled_function q s k b) (space_of f p))

-- ---- the whole

-- What settling comes to is sound.
abbrev pub SettledKeepingIsSound : Type 0
SettledKeepingIsSound = (q : Request) (s : System) (k : Kept) → CanSettle q s k → IsSound q.roots (settled q s k)

-- So its writes can stop anywhere once the closing ones are made, and from a sound start anywhere at all;
abbrev pub SettlingKeepingCanStop : Type 0
SettlingKeepingCanStop =
    (q : Request) (s : System) (k : Kept) → CanSettle q s k → (n : ℕ)
    → (length (closings q s k s) ≤ n) ⊎ IsSound q.roots s
    → IsSound q.roots (system_after s (take n (settle_writes q s k)))

-- and after all of them the system is the settled one.
abbrev pub SettlingSettles : Type 0
SettlingSettles =
    (q : Request) (s : System) (k : Kept) → CanSettle q s k
    → system_after s (settle_writes q s k) ≡ settled q s k

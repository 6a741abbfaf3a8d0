-- Laws of Command where each part stands: whatever it enables, if nothing is cut off the system is sound, and nothing is to be settled.
use Rattle.std.specs.Prelude.{◌≡◌, ◌≢◌, ℕ, ◌<◌, ◌≤◌, false, IsTrue, IsFalse, List, []}
use Rattle.std.specs.Int.{bit_at}
use Rattle.std.specs.List.{AllZip, Contains}
use Rattle.std.specs.List.Sorted.{IsStrictlyIncreasing}
use Rattle.pci_spec.specs.Number.{byte_at, IsImage}
use Rattle.pci_spec.specs.Slot.{Slot}
use Rattle.pci_spec.specs.Registers.{COMMAND}
use Rattle.pci_spec.specs.System.{System, Function, IsSystem, Space, Io, is_space_on}
use Rattle.pci_spec.specs.Bus.{IsNested}
use Rattle.pci_spec.specs.Sound.{HasChains, IsInProfile, IsSound}
use Rattle.pci_spec.specs.Machine.{Write}
use Rattle.plan_spec.specs.Plan.{Pools}
use Rattle.plan_spec.specs.PlanPromise.{IsPlanOf}
use Rattle.plan_spec.specs.Planning.Plannable.{IsPlannable}
use Rattle.settle_spec.specs.Lists.{Request, are_bad_lists}
use Rattle.settle_spec.specs.Parts.{FunctionPart, system_parts, has_left}
use Rattle.settle_spec.specs.Stands.{part_space, stands}
use Rattle.settle_spec.specs.Writes.{Settled, is_cut_off_in}
use Rattle.settle_spec.specs.Kept.{Kept, as_it_stands}
use Rattle.settle_spec.specs.Keeping.Registers.{settled}
use Rattle.settle_spec.specs.Keeping.Writes.{settle_keeping}
use Rattle.settle_spec.specs.Growing.{settle_growing}
use Rattle.settle_laws.specs.Keeping.PlacesLaws.{CanSettle}
use Rattle.settle_laws.specs.SettledPlans.{HasPools}

-- A system whose bus ranges nest, that is in the profile and whose capability lists end, and in which each part stands.
pub record IsStandingSystem (q : Request) (s : System) : Type 0 where
  pub system : IsSystem s
  pub nested : IsNested q.roots s
  pub profile : IsInProfile q.roots s
  pub chains : HasChains s
  pub stand : (r : FunctionPart) → Contains (system_parts q s) r → IsTrue (stands q s r)

-- I/O is off where an I/O BAR is left, and what is on with a BAR or ROM of its own has all bridges above on.
pub record IsUncut (q : Request) (s : System) : Type 0 where
  pub left : (f : Function) → Contains s f → IsTrue (has_left q s f) → IsFalse (is_space_on f Io)
  pub above : (f : Function) (space : Space) → Contains s f → IsFalse (is_cut_off_in q s f space)

-- Where each part stands, a system is sound if that is kept,
abbrev pub StandingSystemIsSound : Type 0
StandingSystemIsSound =
    (q : Request) (s : System) → IsStandingSystem q s → IsUncut q s → IsSound q.roots s

-- and only then, as far as I/O is off where it has to be.
abbrev pub SoundIsUncut : Type 0
SoundIsUncut =
    (q : Request) → q.told.ranges ≡ [] → (s : System) → IsStandingSystem q s → IsSound q.roots s
    → ((f : Function) → Contains s f → IsTrue (has_left q s f) → IsFalse (is_space_on f Io))
    → IsUncut q s

-- Then nothing is to be settled, whatever is fixed.
abbrev pub StandingIsSettled : Type 0
StandingIsSettled =
    (q : Request) → q.told.ranges ≡ [] → (s : System) → IsStandingSystem q s → IsUncut q s
    → IsFalse (are_bad_lists q.roots q.lists)
    → (settle_keeping q s (as_it_stands q s) ≡ Settled []) × (settle_growing q s ≡ Settled [])

-- ---- other values of Command

-- A function that differs at most in the bits of Command that enable a space.
pub record IsSwitched (old new : Function) : Type 0 where
  pub slot : new.slot ≡ old.slot
  pub probe : new.probe ≡ old.probe
  pub image : IsImage new.image
  pub bytes : (offset : ℕ) → offset ≢ COMMAND
      → byte_at new.image offset ≡ byte_at old.image offset
  pub bits : (i : ℕ) → 2 ≤ i → i < 8
      → bit_at (byte_at new.image COMMAND) i ≡ bit_at (byte_at old.image COMMAND) i

-- Each part stands whatever Command enables.
abbrev pub SwitchedStands : Type 0
SwitchedStands =
    (q : Request) → q.told.ranges ≡ [] → (s t : System) → IsStandingSystem q s → AllZip IsSwitched s t
    → IsStandingSystem q t

-- Where all parts are enabled, nothing is cut off.
abbrev pub EnabledIsUncut : Type 0
EnabledIsUncut =
    (q : Request) (s : System) → IsStandingSystem q s
    → ((r : FunctionPart) → Contains (system_parts q s) r → IsTrue (is_space_on r.function (part_space r)))
    → ((f : Function) → Contains s f → IsTrue (has_left q s f) → IsFalse (is_space_on f Io))
    → IsUncut q s

-- ---- what planning and settling come to

-- What a plan comes to is such a system, where lists have its pools,
abbrev pub PlannedIsStanding : Type 0
PlannedIsStanding =
    (q : Request) → q.told.ranges ≡ [] → (s t : System) (pools : Pools) (ws : List Write) (n : ℕ)
    → IsPlannable q.roots s pools → IsStrictlyIncreasing q.roots → IsPlanOf q.roots s t pools ws n
    → HasPools q pools → IsStandingSystem q t

-- the same lists, where what stands is kept, but for what is fixed
abbrev pub keeping : Request → List Slot → Request
keeping q fixed = record q { fixed = fixed; anew = false }

-- and so is what settling comes to, whether all was placed anew or not.
abbrev pub SettledIsStanding : Type 0
SettledIsStanding =
    (q : Request) → q.told.ranges ≡ [] → (s : System) (k : Kept) (fixed : List Slot) → CanSettle q s k
    → IsStandingSystem (keeping q fixed) (settled q s k)

-- So settling that once more, with what stands kept, writes nothing, whatever is fixed then.
abbrev pub SettledAnewIsSettled : Type 0
SettledAnewIsSettled =
    (q : Request) → q.told.ranges ≡ [] → (s : System) (k : Kept) (fixed : List Slot) → CanSettle q s k
    → (settle_keeping (keeping q fixed) (settled q s k) (as_it_stands (keeping q fixed) (settled q s k)) ≡ Settled [])
    × (settle_growing (keeping q fixed) (settled q s k) ≡ Settled [])

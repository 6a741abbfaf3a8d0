-- Laws of settling with room behind slots: the premises of laws of stops hold of what is settled.
use Rattle.std.specs.Prelude.{◌≡◌, ◌⊎◌, ◌^◌, ◌<◌, ℕ, List, [], length}
use Rattle.std.specs.List.{Contains}
use Rattle.pci_spec.specs.Slot.{Slot}
use Rattle.pci_spec.specs.Text.{Block}
use Rattle.pci_spec.specs.Machine.{Write}
use Rattle.judge_spec.specs.Told.{IsTold}
use Rattle.settle_spec.specs.Lists.{RootRange, Request}
use Rattle.settle_spec.specs.Keeping.Writes.{settle_writes}
use Rattle.settle_spec.specs.Sparing.{granted_beside, settle_sparing}
use Rattle.settle_spec.specs.Writes.{Settled}
use Rattle.settle_laws.specs.SparingLaws.{sparing_closings}
use Rattle.settle_laws.specs.ToldSoundLaws.{CanAskTold, CanSettleTold}
use Rattle.pci_tree.specs.Admission.{Admission, IsAdmitted}
use Rattle.pci_place.specs.Above.{system_in}
use Rattle.pci_settle.specs.AsTold.{HasLines}
use Rattle.pci_settle.specs.Denied.{IsSpared}
use Rattle.pci_settle.specs.Endings.{HasLarge}

-- What is asked of an admitted dump: below its roots, in lists of 64 bits, with lines that are lawful, of which none is an orphan.
pub record IsAskedLawfully (q : Request) (a : Admission) : Type 0 where
  pub admitted : IsAdmitted a
  pub roots_are : q.roots ≡ a.roots
  pub high : (r : RootRange) → Contains q.lists.prefetch r → r.range.last < 2 ^ 64
  pub lawful : IsTold q.told.ranges
  pub awake : q.told.asleep ≡ []
  pub lines : HasLines q (system_in a)

-- It can be asked for.
abbrev pub LawfulCanBeAsked : Type 0
LawfulCanBeAsked = (q : Request) (a : Admission) → IsAskedLawfully q a → CanAskTold q (system_in a)

-- What is settled can be settled so, by just these writes.
abbrev pub SparedCanSettle : Type 0
SparedCanSettle =
    (q : Request) (a : Admission) (dump : List Block) (writes : List Write) (count : ℕ) (denied : List (Slot × ℕ))
    → IsAskedLawfully q a → (x : IsSpared q a dump writes count denied)
    → CanSettleTold x.placing (system_in a) (granted_beside q x.placing (system_in a)).kept
    × (settle_writes x.placing (system_in a) (granted_beside q x.placing (system_in a)).kept ≡ writes)

-- settling comes to these writes, and so many of them close
pub record IsSettledWithClosings (q : Request) (a : Admission) (writes : List Write) (count : ℕ) : Type 0 where
  pub ended : settle_sparing q (system_in a) ≡ Settled writes
  pub closing : count ≡ length (sparing_closings q (system_in a))

-- So it is, unless a new window has 2^64 addresses or more with its spare.
abbrev pub SparedIsSettled : Type 0
SparedIsSettled =
    (q : Request) (a : Admission) (dump : List Block) (writes : List Write) (count : ℕ) (denied : List (Slot × ℕ))
    → IsSpared q a dump writes count denied → HasLarge a q ⊎ IsSettledWithClosings q a writes count

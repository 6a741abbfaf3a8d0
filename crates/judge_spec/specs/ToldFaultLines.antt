-- Which lines a list of all faults of a dump and its probe has, with what is given and told.
use Rattle.std.specs.Prelude.{◌≡◌, ◌≢◌, ◌⊎◌, ℕ, ◌<◌, IsTrue, List, [], map}
use Rattle.std.specs.List.{AllPairs, Contains}
use Rattle.pci_spec.specs.Slot.{Slot, slot_number}
use Rattle.pci_spec.specs.Text.{Block, slots_of}
use Rattle.pci_spec.specs.System.{system_of}
use Rattle.pci_spec.specs.Fault.{Orphan, IsThere}
use Rattle.pci_spec.specs.Fault as plain
use Rattle.pci_spec.specs.FaultLines.{subject}
use Rattle.pci_spec.specs.Order.{Judging, phase_key, phase_of, is_before, image_at}
use Rattle.judge_spec.specs.Given.{Given}
use Rattle.judge_spec.specs.Fault as untold
use Rattle.judge_spec.specs.FaultLines as untold_lines
use Rattle.judge_spec.specs.ToldClaims.{Told}
use Rattle.judge_spec.specs.ToldFault.{Fault, Known, NotListed, IsNotListed, IsHeldOrphan}
use Rattle.judge_spec.specs.ToldAllFaults.{AreAllOfJudging}

-- ---- 30

-- Where dump and probe don't list the same slots, the faults are those without what is told.
pub record AreOfSlots (given : Given) (roots : List ℕ) (dump probe : List Block)
    (faults : List Fault) : Type 0 where
  pub slots : slots_of dump ≢ slots_of probe
  pub known : List untold.Fault
  pub all : untold_lines.AreAllFaults given roots dump probe known
  pub are : faults ≡ map Known known

-- ---- 34

abbrev pub HasNotListed : Told → List Block → List Block → Slot → Type 0
HasNotListed told dump probe slot = IsNotListed told (system_of dump probe) slot

-- just the slots that ranges name and that aren't listed, in their order
pub record AreNotListed (told : Told) (dump probe : List Block) (slots : List Slot) : Type 0 where
  pub each : (slot : Slot) → Contains slots slot → HasNotListed told dump probe slot
  pub complete : (slot : Slot) → HasNotListed told dump probe slot → Contains slots slot
  pub rising : AllPairs (λ slot other. slot_number slot < slot_number other) slots

-- Where there is one, each slot has a fault, and they are all that is told.
pub record AreOfNotListed (told : Told) (dump probe : List Block)
    (faults : List Fault) : Type 0 where
  pub same : slots_of dump ≡ slots_of probe
  pub slots : List Slot
  pub some : slots ≡ [] → ⊥
  pub all : AreNotListed told dump probe slots
  pub are : faults ≡ map NotListed slots

-- every range that isn't held is of a slot that is listed
abbrev pub AreListed : Told → List Block → List Block → Type 0
AreListed told dump probe = (slot : Slot) → HasNotListed told dump probe slot → ⊥

-- ---- 20 to 29, 31, and 50 to 58

-- the fault is there, and 58 of the slots of held ranges, too
abbrev pub IsEarlyThere : Told → List ℕ → List Block → List Block → plain.Fault → Type 0
IsEarlyThere told roots dump probe (Orphan slot) =
    IsThere roots dump probe (Orphan slot) ⊎ IsHeldOrphan told roots (system_of dump probe) slot
IsEarlyThere told roots dump probe fault = IsThere roots dump probe fault

-- The fault is looked for before judging and is there, none of an earlier phase is, and none of its subject that is
-- looked for before it.
pub record IsEarlyLine (told : Told) (roots : List ℕ) (dump probe : List Block)
    (fault : plain.Fault) : Type 0 where
  pub early : phase_of fault < phase_key Judging
  pub there : IsEarlyThere told roots dump probe fault
  pub none_earlier : (other : plain.Fault) → phase_of other < phase_of fault
      → IsEarlyThere told roots dump probe other → ⊥
  pub first : (other : plain.Fault) → subject other ≡ subject fault
      → IsTrue (is_before (image_at (system_of dump probe)) other fault)
      → IsEarlyThere told roots dump probe other → ⊥

-- just those faults, in the order in which they are looked for, and so none twice
pub record AreAllEarly (told : Told) (roots : List ℕ) (dump probe : List Block)
    (faults : List plain.Fault) : Type 0 where
  pub each : (fault : plain.Fault) → Contains faults fault
      → IsEarlyLine told roots dump probe fault
  pub complete : (fault : plain.Fault) → IsEarlyLine told roots dump probe fault
      → Contains faults fault
  pub rising : AllPairs
      (λ fault other. IsTrue (is_before (image_at (system_of dump probe)) fault other)) faults

-- Where there is one, they are all that is told.
pub record AreEarlier (told : Told) (roots : List ℕ) (dump probe : List Block)
    (faults : List Fault) : Type 0 where
  pub same : slots_of dump ≡ slots_of probe
  pub listed : AreListed told dump probe
  pub early : List plain.Fault
  pub some : early ≡ [] → ⊥
  pub all : AreAllEarly told roots dump probe early
  pub are : faults ≡ map (λ fault. Known (untold.Known fault)) early

-- ---- 60 to 63

-- Where there is none of those, those of judging are told.
pub record AreJudged (told : Told) (given : Given) (roots : List ℕ) (dump probe : List Block)
    (faults : List Fault) : Type 0 where
  pub same : slots_of dump ≡ slots_of probe
  pub listed : AreListed told dump probe
  pub none_earlier : (fault : plain.Fault) → phase_of fault < phase_key Judging
      → IsEarlyThere told roots dump probe fault → ⊥
  pub judged : List untold.Fault
  pub all : AreAllOfJudging told given roots (system_of dump probe) judged
  pub are : faults ≡ map Known judged

-- ---- all of them

-- just the faults of the earliest phase that has any, in the order in which they are looked for
abbrev pub AreAllFaults : Told → Given → List ℕ → List Block → List Block → List Fault → Type 0
AreAllFaults told given roots dump probe faults =
    AreOfSlots given roots dump probe faults ⊎ AreOfNotListed told dump probe faults
    ⊎ AreEarlier told roots dump probe faults ⊎ AreJudged told given roots dump probe faults

-- All faults of a dump and its probe, with what is given and told.
use Rattle.std.specs.Prelude.{◌≡◌, ◌≢◌, ◌⊎◌, ℕ, ◌<◌, ◌≤◌, List, [], ◌∷◌, Option, Some, map}
use Rattle.pci_spec.specs.Slot.{Slot}
use Rattle.pci_spec.specs.Text.{Block, slots_of}
use Rattle.pci_spec.specs.System.{System, system_of}
use Rattle.pci_spec.specs.Fault as spec
use Rattle.pci_spec.specs.Order.{Judging, phase_key, phase_of}
use Rattle.pci_function.specs.declared.fault.Fault as code
use Rattle.pci_function.specs.Fault as plain
use Rattle.judge_spec.specs.Given.{Given, TakingBridge}
use Rattle.judge_spec.specs.Told.{ToldRange}
use Rattle.judge_spec.specs.ToldClaims.{Told}
use Rattle.judge_spec.specs.ToldFault.{Fault, NotListed}
use Rattle.judge_spec.specs.ToldFaultLines.{AreOfSlots, AreOfNotListed, AreEarlier, AreListed, IsEarlyThere}
use Rattle.judge_spec.specs.ToldSound.{IsSound}
use Rattle.judge_spec.specs.Unclaimed.{AreTaking}
use Rattle.judge_spec.specs.UnclaimedLaws.{with_taking}
use Rattle.pci_tree.specs.Outline.{Tree}
use Rattle.pci_tree.specs.Trees.{HasTree}
use Rattle.pci_tree.specs.Admission.{IsOutlineFor}
use Rattle.pci_faults.specs.declared.every.BeforeJudging.{BeforeJudging}
use Rattle.pci_faults.specs.declared.every.BeforeJudging.TheVariants.{Refused, Admitted}
use Rattle.pci_faults.specs.declared.any_fault.AnyFault.{AnyFault}
use Rattle.pci_faults.specs.AllLines.{any_fault_value, plain_fault, AreAllLines}
use Rattle.pci_faults.specs.Before.{AreSlotsOf, IsOfNoFunction, IsOfNoBus, AreOrphansAdded}

-- ---- what is told before judging

-- the phase of the first of some faults; that of places where there is none
abbrev pub first_phase : List code.Fault → ℕ
first_phase [] = 4
first_phase (fault ∷ rest) = phase_of (plain.fault_of fault)

-- 30, and none else
pub record AreSlotsAlone (early : List code.Fault) (faults : List Fault) : Type 0 where
  pub phase : first_phase early ≡ 0
  pub are : faults ≡ map plain_fault early

-- 34 of each slot that isn't listed, and none else
pub record AreNotListedAlone (ranges : List ToldRange) (dump : List Block) (early : List code.Fault)
    (faults : List Fault) : Type 0 where
  pub phase : first_phase early ≢ 0
  pub slots : List Slot
  pub some : slots ≡ [] → ⊥
  pub all : AreSlotsOf (IsOfNoFunction dump) ranges slots
  pub are : faults ≡ map NotListed slots

-- those of functions by themselves, as they are
pub record AreFunctionsAlone (ranges : List ToldRange) (dump : List Block) (early : List code.Fault)
    (faults : List Fault) : Type 0 where
  pub late : first_phase early ≢ 0
  pub soon : first_phase early < 4
  pub listed : AreSlotsOf (IsOfNoFunction dump) ranges []
  pub are : faults ≡ map plain_fault early

-- those of places, and 58 of held ranges among them
pub record ArePlacesWith (ranges : List ToldRange) (roots : List ℕ) (dump : List Block)
    (early : List code.Fault) (faults : List Fault) : Type 0 where
  pub late : 4 ≤ first_phase early
  pub listed : AreSlotsOf (IsOfNoFunction dump) ranges []
  pub orphans : List Slot
  pub all : AreSlotsOf (IsOfNoBus roots dump) ranges orphans
  pub with : List code.Fault
  pub added : AreOrphansAdded orphans early with
  pub are : faults ≡ map plain_fault with

-- what is told before judging, where these are the faults without it
abbrev pub AreEarlyWith : List ToldRange → List ℕ → List Block → List code.Fault → List Fault → Type 0
AreEarlyWith ranges roots dump early faults =
    AreSlotsAlone early faults ⊎ AreNotListedAlone ranges dump early faults
    ⊎ AreFunctionsAlone ranges dump early faults ⊎ ArePlacesWith ranges roots dump early faults

-- ---- all of them

-- the faults are of a phase before judging
abbrev pub AreBefore : Told → Given → List ℕ → List Block → List Block → List Fault → Type 0
AreBefore told given roots dump probe faults =
    AreOfSlots given roots dump probe faults ⊎ AreOfNotListed told dump probe faults
    ⊎ AreEarlier told roots dump probe faults

-- both list the same slots, and their system is sound with what is given and told
pub record AreSoundAsTold (told : Told) (given : Given) (roots : List ℕ) (dump probe : List Block) : Type 0 where
  pub slots : slots_of dump ≡ slots_of probe
  pub sound : IsSound told given roots (system_of dump probe)

-- none is there before judging
pub record AreReadyForJudging (told : Told) (roots : List ℕ) (dump probe : List Block) : Type 0 where
  pub listed : AreListed told dump probe
  pub none_earlier : (fault : spec.Fault) → phase_of fault < phase_key Judging
      → IsEarlyThere told roots dump probe fault → ⊥

-- some are found before judging, all of their phase, so nothing is judged, and no sound system is there
pub record AreFound (told : Told) (given : Given) (roots : List ℕ) (dump probe : List Block)
    (faults : List Fault) : Type 0 where
  pub some : faults ≡ [] → ⊥
  pub before : AreBefore told given roots dump probe faults
  pub unsound : AreSoundAsTold told given roots dump probe → ⊥
  pub unready : AreReadyForJudging told roots dump probe → ⊥

-- what is found before judging, whatever is given: faults, or what is to be judged
abbrev pub IsBeforeJudging : {A : Type 0} → Told → List ℕ → List Block → List Block → BeforeJudging A → Type 0
IsBeforeJudging told roots dump probe (Refused faults) =
    (given : Given) → AreFound told given roots dump probe (map any_fault_value faults.items)
IsBeforeJudging told roots dump probe (Admitted outline) =
    AreReadyForJudging told roots dump probe
    × IsOutlineFor record { roots = roots; dump = dump; probe = probe } outline

-- ---- what bridges take

-- where none is there before judging, bridges at some slots take this
abbrev pub AreTakenFor : Told → Given → List ℕ → List Block → List Block → List Slot → List TakingBridge
    → Type 0
AreTakenFor told given roots dump probe slots bridges =
    AreReadyForJudging told roots dump probe → AreTaking told given (system_of dump probe) slots bridges

-- in each system with the tree these bridges take what no region of their bus claims, and all of judging is found with it
pub record IsJudgedOf (told : Told) (given : Given) (slots : List Slot) (t : Tree)
    (judged : Option Tree) (bridges : List TakingBridge) (list : List AnyFault) : Type 0 where
  pub tree : judged ≡ Some t
  pub taken : (s : System) → HasTree t s → AreTaking told given s slots bridges
  pub all : AreAllLines told (with_taking bridges given) t list

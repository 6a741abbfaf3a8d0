-- Laws of stops as a user's words take them: the writes for what words take, as they are printed, lead through systems that these
-- words take as what they took, after the same writes. Each of these systems is sound where the last one is.
use Rattle.std.specs.Prelude.{◌≡◌, ◌⊎◌, ◌≤◌, ℕ, List, length, map, take}
use Rattle.std.specs.List.{Contains}
use Rattle.pci_spec.specs.Machine.{Write, after_writes, system_after, target_of}
use Rattle.pci_spec.specs.Slot.{Slot}
use Rattle.pci_spec.specs.System.{IsSystem, System, system_of}
use Rattle.pci_spec.specs.Text.{Block}
use Rattle.judge_spec.specs.Given.{Given}
use Rattle.judge_spec.specs.ToldClaims.{Told}
use Rattle.judge_spec.specs.ToldSound.{IsSound}
use Rattle.settle_spec.specs.Lists.{Request}
use Rattle.settle_spec.specs.Sparing.{settle_sparing}
use Rattle.settle_spec.specs.Writes.{Settled}
use Rattle.settle_laws.specs.SparingLaws.{sparing_closings}
use Rattle.settle_laws.specs.ToldSoundLaws.{CanAskTold}
use Rattle.judge_spec.specs.ModelWords.{Words}
use Rattle.judge_spec.specs.Taken.{AreFunctionsTakenAs}
use Rattle.pci_model_settle.specs.Listed.{blocks_after, listed_write}
use Rattle.pci_model_settle.specs.Unmoved.{AreUnmoved}
use Rattle.pci_model_settle.specs.OffDevices.{functions_without}
use Rattle.settle_answer_laws.specs.LeftOutLaws.{AreOffDevices}
use Rattle.settle_answer_laws.specs.StopLaws.{AreToldInRequest}

-- Words take a dump and its probe as a system t. Those that stay as they are by the words are fixed. Some of these are left
-- out: their address registers show and read back 0 in what is settled by these writes, with room behind slots.
pub record IsSettledAsTaken (q : Request) (w : Words) (slots : List Slot) (dump probe : List Block) (t : System) (writes : List Write) : Type 0 where
  pub system : IsSystem (system_of dump probe)
  pub taken : AreFunctionsTakenAs w slots (system_of dump probe) t
  pub unmoved : List Slot
  pub stay : AreUnmoved w (system_of dump probe) t unmoved
  pub fixed : (slot : Slot) → Contains unmoved slot → Contains q.fixed slot
  pub left : List Slot
  pub are_left : (slot : Slot) → Contains left slot → Contains unmoved slot
  pub asked : CanAskTold q (functions_without left t)
  pub ended : settle_sparing q (functions_without left t) ≡ Settled writes

-- the functions of a dump and its probe, once these writes are put into the dump as they are printed
abbrev pub printed_after : List Block → List Block → List Write → System
printed_after dump probe writes = system_of (blocks_after dump (map (listed_write dump) writes)) probe

-- A machine shows the dump by the printed writes, wherever they stop.
abbrev pub MachinesShowStops : Type 0
MachinesShowStops =
    (q : Request) (w : Words) (slots : List Slot) (dump probe : List Block) (t : System) (writes : List Write) (n : ℕ)
    → IsSettledAsTaken q w slots dump probe t writes
    → after_writes (map target_of (system_of dump probe)) (map (listed_write dump) (take n writes))
    ≡ map target_of (printed_after dump probe (take n writes))

-- Wherever the writes stop, the dump by the printed writes is taken as what the writes themselves lead to.
abbrev pub WordsTakeStops : Type 0
WordsTakeStops =
    (q : Request) (w : Words) (slots : List Slot) (dump probe : List Block) (t : System) (writes : List Write) (n : ℕ)
    → IsSettledAsTaken q w slots dump probe t writes
    → AreFunctionsTakenAs w slots (printed_after dump probe (take n writes)) (system_after t (take n writes))

-- Words take a system as one that is sound with what is told and given.
pub record IsTakenSoundly (w : Words) (slots : List Slot) (told : Told) (given : Given) (roots : List ℕ) (s : System) : Type 0 where
  pub t : System
  pub taken : AreFunctionsTakenAs w slots s t
  pub sound : IsSound told given roots t

-- Whatever is given: where words take the dump after all printed writes as a sound system, and what is left out decodes nothing,
-- the writes can stop anywhere once the closing ones are made. From a dump that is taken so, they can stop anywhere at all.
abbrev pub WordsCanStop : Type 0
WordsCanStop =
    (q : Request) (w : Words) (slots : List Slot) (dump probe : List Block) (t : System) (writes : List Write) (told : Told) (given : Given) (n : ℕ)
    (settled : IsSettledAsTaken q w slots dump probe t writes) → AreOffDevices settled.left t → AreToldInRequest q told
    → IsTakenSoundly w slots told given q.roots (printed_after dump probe writes)
    → (length (sparing_closings q (functions_without settled.left t)) ≤ n) ⊎ IsTakenSoundly w slots told given q.roots (system_of dump probe)
    → IsTakenSoundly w slots told given q.roots (printed_after dump probe (take n writes))

-- Which lines a list of all faults of a dump and its probe has, with what is given.
use Rattle.std.specs.Prelude.{◌≡◌, ◌⊎◌, ℕ, ◌<◌, List, [], map}
use Rattle.std.specs.List.{Contains}
use Rattle.pci_spec.specs.Text.{Block, slots_of}
use Rattle.pci_spec.specs.System.{system_of}
use Rattle.pci_spec.specs.Fault.{IsThere}
use Rattle.pci_spec.specs.Fault as plain
use Rattle.pci_spec.specs.FaultLines as plain_lines
use Rattle.pci_spec.specs.Order.{Judging, phase_key, phase_of}
use Rattle.judge_spec.specs.Given.{Given}
use Rattle.judge_spec.specs.Fault.{Fault, Known}
use Rattle.judge_spec.specs.AllFaults.{AreAllOfJudging}
use Rattle.judge_spec.specs.Sound.{IsSound}

-- Faults that are looked for before judging are those without what is given, and are all that is told where there is one.
pub record AreEarlier (roots : List ℕ) (dump probe : List Block)
    (faults : List Fault) : Type 0 where
  pub early : List plain.Fault
  pub some : early ≡ [] → ⊥
  pub before : (fault : plain.Fault) → Contains early fault
      → phase_of fault < phase_key Judging
  pub all : plain_lines.AreAllFaults roots dump probe early
  pub are : faults ≡ map Known early

-- Where there is none, those of judging are told.
pub record AreJudged (given : Given) (roots : List ℕ) (dump probe : List Block)
    (faults : List Fault) : Type 0 where
  pub none_earlier : (fault : plain.Fault) → phase_of fault < phase_key Judging
      → IsThere roots dump probe fault → ⊥
  pub all : AreAllOfJudging given roots (system_of dump probe) faults

-- just the faults of the earliest phase that has any, in the order in which they are looked for
abbrev pub AreAllFaults : Given → List ℕ → List Block → List Block → List Fault → Type 0
AreAllFaults given roots dump probe faults =
    AreEarlier roots dump probe faults ⊎ AreJudged given roots dump probe faults

-- both list the same slots, and their system is sound
pub record AreSound (given : Given) (roots : List ℕ) (dump probe : List Block) : Type 0 where
  pub slots : slots_of dump ≡ slots_of probe
  pub sound : IsSound given roots (system_of dump probe)

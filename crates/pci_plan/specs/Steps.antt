-- Putting a plan onto a machine, one access after another.
use Rattle.std.specs.Prelude.{ℕ, suc, ◌==◌, if◌then◌else◌, List, [], ◌∷◌, ◌++◌, map, Option, None, Some, Result, Ok, Err}
use Rattle.std.specs.List.{flat_map}
use Rattle.pci_spec.specs.Number.{number_at}
use Rattle.pci_spec.specs.Text.{Block}
use Rattle.pci_spec.specs.Machine.{Write}
use Rattle.pci_plan.specs.Comparing.{compared}
use Rattle.pci_plan.specs.declared.apply_fault.ApplyFault.{ApplyFault}
use Rattle.pci_plan.specs.declared.apply_fault.ApplyFault.TheVariants.{Changed, Port, Stuck}
use Rattle.pci_plan.specs.declared.step.Kind.{Kind}
use Rattle.pci_plan.specs.declared.step.Kind.TheVariants.{Compare, Make, ReadBack}

-- the numbers that a function shows in the registers that are compared, each as a write of it
abbrev pub shown_writes : Block → List Write
shown_writes b =
    map (λ (r : ℕ × ℕ). record {
      slot = b.slot;
      offset = r.0;
      width = r.1;
      value = number_at b.image r.0 r.1;
    }) (compared b.image)

abbrev pub all_shown : List Block → List Write
all_shown blocks = flat_map shown_writes blocks

-- an access: what it is for, the register with the number that it is to show or to take, and how many writes stand where
-- it is the last
pub record AccessStep : Type 0 where
  pub kind : Kind
  pub register : Write
  pub done : ℕ

abbrev pub compare_step : Write → AccessStep
compare_step w = record { kind = Compare; register = w; done = 0 }

-- a write after `done` others
abbrev pub make_step : ℕ → Write → AccessStep
make_step done w = record { kind = Make; register = w; done = done }

-- it is read back
abbrev pub read_back_step : ℕ → Write → AccessStep
read_back_step done w = record { kind = ReadBack; register = w; done = suc done }

-- the steps of writes after `done` others: each is made, and read back before the next one
abbrev pub write_steps : ℕ → List Write → List AccessStep
write_steps done [] = []
write_steps done (w ∷ ws) = make_step done w ∷ read_back_step done w ∷ write_steps (suc done) ws

-- all steps: first each register is compared
abbrev pub steps_of : List Write → List Write → List AccessStep
steps_of compares writes = map compare_step compares ++ write_steps 0 writes

-- a register that shows a number goes on where that is the wanted one, else it ends with a fault
abbrev pub unless_same : ℕ → ℕ → ApplyFault → Result (Unit {0}) ApplyFault
unless_same shown wanted fault = if shown == wanted then Ok tt else Err fault

-- what follows from a number that an access showed; of a write it is no matter
abbrev pub judged_by : Kind → Write → ℕ → ℕ → Result (Unit {0}) ApplyFault
judged_by Compare w done shown = unless_same shown w.value (Changed w.slot w.offset)
judged_by Make w done shown = Ok tt
judged_by ReadBack w done shown = unless_same shown w.value (Stuck done)

-- what follows from a step, of which nothing is known where its access failed
abbrev pub judged : AccessStep → Option ℕ → Result (Unit {0}) ApplyFault
judged step None = Err (Port step.done)
judged step (Some shown) = judged_by step.kind step.register step.done shown

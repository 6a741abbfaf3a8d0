-- What can be put onto a machine: writes that lead from an admitted start to a sound dump.
use Rattle.std.specs.Prelude.{◌≡◌, ℕ, ◌^◌, ◌<◌, ◌≤◌, ◌⊎◌, take}
use Rattle.std.specs.List.{All, Contains}
use Rattle.pci_spec.specs.System.{System, Function}
use Rattle.pci_spec.specs.Sound.{IsSound}
use Rattle.pci_spec.specs.Machine.{Write, system_after}
use Rattle.plan_spec.specs.Planning.Fitting.{FitsAt}
use Rattle.pci_tree.specs.Admission.{IsAdmitted}
use Rattle.pci_place.specs.Above.{system_in}
use Rattle.pci_plan.specs.Comparing.{compared}
use Rattle.pci_plan.specs.Plans.{PlanValue, final_of}

-- a write of a whole register that is compared, Command or an address register, of a function of the system
pub record IsRegisterWrite (s : System) (w : Write) : Type 0 where
  pub f : Function
  pub listed : Contains s f
  pub slot : f.slot ≡ w.slot
  pub register : Contains (compared f.image) (w.offset, w.width)
  pub small : w.value < 256 ^ w.width

-- Such writes lead from the start to the dump, which is sound with the probe, and change nothing but addresses and enables.
-- A stop from `safe_from` on leaves a sound system, and from a sound start each stop does.
pub record IsMove (p : PlanValue) : Type 0 where
  pub admitted : IsAdmitted p.start
  pub registers : (w : Write) → Contains p.writes w → IsRegisterWrite (system_in p.start) w
  pub fits : All (FitsAt (system_in p.start)) p.writes
  pub reached : system_after (system_in p.start) p.writes ≡ final_of p
  pub sound : IsSound p.start.roots (final_of p)
  pub stops : (k : ℕ) → IsSound p.start.roots (system_in p.start) ⊎ (p.safe_from ≤ k)
      → IsSound p.start.roots (system_after (system_in p.start) (take k p.writes))

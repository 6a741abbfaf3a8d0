-- What a plan of the code stands for.
use Rattle.std.specs.Prelude.{◌≡◌, ℕ, ◌≤◌, List, length, map}
use Rattle.std.specs.List.{AllZip, sum}
use Rattle.pci_spec.specs.Text.{Block, slots_of}
use Rattle.pci_spec.specs.System.{System, IsSystem, system_of}
use Rattle.pci_spec.specs.Sound.{IsSound}
use Rattle.pci_spec.specs.Machine.{Write, system_after}
use Rattle.plan_spec.specs.Plan as plan
use Rattle.plan_spec.specs.Plan.{IsMoved}
use Rattle.plan_spec.specs.PlanPromise.{changes_between, IsPlanOf, IsSafeFrom, StopsSafely, EachWriteChanges, with_rom_on, CanBePlanned, IsPlanFaultOf}
use Rattle.plan_spec.specs.Planning.PlanWrites.{closing_writes, plan_writes, most_writes}
use Rattle.pci_base.specs.WindowKinds.{kind_value}
use Rattle.pci_tree.specs.Admission.{Admission, IsAdmitted}
use Rattle.pci_function.specs.Fault.{fault_of}
use Rattle.pci_place.specs.Above.{system_in}
use Rattle.pci_place.specs.Pools.{pools_value}
use Rattle.pci_place.specs.declared.pools.Pools.{Pools}
use Rattle.pci_plan.specs.declared.plan_fault.PlanFault.{PlanFault}
use Rattle.pci_plan.specs.declared.plan_fault.PlanFault.TheVariants.{BadPools, NoWindow, NoRoom, NotAccepted}

-- what the writes start from, the dump after all of them, the writes, and from which on a stop is safe
pub record PlanValue : Type 0 where
  pub start : Admission
  pub dump : List Block
  pub writes : List Write
  pub safe_from : ℕ

-- the system after all writes
abbrev pub final_of : PlanValue → System
final_of p = system_of p.dump p.start.probe

-- What every plan keeps, whatever the pools were.
pub record IsPlanValue (p : PlanValue) : Type 0 where
  pub admitted : IsAdmitted p.start
  pub slots : slots_of p.dump ≡ slots_of p.start.dump
  pub moved : AllZip IsMoved (system_in p.start) (final_of p)
  pub system : IsSystem (final_of p)
  pub sound : IsSound p.start.roots (final_of p)
  pub roms : IsSound p.start.roots (map with_rom_on (final_of p))
  pub writes : p.writes ≡ plan_writes (changes_between (system_in p.start) (final_of p))
  pub reached : system_after (system_in p.start) p.writes ≡ final_of p
  pub changes : EachWriteChanges (system_in p.start) p.writes
  pub few : length p.writes
      ≤ sum (map most_writes (changes_between (system_in p.start) (final_of p)))
  pub safe : IsSafeFrom p.start.roots (system_in p.start)
      (length (closing_writes (changes_between (system_in p.start) (final_of p)))) p.safe_from
  pub stops : StopsSafely p.start.roots (system_in p.start) p.writes p.safe_from

-- it is a plan of an admission in these pools, which could be planned
pub record IsPlanIn (a : Admission) (pools : plan.Pools) (p : PlanValue) : Type 0 where
  pub start : p.start ≡ a
  pub possible : CanBePlanned a.roots (system_in a) pools
  pub slots : slots_of p.dump ≡ slots_of a.dump
  pub titles : map (λ (b : Block). b.title) p.dump ≡ map (λ (b : Block). b.title) a.dump
  pub plan : IsPlanOf a.roots (system_in a) (system_of p.dump a.probe) pools p.writes p.safe_from

-- a fault of planning as the definitions have it
abbrev pub plan_fault_of : PlanFault → plan.PlanFault
plan_fault_of BadPools = plan.BadPools
plan_fault_of (NoWindow slot) = plan.NoWindow slot
plan_fault_of (NoRoom class) = plan.NoRoom (kind_value class)
plan_fault_of (NotAccepted fault) = plan.NotAccepted (fault_of fault)

-- the fault stands, and none that is looked for before it
abbrev pub IsFaultOfPlan : Admission → Pools → PlanFault → Type 0
IsFaultOfPlan a pools fault =
    IsPlanFaultOf a.roots (system_in a) (pools_value pools) (plan_fault_of fault)

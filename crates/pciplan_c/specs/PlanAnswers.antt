-- What is answered where two texts are to be planned.
use Rattle.std.specs.Prelude.{◌≡◌, ℕ, List, map}
use Rattle.plan_spec.specs.Plan as plan
use Rattle.plan_spec.specs.PlanPromise.{IsPlanFaultOf}
use Rattle.pci_tree.specs.Admission.{Admission, IsAdmitted}
use Rattle.pci_place.specs.Above.{system_in}
use Rattle.pci_plan.specs.Plans.{PlanValue, IsPlanIn, plan_fault_of}
use Rattle.pci_plan.specs.declared.plan_fault.PlanFault.{PlanFault}
use Rattle.pciplan_c.specs.RegisterWrites.{write_value_of}
use Rattle.pciplan_c.specs.Texts.{AreTexts, IsUnreadOf}
use Rattle.pciplan_c.specs.declared.register_write.RegisterWrite.{RegisterWrite}
use Rattle.pciplan_c.specs.declared.no_writes.NoWrites.{NoWrites}
use Rattle.pciplan_c.specs.declared.no_writes.NoWrites.TheVariants.{BadWord, Unread, Also, NotReady, NotPlanned, NotSettled}
use Rattle.pciplan_c.specs.declared.pools.PoolsOfC.{PoolsOfC}

-- pools as C has them
abbrev pub pools_of : PoolsOfC → plan.Pools
pools_of p = record {
  io = record { first = p.io_first; last = p.io_last };
  memory = record { first = p.mem_first; last = p.mem_last };
  prefetch = record { first = p.pref_first; last = p.pref_last };
}

-- the two texts are admitted, and have a fault of planning
pub record IsNotPlanned (roots dump probe : List ℕ) (pools : plan.Pools)
    (fault : PlanFault) : Type 0 where
  pub start : Admission
  pub texts : AreTexts roots dump probe start
  pub admitted : IsAdmitted start
  pub stands : IsPlanFaultOf start.roots (system_in start) pools (plan_fault_of fault)

-- why there is no plan
abbrev pub IsNoPlanOf : List ℕ → List ℕ → List ℕ → plan.Pools → NoWrites → Type 0
IsNoPlanOf roots dump probe pools (BadWord bad) = ⊥
IsNoPlanOf roots dump probe pools (Unread unread) = IsUnreadOf roots dump probe unread
IsNoPlanOf roots dump probe pools (Also fault) = ⊥
IsNoPlanOf roots dump probe pools (NotReady why) = ⊥
IsNoPlanOf roots dump probe pools (NotPlanned fault) = IsNotPlanned roots dump probe pools fault
IsNoPlanOf roots dump probe pools (NotSettled fault) = ⊥

-- these are the writes of a plan of the two texts, which are admitted
pub record AreWritesOfPlan (roots dump probe : List ℕ) (pools : plan.Pools) (writes : List RegisterWrite)
    (safe_from : ℕ) : Type 0 where
  pub start : Admission
  pub texts : AreTexts roots dump probe start
  pub admitted : IsAdmitted start
  pub plan : PlanValue
  pub stands : IsPlanIn start pools plan
  pub made : map write_value_of writes ≡ plan.writes
  pub safe : safe_from ≡ plan.safe_from

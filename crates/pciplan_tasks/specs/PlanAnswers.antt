-- What the program answers where two texts are to be planned.
use Rattle.std.specs.Prelude.{◌≡◌, ◌⊎◌, ◌<◌, ℕ, List, [], ◌++◌, Some, Bool, if◌then◌else◌}
use Rattle.std.specs.List.{flat_map}
use Rattle.pci_spec.specs.Text.{Block, text_of}
use Rattle.pci_spec.specs.System.{System}
use Rattle.pci_spec.specs.Fault.{Fault, fault_number}
use Rattle.pci_spec.specs.Order.{IsFirstThere}
use Rattle.pci_spec.specs.Line.{verdict_line, write_line}
use Rattle.plan_spec.specs.PlanLine.{plan_fault_text, shortage_line}
use Rattle.plan_spec.specs.Plan as plan
use Rattle.plan_spec.specs.PlanPromise.{IsPlanFaultOf}
use Rattle.pci_tree.specs.Admission.{Admission, IsAdmitted}
use Rattle.pci_place.specs.Above.{system_in}
use Rattle.pci_plan.specs.Plans.{PlanValue, IsPlanIn}
use Rattle.pciplan_tasks.specs.Answers.{Answer, done_with, fault_answer_line, refused}
use Rattle.pciplan_tasks.specs.ProbeAnswers.{remarks_named}

-- what is asked for: a plan in these pools, with these root buses, as a dump or as writes; and what a class without room
-- lacks
pub record PlanAsked : Type 0 where
  pub pools : plan.Pools
  pub writes : Bool
  pub why : Bool
  pub roots : List ℕ

-- two dumps with the root buses
abbrev pub plan_admission : PlanAsked → List Block → List Block → Admission
plan_admission asked dump probe = record { roots = asked.roots; dump = dump; probe = probe }

-- the text of a plan: a line for each write where the writes are asked for, else the planned dump
abbrev pub plan_text : Bool → PlanValue → List ℕ
plan_text writes p = if writes then flat_map write_line p.writes else text_of p.dump

-- the text of a plan of the two, which are admitted, and a remark on each register that the titles of the probe name
pub record IsPlanText (asked : PlanAsked) (dump probe : List Block) (answer : Answer) : Type 0 where
  pub plan : PlanValue
  pub admitted : IsAdmitted (plan_admission asked dump probe)
  pub stands : IsPlanIn (plan_admission asked dump probe) asked.pools plan
  pub line : answer ≡ done_with (remarks_named probe) (plan_text asked.writes plan)

-- the line of the first fault that is there, which is one that is looked for before judging
pub record IsRefusedText (roots : List ℕ) (dump probe : List Block) (answer : Answer) : Type 0 where
  pub fault : Fault
  pub first : IsFirstThere roots dump probe fault
  pub early : fault_number fault < 60
  pub line : answer ≡ refused (verdict_line (Some fault))

-- what a class without room lacks
abbrev pub lacking_lines : List ℕ → System → plan.Pools → plan.PlanFault → List ℕ
lacking_lines roots s pools (plan.NoRoom c) = shortage_line c (plan.shortage roots s pools c)
lacking_lines roots s pools fault = []

-- the line of a fault of planning, with what lacks where that is asked for
abbrev pub no_plan_text : Bool → List ℕ → System → plan.Pools → plan.PlanFault → List ℕ
no_plan_text why roots s pools fault =
    fault_answer_line (plan_fault_text fault) ++ (if why then lacking_lines roots s pools fault else [])

-- the line of a fault of planning, where the two are admitted
pub record IsNoPlanText (asked : PlanAsked) (dump probe : List Block) (answer : Answer) : Type 0 where
  pub fault : plan.PlanFault
  pub admitted : IsAdmitted (plan_admission asked dump probe)
  pub stands : IsPlanFaultOf asked.roots
      (system_in (plan_admission asked dump probe)) asked.pools fault
  pub line : answer
      ≡ refused (no_plan_text asked.why asked.roots (system_in (plan_admission asked dump probe))
      asked.pools fault)

-- `plan`: the text of a plan, or the line of a fault
abbrev pub IsPlanAnswer : PlanAsked → List Block → List Block → Answer → Type 0
IsPlanAnswer asked dump probe answer =
    IsPlanText asked dump probe answer ⊎ IsRefusedText asked.roots dump probe answer
    ⊎ IsNoPlanText asked dump probe answer

-- What the program answers where two texts are to be settled.
use Rattle.std.specs.Prelude.{◌≡◌, ◌⊎◌, ℕ, List, [], ◌∷◌, ◌++◌, map, codes}
use Rattle.std.specs.List.{flat_map}
use Rattle.std.specs.Option.{option_map}
use Rattle.pci_spec.specs.Slot.{Slot}
use Rattle.pci_spec.specs.Text.{Block, text_of}
use Rattle.pci_spec.specs.System.{system_of}
use Rattle.pci_spec.specs.Sound.{IsSound}
use Rattle.pci_spec.specs.Machine.{Write}
use Rattle.pci_spec.specs.Line.{region_field, write_line}
use Rattle.judge_spec.specs.Given.{nothing_given}
use Rattle.judge_spec.specs.ToldClaims.{Told}
use Rattle.judge_spec.specs.ToldFault.{Fault}
use Rattle.settle_spec.specs.Lists.{Lists, Request}
use Rattle.settle_spec.specs.Sparing.{without_slots}
use Rattle.pci_first_fit.specs.Lists.{root_range_value}
use Rattle.pci_first_fit.specs.Slots.{Demand}
use Rattle.pci_base.specs.declared.memory.Refused.TheVariants as refused
use Rattle.pci_faults.specs.Every.{AreBefore, AreReadyForJudging}
use Rattle.pci_script.specs.Scripts.{script}
use Rattle.pci_settle.specs.Requests.{request}
use Rattle.pci_settle.specs.Denied.{IsSpared}
use Rattle.pci_settle.specs.Endings.{IsRefusal, HasNoAssumed}
use Rattle.pci_settle.specs.FaultText.{settle_fault_text}
use Rattle.pci_settle.specs.declared.lack.SettleFault.{SettleFault}
use Rattle.pci_tree.specs.Admission.{Admission, IsAdmitted}
use Rattle.pci_tree.specs.Roots.{buses_of}
use Rattle.pciplan_tasks.specs.Also.{ranges_told}
use Rattle.pciplan_tasks.specs.Answers.{Answer}
use Rattle.pciplan_tasks.specs.Answers as told
use Rattle.pciplan_tasks.specs.MapAnswers.{IsFirstLine}
use Rattle.pciplan_tasks.specs.PlanAnswers.{IsRefusedText}
use Rattle.pciplan_tasks.specs.Slots.{slots_for, spares_said}
use Rattle.pciplan_tasks.specs.declared.task.Printed.{Printed}
use Rattle.pciplan_tasks.specs.declared.task.Printed.TheVariants.{Dump, Writes, Script}
use Rattle.pciplan_tasks.specs.declared.task.SettleLists.{SettleLists}
use Rattle.pciplan_tasks.specs.declared.task.SettleRequest.{SettleRequest}

-- lists as settling has them
abbrev pub lists_said : SettleLists → Lists
lists_said l = record {
  io = map root_range_value l.io.items;
  memory = map root_range_value l.mem.items;
  prefetch = map root_range_value l.pref.items;
}

-- the lists, the room behind the slots of a dump, and what is told: of nobody it is known that he is asleep
abbrev pub demand_said : SettleRequest → List Block → Demand
demand_said r dump = record {
  lists = lists_said r.lists;
  slots = slots_for r.spares (option_map (λ s. s.items) r.slots) dump;
  spares = spares_said r.spares;
  told = record { ranges = ranges_told r.also; asleep = [] };
}

-- what is asked of settling a dump
abbrev pub request_said : SettleRequest → List Block → Request
request_said r dump = request (buses_of r.roots) (demand_said r dump) r.fixed.items r.anew

-- what is asked for: how two texts are settled, and what is printed
pub record SettleAsked : Type 0 where
  pub request : Request
  pub printed : Printed

-- two dumps with the root buses
abbrev pub settle_admission : SettleAsked → List Block → List Block → Admission
settle_admission asked dump probe = record {
  roots = asked.request.roots;
  dump = dump;
  probe = probe;
}

-- What settling comes to: the writes, the dump after them, titles as they are, and the windows whose spares have no room. No
-- read back of what has a place is assumed.
pub record IsSettled (q : Request) (a : Admission) (after : List Block) (writes : List Write)
    (denied : List (Slot × ℕ)) : Type 0 where
  pub sized : HasNoAssumed a
  pub titles : map (λ (b : Block). b.title) after ≡ map (λ (b : Block). b.title) a.dump
  pub closings : ℕ
  pub is : IsSpared q a after writes closings denied

-- what is printed of it: the settled dump, a line for each write, or their script, which compares with the start
abbrev pub settled_text : Printed → List Block → List Write → List Block → List ℕ
settled_text Dump start writes after = text_of after
settled_text Writes start writes after = flat_map write_line writes
settled_text (Script form) start writes after = script form start writes

-- a window whose spare has no room, and its line on standard error
abbrev pub spare_text : Slot → ℕ → List ℕ
spare_text slot register = codes "spare" ++ region_field slot register

abbrev pub spare_remark : Slot × ℕ → List ℕ
spare_remark d = codes "pciplan: " ++ (spare_text d.0 d.1 ++ 10 ∷ [])

abbrev pub spare_remarks : List (Slot × ℕ) → List ℕ
spare_remarks denied = flat_map spare_remark denied

-- what settling comes to, which is sound, with a remark on each window whose spare has no room
pub record IsSettledText (asked : SettleAsked) (dump probe : List Block) (answer : Answer) : Type 0 where
  pub after : List Block
  pub writes : List Write
  pub denied : List (Slot × ℕ)
  pub admitted : IsAdmitted (settle_admission asked dump probe)
  pub is : IsSettled asked.request (settle_admission asked dump probe) after writes denied
  pub sound : IsSound asked.request.roots (system_of after probe)
  pub line : answer
      ≡ told.done_with (spare_remarks denied) (settled_text asked.printed dump writes after)

-- the line of the fault for which nothing is settled, where the two are admitted: slots refuse nothing
pub record IsNotSettledText (asked : SettleAsked) (dump probe : List Block) (answer : Answer) : Type 0 where
  pub fault : SettleFault
  pub admitted : IsAdmitted (settle_admission asked dump probe)
  pub stands : IsRefusal (settle_admission asked dump probe) (without_slots asked.request)
      (refused.Fault fault)
  pub line : answer ≡ told.refused (told.fault_answer_line (settle_fault_text fault))

-- what settling the two comes to, or the line of a fault
abbrev pub IsSettlingOfPair : SettleAsked → List Block → List Block → Answer → Type 0
IsSettlingOfPair asked dump probe answer =
    IsSettledText asked dump probe answer ⊎ IsRefusedText asked.request.roots dump probe answer
    ⊎ IsNotSettledText asked dump probe answer

-- where something is told, no fault is there before judging with it: no 34, and no 58 of a held range
abbrev pub IsReadyAsTold : Told → List ℕ → List Block → List Block → Type 0
IsReadyAsTold said roots dump probe = (said.ranges ≡ []) ⊎ AreReadyForJudging said roots dump probe

-- the same of two that are ready
pub record IsSettlingReady (asked : SettleAsked) (dump probe : List Block) (answer : Answer) : Type 0 where
  pub ready : IsReadyAsTold asked.request.told asked.request.roots dump probe
  pub is : IsSettlingOfPair asked dump probe answer

-- the line of the first of all faults that are looked for before judging with what is told
pub record IsNotReady (asked : SettleAsked) (dump probe : List Block) (answer : Answer) : Type 0 where
  pub faults : List Fault
  pub before : AreBefore asked.request.told nothing_given asked.request.roots dump probe faults
  pub line : IsFirstLine faults answer

-- `settle`: what settling comes to with what is told, or the line of a fault
abbrev pub IsSettlingTold : SettleAsked → List Block → List Block → Answer → Type 0
IsSettlingTold asked dump probe answer =
    IsSettlingReady asked dump probe answer ⊎ IsNotReady asked dump probe answer

-- What the program answers where two texts are to be settled as a user's words take their functions.
use Rattle.std.specs.Prelude.{◌≡◌, ◌≢◌, ◌⊎◌, ◌↔◌, ◌<◌, ℕ, nat_le, Bool, if◌then◌else◌, List, [], ◌∷◌, ◌++◌, map, length, codes, Option, None, Some}
use Rattle.pci_spec.specs.Slot.{Slot}
use Rattle.pci_spec.specs.Text.{Block, slots_of}
use Rattle.pci_spec.specs.System.{system_of}
use Rattle.pci_spec.specs.Machine.{Write}
use Rattle.judge_spec.specs.Given.{TakingBridge, nothing_given}
use Rattle.judge_spec.specs.Told.{IsTold, ToldRange}
use Rattle.judge_spec.specs.ToldClaims.{Told}
use Rattle.judge_spec.specs.ToldFault.{Fault}
use Rattle.judge_spec.specs.ToldFaultLines.{AreAllFaults}
use Rattle.judge_spec.specs.ToldLine.{fault_text}
use Rattle.judge_spec.specs.UnclaimedLaws.{with_taking}
use Rattle.judge_spec.specs.TakenDumps.{AreTakenAs}
use Rattle.settle_spec.specs.Sparing.{without_slots}
use Rattle.pci_base.specs.declared.memory.Refused.TheVariants as refusal
use Rattle.pci_faults.specs.Every.{AreBefore, AreSoundAsTold}
use Rattle.pci_model.specs.declared.words.Words.{Words}
use Rattle.pci_model.specs.WordsValue.{words_value}
use Rattle.pci_model_settle.specs.ClaimLines.{LinesWithOrigins, Line, claim_lines, kept_lines, origin_of, own_lines}
use Rattle.pci_model_settle.specs.Listed.{blocks_after, listed_write}
use Rattle.pci_model_settle.specs.OffDevices.{blocks_without, device_lines, left_out}
use Rattle.pci_model_settle.specs.Unmoved.{AreUnmoved}
use Rattle.pci_model_settle.specs.declared.claim_lines.Origin.{Origin}
use Rattle.pci_model_settle.specs.declared.claim_lines.Origin.TheVariants.{Bridge, Device, User}
use Rattle.pci_settle.specs.Endings.{IsRefusal}
use Rattle.pci_settle.specs.FaultText.{settle_fault_text}
use Rattle.pci_settle.specs.Requests.{request}
use Rattle.pci_settle.specs.declared.lack.SettleFault.{SettleFault}
use Rattle.pci_settle.specs.declared.lack.SettleFault.TheVariants.{Fixed, Told as ToldFault}
use Rattle.pci_tree.specs.Admission.{IsAdmitted}
use Rattle.pci_tree.specs.Roots.{buses_of}
use Rattle.pciplan_tasks.specs.Also.{ranges_told}
use Rattle.pciplan_tasks.specs.Answers.{Answer, done_with, fault_answer_line, refused}
use Rattle.pciplan_tasks.specs.FaultsAnswers.{AreTakenByBridges, given_of, legacy_by, palette_by, snoop_of, taking_of, vga_of}
use Rattle.pciplan_tasks.specs.MapAnswers.{IsFirstLine}
use Rattle.pciplan_tasks.specs.PlanAnswers.{IsRefusedText}
use Rattle.pciplan_tasks.specs.SettleAnswers.{IsReadyAsTold, IsSettled, IsSettlingTold, SettleAsked, demand_said, request_said, settle_admission, settled_text, spare_remarks}
use Rattle.pciplan_tasks.specs.TakenAnswers.{AreTakenByWords}
use Rattle.pciplan_tasks.specs.ToldAnswers.{IsToldBeside}
use Rattle.pciplan_tasks.specs.declared.task.Beside.{Beside}
use Rattle.pciplan_tasks.specs.declared.task.HostLists.{HostLists}
use Rattle.pciplan_tasks.specs.declared.task.Printed.{Printed}
use Rattle.pciplan_tasks.specs.declared.task.SettleRequest.{SettleRequest}

-- ---- what is left

-- What `faults` lists of the two with these words and what is told, where the host sends all addresses to each root bus: none
-- exactly where they are sound.
pub record AreFaultsBeside (beside : Beside) (dump probe : List Block) (faults : List Fault) : Type 0 where
  pub told : Told
  pub beside_them : IsToldBeside beside dump probe told
  pub taken : List Block
  pub taken_probe : List Block
  pub are : AreTakenByWords beside.words dump probe taken taken_probe
  pub bridges : List TakingBridge
  pub taking : AreTakenByBridges told (given_of beside.host beside.words dump) (buses_of beside.roots)
      taken taken_probe (taking_of beside.words (system_of dump dump)) bridges
  pub all : AreAllFaults told (with_taking bridges (given_of beside.host beside.words dump))
      (buses_of beside.roots) taken taken_probe faults
  pub none : (faults ≡ []) ↔ AreSoundAsTold told
      (with_taking bridges (given_of beside.host beside.words dump)) (buses_of beside.roots) taken
      taken_probe

abbrev pub all_is_sent : HostLists
all_is_sent = record { io = None; mem = None }

-- what is said beside the two texts of a settling
abbrev pub beside_said : SettleRequest → Beside
beside_said r =
    record { roots = r.roots; words = r.words; host = all_is_sent; also = r.also }

-- ---- where they end

-- what is printed where these faults are left: the line of the first, and else what settling comes to
abbrev pub IsEndLine : List Fault → List ℕ → List ℕ → Answer → Type 0
IsEndLine [] remarks text answer = answer ≡ done_with remarks text
IsEndLine (fault ∷ rest) remarks text answer = answer ≡ refused (fault_answer_line (fault_text fault))

-- Writes to functions as words take them, and the windows whose spares have no room, are printed as writes to the functions of
-- the dump, if the dump after them has no fault as the words take it.
pub record IsSettlingEnded (beside : Beside) (printed : Printed) (dump probe : List Block)
    (writes : List Write) (denied : List (Slot × ℕ)) (answer : Answer) : Type 0 where
  pub faults : List Fault
  pub judged : AreFaultsBeside beside (blocks_after dump (map (listed_write dump) writes)) probe
      faults
  pub line : IsEndLine faults (spare_remarks denied)
      (settled_text printed dump (map (listed_write dump) writes)
      (blocks_after dump (map (listed_write dump) writes)))
      answer

-- ---- settling them

-- the held ranges of the bridges of a dump with legacy parts and with palette parts, where the words take these
abbrev pub claims_by : Words → List Block → List ToldRange
claims_by w dump =
    claim_lines (legacy_by (vga_of (Some w)) (system_of dump dump))
    (palette_by (snoop_of (Some w)) (vga_of (Some w)) (system_of dump dump))

-- What is asked of settling a dump: these functions aren't written, and nothing is placed on these ranges.
abbrev pub asked_with : List Slot → List ToldRange → SettleRequest → Printed → List Block → SettleAsked
asked_with fixed ranges r printed dump = record {
  request = request (buses_of r.roots) record {
    lists = (demand_said r dump).lists;
    slots = (demand_said r dump).slots;
    spares = (demand_said r dump).spares;
    told = record { ranges = ranges; asleep = [] };
  } fixed r.anew;
  printed = printed;
}

-- two texts as they are, and as words take them
pub record TakenTexts : Type 0 where
  pub dump : List Block
  pub probe : List Block
  pub taken : List Block
  pub taken_probe : List Block

-- without the address registers of devices at some slots
abbrev pub texts_without : List Slot → TakenTexts → TakenTexts
texts_without left t = record {
  dump = t.dump;
  probe = t.probe;
  taken = blocks_without left t.taken;
  taken_probe = blocks_without left t.taken_probe;
}

-- the ranges that the user tells, with lines of devices and the held ranges of the bridges among them
abbrev pub kept_with : Words → SettleRequest → List Line → List Block → LinesWithOrigins
kept_with w r devices dump =
    kept_lines (own_lines (ranges_told r.also) devices) (claims_by w dump)

-- where the devices are those at these slots
abbrev pub kept_with_devices_at : Words → SettleRequest → List Slot → TakenTexts → LinesWithOrigins
kept_with_devices_at w r left t =
    kept_with w r (device_lines left (system_of t.taken t.taken_probe)) t.dump

-- what settling them comes to, where the dump has no fault after it
pub record IsSettledTaken (r : SettleRequest) (asked : SettleAsked) (t : TakenTexts)
    (answer : Answer) : Type 0 where
  pub after : List Block
  pub writes : List Write
  pub denied : List (Slot × ℕ)
  pub is : IsSettled asked.request (settle_admission asked t.taken t.taken_probe) after writes denied
  pub ended : IsSettlingEnded (beside_said r) asked.printed t.dump t.probe writes denied answer

-- A fault that names a line names the user's line by its number, and that of a device by its register.
abbrev pub fault_by_origin : Slot → ℕ → Origin → SettleFault
fault_by_origin slot line Bridge = ToldFault slot line
fault_by_origin slot line (User number) = ToldFault slot number
fault_by_origin slot line (Device register) = Fixed slot register

abbrev pub users_fault : LinesWithOrigins → SettleFault → SettleFault
users_fault kept (ToldFault slot line) = fault_by_origin slot line (origin_of kept line)
users_fault kept fault = fault

-- the line of the fault for which nothing is settled: slots refuse nothing
pub record IsNotSettledTaken (kept : LinesWithOrigins) (asked : SettleAsked) (t : TakenTexts)
    (answer : Answer) : Type 0 where
  pub fault : SettleFault
  pub stands : IsRefusal (settle_admission asked t.taken t.taken_probe)
      (without_slots asked.request) (refusal.Fault fault)
  pub line : answer
      ≡ refused (fault_answer_line (settle_fault_text (users_fault kept fault)))

-- more ranges than a text can tell of
pub record IsTooManyRanges (kept : LinesWithOrigins) (answer : Answer) : Type 0 where
  pub more : 4096 < length kept.told
  pub line : answer ≡ refused (fault_answer_line (codes "77 TooManyRanges"))

-- what settling off these ranges comes to
abbrev pub IsSettlingKept : SettleRequest → LinesWithOrigins → SettleAsked → TakenTexts → Answer → Type 0
IsSettlingKept r kept asked t answer =
    IsSettledTaken r asked t answer ⊎ IsNotSettledTaken kept asked t answer

-- The same where a text can tell of these ranges.
abbrev pub IsSettlingAdmitted :
    SettleRequest → LinesWithOrigins → SettleAsked → TakenTexts → Answer → Type 0
IsSettlingAdmitted r kept asked t answer =
    IsTooManyRanges kept answer ⊎ (IsTold kept.told × IsSettlingKept r kept asked t answer)

-- and of any two
abbrev pub IsSettlingAny : SettleRequest → LinesWithOrigins → SettleAsked → TakenTexts → Answer → Type 0
IsSettlingAny r kept asked t answer =
    (IsAdmitted (settle_admission asked t.taken t.taken_probe)
    × IsSettlingAdmitted r kept asked t answer)
    ⊎ IsRefusedText asked.request.roots t.taken t.taken_probe answer

-- whether a text can tell of so many ranges
abbrev pub can_tell : LinesWithOrigins → Bool
can_tell kept = nat_le (length kept.told) 4096

-- The devices that are left out, of some: none where all ranges together would be more.
abbrev pub left_that_fit : Bool → List Slot → List Slot
left_that_fit fit left = if fit then left else []

-- of two that are admitted, where these devices are left out
abbrev pub IsSettlingBut :
    Words → SettleRequest → Printed → List Slot → List Slot → TakenTexts → Answer → Type 0
IsSettlingBut w r printed fixed left t answer =
    IsSettlingAny r (kept_with_devices_at w r left t)
    (asked_with fixed (kept_with_devices_at w r left t).told r printed t.dump) (texts_without left t) answer

-- and where they are if they fit
abbrev pub IsSettlingOf :
    Words → SettleRequest → Printed → List Slot → List Slot → TakenTexts → Answer → Type 0
IsSettlingOf w r printed fixed left t answer =
    IsSettlingBut w r printed fixed (left_that_fit (can_tell (kept_with_devices_at w r left t)) left) t answer

abbrev pub IsSettlingLeft :
    Words → SettleRequest → Printed → List Slot → List Slot → TakenTexts → Answer → Type 0
IsSettlingLeft w r printed fixed left t answer =
    (IsAdmitted record { roots = buses_of r.roots; dump = t.taken; probe = t.taken_probe }
    × IsSettlingOf w r printed fixed left t answer)
    ⊎ IsRefusedText (buses_of r.roots) t.taken t.taken_probe answer

-- of two that are ready as told, where these functions stay as they are, too
pub record IsTakenReady (w : Words) (r : SettleRequest) (printed : Printed) (unmoved : List Slot)
    (t : TakenTexts) (answer : Answer) : Type 0 where
  pub ready : IsReadyAsTold (demand_said r t.dump).told (buses_of r.roots) t.taken t.taken_probe
  pub is : IsSettlingLeft w r printed (r.fixed.items ++ unmoved)
      (left_out unmoved t.dump t.taken t.taken_probe) t answer

-- the line of the first fault that is there before judging
pub record IsTakenUnready (r : SettleRequest) (t : TakenTexts) (answer : Answer) : Type 0 where
  pub faults : List Fault
  pub before : AreBefore (demand_said r t.dump).told nothing_given (buses_of r.roots) t.taken
      t.taken_probe faults
  pub line : IsFirstLine faults answer

abbrev pub IsTakenReadyOrNot :
    Words → SettleRequest → Printed → List Slot → TakenTexts → Answer → Type 0
IsTakenReadyOrNot w r printed unmoved t answer =
    IsTakenReady w r printed unmoved t answer ⊎ IsTakenUnready r t answer

-- what settling the two as words take them comes to
pub record IsSettlingByWords (w : Words) (r : SettleRequest) (printed : Printed)
    (dump probe : List Block) (answer : Answer) : Type 0 where
  pub taken : List Block
  pub taken_probe : List Block
  pub are : AreTakenAs (words_value w) dump probe taken taken_probe
  -- those that stay as they are
  pub unmoved : List Slot
  pub stay : AreUnmoved (words_value w) (system_of dump probe) (system_of taken taken_probe) unmoved
  pub is : IsTakenReadyOrNot w r printed unmoved
      record { dump = dump; probe = probe; taken = taken; taken_probe = taken_probe } answer

-- By words, where both list the same slots; else as they are.
abbrev pub IsSettlingBy :
    Option Words → SettleRequest → Printed → List Block → List Block → Answer → Type 0
IsSettlingBy None r printed dump probe answer =
    IsSettlingTold record { request = request_said r dump; printed = printed } dump probe answer
IsSettlingBy (Some w) r printed dump probe answer =
    ((slots_of dump ≡ slots_of probe) × IsSettlingByWords w r printed dump probe answer)
    ⊎ ((slots_of dump ≢ slots_of probe)
    × IsSettlingTold record { request = request_said r dump; printed = printed } dump probe answer)

-- `settle`: what settling two texts comes to, as it is asked for
abbrev pub IsSettleAnswer : SettleRequest → Printed → List Block → List Block → Answer → Type 0
IsSettleAnswer r printed dump probe answer = IsSettlingBy r.words r printed dump probe answer

-- What is left in a dump after writes, and what is answered where something is settled by words.
use Rattle.std.proofs.Common.{◌≡◌, ◌==◌, ◌||◌, ◌+◌, ◌*◌, ◌/◌, ◌%◌, ℕ, zero, suc, List, [], ◌∷◌, ◌++◌, Bool, true, false, Option, None, Some, Result, ◌<◌, length, map, take, drop, get_or, inl, inr, refl, sym, ap, subst, ◌∙◌, arith, eqb-true, if◌then◌else◌, IsTrue}
use Rattle.std.specs.Prelude.{◌↔◌, ◌≢◌, IfSome, is_some}
use Rattle.std.proofs.lemmas.Bool.{le-leb, lt-leb}
use Rattle.std.specs.Result.{IfOk}
use Rattle.std.specs.List.{All, Contains}
use Rattle.std.proofs.lemmas.List.{length-map}
use Rattle.std.proofs.lemmas.Result.{IfOk-weaker}
use Rattle.pci_spec.specs.Fault.{IsInOne}
use Rattle.pci_spec.specs.Slot.{Slot}
use Rattle.pci_spec.specs.Machine.{Write}
use Rattle.pci_spec.specs.Registers.{COMMAND}
use Rattle.pci_spec.specs.System.{IsSystem, System, system_of}
use Rattle.pci_spec.specs.Text.{Block, IsDump, slots_of}
use Rattle.pci_spec.proofs.Pairing.{IsSystem-of_dumps}
use Rattle.judge_spec.specs.Given.{Given, LegacyBridge, TakingBridge, nothing_given}
use Rattle.judge_spec.specs.Words.{VgaWord}
use Rattle.judge_spec.specs.ToldClaims.{Told}
use Rattle.judge_spec.specs.ToldFault.{Fault}
use Rattle.judge_spec.specs.ToldFaultLines.{AreAllFaults}
use Rattle.judge_spec.specs.UnclaimedLaws.{with_taking}
use Rattle.settle_spec.specs.Sparing.{without_slots}
use Rattle.pci_base.specs.declared.memory.Refused.TheVariants as refusal
use Rattle.pci_faults.specs.Every.{AreBefore, AreSoundAsTold}
use Rattle.pci_model.specs.declared.words.Words.{Words}
use Rattle.pci_model_settle.specs.ClaimLines.{AreBySlot, LinesWithOrigins, Line, kept_lines}
use Rattle.pci_model_settle.specs.Listed.{blocks_after, listed_command, listed_write}
use Rattle.pci_model_settle.specs.OffDevices.{blocks_without, device_lines, left_out}
use Rattle.pci_model_settle.proofs.HeldLines.{lines_length}
use Rattle.judge_spec.specs.Told.{IsTold, ToldRange}
use Rattle.pci_model_settle.proofs.BridgesBySlot.{legacy_by_slot, palette_by_slot}
use Rattle.pci_plan.specs.Writes.{is_two_or_four, write_value}
use Rattle.pci_plan.specs.declared.write.Write.{Write as CodeWrite}
use Rattle.pci_first_fit.specs.Slots.{Demand}
use Rattle.pci_settle.specs.Denied.{IsSpared}
use Rattle.pci_settle.specs.Endings.{IsRefusal, HasNoAssumed}
use Rattle.pci_settle.specs.FaultText.{settle_fault_text}
use Rattle.pci_settle.specs.Requests.{request}
use Rattle.pci_settle.specs.declared.lack.SettleFault.{SettleFault}
use Rattle.pci_tree.specs.Admission.{Admission, IsAdmitted}
use Rattle.pci_tree.specs.Roots.{buses_of}
use Rattle.pciplan_tasks.specs.Answers.{Answer, answer_of, done_with, fault_answer_line, refused}
use Rattle.pciplan_tasks.specs.FaultsAnswers.{AreTakenByBridges, given_of, legacy_by, palette_by, snoop_of, taking_of, vga_of}
use Rattle.pciplan_tasks.specs.MapAnswers.{IsFirstLine}
use Rattle.pciplan_tasks.specs.TakenAnswers.{AreTakenByWords}
use Rattle.pciplan_tasks.specs.SettleAnswers.{IsReadyAsTold, IsSettlingTold, demand_said, request_said, settled_text, spare_remarks}
use Rattle.pciplan_tasks.specs.WordsSettling.{AreFaultsBeside, IsSettlingEnded, IsEndLine, IsSettlingAdmitted, IsSettlingAny, IsSettlingBut, IsSettlingBy, IsSettlingKept, IsSettlingLeft, IsSettlingOf, IsTakenReadyOrNot, TakenTexts, asked_with, beside_said, can_tell, kept_with_devices_at, kept_with, left_that_fit, users_fault}
use Rattle.pciplan_tasks.specs.declared.reply.Reply.{Reply}
use Rattle.pciplan_tasks.specs.declared.task.Beside.{Beside}
use Rattle.pciplan_tasks.specs.declared.task.Printed.{Printed}
use Rattle.pciplan_tasks.specs.declared.task.SettleRequest.{SettleRequest}
use Rattle.pciplan_tasks.proofs.Saying.{IsSaidOf}

-- what is found of two texts as they are taken, by what is given
record AreFound (told : Told) (bridges : List TakingBridge) (taken taken_probe : List Block) (faults : List Fault) (given : Given) (roots : List ℕ) (slots : List Slot) : Type 0 where
  taking : AreTakenByBridges told given roots taken taken_probe slots bridges
  all : AreAllFaults told (with_taking bridges given) roots taken taken_probe faults
  none : (faults ≡ []) ↔ AreSoundAsTold told (with_taking bridges given) roots taken taken_probe

pub faults_are : (beside : Beside) (dump probe taken taken_probe : List Block) (told : Told) (given : Given) (roots : List ℕ) (slots : List Slot) (bridges : List TakingBridge) (faults : List Fault)
    → IsSaidOf beside dump probe told given roots slots → AreTakenByWords beside.words dump probe taken taken_probe → AreTakenByBridges told given roots taken taken_probe slots bridges
    → AreAllFaults told (with_taking bridges given) roots taken taken_probe faults → (faults ≡ []) ↔ AreSoundAsTold told (with_taking bridges given) roots taken taken_probe
    → AreFaultsBeside beside dump probe faults
faults_are beside dump probe taken taken_probe told given roots slots bridges faults said are taking all none =
    let found : AreFound told bridges taken taken_probe faults (given_of beside.host beside.words dump) (buses_of beside.roots) (taking_of beside.words (system_of dump dump))
    = subst (λ (g : Given). AreFound told bridges taken taken_probe faults g (buses_of beside.roots) (taking_of beside.words (system_of dump dump))) said.given_is
    (subst (λ (r : List ℕ). AreFound told bridges taken taken_probe faults given r (taking_of beside.words (system_of dump dump))) said.roots_are
    (subst (λ (s : List Slot). AreFound told bridges taken taken_probe faults given roots s) said.slots_are record { taking = taking; all = all; none = none })) in
    record {
      told = told;
      beside_them = said.told_is;
      taken = taken;
      taken_probe = taken_probe;
      are = are;
      bridges = bridges;
      taking = found.taking;
      all = found.all;
      none = found.none;
    }

-- where a fault is left the first is told
pub end_of_faults : (faults : List Fault) (remarks text : List ℕ) (answer : Answer) → IsFirstLine faults answer → IsEndLine faults remarks text answer
end_of_faults [] remarks text answer line = absurd line
end_of_faults (fault ∷ rest) remarks text answer line = line

-- a slot that one of two lists has alone
pub not_in_one : (dump probe : List Block) (slot : Slot) → IsInOne dump probe slot → slots_of dump ≢ slots_of probe
not_in_one dump probe slot (inl (here, absent)) same = absent (subst (λ (slots : List Slot). Contains slots slot) same here)
not_in_one dump probe slot (inr (absent, here)) same = absent (subst (λ (slots : List Slot). Contains slots slot) (sym same) here)

-- ---- what settling comes to

pub settled_taken : {A E : Type 0} (r : SettleRequest) (kept : LinesWithOrigins) (a : Admission) (d : Demand) (fixed : List Slot) (anew : Bool) (printed : Printed) (dump probe after : List Block) (writes : List Write) (closings : ℕ)
    (denied : List (Slot × ℕ)) (res : Result (Reply A) E) → HasNoAssumed a → map (λ (b : Block). b.title) after ≡ map (λ (b : Block). b.title) a.dump → IsSpared (request a.roots d fixed anew) a after writes closings denied
    → IfOk res (λ reply. IsSettlingEnded (beside_said r) printed dump probe writes denied (answer_of reply))
    → IfOk res (λ reply. IsSettlingKept r kept record { request = request a.roots d fixed anew; printed = printed } record { dump = dump; probe = probe; taken = a.dump; taken_probe = a.probe } (answer_of reply))
settled_taken r kept a d fixed anew printed dump probe after writes closings denied res sized titles spared ended =
    IfOk-weaker res (λ reply. IsSettlingEnded (beside_said r) printed dump probe writes denied (answer_of reply))
    (λ reply. IsSettlingKept r kept record { request = request a.roots d fixed anew; printed = printed } record { dump = dump; probe = probe; taken = a.dump; taken_probe = a.probe } (answer_of reply))
    (λ reply is. inl record {
      after = after;
      writes = writes;
      denied = denied;
      is = record { sized = sized; titles = titles; closings = closings; is = spared };
      ended = is;
    }) ended

pub not_settled_taken : {A E : Type 0} (r : SettleRequest) (kept : LinesWithOrigins) (a : Admission) (d : Demand) (fixed : List Slot) (anew : Bool) (printed : Printed) (dump probe : List Block) (fault : SettleFault) (res : Result (Reply A) E)
    → IsRefusal a (without_slots (request a.roots d fixed anew)) (refusal.Fault fault)
    → IfOk res (λ reply. answer_of reply ≡ refused (fault_answer_line (settle_fault_text (users_fault kept fault))))
    → IfOk res (λ reply. IsSettlingKept r kept record { request = request a.roots d fixed anew; printed = printed } record { dump = dump; probe = probe; taken = a.dump; taken_probe = a.probe } (answer_of reply))
not_settled_taken r kept a d fixed anew printed dump probe fault res stands told =
    IfOk-weaker res (λ reply. answer_of reply ≡ refused (fault_answer_line (settle_fault_text (users_fault kept fault))))
    (λ reply. IsSettlingKept r kept record { request = request a.roots d fixed anew; printed = printed } record { dump = dump; probe = probe; taken = a.dump; taken_probe = a.probe } (answer_of reply))
    (λ reply line. inr record { fault = fault; stands = stands; line = line }) told

module _ (w : Words) (r : SettleRequest) (printed : Printed) (fixed left : List Slot) (dump probe taken taken_probe : List Block) where
  abbrev texts : TakenTexts
  texts = record { dump = dump; probe = probe; taken = taken; taken_probe = taken_probe }

  abbrev Means : Answer → Type 0
  Means answer = (unmoved : List Slot) → fixed ≡ r.fixed.items ++ unmoved → left ≡ left_out unmoved dump taken taken_probe → IsTakenReadyOrNot w r printed unmoved texts answer

  pub taken_ready : {A E : Type 0} (res : Result (Reply A) E) → IsReadyAsTold (demand_said r dump).told (buses_of r.roots) taken taken_probe
      → IfOk res (λ reply. IsSettlingLeft w r printed fixed left texts (answer_of reply)) → IfOk res (λ reply. Means (answer_of reply))
  taken_ready res ready told =
      IfOk-weaker res (λ reply. IsSettlingLeft w r printed fixed left texts (answer_of reply)) (λ reply. Means (answer_of reply))
      (λ reply is unmoved same same_left. inl record {
        ready = ready;
        is = subst (λ (all : List Slot). IsSettlingLeft w r printed all (left_out unmoved dump taken taken_probe) texts (answer_of reply)) same
            (subst (λ (some : List Slot). IsSettlingLeft w r printed fixed some texts (answer_of reply)) same_left is);
      }) told

  pub taken_unready : {A E : Type 0} (faults : List Fault) (res : Result (Reply A) E) → AreBefore (demand_said r dump).told nothing_given (buses_of r.roots) taken taken_probe faults
      → IfOk res (λ reply. IsFirstLine faults (answer_of reply)) → IfOk res (λ reply. Means (answer_of reply))
  taken_unready faults res before told =
      IfOk-weaker res (λ reply. IsFirstLine faults (answer_of reply)) (λ reply. Means (answer_of reply)) (λ reply line unmoved same same_left. inr record { faults = faults; before = before; line = line }) told

-- ---- bridges that claim stand by slot

none_by_slot : AreBySlot []
none_by_slot = record { each = λ k d less. absurd (let no : ⊥ = omega (arith, less) in no); order = λ i j d le less. absurd (let no : ⊥ = omega (arith, less) in no) }

module _ (w : Words) (dump : List Block) (is : IsDump dump) (bridges : List LegacyBridge) where
  system : IsSystem (system_of dump dump)
  system = IsSystem-of_dumps dump dump is is refl

  pub legacy_rise : bridges ≡ legacy_by (vga_of (Some w)) (system_of dump dump) → AreBySlot bridges
  legacy_rise are = subst AreBySlot (sym are) (by_word (vga_of (Some w))) where
    by_word : (word : Option VgaWord) → AreBySlot (legacy_by word (system_of dump dump))
    by_word None = none_by_slot
    by_word (Some word) = legacy_by_slot word (system_of dump dump) system

  pub palette_rise : bridges ≡ palette_by (snoop_of (Some w)) (vga_of (Some w)) (system_of dump dump) → AreBySlot bridges
  palette_rise are = subst AreBySlot (sym are) (by_word (snoop_of (Some w))) where
    by_word : (counts : Bool) → AreBySlot (palette_by counts (vga_of (Some w)) (system_of dump dump))
    by_word true = palette_by_slot (vga_of (Some w)) (system_of dump dump) system
    by_word false = none_by_slot

-- ---- writes for a dump

width_stays : (dump : List Block) (w : Write) → (listed_write dump w).width ≡ w.width
width_stays dump w = by_test (w.offset == COMMAND) where
  by_test : (command : Bool) → (if command then record w { value = listed_command dump w.slot / 4 * 4 + w.value % 4 } else w).width ≡ w.width
  by_test true = refl
  by_test false = refl

plain_by : (dump : List Block) (old new : CodeWrite) → write_value new ≡ listed_write dump (write_value old) → IsTrue (is_two_or_four old) → IsTrue (is_two_or_four new)
plain_by dump old new is plain = subst (λ n. IsTrue (n == 2 || n == 4)) (sym (ap (λ (w : Write). w.width) is ∙ width_stays dump (write_value old))) plain

pub all_plain : (dump : List Block) (old new : List CodeWrite) → map write_value new ≡ map (listed_write dump) (map write_value old) → All (λ w. IsTrue (is_two_or_four w)) old → All (λ w. IsTrue (is_two_or_four w)) new
all_plain dump [] [] is plain k d less = absurd (let no : ⊥ = omega (arith, less) in no)
all_plain dump [] (n ∷ new) is plain k d less = absurd (let no : ⊥ = cc in no)
all_plain dump (o ∷ old) [] is plain k d less = absurd (let no : ⊥ = omega (arith, less) in no)
all_plain dump (o ∷ old) (n ∷ new) is plain zero d less = plain_by dump o n (ap (λ l. get_or l 0 (write_value n)) is) (plain 0 o (omega arith))
all_plain dump (o ∷ old) (n ∷ new) is plain (suc k) d less = all_plain dump old new (ap (drop 1) is) (λ j e low. plain (suc j) e (omega (arith, low))) k d (omega (arith, less))

pub written_back : {X : Type 0} (n : ℕ) (new old : List X) → length new ≡ length old → n ≡ length old → take n (new ++ drop (length new) old) ≡ new
written_back {X = X} n new old same all = ap (λ k. take k (new ++ drop (length new) old)) (all ∙ sym same) ∙ of_all new (drop (length new) old) where
  of_all : (new rest : List X) → take (length new) (new ++ rest) ≡ new
  of_all [] rest = refl
  of_all (x ∷ new) rest = ap (λ l. x ∷ l) (of_all new rest)

pub none_there : {X : Type 0} (xs : List X) → (length xs == 0) ≡ true → xs ≡ []
none_there [] none = refl
none_there (x ∷ xs) none = absurd (let same : length (x ∷ xs) ≡ 0 = eqb-true _ _ none in let no : ⊥ = omega (arith, same) in no)

-- where none is left, what is printed is
pub end_of_none : (faults : List Fault) (remarks text : List ℕ) (answer : Answer) → faults ≡ [] → answer ≡ done_with remarks text → IsEndLine faults remarks text answer
end_of_none [] remarks text answer none line = line
end_of_none (fault ∷ rest) remarks text answer none line = absurd (let no : ⊥ = cc in no)

pub none_at : {X : Type 0} (xs : List X) → length xs ≡ 0 → xs ≡ []
none_at [] none = refl
none_at (x ∷ xs) none = absurd (let no : ⊥ = omega (arith, none) in no)

-- the writes that a slice lends, once they are for the dump
pub writes_made : (dump : List Block) (n : ℕ) (new items lent : List CodeWrite) → map write_value new ≡ map (listed_write dump) (map write_value items) → n ≡ length items → lent ≡ take n (new ++ drop (length new) items)
    → map write_value lent ≡ map (listed_write dump) (map write_value items)
writes_made dump n new items lent made all is =
    let one = length-map new write_value in
    let two = length-map (map write_value items) (listed_write dump) in
    let three = length-map items write_value in
    let four = ap length made in
    let same : length new ≡ length items = omega (arith, one, two, three, four) in
    ap (map write_value) (is ∙ written_back n new items same all) ∙ made

module _ {A E : Type 0} (beside : Beside) (printed : Printed) (dump probe : List Block) (writes : List Write) (denied : List (Slot × ℕ)) (faults : List Fault) (res : Result (Reply A) E)
    (judged : AreFaultsBeside beside (blocks_after dump (map (listed_write dump) writes)) probe faults) where
  ended_by : IfOk res (λ reply. IsEndLine faults (spare_remarks denied) (settled_text printed dump (map (listed_write dump) writes) (blocks_after dump (map (listed_write dump) writes))) (answer_of reply))
      → IfOk res (λ reply. IsSettlingEnded beside printed dump probe writes denied (answer_of reply))
  ended_by told =
      IfOk-weaker res (λ reply. IsEndLine faults (spare_remarks denied) (settled_text printed dump (map (listed_write dump) writes) (blocks_after dump (map (listed_write dump) writes))) (answer_of reply))
      (λ reply. IsSettlingEnded beside printed dump probe writes denied (answer_of reply)) (λ reply line. record { faults = faults; judged = judged; line = line }) told

  pub ended_in_fault : IfOk res (λ reply. IsFirstLine faults (answer_of reply)) → IfOk res (λ reply. IsSettlingEnded beside printed dump probe writes denied (answer_of reply))
  ended_in_fault told =
      ended_by (IfOk-weaker res (λ reply. IsFirstLine faults (answer_of reply))
      (λ reply. IsEndLine faults (spare_remarks denied) (settled_text printed dump (map (listed_write dump) writes) (blocks_after dump (map (listed_write dump) writes))) (answer_of reply))
      (λ reply line. end_of_faults faults _ _ (answer_of reply) line) told)

  pub ended_well : faults ≡ [] → (start after : List Block) (made : List Write) (left : List (Slot × ℕ)) → start ≡ dump → made ≡ map (listed_write dump) writes → left ≡ denied
      → after ≡ blocks_after dump (map (listed_write dump) writes) → IfOk res (λ reply. answer_of reply ≡ done_with (spare_remarks left) (settled_text printed start made after))
      → IfOk res (λ reply. IsSettlingEnded beside printed dump probe writes denied (answer_of reply))
  ended_well none start after made left same_start same_writes same_denied same_after told =
      ended_by (IfOk-weaker res (λ reply. answer_of reply ≡ done_with (spare_remarks left) (settled_text printed start made after))
      (λ reply. IsEndLine faults (spare_remarks denied) (settled_text printed dump (map (listed_write dump) writes) (blocks_after dump (map (listed_write dump) writes))) (answer_of reply))
      (λ reply line. end_of_none faults _ _ (answer_of reply) none (line ∙ (λ i. done_with (spare_remarks (same_denied i)) (settled_text printed (same_start i) (same_writes i) (same_after i))))) told)

-- ---- two that list other slots

pub differ_by : (dump probe : List Block) (found : Option Slot) → is_some found ≡ true → IfSome found (IsInOne dump probe) → slots_of dump ≢ slots_of probe
differ_by dump probe None some is = absurd (let no : ⊥ = cc in no)
differ_by dump probe (Some slot) some is = not_in_one dump probe slot is

pub as_they_are : {A E : Type 0} (words : Option Words) (r : SettleRequest) (printed : Printed) (dump probe : List Block) (res : Result (Reply A) E) → slots_of dump ≢ slots_of probe
    → IfOk res (λ reply. IsSettlingTold record { request = request_said r dump; printed = printed } dump probe (answer_of reply)) → IfOk res (λ reply. IsSettlingBy words r printed dump probe (answer_of reply))
as_they_are None r printed dump probe res differ told = told
as_they_are (Some w) r printed dump probe res differ told =
    IfOk-weaker res (λ reply. IsSettlingTold record { request = request_said r dump; printed = printed } dump probe (answer_of reply)) (λ reply. IsSettlingBy (Some w) r printed dump probe (answer_of reply))
    (λ reply is. inr (differ, is)) told

-- ---- without devices

none_left : (bs : List Block) → blocks_without [] bs ≡ bs
none_left [] = refl
none_left (b ∷ bs) = ap (λ (rest : List Block). b ∷ rest) (none_left bs)

no_lines : (t : System) → device_lines [] t ≡ []
no_lines [] = refl
no_lines (f ∷ t) = no_lines t

pub no_slots : (left : List Slot) → (length left == 0) ≡ true → left ≡ []
no_slots [] none = refl
no_slots (slot ∷ left) none = absurd (let same : length (slot ∷ left) ≡ 0 = eqb-true _ _ none in let no : ⊥ = omega (arith, same) in no)

all_fit : (fit : Bool) (left : List Slot) → fit ≡ true → left_that_fit fit left ≡ left
all_fit true left e = refl
all_fit false left e = absurd (let no : ⊥ = cc in no)

none_fits : (fit : Bool) (left : List Slot) → fit ≡ false → left_that_fit fit left ≡ []
none_fits true left e = absurd (let no : ⊥ = cc in no)
none_fits false left e = refl

pub none_to_fit : (fit : Bool) (left : List Slot) → left ≡ [] → left_that_fit fit left ≡ []
none_to_fit true left e = e
none_to_fit false left e = refl

-- too many lines without those of bridges are too many with them
pub too_many_already : (lines : List Line) (claims : List ToldRange) → 4096 < length lines → 4096 < length (kept_lines lines claims).told
too_many_already lines claims many = let size = lines_length lines claims in omega (arith, size, many)

module _ (w : Words) (r : SettleRequest) (printed : Printed) (fixed left : List Slot) (dump probe taken taken_probe : List Block) where
  abbrev as_taken : TakenTexts
  as_taken = record { dump = dump; probe = probe; taken = taken; taken_probe = taken_probe }

  -- what settling two comes to, off these ranges
  abbrev Comes : LinesWithOrigins → List Block → List Block → Answer → Type 0
  Comes kept after after_probe answer =
      IsSettlingAny r kept (asked_with fixed kept.told r printed dump) record { dump = dump; probe = probe; taken = after; taken_probe = after_probe } answer

  abbrev fit : Bool
  fit = can_tell (kept_with_devices_at w r left as_taken)

  -- where these are left out
  comes_to : {A E : Type 0} (some : List Slot) (kept : LinesWithOrigins) (after after_probe : List Block) (res : Result (Reply A) E) → left_that_fit fit left ≡ some → kept ≡ kept_with_devices_at w r some as_taken
      → after ≡ blocks_without some taken → after_probe ≡ blocks_without some taken_probe → IfOk res (λ reply. Comes kept after after_probe (answer_of reply))
      → IfOk res (λ reply. IsSettlingOf w r printed fixed left as_taken (answer_of reply))
  comes_to some kept after after_probe res are same is is_probe told =
      IfOk-weaker res (λ reply. Comes kept after after_probe (answer_of reply)) (λ reply. IsSettlingOf w r printed fixed left as_taken (answer_of reply))
      (λ reply comes. subst (λ (slots : List Slot). IsSettlingBut w r printed fixed slots as_taken (answer_of reply)) (sym are)
      (subst (λ (k : LinesWithOrigins). Comes k (blocks_without some taken) (blocks_without some taken_probe) (answer_of reply)) same
      (subst (λ (bs : List Block). Comes kept bs (blocks_without some taken_probe) (answer_of reply)) is (subst (λ (bs : List Block). Comes kept after bs (answer_of reply)) is_probe comes)))) told

  pub settled_without : {A E : Type 0} (devices : List Line) (kept : LinesWithOrigins) (after after_probe : List Block) (res : Result (Reply A) E) → devices ≡ device_lines left (system_of taken taken_probe)
      → kept ≡ kept_with w r devices dump → IsTold kept.told → after ≡ blocks_without left taken → after_probe ≡ blocks_without left taken_probe
      → IfOk res (λ reply. Comes kept after after_probe (answer_of reply)) → IfOk res (λ reply. IsSettlingOf w r printed fixed left as_taken (answer_of reply))
  settled_without devices kept after after_probe res shown same lawful is is_probe told =
      let all : kept ≡ kept_with_devices_at w r left as_taken = same ∙ ap (λ (ls : List Line). kept_with w r ls dump) shown in
      let fits : fit ≡ true = sym (ap can_tell all) ∙ le-leb (length kept.told) 4096 lawful.room in
      comes_to left kept after after_probe res (all_fit fit left fits) all is is_probe told

  -- where none is
  pub settled_whole : {A E : Type 0} (res : Result (Reply A) E) → left_that_fit fit left ≡ [] → IsAdmitted record { roots = buses_of r.roots; dump = taken; probe = taken_probe }
      → IfOk res (λ reply. IsSettlingAdmitted r (kept_with w r [] dump) (asked_with fixed (kept_with w r [] dump).told r printed dump) as_taken (answer_of reply))
      → IfOk res (λ reply. IsSettlingOf w r printed fixed left as_taken (answer_of reply))
  settled_whole res none admitted told =
      comes_to [] (kept_with w r [] dump) taken taken_probe res none (ap (λ (ls : List Line). kept_with w r ls dump) (sym (no_lines (system_of taken taken_probe)))) (sym (none_left taken)) (sym (none_left taken_probe))
      (IfOk-weaker res (λ reply. IsSettlingAdmitted r (kept_with w r [] dump) (asked_with fixed (kept_with w r [] dump).told r printed dump) as_taken (answer_of reply))
      (λ reply. Comes (kept_with w r [] dump) taken taken_probe (answer_of reply)) (λ reply is. inl (admitted, is)) told)

  pub too_many_fit_none : (devices : List Line) → devices ≡ device_lines left (system_of taken taken_probe) → 4096 < length (kept_with w r devices dump).told → left_that_fit fit left ≡ []
  too_many_fit_none devices shown many =
      let all : kept_with w r devices dump ≡ kept_with_devices_at w r left as_taken = ap (λ (ls : List Line). kept_with w r ls dump) shown in
      none_fits fit left (sym (ap can_tell all) ∙ lt-leb (length (kept_with w r devices dump).told) 4096 many)

-- two that are admitted, as they are and as they were
pub admitted_left : {A E : Type 0} (w : Words) (r : SettleRequest) (printed : Printed) (fixed left : List Slot) (dump probe taken taken_probe : List Block) (a : Admission) (res : Result (Reply A) E) → IsAdmitted a
    → a.roots ≡ buses_of r.roots → a.dump ≡ taken → a.probe ≡ taken_probe
    → IfOk res (λ reply. IsSettlingOf w r printed fixed left record { dump = dump; probe = probe; taken = a.dump; taken_probe = a.probe } (answer_of reply))
    → IfOk res (λ reply. IsSettlingLeft w r printed fixed left record { dump = dump; probe = probe; taken = taken; taken_probe = taken_probe } (answer_of reply))
admitted_left w r printed fixed left dump probe taken taken_probe a res admitted roots same same_probe told =
    IfOk-weaker res (λ reply. IsSettlingOf w r printed fixed left record { dump = dump; probe = probe; taken = a.dump; taken_probe = a.probe } (answer_of reply))
    (λ reply. IsSettlingLeft w r printed fixed left record { dump = dump; probe = probe; taken = taken; taken_probe = taken_probe } (answer_of reply))
    (λ reply is. subst (λ (bs : List Block). IsSettlingLeft w r printed fixed left record { dump = dump; probe = probe; taken = bs; taken_probe = taken_probe } (answer_of reply)) same
    (subst (λ (bs : List Block). IsSettlingLeft w r printed fixed left record { dump = dump; probe = probe; taken = a.dump; taken_probe = bs } (answer_of reply)) same_probe
    (inl (subst (λ (roots : List ℕ). IsAdmitted record { roots = roots; dump = a.dump; probe = a.probe }) roots admitted, is)))) told

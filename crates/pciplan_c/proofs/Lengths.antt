-- No line that says a verdict, or why there is none, no writes or no list, is longer than 96 bytes.
use Rattle.std.proofs.Common.{◌≡◌, ℕ, ◌+◌, ◌-◌, ◌^◌, ◌≤◌, ◌<◌, ◌++◌, length, replicate, refl, ap, arith, Some, codes}
use Rattle.std.specs.Fmt.{decimal}
use Rattle.std.proofs.lemmas.Fmt.{length-decimal-le}
use Rattle.std.proofs.lemmas.List.{length-append, length-replicate}
use Rattle.pci_spec.specs.Slot.{Slot}
use Rattle.pci_spec.specs.Text.{slot_text}
use Rattle.pci_spec.specs.Line.{verdict_line, fault_text, field, hex_number}
use Rattle.pci_spec.specs.Window as windows
use Rattle.pci_spec.proofs.HexTexts.{padded_hex}
use Rattle.plan_spec.specs.Plan as plan
use Rattle.plan_spec.specs.PlanLine.{plan_fault_text}
use Rattle.pci_base.specs.WindowKinds.{kind_value}
use Rattle.pci_function.specs.Fault.{fault_of}
use Rattle.pci_check.specs.Audits.{outcome_line}
use Rattle.pci_check.specs.declared.outcome.Outcome.{Outcome}
use Rattle.pci_check.specs.declared.outcome.Outcome.TheVariants.{Yes, No}
use Rattle.pci_plan.specs.Plans.{plan_fault_of}
use Rattle.pci_settle.specs.FaultText.{hex_text, sizes_text, class_part_text, settle_fault_text}
use Rattle.pci_settle.specs.declared.lack.SettleFault.{SettleFault}
use Rattle.pci_settle.specs.declared.lack.SettleFault.TheVariants as settle
pub use Rattle.pciplan_c.proofs.HeldLengths.{refusal_short}
use Rattle.pciplan_c.proofs.HeldLengths.{ended, fault_short, line_length, unread_short}
use Rattle.pciplan_c.specs.FaultsWords.{faults_word_text}
use Rattle.pciplan_c.specs.NoLists.{no_list_line, no_list_text}
use Rattle.pciplan_c.specs.NoWrites.{no_writes_numbers, no_writes_text, settle_fault_numbers, settle_word_text}
use Rattle.pciplan_c.specs.declared.faults_words.FaultsWord.{FaultsWord}
use Rattle.pciplan_c.specs.declared.faults_words.FaultsWord.TheVariants.{Model, HostIo, HostMem}
use Rattle.pciplan_c.specs.declared.no_list.NoList.{NoList}
use Rattle.pciplan_c.specs.declared.no_list.NoList.TheVariants as no_list
use Rattle.pciplan_c.specs.declared.no_writes.NoWrites.{NoWrites}
use Rattle.pciplan_c.specs.declared.no_writes.NoWrites.TheVariants.{BadWord, Unread, Also, NotReady, NotPlanned, NotSettled}
use Rattle.pciplan_c.specs.declared.settle_words.SettleWord.{SettleWord}
use Rattle.pciplan_c.specs.declared.settle_words.SettleWord.TheVariants as word
use Rattle.pciplan_c.specs.declared.refusal.Refusal.TheVariants.{Dump}
use Rattle.pciplan_c.specs.ToldTexts.{unready_text}
use Rattle.pciplan_c.specs.declared.unready.Unready.{Unready}
use Rattle.pciplan_c.specs.declared.unready.Unready.TheVariants as unready

pub line_short : (outcome : Outcome) → length (outcome_line outcome) ≤ 96
line_short Yes = let yes : length (outcome_line Yes) ≡ 4 = refl in omega (arith, yes)
line_short (No fault) =
    let few = fault_short (fault_of fault) in
    let line : length (verdict_line (Some (fault_of fault))) ≡ length (fault_text (fault_of fault)) + 4 = line_length (fault_text (fault_of fault)) in
    omega (arith, few, line)

-- ---- why there is no plan

room_short : (class : windows.WindowKind) → length (plan_fault_text (plan.NoRoom class)) ≤ 92
room_short windows.IoWindow = let bytes : length (plan_fault_text (plan.NoRoom windows.IoWindow)) ≡ 12 = refl in omega (arith, bytes)
room_short windows.MemoryWindow = let bytes : length (plan_fault_text (plan.NoRoom windows.MemoryWindow)) ≡ 13 = refl in omega (arith, bytes)
room_short windows.PrefetchWindow = let bytes : length (plan_fault_text (plan.NoRoom windows.PrefetchWindow)) ≡ 14 = refl in omega (arith, bytes)

plan_fault_short : (fault : plan.PlanFault) → length (plan_fault_text fault) ≤ 92
plan_fault_short plan.BadPools = let bytes : length (plan_fault_text plan.BadPools) ≡ 11 = refl in omega (arith, bytes)
plan_fault_short (plan.NoWindow slot) = let bytes : length (plan_fault_text (plan.NoWindow slot)) ≡ 19 = refl in omega (arith, bytes)
plan_fault_short (plan.NoRoom class) = room_short class
plan_fault_short (plan.NotAccepted fault) = ended (codes "73 NotAccepted ") (fault_text fault) 60 92 (fault_short fault) (let head : length (codes "73 NotAccepted ") ≡ 15 = refl in omega (arith, head))

-- ---- why nothing is settled

size_short : (n : ℕ) → n < 2 ^ 64 → length (hex_text n) ≤ 16
size_short n less =
    let whole = ap length (padded_hex 16 n (omega arith) (omega arith) (omega (arith, less))) in
    let parts = length-append (replicate (16 - length (hex_text n)) 48) (hex_text n) in
    let zeros = length-replicate {A = ℕ} (16 - length (hex_text n)) 48 in
    let all : length (hex_number 16 n) ≡ 16 = refl in
    omega (arith, whole, parts, zeros, all)

part_short : (class : windows.WindowKind) (slot : Slot) (register : ℕ) → length (class_part_text class slot register) ≤ 15
part_short windows.IoWindow slot register = let bytes : length (class_part_text windows.IoWindow slot register) ≡ 13 = refl in omega (arith, bytes)
part_short windows.MemoryWindow slot register = let bytes : length (class_part_text windows.MemoryWindow slot register) ≡ 14 = refl in omega (arith, bytes)
part_short windows.PrefetchWindow slot register = let bytes : length (class_part_text windows.PrefetchWindow slot register) ≡ 15 = refl in omega (arith, bytes)

sizes_short : (size alignment : ℕ) → size < 2 ^ 64 → alignment < 2 ^ 64 → length (sizes_text size alignment) ≤ 33
sizes_short size alignment few less =
    let parts = length-append (hex_text size) (field (hex_text alignment)) in
    let one = size_short size few in
    let other = size_short alignment less in
    omega (arith, parts, one, other)

settle_fault_short : (fault : SettleFault) → (settle_fault_numbers fault).0 < 2 ^ 64 → (settle_fault_numbers fault).1 < 2 ^ 64
    → length (settle_fault_text fault) ≤ 92
settle_fault_short settle.BadLists few less = let bytes : length (settle_fault_text settle.BadLists) ≡ 11 = refl in omega (arith, bytes)
settle_fault_short (settle.Assumed slot reg) few less = let bytes : length (settle_fault_text (settle.Assumed slot reg)) ≡ 21 = refl in omega (arith, bytes)
settle_fault_short (settle.NoRoom lack) few less =
    let part = part_short (kind_value lack.class) lack.slot lack.register in
    let sizes = sizes_short lack.size lack.alignment few less in
    let end = length-append (field (class_part_text (kind_value lack.class) lack.slot lack.register)) (field (sizes_text lack.size lack.alignment)) in
    ended (codes "72 NoRoom") (field (class_part_text (kind_value lack.class) lack.slot lack.register) ++ field (sizes_text lack.size lack.alignment)) 50 92
    (omega (arith, part, sizes, end)) (let head : length (codes "72 NoRoom") ≡ 9 = refl in omega (arith, head))
settle_fault_short (settle.TooLarge class slot) few less =
    let part = part_short (kind_value class) slot (windows.window_register (kind_value class)) in
    ended (codes "72 NoRoom") (field (class_part_text (kind_value class) slot (windows.window_register (kind_value class)))) 50 92
    (omega (arith, part)) (let head : length (codes "72 NoRoom") ≡ 9 = refl in omega (arith, head))
settle_fault_short (settle.Fixed slot reg) few less = let bytes : length (settle_fault_text (settle.Fixed slot reg)) ≡ 19 = refl in omega (arith, bytes)
settle_fault_short (settle.Told slot line) few less =
    let number = length-decimal-le 20 line (omega arith) (omega (arith, few)) few in
    ended (codes "75 Told" ++ field (slot_text slot) ++ codes " +") (decimal line) 20 92 number
    (let head : length (codes "75 Told" ++ field (slot_text slot) ++ codes " +") ≡ 17 = refl in omega (arith, head))

word_short : (bad : SettleWord) → length (settle_word_text bad) ≤ 96
word_short word.Io = let bytes : length (settle_word_text word.Io) ≡ 7 = refl in omega (arith, bytes)
word_short word.Mem = let bytes : length (settle_word_text word.Mem) ≡ 8 = refl in omega (arith, bytes)
word_short word.Pref = let bytes : length (settle_word_text word.Pref) ≡ 9 = refl in omega (arith, bytes)
word_short word.Fixed = let bytes : length (settle_word_text word.Fixed) ≡ 5 = refl in omega (arith, bytes)
word_short word.Spare = let bytes : length (settle_word_text word.Spare) ≡ 5 = refl in omega (arith, bytes)
word_short word.Slots = let bytes : length (settle_word_text word.Slots) ≡ 5 = refl in omega (arith, bytes)

unready_short : (why : Unready) → length (unready_text why) ≤ 60
unready_short (unready.NotListed slot) = let bytes : length (unready_text (unready.NotListed slot)) ≡ 20 = refl in omega (arith, bytes)
unready_short (unready.Early fault) = fault_short (fault_of fault)

-- ---- why there are no writes

pub no_writes_short : (why : NoWrites) → (no_writes_numbers why).0 < 2 ^ 64 → (no_writes_numbers why).1 < 2 ^ 64 → length (no_writes_text why) ≤ 96
no_writes_short (BadWord bad) few less = word_short bad
no_writes_short (Unread unread) few less = unread_short unread few
-- in as many bytes as that of a dump
no_writes_short (Also fault) few less = refusal_short (Dump fault) few
no_writes_short (NotReady why) few less =
    let short = unready_short why in
    let bytes = line_length (unready_text why) in
    omega (arith, short, bytes)
no_writes_short (NotPlanned fault) few less =
    let short = plan_fault_short (plan_fault_of fault) in
    let bytes = line_length (plan_fault_text (plan_fault_of fault)) in
    omega (arith, short, bytes)
no_writes_short (NotSettled fault) few less =
    let short = settle_fault_short fault few less in
    let bytes = line_length (settle_fault_text fault) in
    omega (arith, short, bytes)

-- ---- why there is no list of faults

faults_word_short : (bad : FaultsWord) → length (faults_word_text bad) ≤ 96
faults_word_short Model = let bytes : length (faults_word_text Model) ≡ 5 = refl in omega (arith, bytes)
faults_word_short HostIo = let bytes : length (faults_word_text HostIo) ≡ 7 = refl in omega (arith, bytes)
faults_word_short HostMem = let bytes : length (faults_word_text HostMem) ≡ 8 = refl in omega (arith, bytes)

pub no_list_short : (why : NoList) → no_list_line why < 2 ^ 64 → length (no_list_text why) ≤ 96
no_list_short (no_list.BadWord bad) less = faults_word_short bad
no_list_short (no_list.Unread refusal) less = refusal_short refusal less

-- How it is said that there are no writes.
use Rattle.std.specs.Prelude.{ℕ, List, [], ◌∷◌, ◌++◌, codes}
use Rattle.pci_spec.specs.Line.{field}
use Rattle.plan_spec.specs.PlanLine.{plan_fault_text}
use Rattle.pci_plan.specs.Plans.{plan_fault_of}
use Rattle.pci_settle.specs.FaultText.{settle_fault_text}
use Rattle.pci_settle.specs.declared.lack.SettleFault.{SettleFault}
use Rattle.pci_settle.specs.declared.lack.SettleFault.TheVariants as settle
use Rattle.pci_dump.specs.ReadFault.{read_fault_text}
use Rattle.pciplan_c.specs.Refusals.{read_fault_line}
use Rattle.pciplan_c.specs.Texts.{unread_line, unread_status, unread_text}
use Rattle.pciplan_c.specs.declared.refusal.Refusal.TheVariants.{Root, Dump, Probe}
use Rattle.pciplan_c.specs.declared.unread.Unread.TheVariants as unread
use Rattle.pciplan_c.specs.declared.no_writes.NoWrites.{NoWrites}
use Rattle.pciplan_c.specs.declared.no_writes.NoWrites.TheVariants.{BadWord, Unread, Also, NotReady, NotPlanned, NotSettled}
use Rattle.pciplan_c.specs.declared.settle_words.SettleWord.{SettleWord}
use Rattle.pciplan_c.specs.declared.settle_words.SettleWord.TheVariants as word
use Rattle.pciplan_c.specs.ToldTexts.{unready_text}

-- the message of a word without a meaning
abbrev pub settle_word_text : SettleWord → List ℕ
settle_word_text word.Io = codes "pool io"
settle_word_text word.Mem = codes "pool mem"
settle_word_text word.Pref = codes "pool pref"
settle_word_text word.Fixed = codes "fixed"
settle_word_text word.Spare = codes "spare"
settle_word_text word.Slots = codes "slots"

-- the line of a fault
abbrev pub no_text_line : List ℕ → List ℕ
no_text_line fault = codes "no" ++ field fault ++ 10 ∷ []

-- the line, or the message
abbrev pub no_writes_text : NoWrites → List ℕ
no_writes_text (BadWord bad) = settle_word_text bad
no_writes_text (Unread unread) = unread_text unread
no_writes_text (Also fault) = codes "also: " ++ read_fault_text fault
no_writes_text (NotReady why) = no_text_line (unready_text why)
no_writes_text (NotPlanned fault) = no_text_line (plan_fault_text (plan_fault_of fault))
no_writes_text (NotSettled fault) = no_text_line (settle_fault_text fault)

abbrev pub no_writes_status : NoWrites → ℕ
no_writes_status (BadWord bad) = 2
no_writes_status (Unread unread) = unread_status unread
no_writes_status (Also fault) = 2
no_writes_status (NotReady why) = 1
no_writes_status (NotPlanned fault) = 1
no_writes_status (NotSettled fault) = 1

-- its text is put together in memory; that of a root list, or of a word, is a constant
abbrev pub IsMade : NoWrites → Type 0
IsMade (BadWord bad) = ⊥
IsMade (Unread (unread.Refused Root)) = ⊥
IsMade (Unread (unread.Refused (Dump fault))) = Unit {0}
IsMade (Unread (unread.Refused (Probe fault))) = Unit {0}
IsMade (Unread (unread.NotAdmitted fault)) = Unit {0}
IsMade (Also fault) = Unit {0}
IsMade (NotReady why) = Unit {0}
IsMade (NotPlanned fault) = Unit {0}
IsMade (NotSettled fault) = Unit {0}

-- the size and the alignment of what has no room, or the line of a told range
abbrev pub settle_fault_numbers : SettleFault → ℕ × ℕ
settle_fault_numbers settle.BadLists = (0, 0)
settle_fault_numbers (settle.Assumed slot reg) = (0, 0)
settle_fault_numbers (settle.NoRoom lack) = (lack.size, lack.alignment)
settle_fault_numbers (settle.TooLarge class slot) = (0, 0)
settle_fault_numbers (settle.Fixed slot reg) = (0, 0)
settle_fault_numbers (settle.Told slot line) = (line, 0)

-- what its text names in as many digits as there are: the line of a text, a size and an alignment, or 0 where it names none
abbrev pub no_writes_numbers : NoWrites → ℕ × ℕ
no_writes_numbers (BadWord bad) = (0, 0)
no_writes_numbers (Unread unread) = (unread_line unread, 0)
no_writes_numbers (Also fault) = (read_fault_line fault, 0)
no_writes_numbers (NotReady why) = (0, 0)
no_writes_numbers (NotPlanned fault) = (0, 0)
no_writes_numbers (NotSettled fault) = settle_fault_numbers fault

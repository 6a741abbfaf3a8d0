-- The settling that a command line asks for.
use Rattle.std.specs.Prelude.{◌≡◌, ◌⊎◌, ℕ, Bool, true, false, List, [], Option, None, Some}
use Rattle.std.specs.Borrow.{Bor}
use Rattle.std.specs.Global.{Vec}
use Rattle.pci_spec.specs.Slot.{Slot}
use Rattle.pci_base.specs.declared.range.RootRange.{RootRange}
use Rattle.pci_base.specs.declared.window_kind.ByKind.{ByKind}
use Rattle.pci_script.specs.declared.form.Form.{Form as ScriptForm}
use Rattle.pci_script.specs.declared.form.Form.TheVariants as scripts
use Rattle.pci_model.specs.declared.words.Words.{Words}
use Rattle.pci_tree.specs.declared.roots.Roots.{Roots}
use Rattle.pciplan_lists.specs.ListWords.{HasListedRanges, IsListWord}
use Rattle.pciplan_lists.specs.SlotWords.{IsSlotList, IsSlotListWord}
use Rattle.pciplan_lists.specs.SpareWords.{IsSpareWord}
use Rattle.pciplan_words.specs.declared.asked.SettleWords.{SettleWords}
use Rattle.pciplan_words.specs.declared.forms.Form.{Form}
use Rattle.pciplan_words.specs.declared.forms.Form.TheVariants.{Setpci, Grub}
use Rattle.pciplan_cli.specs.OptionWords.{AreRootsOf, AreWordsOf, HasNoRoots, HasNoWords}
use Rattle.pciplan_tasks.specs.declared.task.Also.TheVariants.{Told}
use Rattle.pciplan_tasks.specs.declared.task.Printed.{Printed}
use Rattle.pciplan_tasks.specs.declared.task.Printed.TheVariants.{Dump, Writes, Script}
use Rattle.pciplan_tasks.specs.declared.task.SettleRequest.{SettleRequest}
use Rattle.pciplan_tasks.specs.declared.task.Task.{Task}
use Rattle.pciplan_tasks.specs.declared.task.Task.TheVariants as task
use Rattle.pciplan_tasks.specs.declared.failure.PoolOption.TheVariants.{Io, Mem, Pref}
use Rattle.pciplan_tasks.specs.declared.failure.Failure.{Failure}
use Rattle.pciplan_tasks.specs.declared.failure.Failure.TheVariants.{Root, Model, Pool, Fixed, Spare, Slots, Memory}

-- a list of ranges in this word
abbrev pub IsListOf : Bor (List ℕ) → Vec RootRange → Type 0
IsListOf word list = IsListWord word.now list.items

-- the slots of the word of `--fixed`: none where there is no word
abbrev pub AreFixed : Option (Bor (List ℕ)) → Vec Slot → Type 0
AreFixed None slots = slots.items ≡ []
AreFixed (Some word) slots = IsSlotListWord word.now slots.items

-- how much the word of `--spare` wants: nothing where there is no word
abbrev pub AreOptionSpares : Option (Bor (List ℕ)) → ByKind ℕ → Type 0
AreOptionSpares None sizes = sizes ≡ record { io = 0; memory = 0; prefetchable = 0 }
AreOptionSpares (Some word) sizes = IsSpareWord word.now sizes

-- the slots of the word of `--slots`: those of the dump are meant where there is no word
abbrev pub AreOptionSlots : Option (Bor (List ℕ)) → Option (Vec Slot) → Type 0
AreOptionSlots None slots = slots ≡ None
AreOptionSlots (Some word) None = ⊥
AreOptionSlots (Some word) (Some slots) = IsSlotListWord word.now slots.items

-- the script of a form that a word names
abbrev pub script_form : Form → ScriptForm
script_form Setpci = scripts.Setpci
script_form Grub = scripts.Grub

-- what is printed: a script where a form is named, else the writes where they are asked for, else the settled dump
abbrev pub printed_of : Option Form → Bool → Printed
printed_of (Some form) writes = Script (script_form form)
printed_of None true = Writes
printed_of None false = Dump

-- the settling that the words ask for: each list is that of its own option; no third text is read yet
pub record IsSettlingAskedFor (form : Option Form) (asked : SettleWords) (t : Task) : Type 0 where
  pub request : SettleRequest
  pub are_roots : AreRootsOf asked.root request.roots
  pub are_words : AreWordsOf asked.model request.words
  pub io : IsListOf asked.io request.lists.io
  pub mem : IsListOf asked.mem request.lists.mem
  pub pref : IsListOf asked.pref request.lists.pref
  pub fixed : AreFixed asked.fixed request.fixed
  pub anew : request.anew ≡ asked.anew
  pub untold : request.also ≡ Told []
  pub spares : AreOptionSpares asked.spare request.spares
  pub slots : AreOptionSlots asked.slots request.slots
  pub is : t ≡ task.Settle request (printed_of form asked.writes)

-- ---- the first word that is none

abbrev pub HasNoListWord : Bor (List ℕ) → Type 0
HasNoListWord word = (list : List RootRange) → IsListWord word.now list → ⊥

abbrev pub HasNoSlotsWord : Option (Bor (List ℕ)) → Type 0
HasNoSlotsWord None = ⊥
HasNoSlotsWord (Some word) = (slots : List Slot) → IsSlotListWord word.now slots → ⊥

abbrev pub HasNoSpareWord : Option (Bor (List ℕ)) → Type 0
HasNoSpareWord None = ⊥
HasNoSpareWord (Some word) = (sizes : ByKind ℕ) → IsSpareWord word.now sizes → ⊥

abbrev pub HasListWord : Bor (List ℕ) → Type 0
HasListWord word = (list : List RootRange) × IsListWord word.now list

-- the words before a list have their meaning
abbrev pub HasSettleRoots : SettleWords → Type 0
HasSettleRoots asked = (roots : Roots) × AreRootsOf asked.root roots

abbrev pub HasSettleModel : SettleWords → Type 0
HasSettleModel asked = HasSettleRoots asked × ((words : Option Words) × AreWordsOf asked.model words)

abbrev pub HasSettleIo : SettleWords → Type 0
HasSettleIo asked = HasSettleModel asked × HasListWord asked.io

abbrev pub HasSettleMem : SettleWords → Type 0
HasSettleMem asked = HasSettleIo asked × HasListWord asked.mem

abbrev pub HasPref : SettleWords → Type 0
HasPref asked = HasSettleMem asked × HasListWord asked.pref

abbrev pub HasFixed : SettleWords → Type 0
HasFixed asked = HasPref asked × ((slots : Vec Slot) × AreFixed asked.fixed slots)

abbrev pub HasSpare : SettleWords → Type 0
HasSpare asked = HasFixed asked × ((sizes : ByKind ℕ) × AreOptionSpares asked.spare sizes)

-- the word of `--fixed` or of `--slots` is a list of slots, for which memory is asked
abbrev pub SpellsSlots : Option (Bor (List ℕ)) → Type 0
SpellsSlots None = ⊥
SpellsSlots (Some word) = IsSlotList word.now

-- a growth was refused for what a word spells: the words before it have their meaning
abbrev pub IsSettlingWant : SettleWords → Type 0
IsSettlingWant asked =
    (HasSettleModel asked × HasListedRanges asked.io.now) ⊎ (HasSettleIo asked × HasListedRanges asked.mem.now)
    ⊎ (HasSettleMem asked × HasListedRanges asked.pref.now) ⊎ (HasPref asked × SpellsSlots asked.fixed)
    ⊎ (HasSpare asked × SpellsSlots asked.slots)

-- the root list is looked at, then the words of `--model`, then the lists of I/O, memory and prefetchable memory, then the fixed
-- slots, then what is wanted behind hot-plug slots, and then the bridges that have one
abbrev pub IsSettlingRefused : SettleWords → Failure → Type 0
IsSettlingRefused asked Root = HasNoRoots asked.root
IsSettlingRefused asked Model = HasSettleRoots asked × HasNoWords asked.model
IsSettlingRefused asked (Pool Io) = HasSettleModel asked × HasNoListWord asked.io
IsSettlingRefused asked (Pool Mem) = HasSettleIo asked × HasNoListWord asked.mem
IsSettlingRefused asked (Pool Pref) = HasSettleMem asked × HasNoListWord asked.pref
IsSettlingRefused asked Fixed = HasPref asked × HasNoSlotsWord asked.fixed
IsSettlingRefused asked Spare = HasFixed asked × HasNoSpareWord asked.spare
IsSettlingRefused asked Slots = HasSpare asked × HasNoSlotsWord asked.slots
IsSettlingRefused asked Memory = IsSettlingWant asked
IsSettlingRefused _ _ = ⊥

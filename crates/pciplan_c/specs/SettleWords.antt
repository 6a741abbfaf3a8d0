-- What words ask of settling.
use Rattle.std.specs.Prelude.{◌≡◌, ◌⊎◌, ℕ, ◌==◌, Bool, not, List, [], ◌∷◌, map, Option, None, Some}
use Rattle.std.specs.Option.{option_map}
use Rattle.pci_spec.specs.Slot.{Slot}
use Rattle.pci_spec.specs.Text.{Block}
use Rattle.judge_spec.specs.Told.{ToldRange}
use Rattle.judge_spec.specs.ToldText.{IsToldTextOf}
use Rattle.settle_spec.specs.Lists.{Lists, Request}
use Rattle.pci_base.specs.declared.memory.Refused.{Refused}
use Rattle.pci_base.specs.declared.memory.Refused.TheVariants as refused
use Rattle.pci_base.specs.declared.range.RootRange.{RootRange}
use Rattle.pci_base.specs.declared.window_kind.ByKind.{ByKind}
use Rattle.pci_first_fit.specs.Lists.{root_range_value}
use Rattle.pci_first_fit.specs.Slots.{Demand}
use Rattle.pci_settle.specs.Requests.{request}
use Rattle.pciplan_lists.specs.ListWords.{HasListedRanges, IsListWord}
use Rattle.pciplan_lists.specs.SlotWords.{IsSlotList as SpellsSlots, IsSlotListWord}
use Rattle.pciplan_lists.specs.SpareWords.{IsSpareWord}
use Rattle.pciplan_tasks.specs.Slots.{slots_for, spares_said}
use Rattle.pciplan_c.specs.declared.settle_words.Asked.{Asked}
use Rattle.pciplan_c.specs.declared.settle_words.SettleWord.{SettleWord}
use Rattle.pciplan_c.specs.declared.settle_words.SettleWord.TheVariants.{Io, Mem, Pref, Fixed, Spare, Slots}
use Rattle.pciplan_c.specs.declared.settle_words.SettleWords.{SettleWords}
use Rattle.pciplan_c.specs.ToldTexts.{told_ranges}

-- the slots of a list, none of an empty one
abbrev pub AreFixedBy : List ℕ → List Slot → Type 0
AreFixedBy [] slots = slots ≡ []
AreFixedBy (byte ∷ more) slots = IsSlotListWord (byte ∷ more) slots

-- how much is wanted behind hot-plug slots: nothing by an empty word
abbrev pub AreSparesBy : List ℕ → ByKind ℕ → Type 0
AreSparesBy [] sizes = sizes ≡ record { io = 0; memory = 0; prefetchable = 0 }
AreSparesBy (byte ∷ more) sizes = IsSpareWord (byte ∷ more) sizes

-- the bridges that a word names; those of the dump are meant by an empty one. A word is said beside one of spares alone
abbrev pub AreSlotsBy : List ℕ → List ℕ → Option (List Slot) → Type 0
AreSlotsBy spare [] slots = slots ≡ None
AreSlotsBy [] (byte ∷ more) slots = ⊥
AreSlotsBy (first ∷ rest) (byte ∷ more) None = ⊥
AreSlotsBy (first ∷ rest) (byte ∷ more) (Some slots) = IsSlotListWord (byte ∷ more) slots

abbrev pub is_anew : ℕ → Bool
is_anew anew = not (anew == 0)

-- what words say
pub record Said : Type 0 where
  pub io : List RootRange
  pub mem : List RootRange
  pub pref : List RootRange
  pub fixed : List Slot
  pub spares : ByKind ℕ
  pub slots : Option (List Slot)

-- the words say this
pub record AreSaid (words : SettleWords) (said : Said) : Type 0 where
  pub io_list : IsListWord words.io.now said.io
  pub mem_list : IsListWord words.mem.now said.mem
  pub pref_list : IsListWord words.pref.now said.pref
  pub fixed_slots : AreFixedBy words.fixed.now said.fixed
  pub spares : AreSparesBy words.spare.now said.spares
  pub slots : AreSlotsBy words.spare.now words.slots.now said.slots

abbrev pub settle_lists : List RootRange → List RootRange → List RootRange → Lists
settle_lists io mem pref = record {
  io = map root_range_value io;
  memory = map root_range_value mem;
  prefetch = map root_range_value pref;
}

-- the lists, the room behind the slots of a dump, and what is told
abbrev pub said_demand : Said → List ToldRange → List Block → Demand
said_demand said told dump = record {
  lists = settle_lists said.io said.mem said.pref;
  slots = slots_for said.spares said.slots dump;
  spares = spares_said said.spares;
  told = told_ranges told;
}

-- this is what they ask of a dump below these roots
pub record IsRequestOfWords (roots : List ℕ) (dump : List Block) (words : SettleWords) (q : Request) : Type 0 where
  pub said : Said
  pub are : AreSaid words said
  pub told : List ToldRange
  pub told_text : IsToldTextOf words.also.now told
  pub is : q ≡ request roots (said_demand said told dump) said.fixed (is_anew words.anew)

-- ---- the first word that has no meaning

abbrev pub HasNoList : List ℕ → Type 0
HasNoList word = (list : List RootRange) → IsListWord word list → ⊥

abbrev pub HasList : List ℕ → Type 0
HasList word = (list : List RootRange) × IsListWord word list

abbrev pub HasNoSlots : List ℕ → Type 0
HasNoSlots word = (slots : List Slot) → AreFixedBy word slots → ⊥

abbrev pub HasSlots : List ℕ → Type 0
HasSlots word = (slots : List Slot) × AreFixedBy word slots

abbrev pub HasNoSpares : List ℕ → Type 0
HasNoSpares word = (sizes : ByKind ℕ) → AreSparesBy word sizes → ⊥

abbrev pub HasSpares : List ℕ → Type 0
HasSpares word = (sizes : ByKind ℕ) × AreSparesBy word sizes

abbrev pub HasNoHotPlugSlots : List ℕ → List ℕ → Type 0
HasNoHotPlugSlots spare word = (slots : Option (List Slot)) → AreSlotsBy spare word slots → ⊥

abbrev pub HasHotPlugSlots : List ℕ → List ℕ → Type 0
HasHotPlugSlots spare word = (slots : Option (List Slot)) × AreSlotsBy spare word slots

-- the words before that of spares have a meaning
abbrev pub HaveListsAndFixed : SettleWords → Type 0
HaveListsAndFixed words =
    HasList words.io.now × HasList words.mem.now × HasList words.pref.now
    × HasSlots words.fixed.now

-- the lists are looked at in their order, then the fixed slots, the spares, and the bridges that have hot-plug slots
abbrev pub IsBadSettleWord : SettleWords → SettleWord → Type 0
IsBadSettleWord words Io = HasNoList words.io.now
IsBadSettleWord words Mem = HasList words.io.now × HasNoList words.mem.now
IsBadSettleWord words Pref = HasList words.io.now × HasList words.mem.now × HasNoList words.pref.now
IsBadSettleWord words Fixed =
    HasList words.io.now × HasList words.mem.now × HasList words.pref.now
    × HasNoSlots words.fixed.now
IsBadSettleWord words Spare = HaveListsAndFixed words × HasNoSpares words.spare.now
IsBadSettleWord words Slots =
    HaveListsAndFixed words × HasSpares words.spare.now
    × HasNoHotPlugSlots words.spare.now words.slots.now

-- all words have a meaning
abbrev pub HaveSettleMeaning : SettleWords → Type 0
HaveSettleMeaning words =
    HaveListsAndFixed words × HasSpares words.spare.now
    × HasHotPlugSlots words.spare.now words.slots.now

-- ---- what is read of them

-- a list has no meaning, or a growth was refused for its ranges
abbrev pub IsNoList : SettleWord → List ℕ → Refused SettleWord → Type 0
IsNoList named word (refused.Fault bad) = (bad ≡ named) × HasNoList word
IsNoList named word refused.Memory = HasListedRanges word

abbrev pub AreNoSlots : List ℕ → Refused SettleWord → Type 0
AreNoSlots word (refused.Fault bad) = (bad ≡ Fixed) × HasNoSlots word
AreNoSlots word refused.Memory = SpellsSlots word

abbrev pub AreNoHotPlugSlots : List ℕ → List ℕ → Refused SettleWord → Type 0
AreNoHotPlugSlots spare word (refused.Fault bad) = (bad ≡ Slots) × HasNoHotPlugSlots spare word
AreNoHotPlugSlots spare word refused.Memory = SpellsSlots word

abbrev pub asked_with_told : {A : Type 0} → Asked A → List ToldRange → Asked A
asked_with_told asked told = record asked { told = told }

-- what is read says this
abbrev pub said_of_asked : {A : Type 0} → Asked A → Said
said_of_asked asked = record {
  io = asked.io.items;
  mem = asked.mem.items;
  pref = asked.pref.items;
  fixed = asked.fixed.items;
  spares = asked.spares;
  slots = option_map (λ s. s.items) asked.slots;
}

-- what they ask for, whatever the text tells
pub record IsAskedBy {A : Type 0} (words : SettleWords) (asked : Asked A) : Type 0 where
  pub said : AreSaid words (said_of_asked asked)
  pub anew : asked.anew ≡ is_anew words.anew

-- a growth was refused for what a word spells: those before it have a meaning
abbrev pub IsSettleWordWant : SettleWords → Type 0
IsSettleWordWant words =
    HasListedRanges words.io.now ⊎ (HasList words.io.now × HasListedRanges words.mem.now)
    ⊎ (HasList words.io.now × HasList words.mem.now × HasListedRanges words.pref.now)
    ⊎ (HasList words.io.now × HasList words.mem.now × HasList words.pref.now
    × SpellsSlots words.fixed.now)
    ⊎ (HaveListsAndFixed words × HasSpares words.spare.now × SpellsSlots words.slots.now)

abbrev pub IsNotAsked : SettleWords → Refused SettleWord → Type 0
IsNotAsked words (refused.Fault bad) = IsBadSettleWord words bad
IsNotAsked words refused.Memory = IsSettleWordWant words

-- The probe of a dump, derived from what its functions show and what Linux tells of them, or the first reason why there is none.
use Rattle.std.specs.Prelude.{ℕ, nat_le, not, if◌then◌else◌, List, [], ◌∷◌, ◌++◌, codes, map, Option, None, Some}
use Rattle.std.specs.List.{filter, find, flat_map, list_all, list_any}
use Rattle.std.specs.Option.{option_map, option_or}
use Rattle.pci_spec.specs.Slot.{Slot, same_slot, slot_number}
use Rattle.pci_spec.specs.Text.{Block, slots_of}
use Rattle.pci_spec.specs.Fault.{has_no_vendor, has_other_layout}
use Rattle.pci_spec.specs.Line.{field, region_field, slot_field, two_digits}
use Rattle.pci_spec.specs.Resource.{ResourceLine}
use Rattle.pci_spec.specs.Derived.{derived_probe, assumed_registers}
use Rattle.pci_spec.specs.NoProbe.{Assuming, NoProbe, no_probe}
use Rattle.pci_spec.specs.NoProbe as register
use Rattle.pci_spec.specs.Mark.{AssumedRegister, assumed_at, mark}
use Rattle.pci_spec.specs.SizesText.{SizesBlock, sized_slots}

-- a function: where it stands, what it shows, and what is told of its registers
pub record Told : Type 0 where
  pub slot : Slot
  pub image : List ℕ
  pub lines : List ResourceLine

-- a dump and its sizes, block by block
abbrev pub told_of : List Block → List SizesBlock → List Told
told_of [] sizes = []
told_of (b ∷ blocks) [] = []
told_of (b ∷ blocks) (s ∷ sizes) =
    record { slot = b.slot; image = b.image; lines = s.lines } ∷ told_of blocks sizes

-- ---- the probe

-- its functions have the dump's slots; their titles name the registers whose read backs are assumed
abbrev pub probe_block : Told → Block
probe_block f = record {
  slot = f.slot;
  title = mark (assumed_registers f.image f.lines);
  image = derived_probe f.image f.lines;
}

abbrev pub probe_of : List Block → List SizesBlock → List Block
probe_of dump sizes = map probe_block (told_of dump sizes)

abbrev pub assumed_in : Told → List AssumedRegister
assumed_in f = map (assumed_at f.slot) (assumed_registers f.image f.lines)

-- those of all functions, by rising slot and register
abbrev pub assumed_of : List Block → List SizesBlock → List AssumedRegister
assumed_of dump sizes = flat_map assumed_in (told_of dump sizes)

-- ---- why there is none

pub data ProbeFault : Type 0 where
  -- only one of dump and sizes lists the slot
  SlotsDiffer : (slot : Slot) → ProbeFault
  -- no function answers
  NoVendor : (slot : Slot) → ProbeFault
  -- the header is of a layout that isn't decoded
  HeaderKind : (slot : Slot) → ProbeFault
  -- no size is told of the register, and none may be assumed
  NoSize : (slot : Slot) (register : ℕ) → ProbeFault
  -- the register shows 0, and what is told isn't of it
  OtherSize : (slot : Slot) (register : ℕ) → ProbeFault

-- the slots that only one of two lists has
abbrev pub lone_slots : List Slot → List Slot → List Slot
lone_slots slots others =
    filter (λ s. not (list_any (same_slot s) others)) slots
    ++ filter (λ s. not (list_any (same_slot s) slots)) others

-- the least of some slots
abbrev pub least_slot : List Slot → Option Slot
least_slot slots = find (λ s. list_all (λ t. nat_le (slot_number s) (slot_number t)) slots) slots

abbrev pub slots_fault : List Slot → List Slot → Option ProbeFault
slots_fault slots others = option_map SlotsDiffer (least_slot (lone_slots slots others))

-- of a function's header
abbrev pub identity_fault : Block → Option ProbeFault
identity_fault b =
    if has_no_vendor b.image then Some (NoVendor b.slot)
    else if has_other_layout b.image then Some (HeaderKind b.slot)
    else None

-- a function's first register without a read back, with its slot
abbrev pub at_slot : Slot → NoProbe → ProbeFault
at_slot slot (register.NoSize offset) = NoSize slot offset
at_slot slot (register.OtherSize offset) = OtherSize slot offset

abbrev pub read_back_fault : Assuming → Told → Option ProbeFault
read_back_fault assuming f = option_map (at_slot f.slot) (no_probe assuming f.image f.lines)

-- that of the first function that has one
unfoldable pub first_of : {X : Type 0} → (X → Option ProbeFault) → List X → Option ProbeFault
first_of fault [] = None
first_of fault (f ∷ functions) = option_or (fault f) (first_of fault functions)

-- What is looked for first: slots, then the headers of all functions, then their registers.
unfoldable pub probe_fault : Assuming → List Block → List SizesBlock → Option ProbeFault
probe_fault assuming dump sizes =
    option_or (slots_fault (slots_of dump) (sized_slots sizes))
    (option_or (first_of identity_fault dump)
    (first_of (read_back_fault assuming) (told_of dump sizes)))

-- ---- how it is printed

abbrev pub probe_fault_number : ProbeFault → ℕ
probe_fault_number (SlotsDiffer slot) = 30
probe_fault_number (NoVendor slot) = 20
probe_fault_number (HeaderKind slot) = 21
probe_fault_number (NoSize slot offset) = 32
probe_fault_number (OtherSize slot offset) = 33

abbrev pub probe_fault_words : ProbeFault → List ℕ
probe_fault_words (SlotsDiffer slot) = codes "SlotsDiffer" ++ slot_field slot
probe_fault_words (NoVendor slot) = codes "NoVendor" ++ slot_field slot
probe_fault_words (HeaderKind slot) = codes "HeaderKind" ++ slot_field slot
probe_fault_words (NoSize slot offset) = codes "NoSize" ++ region_field slot offset
probe_fault_words (OtherSize slot offset) = codes "OtherSize" ++ region_field slot offset

-- a fault's number, name and fields
abbrev pub probe_fault_text : ProbeFault → List ℕ
probe_fault_text fault = two_digits (probe_fault_number fault) ++ field (probe_fault_words fault)

abbrev pub assumed_text : AssumedRegister → List ℕ
assumed_text a = codes "assumed" ++ region_field a.slot a.register

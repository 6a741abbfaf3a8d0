-- How long a line is that says why texts aren't admitted.
use Rattle.std.proofs.Common.{◌≡◌, ℕ, suc, ◌+◌, ◌^◌, ◌≤◌, ◌<◌, List, [], ◌∷◌, ◌++◌, length, refl, arith, Some, codes}
use Rattle.std.specs.Fmt.{decimal}
use Rattle.std.proofs.lemmas.Fmt.{length-decimal-le}
use Rattle.std.proofs.lemmas.List.{length-append}
use Rattle.pci_spec.specs.System.{Io, Memory}
use Rattle.pci_spec.specs.Fault.{Fault, profile_name, NoVendor, HeaderKind, BarType, BarMask, BarPair, RomMask, WindowMask, CapRange, CapLoop, CapCut, SlotsDiffer, StrayProbe, LoneFunction, OfProfile, BusRange, Orphan, Unreached, Clash, Split}
use Rattle.pci_spec.specs.Line.{verdict_line, fault_text, field, slot_field}
use Rattle.pci_spec.proofs.ProfileFaults.{short_name}
use Rattle.pci_dump.specs.declared.read_fault.ReadFault.{ReadFault}
use Rattle.pci_dump.specs.declared.read_fault.ReadFault.TheVariants as faults
use Rattle.pci_dump.specs.ReadFault.{read_fault_text}
use Rattle.pci_function.specs.Fault.{fault_of}
use Rattle.pciplan_c.specs.Refusals.{read_fault_line, refusal_line, refusal_text}
use Rattle.pciplan_c.specs.Texts.{unread_line, unread_text}
use Rattle.pciplan_c.specs.declared.refusal.Refusal.{Refusal}
use Rattle.pciplan_c.specs.declared.refusal.Refusal.TheVariants.{Root, Dump, Probe}
use Rattle.pciplan_c.specs.declared.unread.Unread.{Unread}
use Rattle.pciplan_c.specs.declared.unread.Unread.TheVariants.{Refused, NotAdmitted}

-- the text of a fault has so many bytes
abbrev IsShort : Fault → ℕ → Type 0
IsShort fault bytes = length (fault_text fault) ≡ bytes

short : (fault : Fault) (bytes : ℕ) → IsShort fault bytes → bytes ≤ 60 → length (fault_text fault) ≤ 60
short fault bytes is few = omega (arith, is, few)

pub fault_short : (fault : Fault) → length (fault_text fault) ≤ 60
fault_short (NoVendor slot) = short (NoVendor slot) 19 refl (omega arith)
fault_short (HeaderKind slot) = short (HeaderKind slot) 21 refl (omega arith)
fault_short (BarType slot register) = short (BarType slot register) 21 refl (omega arith)
fault_short (BarMask slot register) = short (BarMask slot register) 21 refl (omega arith)
fault_short (BarPair slot register) = short (BarPair slot register) 21 refl (omega arith)
fault_short (RomMask slot register) = short (RomMask slot register) 21 refl (omega arith)
fault_short (WindowMask slot register) = short (WindowMask slot register) 24 refl (omega arith)
fault_short (CapRange slot place) = short (CapRange slot place) 22 refl (omega arith)
fault_short (CapLoop slot place) = short (CapLoop slot place) 21 refl (omega arith)
fault_short (CapCut slot place) = short (CapCut slot place) 20 refl (omega arith)
fault_short (SlotsDiffer slot) = short (SlotsDiffer slot) 22 refl (omega arith)
fault_short (StrayProbe slot offset) = short (StrayProbe slot offset) 24 refl (omega arith)
fault_short (LoneFunction slot) = short (LoneFunction slot) 23 refl (omega arith)
fault_short (OfProfile fault slot) = let name = short_name fault in let both = length-append (profile_name fault) (slot_field slot) in omega (arith, name, both)
fault_short (BusRange slot) = short (BusRange slot) 19 refl (omega arith)
fault_short (Orphan slot) = short (Orphan slot) 17 refl (omega arith)
fault_short (Unreached slot register Io address bridge) = short (Unreached slot register Io address bridge) 50 refl (omega arith)
fault_short (Unreached slot register Memory address bridge) = short (Unreached slot register Memory address bridge) 59 refl (omega arith)
fault_short (Clash bus Io address first first_register second second_register) = short (Clash bus Io address first first_register second second_register) 49 refl (omega arith)
fault_short (Clash bus Memory address first first_register second second_register) = short (Clash bus Memory address first first_register second second_register) 58 refl (omega arith)
fault_short (Split Io address first first_register second second_register) = short (Split Io address first first_register second second_register) 42 refl (omega arith)
fault_short (Split Memory address first first_register second second_register) = short (Split Memory address first first_register second second_register) 51 refl (omega arith)

-- a text that a short one ends
pub ended : (head tail : List ℕ) (few most : ℕ) → length tail ≤ few → length head + few ≤ most → length (head ++ tail) ≤ most
ended head tail few most short_tail room = let both = length-append head tail in omega (arith, both, short_tail, room)

-- a line that says it
pub line_length : (text : List ℕ) → length (codes "no" ++ field text ++ 10 ∷ []) ≡ length text + 4
line_length text =
    let end = length-append text (10 ∷ []) in
    let here : length (codes "no" ++ field text ++ 10 ∷ []) ≡ suc (suc (suc (length (text ++ 10 ∷ [])))) = refl in
    omega (arith, end, here)

-- ---- why texts are refused

number_short : (n : ℕ) → n < 2 ^ 64 → length (decimal n) ≤ 20
number_short n less = length-decimal-le 20 n (omega arith) (omega (arith, less)) less

said_short : (fault : ReadFault) → read_fault_line fault < 2 ^ 64 → length (read_fault_text fault) ≤ 60
said_short faults.Io less = let bytes : length (read_fault_text faults.Io) ≡ 4 = refl in omega (arith, bytes)
said_short faults.Memory less = let bytes : length (read_fault_text faults.Memory) ≡ 8 = refl in omega (arith, bytes)
said_short (faults.BadSlot n) less = ended (codes "3 BadSlot ") (decimal n) 20 60 (number_short n less) (let head : length (codes "3 BadSlot ") ≡ 10 = refl in omega (arith, head))
said_short (faults.BadTitle n) less = ended (codes "4 BadTitle ") (decimal n) 20 60 (number_short n less) (let head : length (codes "4 BadTitle ") ≡ 11 = refl in omega (arith, head))
said_short (faults.BadLine n) less = ended (codes "5 BadLine ") (decimal n) 20 60 (number_short n less) (let head : length (codes "5 BadLine ") ≡ 10 = refl in omega (arith, head))
said_short (faults.NoBlank n) less = ended (codes "6 NoBlank ") (decimal n) 20 60 (number_short n less) (let head : length (codes "6 NoBlank ") ≡ 10 = refl in omega (arith, head))
said_short (faults.Order n) less = ended (codes "7 Order ") (decimal n) 20 60 (number_short n less) (let head : length (codes "7 Order ") ≡ 8 = refl in omega (arith, head))
said_short (faults.TooMany n) less = ended (codes "8 TooMany ") (decimal n) 20 60 (number_short n less) (let head : length (codes "8 TooMany ") ≡ 10 = refl in omega (arith, head))
said_short (faults.Ended n) less = ended (codes "9 Ended ") (decimal n) 20 60 (number_short n less) (let head : length (codes "9 Ended ") ≡ 8 = refl in omega (arith, head))

pub refusal_short : (refusal : Refusal) → refusal_line refusal < 2 ^ 64 → length (refusal_text refusal) ≤ 96
refusal_short Root less = let bytes : length (refusal_text Root) ≡ 4 = refl in omega (arith, bytes)
refusal_short (Dump fault) less = ended (codes "dump: ") (read_fault_text fault) 60 96 (said_short fault less) (let head : length (codes "dump: ") ≡ 6 = refl in omega (arith, head))
refusal_short (Probe fault) less = ended (codes "probe: ") (read_fault_text fault) 60 96 (said_short fault less) (let head : length (codes "probe: ") ≡ 7 = refl in omega (arith, head))

pub unread_short : (why : Unread) → unread_line why < 2 ^ 64 → length (unread_text why) ≤ 96
unread_short (Refused refusal) less = refusal_short refusal less
unread_short (NotAdmitted fault) less =
    let few = fault_short (fault_of fault) in
    let bytes : length (verdict_line (Some (fault_of fault))) ≡ length (fault_text (fault_of fault)) + 4 = line_length (fault_text (fault_of fault)) in
    omega (arith, few, bytes)

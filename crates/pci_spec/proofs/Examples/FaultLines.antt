-- Which lines a list of all faults has: of the earliest phase alone, one for each function, register or capabilities list.
use Rattle.std.proofs.Common.{◌≡◌, ℕ, ◌<◌, List, [], ◌∷◌, refl, false, None, lit<, arith, inl, inr, ap}
use Rattle.std.specs.Prelude.{slice_index_or}
use Rattle.std.proofs.lemmas.Bool.{both_ways}
use Rattle.pci_spec.specs.Slot.{Slot}
use Rattle.pci_spec.specs.Text.{Block}
use Rattle.pci_spec.specs.System.{Function, function_of, system_of}
use Rattle.pci_spec.specs.Fault.{Fault, IsThere, NoVendor, HeaderKind, BarMask, CapRange, CapLoop, SlotsDiffer, StrayProbe, OfProfile, PaletteSnoop, RomMask}
use Rattle.pci_spec.specs.Order.{looking_key, slot_key, is_before, image_at}
use Rattle.pci_spec.specs.FaultLines.{subject, IsLine, AreAllFaults}
use Rattle.pci_spec.proofs.Members.{in_nil, in_cons_cases}
use Rattle.pci_spec.proofs.Examples.Samples.{put, put_bytes, zeros, blank, slot, host}

abbrev block : ℕ → List ℕ → Block
block d image = record { slot = slot 0 d 0; title = None; image = image }

abbrev one : Slot
one = slot 0 1 0

abbrev two : Slot
two = slot 0 2 0

-- the slot of a key
slot_by : (s : Slot) → 1 ∷ slot_key s ≡ 1 ∷ slot_key two → s ≡ two
slot_by s e =
    let bus : s.bus ≡ 0 = ap (λ k. slice_index_or k 1 0) e in
    let device : s.device ≡ 2 = ap (λ k. slice_index_or k 2 0) e in
    let function : s.function ≡ 0 = ap (λ k. slice_index_or k 3 0) e in
    λ i. record { bus = bus i; device = device i; function = function i }

-- ---- what a line is for

identity_is_of_the_function : subject (StrayProbe two 0x40) ≡ subject (NoVendor two)
identity_is_of_the_function = refl

registers_are_apart : subject (BarMask two 0x10) ≡ subject (BarMask two 0x14) → ⊥
registers_are_apart e = let register = ap (λ k. slice_index_or k 5 0) e in omega (arith, register)

rom_is_apart : subject (BarMask two 0x30) ≡ subject (RomMask two 0x30) → ⊥
rom_is_apart e = let check = ap (λ k. slice_index_or k 4 0) e in omega (arith, check)

list_is_one : subject (CapRange two 0x10) ≡ subject (CapLoop two 0x80)
list_is_one = refl

-- ---- the earliest phase

-- two functions with a stray byte each, the first with two; the second one snoops palette writes, too
abbrev dump : List Block
dump = block 1 (blank 0 0) ∷ block 2 (blank 0 0x20) ∷ []

abbrev probe : List Block
probe = block 1 (put_bytes ((0x40, 1) ∷ (0x41, 1) ∷ []) zeros) ∷ block 2 (put_bytes ((0x40, 1) ∷ []) zeros) ∷ []

abbrev first_of_two : Function
first_of_two = function_of (block 1 (blank 0 0)) (block 1 (put_bytes ((0x40, 1) ∷ (0x41, 1) ∷ []) zeros))

stray_there : IsThere host dump probe (StrayProbe one 0x40)
stray_there = (refl, (first_of_two, (0, lit< tt, refl), refl, refl))

later_phase_has_no_line : IsLine host dump probe (OfProfile PaletteSnoop two) → ⊥
later_phase_has_no_line line = line.none_earlier (StrayProbe one 0x40) (lit< tt) stray_there

second_fault_of_identity_has_no_line : IsLine host dump probe (StrayProbe one 0x41) → ⊥
second_fault_of_identity_has_no_line line = line.first (lit< tt) (StrayProbe one 0x40) refl refl stray_there

-- ---- each function has its line

-- no function answers at either slot
abbrev empty : List ℕ
empty = put 2 0 0xffff zeros

abbrev absent : List Block
absent = block 1 empty ∷ block 2 empty ∷ []

abbrev nothing_back : List Block
nothing_back = block 1 zeros ∷ block 2 zeros ∷ []

none_of_slots : (s : Slot) → IsThere host absent nothing_back (SlotsDiffer s) → ⊥
none_of_slots s is = elim is [
  | inl w ↦ w.1 w.0
  | inr w ↦ w.0 w.1
]

-- only faults of slots are of an earlier phase
none_earlier : (other : Fault) → slice_index_or (looking_key (λ s. []) other) 0 0 < 1 → IsThere host absent nothing_back other → ⊥
none_earlier (SlotsDiffer s) low is = none_of_slots s is
none_earlier _ low is = let no : ⊥ = omega (arith, low) in no

-- and none of the second function is before its missing vendor
none_before : (other : Fault) → subject other ≡ 1 ∷ slot_key two → is_before (image_at (system_of absent nothing_back)) other (NoVendor two) ≡ false
none_before (SlotsDiffer s) e = absurd (let phase = ap (λ k. slice_index_or k 0 0) e in let no : ⊥ = omega (arith, phase) in no)
none_before (NoVendor s) e = ap (λ t. is_before (λ x. []) (NoVendor t) (NoVendor two)) (slot_by s e)
none_before (HeaderKind s) e = ap (λ t. is_before (λ x. []) (HeaderKind t) (NoVendor two)) (slot_by s e)
none_before (StrayProbe s offset) e = ap (λ t. is_before (λ x. []) (StrayProbe t offset) (NoVendor two)) (slot_by s e)
none_before _ e = refl

second_function_has_a_line : IsLine host absent nothing_back (NoVendor two)
second_function_has_a_line = record {
  there = (refl, (function_of (block 2 empty) (block 2 zeros), (1, lit< tt, refl), refl, refl));
  none_earlier = none_earlier;
  first = λ early other same before there. both_ways _ (none_before other same) before;
  named = λ e. absurd (let no : ⊥ = omega (arith, e) in no);
}

each_function_has_its_line : AreAllFaults host absent nothing_back (NoVendor one ∷ []) → ⊥
each_function_has_its_line all = elim (in_cons_cases (NoVendor one) [] (NoVendor two) (all.complete (NoVendor two) second_function_has_a_line)) [
  | inl same ↦ (let device = ap (λ e. slice_index_or (subject e) 2 0) same in omega (arith, device))
  | inr none ↦ in_nil (NoVendor two) none
]

lower_slot_stands_first : AreAllFaults host absent nothing_back (NoVendor two ∷ NoVendor one ∷ []) → ⊥
lower_slot_stands_first all = both_ways false refl (all.rising 0 1 (NoVendor one) (lit< tt) (lit< tt))

-- Texts of told ranges: their lines, and the fault and its line where they stop being one, whatever comes after.
use Rattle.std.proofs.Common.{◌==◌, ◌≡◌, ℕ, zero, suc, ◌+◌, ◌<◌, ◌≤◌, Bool, true, false, List, [], ◌∷◌, ◌++◌, refl, subst, arith, lit<, lit≤, length, replicate, codes, None, IsTrue, ◌∙◌, ap}
use Rattle.std.specs.List.{All}
use Rattle.std.proofs.lemmas.Bool.{cond-true, eq-eqb}
use Rattle.std.proofs.lemmas.List.{append_assoc}
use Rattle.pci_spec.specs.System.{Io, Memory}
use Rattle.pci_spec.specs.Text.{BadSlot, BadLine, Order, TooMany, Ended}
use Rattle.judge_spec.specs.Told.{Mark, Command, Always, Held, ToldRange, is_name_byte, IsName, IsToldLine, IsToldRange, AreInSlotOrder, IsTold}
use Rattle.judge_spec.specs.ToldText.{told_line, told_text, IsToldTextOf}
use Rattle.judge_spec.specs.ToldStops.{IsToldFaultOf}
use Rattle.judge_spec.specs.ToldForm.{nothing_read, Reads, Stopped, and_then, take_bytes, take_byte, step_at, digit_in}
use Rattle.judge_spec.proofs.ToldRows.{take_bytes-append, text_read}
use Rattle.judge_spec.proofs.ToldFaults.{fault_read, fault_at_end}
use Rattle.pci_spec.proofs.Examples.Samples.{slot}

-- ---- lines

-- the ports of an IDE channel
abbrev ports : Mark → List ℕ → ToldRange
ports mark name = record { slot = slot 0 31 1; space = Io; prefetchable = false; first = 0x1f0; last = 0x1f7; mark = mark; name = name }

-- memory of a virtual function
abbrev memory : Bool → ℕ → ℕ → ToldRange
memory prefetchable first last = record { slot = slot 1 0 1; space = Memory; prefetchable = prefetchable; first = first; last = last; mark = Always; name = codes "vf" }

line_of_ports : told_line (ports Command []) ≡ codes "00:1f.1 io 000001f0-000001f7 command\n"
unfolding told_line
line_of_ports = refl

line_that_is_held : told_line (ports Held []) ≡ codes "00:1f.1 io 000001f0-000001f7 held\n"
unfolding told_line
line_that_is_held = refl

line_with_a_name : told_line (memory false 0xfe000000 0xfe003fff) ≡ codes "01:00.1 mem 00000000fe000000-00000000fe003fff always vf\n"
unfolding told_line
line_with_a_name = refl

prefetchable_line : told_line (memory true 0xffffffff 0x100000000) ≡ codes "01:00.1 pref 00000000ffffffff-0000000100000000 always vf\n"
unfolding told_line
prefetchable_line = refl

-- ---- ranges

is_no_name : IsName []
is_no_name = (lit≤ tt, λ k d below. absurd (let no : ⊥ = omega (arith, below) in no))

ports_are_told : (mark : Mark) → IsToldRange (ports mark [])
ports_are_told mark = record { line = record { slot = (lit< tt, lit< tt, lit< tt); plain = (λ _. refl); first = lit< tt; last = lit< tt; name = is_no_name }; forward = lit≤ tt }

is_a_name : IsName (codes "vf")
is_a_name = (lit≤ tt, each) where
  each : All (λ c. IsTrue (is_name_byte c)) (codes "vf")
  each zero d below = refl
  each (suc zero) d below = refl
  each (suc (suc k)) d below = absurd (let no : ⊥ = omega (arith, below) in no)

memory_over_4_gb : IsToldRange (memory true 0xffffffff 0x100000000)
memory_over_4_gb = record { line = record { slot = (lit< tt, lit< tt, lit< tt); plain = (λ e. absurd cc); first = lit< tt; last = lit< tt; name = is_a_name }; forward = lit≤ tt }

no_backward_range : IsToldRange (memory true 0x100000000 0xffffffff) → ⊥
no_backward_range h = let less : 0x100000000 ≤ 0xffffffff = h.forward in omega (arith, less)

no_prefetchable_ports : IsToldLine record { slot = slot 0 31 1; space = Io; prefetchable = true; first = 0x1f0; last = 0x1f7; mark = Command; name = [] } → ⊥
no_prefetchable_ports h = let e : true ≡ false = h.plain refl in absurd cc

no_port_of_33_bits : IsToldLine record { slot = slot 0 31 1; space = Io; prefetchable = false; first = 0; last = 0x100000000; mark = Command; name = [] } → ⊥
no_port_of_33_bits h = let less : 0x100000000 < 0x100000000 = h.last in omega (arith, less)

no_name_of_33_bytes : IsName (replicate 33 110) → ⊥
no_name_of_33_bytes h = let few : 33 ≤ 32 = h.0 in omega (arith, few)

no_name_with_a_space : IsName (codes "two words") → ⊥
no_name_with_a_space h = let byte : is_name_byte 32 ≡ true = h.1 3 0 (lit< tt) in absurd cc

-- ---- rows

each_of_two : (a b : ToldRange) → IsToldRange a → IsToldRange b → All IsToldRange (a ∷ b ∷ [])
each_of_two a b h k zero d below = h
each_of_two a b h k (suc zero) d below = k
each_of_two a b h k (suc (suc n)) d below = absurd (let no : ⊥ = omega (arith, below) in no)

-- two ranges of one slot stand in any order
same_slot_twice : IsToldTextOf (codes "00:1f.1 io 000001f0-000001f7 held\n00:1f.1 io 000001f0-000001f7 command\n") (ports Held [] ∷ ports Command [] ∷ [])
unfolding told_line
same_slot_twice = (record { each = each_of_two (ports Held []) (ports Command []) (ports_are_told Held) (ports_are_told Command); order = order; room = lit≤ tt }, refl) where
  order : AreInSlotOrder (ports Held [] ∷ ports Command [] ∷ [])
  order zero zero d less below = lit≤ tt
  order zero (suc zero) d less below = lit≤ tt
  order zero (suc (suc j)) d less below = absurd (let no : ⊥ = omega (arith, below) in no)
  order (suc i) zero d less below = absurd (let no : ⊥ = omega (arith, less) in no)
  order (suc zero) (suc zero) d less below = lit≤ tt
  order (suc i) (suc (suc j)) d less below = absurd (let no : ⊥ = omega (arith, below) in no)
  order (suc (suc i)) (suc zero) d less below = absurd (let no : ⊥ = omega (arith, less) in no)

nothing_is_told : IsToldTextOf [] []
nothing_is_told = (record { each = (λ k d below. absurd (let no : ⊥ = omega (arith, below) in no)); order = (λ i j d less below. absurd (let no : ⊥ = omega (arith, below) in no)); room = lit≤ tt }, refl)

no_row_of_4097 : (ranges : List ToldRange) → length ranges ≡ 4097 → IsTold ranges → ⊥
no_row_of_4097 ranges many told = let room = told.room in omega (arith, room, many)

-- ---- faults

no_upper_case : digit_in 70 ≡ None
unfolding digit_in
no_upper_case = refl

upper_case_slot : (more : List ℕ) → IsToldFaultOf (codes "00:1F" ++ more) (BadSlot 1)
unfolding take_bytes take_byte step_at digit_in
upper_case_slot more = fault_read (codes "00:1F") more (BadSlot 1) refl

device_above_31 : (more : List ℕ) → IsToldFaultOf (codes "00:2" ++ more) (BadSlot 1)
unfolding take_bytes take_byte step_at digit_in
device_above_31 more = fault_read (codes "00:2") more (BadSlot 1) refl

two_spaces : (more : List ℕ) → IsToldFaultOf (codes "00:1f.1  " ++ more) (BadLine 1)
unfolding take_bytes take_byte step_at digit_in
two_spaces more = fault_read (codes "00:1f.1  ") more (BadLine 1) refl

three_digits : (more : List ℕ) → IsToldFaultOf (codes "00:1f.1 io 1f0-" ++ more) (BadLine 1)
unfolding take_bytes take_byte step_at digit_in
three_digits more = fault_read (codes "00:1f.1 io 1f0-") more (BadLine 1) refl

eight_digits_of_memory : (more : List ℕ) → IsToldFaultOf (codes "00:1f.1 mem 000001f0-" ++ more) (BadLine 1)
unfolding take_bytes take_byte step_at digit_in
eight_digits_of_memory more = fault_read (codes "00:1f.1 mem 000001f0-") more (BadLine 1) refl

backward_ports : (more : List ℕ) → IsToldFaultOf (codes "00:1f.1 io 000001f7-000001f0" ++ more) (Order 1)
unfolding take_bytes take_byte step_at digit_in
backward_ports more = fault_read (codes "00:1f.1 io 000001f7-000001f0") more (Order 1) refl

no_such_mark : (more : List ℕ) → IsToldFaultOf (codes "00:1f.1 io 000001f0-000001f7 o" ++ more) (BadLine 1)
unfolding take_bytes take_byte step_at digit_in
no_such_mark more = fault_read (codes "00:1f.1 io 000001f0-000001f7 o") more (BadLine 1) refl

empty_name : (more : List ℕ) → IsToldFaultOf (codes "00:1f.1 io 000001f0-000001f7 command \n" ++ more) (BadLine 1)
unfolding take_bytes take_byte step_at digit_in
empty_name more = fault_read (codes "00:1f.1 io 000001f0-000001f7 command \n") more (BadLine 1) refl

two_names : (more : List ℕ) → IsToldFaultOf (codes "00:1f.1 io 000001f0-000001f7 command two " ++ more) (BadLine 1)
unfolding take_bytes take_byte step_at digit_in
two_names more = fault_read (codes "00:1f.1 io 000001f0-000001f7 command two ") more (BadLine 1) refl

name_of_33_bytes : (more : List ℕ) → IsToldFaultOf (codes "00:1f.1 io 000001f0-000001f7 command 123456789a123456789b123456789c123" ++ more) (BadLine 1)
unfolding take_bytes take_byte step_at digit_in
name_of_33_bytes more = fault_read (codes "00:1f.1 io 000001f0-000001f7 command 123456789a123456789b123456789c123") more (BadLine 1) refl

lower_slot : (more : List ℕ) → IsToldFaultOf (codes "00:1f.1 io 000001f0-000001f7 held\n00:1e.0" ++ more) (Order 2)
unfolding take_bytes take_byte step_at digit_in
lower_slot more = fault_read (codes "00:1f.1 io 000001f0-000001f7 held\n00:1e.0") more (Order 2) refl

empty_line : (more : List ℕ) → IsToldFaultOf (codes "00:1f.1 io 000001f0-000001f7 held\n\n" ++ more) (BadSlot 2)
unfolding take_bytes take_byte step_at digit_in
empty_line more = fault_read (codes "00:1f.1 io 000001f0-000001f7 held\n\n") more (BadSlot 2) refl

byte_after_4096_lines : (ranges : List ToldRange) (c : ℕ) (more : List ℕ) → IsTold ranges → length ranges ≡ 4096 → IsToldFaultOf (told_text ranges ++ c ∷ more) (TooMany 4097)
unfolding take_bytes take_byte
byte_after_4096_lines ranges c more told full =
    subst (λ (t : List ℕ). IsToldFaultOf t (TooMany 4097)) (append_assoc (told_text ranges) (c ∷ []) more)
    (fault_read (told_text ranges ++ c ∷ []) more (TooMany 4097) (
    take_bytes-append nothing_read (told_text ranges) (c ∷ [])
    ∙ ap (λ (x : Reads). and_then x (λ t. take_bytes t (c ∷ []))) (text_read (told_text ranges) ranges (told, refl))
    ∙ ap (λ (x : Reads). and_then x (λ t. take_bytes t [])) (cond-true (length ranges == 4096) _ _ (eq-eqb (length ranges) 4096 full))
    ∙ ap (λ (n : ℕ). Stopped (TooMany (n + 1))) full
    ))

without_its_line_end : IsToldFaultOf (codes "00:1f.1 io 000001f0-000001f7 command") (Ended 1)
unfolding take_bytes take_byte step_at digit_in
without_its_line_end = fault_at_end (codes "00:1f.1 io 000001f0-000001f7 command") _ refl (λ e. absurd cc)

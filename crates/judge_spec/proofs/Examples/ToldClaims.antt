-- Told ranges: when they are on, what they claim and on which bus, and what they may share.
use Rattle.std.proofs.Common.{◌≡◌, ℕ, ◌<◌, List, [], ◌∷◌, refl, true, false, arith, ap, lit<, lit≤, map}
use Rattle.pci_spec.specs.Slot.{Slot}
use Rattle.pci_spec.specs.System.{System, Io, Memory}
use Rattle.pci_spec.specs.Fault.{address_in, named_region}
use Rattle.pci_spec.proofs.Examples.Samples.{slot, device}
use Rattle.judge_spec.specs.Told.{Mark, Command, Always, Held, ToldRange}
use Rattle.judge_spec.specs.ToldClaims.{Told, told_register, IsRangeAt, is_on_by, is_range_on, RangeClaims, RangeClaimsOnBus, is_held, may_share}
use Rattle.judge_spec.specs.ToldAllFaults.{region_number}

abbrev pub told_io : Slot → ℕ → ℕ → Mark → ToldRange
told_io at first last mark = record { slot = at; space = Io; prefetchable = false; first = first; last = last; mark = mark; name = [] }

abbrev pub told_memory : Slot → ℕ → ℕ → Mark → ToldRange
told_memory at first last mark = record { slot = at; space = Memory; prefetchable = false; first = first; last = last; mark = mark; name = [] }

abbrev pub told_ranges : List ToldRange → Told
told_ranges ranges = record { ranges = ranges; asleep = [] }

-- the function of a slot is asleep
abbrev pub told_asleep : Slot → List ToldRange → Told
told_asleep at ranges = record { ranges = ranges; asleep = at ∷ [] }

-- ---- names: the first line has the register 256, and the last 4351

registers : map told_register (0 ∷ 1 ∷ 4095 ∷ []) ≡ 256 ∷ 257 ∷ 4351 ∷ []
registers = refl

abbrev two_lines : Told
two_lines = told_ranges (told_io (slot 0 1 0) 0x100 0x1ff Always ∷ told_io (slot 0 2 0) 0x200 0x2ff Held ∷ [])

second_line : IsRangeAt two_lines (named_region (slot 0 2 0) 257) (told_io (slot 0 2 0) 0x200 0x2ff Held)
second_line = record { index = 1; at = refl; slot = refl; register = refl }

no_line_of_another_slot : IsRangeAt two_lines (named_region (slot 0 1 0) 257) (told_io (slot 0 2 0) 0x200 0x2ff Held) → ⊥
no_line_of_another_slot named = let e : 2 ≡ 1 = ap (λ (s : Slot). s.device) named.slot in omega (arith, e)

no_line_of_a_register : IsRangeAt two_lines (named_region (slot 0 2 0) 255) (told_io (slot 0 2 0) 0x200 0x2ff Held) → ⊥
no_line_of_a_register named = let e = named.register in omega (arith, e)

-- ---- the order: the last line of a slot stands behind each of its registers, and before the next slot

behind_registers : region_number (slot 0 1 0) 0x3e < region_number (slot 0 1 0) (told_register 0)
behind_registers = lit< tt

before_the_next_slot : region_number (slot 0 1 0) (told_register 4095) < region_number (slot 0 1 1) 0
before_the_next_slot = lit< tt

-- ---- when a range is on: by mark, whether the function is awake, and whether Command enables the space

by_command : is_on_by Command true true ∷ is_on_by Command true false ∷ is_on_by Command false true ∷ [] ≡ true ∷ false ∷ false ∷ []
by_command = refl

by_always : is_on_by Always true false ∷ is_on_by Always false true ∷ [] ≡ true ∷ false ∷ []
by_always = refl

by_held : is_on_by Held true false ∷ is_on_by Held false false ∷ [] ≡ true ∷ true ∷ []
by_held = refl

-- Command of the function at its slot counts, and its bit of the range's space
abbrev commands : System
commands = device (slot 0 1 0) 1 [] [] ∷ device (slot 0 2 0) 2 [] [] ∷ device (slot 0 3 0) 3 [] [] ∷ []

io_by_slot : map (λ d. is_range_on (told_ranges []) commands (told_io (slot 0 d 0) 0 0xff Command)) (1 ∷ 2 ∷ 3 ∷ 4 ∷ []) ≡ true ∷ false ∷ true ∷ false ∷ []
io_by_slot = refl

memory_by_slot : map (λ d. is_range_on (told_ranges []) commands (told_memory (slot 0 d 0) 0 0xff Command)) (1 ∷ 2 ∷ 3 ∷ 4 ∷ []) ≡ false ∷ true ∷ true ∷ false ∷ []
memory_by_slot = refl

-- one that is asleep has held ranges alone on
while_asleep : map (λ mark. is_range_on (told_asleep (slot 0 3 0) []) commands (told_io (slot 0 3 0) 0 0xff mark)) (Command ∷ Always ∷ Held ∷ []) ≡ false ∷ false ∷ true ∷ []
while_asleep = refl

while_another_is_asleep : map (λ mark. is_range_on (told_asleep (slot 0 2 0) []) commands (told_io (slot 0 3 0) 0 0xff mark)) (Command ∷ Always ∷ Held ∷ []) ≡ true ∷ true ∷ true ∷ []
while_another_is_asleep = refl

-- ---- what it claims: both ends of the range, in its space, on the bus of its slot

abbrev ports : ToldRange
ports = told_io (slot 0 5 0) 0x1f0 0x1f7 Always

first_port : RangeClaims (told_ranges (ports ∷ [])) [] ports Io 0x1f0
first_port = record { on = refl; holds = (refl, lit≤ tt, lit≤ tt) }

last_port : RangeClaims (told_ranges (ports ∷ [])) [] ports Io 0x1f7
last_port = record { on = refl; holds = (refl, lit≤ tt, lit≤ tt) }

below_the_first : RangeClaims (told_ranges (ports ∷ [])) [] ports Io 0x1ef → ⊥
below_the_first claims = let low = claims.holds.1 in omega (arith, low)

above_the_last : RangeClaims (told_ranges (ports ∷ [])) [] ports Io 0x1f8 → ⊥
above_the_last claims = let high = claims.holds.2 in omega (arith, high)

other_space : RangeClaims (told_ranges (ports ∷ [])) [] ports Memory 0x1f0 → ⊥
other_space claims = let e : Io ≡ Memory = claims.holds.0 in cc

on_its_bus : RangeClaimsOnBus (told_ranges (ports ∷ [])) [] 0 (address_in Io 0x1f0) (named_region (slot 0 5 0) 256)
on_its_bus = record { r = ports; named = record { index = 0; at = refl; slot = refl; register = refl }; on_the_bus = refl; claims = first_port }

on_another_bus : RangeClaimsOnBus (told_ranges (ports ∷ [])) [] 1 (address_in Io 0x1f0) (named_region (slot 0 5 0) 256) → ⊥
on_another_bus claims = let e = claims.on_the_bus in omega (arith, e)

-- ---- what may share an address

abbrev three : Told
three = told_ranges (told_io (slot 0 1 0) 0 0xff Held ∷ told_io (slot 0 1 0) 0 0xff Always ∷ told_io (slot 0 2 0) 0 0xff Held ∷ [])

held_registers : map (is_held three) (0x10 ∷ 255 ∷ 256 ∷ 257 ∷ 258 ∷ 259 ∷ []) ≡ false ∷ false ∷ true ∷ false ∷ true ∷ false ∷ []
held_registers = refl

two_held : may_share three (slot 0 1 0) 256 (slot 0 2 0) 258 ≡ true
two_held = refl

-- a held range and regions of its own function, whichever is named first
held_and_own : map (λ register. may_share three (slot 0 1 0) 256 (slot 0 1 0) register) (0x10 ∷ 0x30 ∷ 0x1c ∷ 0x3e ∷ 257 ∷ []) ≡ true ∷ true ∷ true ∷ true ∷ true ∷ []
held_and_own = refl

own_and_held : map (λ register. may_share three (slot 0 1 0) register (slot 0 1 0) 256) (0x10 ∷ 0x30 ∷ 0x1c ∷ 0x3e ∷ 257 ∷ []) ≡ true ∷ true ∷ true ∷ true ∷ true ∷ []
own_and_held = refl

-- regions of another function
held_and_other : map (λ register. may_share three (slot 0 1 0) 256 (slot 0 2 0) register) (0x10 ∷ 0x1c ∷ []) ≡ false ∷ false ∷ []
held_and_other = refl

other_and_held : map (λ register. may_share three (slot 0 2 0) register (slot 0 1 0) 256) (0x10 ∷ 0x1c ∷ []) ≡ false ∷ false ∷ []
other_and_held = refl

always_and_held_of_another : may_share three (slot 0 1 0) 257 (slot 0 2 0) 258 ≡ false
always_and_held_of_another = refl

-- other told ranges share with nobody, not even with their own function
always_and_own : map (λ register. may_share three (slot 0 1 0) 257 (slot 0 1 0) register) (0x10 ∷ 0x1c ∷ 0x3e ∷ []) ≡ false ∷ false ∷ false ∷ []
always_and_own = refl

-- what shares without what is told still does
window_and_legacy : may_share three (slot 0 3 0) 0x1c (slot 0 3 0) 0x3e ≡ true
window_and_legacy = refl

-- The writes that lead from one state of a system to another, evaluated.
use Rattle.std.proofs.Common.{◌≡◌, List, [], ◌∷◌, refl, map, length}
use Rattle.pci_spec.specs.System.{System}
use Rattle.pci_spec.specs.Machine.{Write}
use Rattle.plan_spec.specs.PlanPromise.{changes_between}
use Rattle.plan_spec.specs.Planning.PlanWrites.{closing_writes, plan_writes, most_writes}
use Rattle.pci_spec.proofs.Examples.Samples.{slot, device, bridge, write}
use Rattle.plan_spec.proofs.Examples.Placed.{start, planned}

abbrev writes_between : System → System → List Write
writes_between old new = plan_writes (changes_between old new)

-- ---- a bridge with two BARs behind it, beside a device

-- registers by slot and offset, then Command
registers_then_command : writes_between start planned
    ≡ write (slot 0 1 0) 0x20 4 0xe010e000 ∷ write (slot 0 2 0) 0x10 4 0xe0200000 ∷ write (slot 1 0 0) 0x10 4 0xe0000000 ∷ write (slot 1 0 0) 0x14 4 0xe0100000
    ∷ write (slot 0 1 0) 0x04 2 2 ∷ write (slot 0 2 0) 0x04 2 2 ∷ write (slot 1 0 0) 0x04 2 2 ∷ []
registers_then_command = refl

-- what is planned is closed from the highest slot down, and opened from the lowest up
planned_again : writes_between planned planned
    ≡ write (slot 1 0 0) 0x04 2 0 ∷ write (slot 0 2 0) 0x04 2 0 ∷ write (slot 0 1 0) 0x04 2 0
    ∷ write (slot 0 1 0) 0x04 2 2 ∷ write (slot 0 2 0) 0x04 2 2 ∷ write (slot 1 0 0) 0x04 2 2 ∷ []
planned_again = refl

-- the start with Command set, where all regions stand at 0
abbrev pub all_on : System
all_on =
    bridge (slot 0 1 0) 2 0x10100 [] [] ∷ device (slot 0 2 0) 2 [] ((0x10, 0xfff00000) ∷ [])
    ∷ device (slot 1 0 0) 2 [] ((0x10, 0xfff00000) ∷ (0x14, 0xfffff000) ∷ []) ∷ []

closed_then_planned : writes_between all_on planned
    ≡ write (slot 1 0 0) 0x04 2 0 ∷ write (slot 0 2 0) 0x04 2 0 ∷ write (slot 0 1 0) 0x04 2 0
    ∷ write (slot 0 1 0) 0x20 4 0xe010e000 ∷ write (slot 0 2 0) 0x10 4 0xe0200000 ∷ write (slot 1 0 0) 0x10 4 0xe0000000 ∷ write (slot 1 0 0) 0x14 4 0xe0100000
    ∷ write (slot 0 1 0) 0x04 2 2 ∷ write (slot 0 2 0) 0x04 2 2 ∷ write (slot 1 0 0) 0x04 2 2 ∷ []
closed_then_planned = refl

closing_writes_of_each : map (λ s. length (closing_writes (changes_between s planned))) (start ∷ planned ∷ all_on ∷ []) ≡ 0 ∷ 3 ∷ 3 ∷ []
closing_writes_of_each = refl

-- 11 for a bridge, 9 for a device
at_most : map most_writes (changes_between start planned) ≡ 11 ∷ 9 ∷ 9 ∷ []
at_most = refl

nothing_to_write : writes_between [] [] ≡ []
nothing_to_write = refl

-- ---- other bits of Command

-- they stay, and what is to be off is closed and not opened
other_bits_stay : writes_between (device (slot 0 1 0) 0x0147 [] [] ∷ []) (device (slot 0 1 0) 0x0144 [] [] ∷ []) ≡ write (slot 0 1 0) 0x04 2 0x0144 ∷ []
other_bits_stay = refl

io_alone_is_closed : writes_between (device (slot 0 1 0) 0x0005 [] [] ∷ []) (device (slot 0 1 0) 0x0004 [] [] ∷ []) ≡ write (slot 0 1 0) 0x04 2 4 ∷ []
io_alone_is_closed = refl

-- what has nothing on isn't closed, whatever else is set
off_stays_off : writes_between (device (slot 0 1 0) 0x0144 [] [] ∷ []) (device (slot 0 1 0) 0x0144 [] [] ∷ []) ≡ []
off_stays_off = refl

-- ---- I/O behind a bridge

io_window_is_one_register : writes_between
    (bridge (slot 0 1 0) 0 0x10100 [] ((0x1c, 0xf0f0) ∷ []) ∷ device (slot 1 0 0) 0 ((0x10, 1) ∷ []) ((0x10, 0xffffff01) ∷ []) ∷ [])
    (bridge (slot 0 1 0) 1 0x10100 ((0x1c, 0x1010) ∷ (0x20, 0xfff0) ∷ []) ((0x1c, 0xf0f0) ∷ []) ∷ device (slot 1 0 0) 1 ((0x10, 0x1001) ∷ []) ((0x10, 0xffffff01) ∷ []) ∷ [])
    ≡ write (slot 0 1 0) 0x1c 2 0x1010 ∷ write (slot 0 1 0) 0x20 4 0xfff0 ∷ write (slot 1 0 0) 0x10 4 0x1001 ∷ write (slot 0 1 0) 0x04 2 1 ∷ write (slot 1 0 0) 0x04 2 1 ∷ []
io_window_is_one_register = refl

-- ---- a BAR and a ROM

rom_is_written_last : writes_between (device (slot 0 1 0) 0 [] ((0x10, 0xfffff000) ∷ (0x30, 0xffff0000) ∷ []) ∷ [])
    (device (slot 0 1 0) 2 ((0x10, 0xe0020000) ∷ (0x30, 0xe0010000) ∷ []) ((0x10, 0xfffff000) ∷ (0x30, 0xffff0000) ∷ []) ∷ [])
    ≡ write (slot 0 1 0) 0x10 4 0xe0020000 ∷ write (slot 0 1 0) 0x30 4 0xe0010000 ∷ write (slot 0 1 0) 0x04 2 2 ∷ []
rom_is_written_last = refl

-- ---- two roots

both_roots_by_slot : writes_between (device (slot 0 1 0) 0 [] ((0x10, 0xfff00000) ∷ []) ∷ device (slot 0x40 1 0) 0 [] ((0x10, 0xfff00000) ∷ []) ∷ [])
    (device (slot 0 1 0) 2 ((0x10, 0xe0000000) ∷ []) ((0x10, 0xfff00000) ∷ []) ∷ device (slot 0x40 1 0) 2 ((0x10, 0xe0100000) ∷ []) ((0x10, 0xfff00000) ∷ []) ∷ [])
    ≡ write (slot 0 1 0) 0x10 4 0xe0000000 ∷ write (slot 0x40 1 0) 0x10 4 0xe0100000 ∷ write (slot 0 1 0) 0x04 2 2 ∷ write (slot 0x40 1 0) 0x04 2 2 ∷ []
both_roots_by_slot = refl

-- ---- a prefetchable BAR in a wide window

-- a lower half that doesn't change isn't written, and the memory window is closed
unchanged_half_is_left_out : writes_between
    (bridge (slot 0 1 0) 0 0x10100 ((0x24, 0x10001) ∷ []) ((0x24, 0xfff1fff1) ∷ (0x28, 0xffffffff) ∷ (0x2c, 0xffffffff) ∷ []) ∷ device (slot 1 0 0) 0 ((0x10, 0xc) ∷ []) ((0x10, 0xf000000c) ∷ (0x14, 0xffffffff) ∷ []) ∷ [])
    (bridge (slot 0 1 0) 2 0x10100 ((0x20, 0xfff0) ∷ (0x24, 0xff10001) ∷ (0x28, 1) ∷ (0x2c, 1) ∷ []) ((0x24, 0xfff1fff1) ∷ (0x28, 0xffffffff) ∷ (0x2c, 0xffffffff) ∷ []) ∷ device (slot 1 0 0) 2 ((0x10, 0xc) ∷ (0x14, 1) ∷ []) ((0x10, 0xf000000c) ∷ (0x14, 0xffffffff) ∷ []) ∷ [])
    ≡ write (slot 0 1 0) 0x20 4 0xfff0 ∷ write (slot 0 1 0) 0x24 4 0xff10001 ∷ write (slot 0 1 0) 0x28 4 1 ∷ write (slot 0 1 0) 0x2c 4 1
    ∷ write (slot 1 0 0) 0x14 4 1 ∷ write (slot 0 1 0) 0x04 2 2 ∷ write (slot 1 0 0) 0x04 2 2 ∷ []
unchanged_half_is_left_out = refl

-- ---- of what isn't there twice, nothing is written

changes_are_of_functions_in_both : changes_between start [] ≡ []
changes_are_of_functions_in_both = refl

and_of_no_others : changes_between [] planned ≡ []
and_of_no_others = refl

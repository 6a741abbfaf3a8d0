-- Faults of single functions, and the order in which the judge names the others.
use Rattle.std.proofs.Common.{◌≡◌, ℕ, zero, suc, ◌*◌, ◌<◌, List, [], ◌∷◌, refl, Bool, true, false, None, map, lit<, arith, inl, inr, subst, sym}
use Rattle.std.proofs.lemmas.Bool.{both_ways}
use Rattle.std.specs.List.{Contains}
use Rattle.pci_spec.specs.Number.{each_from, some_from}
use Rattle.pci_spec.specs.Slot.{Slot}
use Rattle.pci_spec.specs.Text.{Block}
use Rattle.pci_spec.specs.Window.{IoWindow}
use Rattle.pci_spec.specs.System.{Io, Memory, Function, system_of}
use Rattle.pci_spec.specs.Fault.{Fault, IsIn, IsThere, has_no_vendor, has_other_layout, is_stray, has_function_zero, SomeAt, NoVendor, BarType, BarMask, BarPair, RomMask, WindowMask, SlotsDiffer, StrayProbe, LoneFunction, OfProfile, PaletteSnoop, VgaEnable, IsaEnable, Subtractive, InReset, PowerState, BusRange, Orphan, Unreached, Clash, Split}
use Rattle.pci_spec.specs.Order.{precedes, judging_key}
use Rattle.pci_spec.proofs.Examples.Samples.{put, put_bytes, zeros, blank, slot, device, bridge, host}

-- ---- by the registers

no_vendor : has_no_vendor (put 2 0 0xffff zeros) ∷ has_no_vendor (put 2 0 0xfffe zeros) ∷ has_no_vendor (blank 0 0) ∷ has_no_vendor zeros ∷ [] ≡ true ∷ false ∷ false ∷ false ∷ []
no_vendor = refl

other_layout : map (λ kind. has_other_layout (blank kind 0)) (0 ∷ 1 ∷ 2 ∷ 0x7f ∷ 0x80 ∷ 0x81 ∷ 0x82 ∷ []) ≡ false ∷ false ∷ true ∷ true ∷ false ∷ false ∷ true ∷ []
other_layout = refl

-- the probe's bytes that are in no address register, of both headers
abbrev stray : ℕ → ℕ → Bool
stray kind offset = is_stray (blank kind 0) (put_bytes ((offset, 1) ∷ []) zeros) offset

stray_on_a_device : map (stray 0) (0 ∷ 0x0f ∷ 0x10 ∷ 0x13 ∷ 0x27 ∷ 0x28 ∷ 0x2f ∷ 0x30 ∷ 0x33 ∷ 0x34 ∷ 0x38 ∷ 0x3d ∷ 0xff ∷ [])
    ≡ true ∷ true ∷ false ∷ false ∷ false ∷ true ∷ true ∷ false ∷ false ∷ true ∷ true ∷ true ∷ true ∷ []
stray_on_a_device = refl

stray_on_a_bridge : map (stray 1) (0x0f ∷ 0x10 ∷ 0x17 ∷ 0x18 ∷ 0x1b ∷ 0x1c ∷ 0x1d ∷ 0x1e ∷ 0x1f ∷ 0x20 ∷ 0x33 ∷ 0x34 ∷ 0x37 ∷ 0x38 ∷ 0x3b ∷ 0x3c ∷ [])
    ≡ true ∷ false ∷ false ∷ true ∷ true ∷ false ∷ false ∷ true ∷ true ∷ false ∷ false ∷ true ∷ true ∷ false ∷ false ∷ true ∷ []
stray_on_a_bridge = refl

zero_is_not_stray : is_stray (blank 0 0) zeros 0x3d ≡ false
zero_is_not_stray = refl

function_zero_of_the_same_device : map (has_function_zero (device (slot 0 1 0) 0 [] [] ∷ device (slot 0 2 1) 0 [] [] ∷ [])) (slot 0 1 3 ∷ slot 0 2 1 ∷ slot 1 1 3 ∷ [])
    ≡ true ∷ false ∷ false ∷ []
function_zero_of_the_same_device = refl

-- ---- there, in a system of one function

there : (f : Function) → Contains (f ∷ []) f
there f = (0, lit< tt, refl)

function_without_function_zero : IsIn host (device (slot 0 1 1) 0 [] [] ∷ []) (LoneFunction (slot 0 1 1))
function_without_function_zero = (device (slot 0 1 1) 0 [] [], there _, refl, (lit< tt, refl))

bar_of_a_reserved_type : IsIn host (device (slot 0 1 0) 0 ((0x10, 2) ∷ []) ((0x10, 0xfff00002) ∷ []) ∷ []) (BarType (slot 0 1 0) 0x10)
unfolding each_from some_from
bar_of_a_reserved_type = (device (slot 0 1 0) 0 ((0x10, 2) ∷ []) ((0x10, 0xfff00002) ∷ []), there _, refl, (0, lit< tt, refl, refl))

bar_with_a_hole : IsIn host (device (slot 0 1 0) 0 ((0x14, 0xfff00000) ∷ []) ((0x14, 0xfff0f000) ∷ []) ∷ []) (BarMask (slot 0 1 0) 0x14)
unfolding each_from some_from
bar_with_a_hole = (device (slot 0 1 0) 0 ((0x14, 0xfff00000) ∷ []) ((0x14, 0xfff0f000) ∷ []), there _, refl, (1, lit< tt, refl, refl))

wide_bar_in_the_last_register : IsIn host (device (slot 0 1 0) 0 ((0x24, 0xfe00000c) ∷ []) ((0x24, 0xff00000c) ∷ []) ∷ []) (BarPair (slot 0 1 0) 0x24)
unfolding each_from some_from
wide_bar_in_the_last_register = (device (slot 0 1 0) 0 ((0x24, 0xfe00000c) ∷ []) ((0x24, 0xff00000c) ∷ []), there _, refl, (5, lit< tt, refl, refl))

rom_of_32_mb : IsIn host (device (slot 0 1 0) 0 [] ((0x30, 0xfe000000) ∷ []) ∷ []) (RomMask (slot 0 1 0) 0x30)
unfolding each_from some_from
rom_of_32_mb = (device (slot 0 1 0) 0 [] ((0x30, 0xfe000000) ∷ []), there _, refl, (refl, refl))

window_whose_read_backs_differ : IsIn host (bridge (slot 0 1 0) 0 0x10100 [] ((0x1c, 0xf1f0) ∷ []) ∷ []) (WindowMask (slot 0 1 0) 0x1c)
window_whose_read_backs_differ = (bridge (slot 0 1 0) 0 0x10100 [] ((0x1c, 0xf1f0) ∷ []), there _, refl, (IoWindow, refl, refl, refl))

palette_snoop : IsIn host (device (slot 0 1 0) 0x20 [] [] ∷ []) (OfProfile PaletteSnoop (slot 0 1 0))
palette_snoop = (device (slot 0 1 0) 0x20 [] [], there _, refl, refl)

-- a bridge with these bits of Bridge Control, and one of this class
abbrev controlled : ℕ → Function
controlled bits = bridge (slot 0 1 0) 0 0x10100 ((0x3c, 65536 * bits) ∷ []) []

abbrev of_class : ℕ → Function
of_class class = bridge (slot 0 1 0) 0 0x10100 ((0x08, 256 * class) ∷ []) []

isa_enable : IsIn host (controlled 4 ∷ []) (OfProfile IsaEnable (slot 0 1 0))
isa_enable = (controlled 4, there _, refl, refl)

vga_enable : IsIn host (controlled 8 ∷ []) (OfProfile VgaEnable (slot 0 1 0))
vga_enable = (controlled 8, there _, refl, refl)

secondary_bus_reset : IsIn host (controlled 0x40 ∷ []) (OfProfile InReset (slot 0 1 0))
secondary_bus_reset = (controlled 0x40, there _, refl, refl)

subtractive_bridge : IsIn host (of_class 0x060401 ∷ []) (OfProfile Subtractive (slot 0 1 0))
subtractive_bridge = (of_class 0x060401, there _, refl, refl)

-- the state of the second of two power management capabilities counts too
abbrev sleeper : ℕ → Function
sleeper state = device (slot 0 1 0) 0 ((0x04, 0x00100000) ∷ (0x34, 0x40) ∷ (0x40, 0x4801) ∷ (0x48, 1) ∷ (0x4c, state) ∷ []) []

asleep : IsIn host (sleeper 0x8103 ∷ []) (OfProfile PowerState (slot 0 1 0))
asleep = (sleeper 0x8103, there _, refl, (0x48, (1, refl, λ e. omega (arith, e)), (refl, λ e. let three : 3 ≡ 0 = e in omega (arith, three))))

no_function_on_a_bus_that_nothing_leads_to : IsIn host (device (slot 5 0 0) 0 [] [] ∷ []) (Orphan (slot 5 0 0))
no_function_on_a_bus_that_nothing_leads_to = (device (slot 5 0 0) 0 [] [], there _, refl, refl)

bridge_of_another_primary : IsIn host (bridge (slot 0 1 0) 0 0x10101 [] [] ∷ []) (BusRange (slot 0 1 0))
bridge_of_another_primary = (bridge (slot 0 1 0) 0 0x10101 [] [], there _, refl, refl)

-- ---- and not there

only_one : (f g : Function) → Contains (f ∷ []) g → f ≡ g
only_one f g (zero, less, is) = is
only_one f g (suc k, less, is) = absurd (let no : ⊥ = omega (arith, less) in no)

pub none_at : (f : Function) (place : Slot) (P : Function → Type 0) → (P f → ⊥) → SomeAt (f ∷ []) place P → ⊥
none_at f place P not_there (g, listed, at, h) = not_there (subst P (sym (only_one f g listed)) h)

no : false ≡ true → ⊥
no h = both_ways false refl h

other_command_bits : IsIn host (device (slot 0 1 0) 0xffdf [] [] ∷ []) (OfProfile PaletteSnoop (slot 0 1 0)) → ⊥
other_command_bits h = none_at _ _ _ no h

other_bits_than_isa_enable : IsIn host (controlled 0xfffb ∷ []) (OfProfile IsaEnable (slot 0 1 0)) → ⊥
other_bits_than_isa_enable h = none_at _ _ _ no h

other_bits_than_vga_enable : IsIn host (controlled 0xfff7 ∷ []) (OfProfile VgaEnable (slot 0 1 0)) → ⊥
other_bits_than_vga_enable h = none_at _ _ _ no h

other_bits_than_reset : IsIn host (controlled 0xffbf ∷ []) (OfProfile InReset (slot 0 1 0)) → ⊥
other_bits_than_reset h = none_at _ _ _ no h

plain_bridge_class : IsIn host (of_class 0x060400 ∷ []) (OfProfile Subtractive (slot 0 1 0)) → ⊥
plain_bridge_class h = none_at _ _ _ no h

device_of_that_class : IsIn host (device (slot 0 1 0) 0 ((0x08, 0x06040100) ∷ []) [] ∷ []) (OfProfile Subtractive (slot 0 1 0)) → ⊥
device_of_that_class h = none_at _ _ _ no h

device_has_no_bridge_control : IsIn host (device (slot 0 1 0) 0 ((0x3c, 0xffff0000) ∷ []) [] ∷ []) (OfProfile VgaEnable (slot 0 1 0)) → ⊥
device_has_no_bridge_control h = none_at _ _ _ no h

function_zero_stands_alone : IsIn host (device (slot 0 1 0) 0 [] [] ∷ []) (LoneFunction (slot 0 1 0)) → ⊥
function_zero_stands_alone h = none_at _ _ _ (λ lone. let above : 0 < 0 = lone.0 in omega (arith, above)) h

device_has_no_bus_range : IsIn host (device (slot 0 1 0) 0 [] [] ∷ []) (BusRange (slot 0 1 0)) → ⊥
device_has_no_bus_range h = none_at _ _ _ no h

device_on_a_root_is_no_orphan : IsIn host (device (slot 0 1 0) 0 [] [] ∷ []) (Orphan (slot 0 1 0)) → ⊥
device_on_a_root_is_no_orphan h = none_at _ _ _ no h

-- ---- in a dump and a probe

abbrev block : ℕ → List ℕ → Block
block d image = record { slot = slot 0 d 0; title = None; image = image }

images_are_taken_block_by_block : system_of (block 1 (blank 0 7) ∷ block 2 zeros ∷ []) (block 1 zeros ∷ block 2 (blank 1 0) ∷ [])
    ≡ record { slot = slot 0 1 0; image = blank 0 7; probe = zeros } ∷ record { slot = slot 0 2 0; image = zeros; probe = blank 1 0 } ∷ []
images_are_taken_block_by_block = refl

nothing_listed : {X : Type 0} (x : X) → Contains [] x → ⊥
nothing_listed x h = let no : ⊥ = omega (arith, h.1) in no

slot_that_the_probe_has_not : IsThere host (block 0 (blank 0 0) ∷ []) [] (SlotsDiffer (slot 0 0 0))
slot_that_the_probe_has_not = inl ((0, lit< tt, refl), λ h. nothing_listed _ h)

slot_that_the_dump_has_not : IsThere host [] (block 0 zeros ∷ []) (SlotsDiffer (slot 0 0 0))
slot_that_the_dump_has_not = inr (λ h. nothing_listed _ h, (0, lit< tt, refl))

function_that_does_not_answer : IsThere host (block 0 (put 2 0 0xffff zeros) ∷ []) (block 0 zeros ∷ []) (NoVendor (slot 0 0 0))
function_that_does_not_answer = (refl, (record { slot = slot 0 0 0; image = put 2 0 0xffff zeros; probe = zeros }, there _, refl, refl))

probe_with_a_byte_too_many : IsThere host (block 2 (blank 0 0) ∷ []) (block 2 (put_bytes ((0x3d, 1) ∷ []) zeros) ∷ []) (StrayProbe (slot 0 2 0) 0x3d)
probe_with_a_byte_too_many = (refl, (record { slot = slot 0 2 0; image = blank 0 0; probe = put_bytes ((0x3d, 1) ∷ []) zeros }, there _, refl, refl))

-- ---- the order

unreached_by_region_then_bridge_then_address : judging_key (Unreached (slot 1 2 3) 0x10 Io 0x100 (slot 4 5 6)) ≡ 0 ∷ 1 ∷ 2 ∷ 3 ∷ 0x10 ∷ 4 ∷ 5 ∷ 6 ∷ 0x100 ∷ []
unreached_by_region_then_bridge_then_address = refl

clash_by_bus_then_space_then_address_then_regions : judging_key (Clash 7 Memory 0x100 (slot 1 2 3) 0x10 (slot 4 5 6) 0x14) ≡ 1 ∷ 7 ∷ 1 ∷ 0x100 ∷ 1 ∷ 2 ∷ 3 ∷ 0x10 ∷ 4 ∷ 5 ∷ 6 ∷ 0x14 ∷ []
clash_by_bus_then_space_then_address_then_regions = refl

split_by_space_then_address_then_regions : judging_key (Split Io 0x100 (slot 1 2 3) 0x10 (slot 4 5 6) 0x14) ≡ 2 ∷ 0 ∷ 0x100 ∷ 1 ∷ 2 ∷ 3 ∷ 0x10 ∷ 4 ∷ 5 ∷ 6 ∷ 0x14 ∷ []
split_by_space_then_address_then_regions = refl

abbrev before : Fault → Fault → Bool
before a b = precedes (judging_key a) (judging_key b)

unreached_before_a_clash : before (Unreached (slot 1 0 0) 0x10 Memory 0x100 (slot 0 1 0)) (Clash 0 Io 0 (slot 0 1 0) 0x20 (slot 0 2 0) 0x10) ≡ true
unreached_before_a_clash = refl

clash_before_a_split : before (Clash 9 Memory 9 (slot 0 1 0) 0x20 (slot 0 2 0) 0x10) (Split Io 0 (slot 0 1 0) 0x10 (slot 1 1 0) 0x10) ≡ true
clash_before_a_split = refl

lower_bus_before_io : before (Clash 0 Memory 0 (slot 0 1 0) 0x20 (slot 0 2 0) 0x10) (Clash 1 Io 0 (slot 1 1 0) 0x20 (slot 1 2 0) 0x10) ≡ true
lower_bus_before_io = refl

io_before_memory : before (Clash 0 Io 9 (slot 0 1 0) 0x20 (slot 0 2 0) 0x10) (Clash 0 Memory 0 (slot 0 1 0) 0x20 (slot 0 2 0) 0x10) ≡ true
io_before_memory = refl

lower_address_before_lower_slots : before (Clash 0 Memory 8 (slot 0 5 0) 0x10 (slot 0 6 0) 0x10) (Clash 0 Memory 9 (slot 0 1 0) 0x10 (slot 0 2 0) 0x10) ≡ true
lower_address_before_lower_slots = refl

least_pair_of_regions : before (Clash 0 Memory 9 (slot 0 1 0) 0x10 (slot 0 2 0) 0x10) (Clash 0 Memory 9 (slot 0 1 0) 0x10 (slot 0 3 0) 0x10) ≡ true
least_pair_of_regions = refl

lower_slot_before_io : before (Unreached (slot 1 0 0) 0x14 Memory 9 (slot 0 1 0)) (Unreached (slot 1 1 0) 0x10 Io 0 (slot 0 1 0)) ≡ true
lower_slot_before_io = refl

bridge_near_the_host_before_a_lower_address : before (Unreached (slot 2 0 0) 0x10 Memory 9 (slot 0 1 0)) (Unreached (slot 2 0 0) 0x10 Memory 8 (slot 1 0 0)) ≡ true
bridge_near_the_host_before_a_lower_address = refl

none_before_itself : before (Split Io 0 (slot 0 1 0) 0x10 (slot 1 1 0) 0x10) (Split Io 0 (slot 0 1 0) 0x10 (slot 1 1 0) 0x10) ≡ false
none_before_itself = refl

-- the others are not the judge's
no_order_among_others : before (NoVendor (slot 0 0 0)) (Clash 0 Io 0 (slot 0 1 0) 0x10 (slot 0 2 0) 0x10) ≡ false
no_order_among_others = refl

nor_after_them : before (Clash 0 Io 0 (slot 0 1 0) 0x10 (slot 0 2 0) 0x10) (NoVendor (slot 0 0 0)) ≡ false
nor_after_them = refl

-- ---- faults of bridges alone

device_is_not_in_reset : IsIn host (device (slot 0 1 0) 0 ((0x3c, 0xffff0000) ∷ []) [] ∷ []) (OfProfile InReset (slot 0 1 0)) → ⊥
device_is_not_in_reset h = none_at _ _ _ (both_ways false refl) h

device_has_no_isa_enable : IsIn host (device (slot 0 1 0) 0 ((0x3c, 0xffff0000) ∷ []) [] ∷ []) (OfProfile IsaEnable (slot 0 1 0)) → ⊥
device_has_no_isa_enable h = none_at _ _ _ (both_ways false refl) h

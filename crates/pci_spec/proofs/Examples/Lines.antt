-- What is printed: faults, verdicts and writes.
use Rattle.std.proofs.Common.{◌≡◌, refl, None, Some}
use Rattle.std.specs.Prelude.{codes}
use Rattle.pci_spec.specs.Slot.{Slot}
use Rattle.pci_spec.specs.System.{Io, Memory}
use Rattle.pci_spec.specs.Fault.{NoVendor, HeaderKind, BarType, BarMask, BarPair, RomMask, WindowMask, CapRange, CapLoop, CapCut, SlotsDiffer, StrayProbe, LoneFunction, OfProfile, PaletteSnoop, VgaEnable, IsaEnable, Subtractive, InReset, PowerState, BusRange, Orphan, Unreached, Clash, Split}
use Rattle.pci_spec.specs.Line.{fault_text, verdict_line, write_line}
use Rattle.pci_spec.proofs.Examples.Samples.{slot, write}

-- ---- faults

abbrev place : Slot
place = slot 0x0a 0x1f 3

no_vendor : fault_text (NoVendor place) ≡ codes "20 NoVendor 0a:1f.3"
no_vendor = refl

header_kind : fault_text (HeaderKind place) ≡ codes "21 HeaderKind 0a:1f.3"
header_kind = refl

bar_type : fault_text (BarType place 0x1c) ≡ codes "22 BarType 0a:1f.3 1c"
bar_type = refl

bar_mask : fault_text (BarMask place 0x10) ≡ codes "23 BarMask 0a:1f.3 10"
bar_mask = refl

bar_pair : fault_text (BarPair place 0x24) ≡ codes "24 BarPair 0a:1f.3 24"
bar_pair = refl

rom_mask : fault_text (RomMask place 0x30) ≡ codes "25 RomMask 0a:1f.3 30"
rom_mask = refl

window_mask : fault_text (WindowMask place 0x1c) ≡ codes "26 WindowMask 0a:1f.3 1c"
window_mask = refl

cap_range : fault_text (CapRange place 0x3c) ≡ codes "27 CapRange 0a:1f.3 3c"
cap_range = refl

cap_loop : fault_text (CapLoop place 0x40) ≡ codes "28 CapLoop 0a:1f.3 40"
cap_loop = refl

cap_cut : fault_text (CapCut place 0xfc) ≡ codes "29 CapCut 0a:1f.3 fc"
cap_cut = refl

slots_differ : fault_text (SlotsDiffer place) ≡ codes "30 SlotsDiffer 0a:1f.3"
slots_differ = refl

stray_probe : fault_text (StrayProbe place 0x0e) ≡ codes "31 StrayProbe 0a:1f.3 0e"
stray_probe = refl

lone_function : fault_text (LoneFunction place) ≡ codes "50 LoneFunction 0a:1f.3"
lone_function = refl

palette_snoop : fault_text (OfProfile PaletteSnoop place) ≡ codes "51 PaletteSnoop 0a:1f.3"
palette_snoop = refl

vga_enable : fault_text (OfProfile VgaEnable place) ≡ codes "52 VgaEnable 0a:1f.3"
vga_enable = refl

isa_enable : fault_text (OfProfile IsaEnable place) ≡ codes "53 IsaEnable 0a:1f.3"
isa_enable = refl

subtractive : fault_text (OfProfile Subtractive place) ≡ codes "54 Subtractive 0a:1f.3"
subtractive = refl

in_reset : fault_text (OfProfile InReset place) ≡ codes "55 InReset 0a:1f.3"
in_reset = refl

power_state : fault_text (OfProfile PowerState place) ≡ codes "56 PowerState 0a:1f.3"
power_state = refl

bus_range : fault_text (BusRange place) ≡ codes "57 BusRange 0a:1f.3"
bus_range = refl

orphan : fault_text (Orphan place) ≡ codes "58 Orphan 0a:1f.3"
orphan = refl

unreached_by_io : fault_text (Unreached place 0x10 Io 0x100 (slot 0 1 0)) ≡ codes "60 Unreached 0a:1f.3 10 io 00000100 bridge 00:01.0"
unreached_by_io = refl

unreached_by_memory : fault_text (Unreached place 0x30 Memory 0x1e0000000 (slot 0 1 0)) ≡ codes "60 Unreached 0a:1f.3 30 mem 00000001e0000000 bridge 00:01.0"
unreached_by_memory = refl

clash_in_io : fault_text (Clash 0xfe Io 0xffffffff place 0x14 (slot 0xfe 0 7) 0x1c) ≡ codes "61 Clash bus fe io ffffffff 0a:1f.3 14 fe:00.7 1c"
clash_in_io = refl

clash_in_memory : fault_text (Clash 0 Memory 0xfffffffffff00000 place 0x10 (slot 0 2 0) 0x10) ≡ codes "61 Clash bus 00 mem fffffffffff00000 0a:1f.3 10 00:02.0 10"
clash_in_memory = refl

split_in_io : fault_text (Split Io 0x1000 place 0x10 (slot 0x40 1 0) 0x1c) ≡ codes "62 Split io 00001000 0a:1f.3 10 40:01.0 1c"
split_in_io = refl

split_in_memory : fault_text (Split Memory 0xe0000000 place 0x10 (slot 0x40 1 0) 0x10) ≡ codes "62 Split mem 00000000e0000000 0a:1f.3 10 40:01.0 10"
split_in_memory = refl

-- ---- verdicts

yes : verdict_line None ≡ codes "yes\n"
yes = refl

no_with_a_clash : verdict_line (Some (Clash 0 Memory 0xe0080000 (slot 0 1 0) 0x10 (slot 0 2 0) 0x10)) ≡ codes "no 61 Clash bus 00 mem 00000000e0080000 00:01.0 10 00:02.0 10\n"
no_with_a_clash = refl

no_with_an_unreached_bar : verdict_line (Some (Unreached (slot 1 0 0) 0x10 Io 0x100 (slot 0 1 0))) ≡ codes "no 60 Unreached 01:00.0 10 io 00000100 bridge 00:01.0\n"
no_with_an_unreached_bar = refl

no_with_a_function_that_does_not_answer : verdict_line (Some (NoVendor (slot 0 0 0))) ≡ codes "no 20 NoVendor 00:00.0\n"
no_with_a_function_that_does_not_answer = refl

-- ---- writes

window_in_four_bytes : write_line (write (slot 0 1 0) 0x20 4 0xe010e000) ≡ codes "00:01.0 20.4 e010e000\n"
window_in_four_bytes = refl

window_that_is_closed : write_line (write (slot 0 1 0) 0x20 4 0xfff0) ≡ codes "00:01.0 20.4 0000fff0\n"
window_that_is_closed = refl

io_window_in_two_bytes : write_line (write (slot 0 1 0) 0x1c 2 0x1010) ≡ codes "00:01.0 1c.2 1010\n"
io_window_in_two_bytes = refl

command_in_two_bytes : write_line (write (slot 0 1 0) 0x04 2 2) ≡ codes "00:01.0 04.2 0002\n"
command_in_two_bytes = refl

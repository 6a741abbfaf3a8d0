-- Records: all of a function that judging reads.
use Rattle.std.proofs.Common.{◌≡◌, ℕ, zero, suc, ◌<◌, [], ◌∷◌, refl, true, false, None, Some, map, arith, lit<, List, replicate}
use Rattle.std.specs.Bool.{IsFalse}
use Rattle.std.specs.List.{All}
use Rattle.pci_spec.specs.Number.{each_from, some_from}
use Rattle.pci_spec.specs.Header.{layout}
use Rattle.pci_spec.specs.Slot.{IsRising}
use Rattle.pci_spec.specs.Bar.{IoBar, Memory32, Memory64, bar_fault}
use Rattle.pci_spec.specs.Window.{WindowKind, IoWindow, MemoryWindow, PrefetchWindow, breaks_window_rule}
use Rattle.pci_spec.specs.Capability.{pointer, body_length}
use Rattle.pci_spec.specs.System.{Function, System, IsFunction, IsSystem}
use Rattle.pci_spec.specs.Decoded.{record_of, IsDecodable, HasRecords, Record}
use Rattle.pci_spec.proofs.Examples.Samples.{read_backs, slot, device, bridge, range, blank, zeros}
use Rattle.pci_spec.proofs.Examples.Texts.{vector, bytes_by}
use Rattle.std.proofs.lemmas.Bool.{both_ways}

device_with_bars_and_a_rom :
    record_of (device (slot 0 1 0) 0x107 ((0x10, 0xfe000000) ∷ (0x14, 0xc) ∷ (0x18, 1) ∷ (0x24, 0xe001) ∷ (0x30, 0xfd000001) ∷ [])
    ((0x10, 0xfffff000) ∷ (0x14, 0xf000000c) ∷ (0x18, 0xffffffff) ∷ (0x24, 0xffffff01) ∷ (0x30, 0xffff0000) ∷ []))
    ≡ record {
      slot = slot 0 1 0;
      command = 0x107;
      bars =
          record { register = 0x10; kind = Memory32; prefetchable = false; range = range 0xfe000000 0xfe000fff }
          ∷ record { register = 0x14; kind = Memory64; prefetchable = true; range = range 0x100000000 0x10fffffff }
          ∷ record { register = 0x24; kind = IoBar; prefetchable = false; range = range 0xe000 0xe0ff } ∷ [];
      rom = Some record { register = 0x30; on = true; range = range 0xfd000000 0xfd00ffff };
      bridge = None;
    }
device_with_bars_and_a_rom = refl

bridge_with_all_its_windows :
    record_of (bridge (slot 2 3 4) 2 0x070502 ((0x10, 0xfe000000) ∷ (0x1c, 0xf1e1) ∷ (0x20, 0xe010e000) ∷ (0x24, 0x0001fff1) ∷ (0x30, 0x10001) ∷ (0x38, 0xfd000000) ∷ [])
    ((0x10, 0xfff00000) ∷ (0x1c, 0xf1f1) ∷ (0x24, 0xfff1fff1) ∷ (0x28, 0xffffffff) ∷ (0x2c, 0xffffffff) ∷ (0x30, 0xffffffff) ∷ (0x38, 0xfffff800) ∷ []))
    ≡ record {
      slot = slot 2 3 4;
      command = 2;
      bars = record { register = 0x10; kind = Memory32; prefetchable = false; range = range 0xfe000000 0xfe0fffff } ∷ [];
      rom = Some record { register = 0x38; on = false; range = range 0xfd000000 0xfd0007ff };
      bridge = Some record {
        primary = 2;
        secondary = 5;
        subordinate = 7;
        windows = record {
          io = Some record { wide = true; range = Some (range 0x1e000 0x1ffff) };
          memory = record { wide = false; range = Some (range 0xe0000000 0xe01fffff) };
          prefetch = Some record { wide = true; range = None };
        };
      };
    }
bridge_with_all_its_windows = refl

bridge_with_a_memory_window_alone :
    record_of (bridge (slot 0 1 0) 0 0x010100 [] [])
    ≡ record {
      slot = slot 0 1 0;
      command = 0;
      bars = [];
      rom = None;
      bridge = Some record {
        primary = 0;
        secondary = 1;
        subordinate = 1;
        windows = record { io = None; memory = record { wide = false; range = Some (range 0 0xfffff) }; prefetch = None };
      };
    }
bridge_with_a_memory_window_alone = refl

-- the device of the sample text, with power management at 40h and MSI at 50h
device_of_a_text :
    record_of record { slot = vector.slot; image = vector.image; probe = read_backs ((0x10, 0xfff00008) ∷ []) }
    ≡ record {
      slot = slot 0 2 0;
      command = 2;
      bars = record { register = 0x10; kind = Memory32; prefetchable = true; range = range 0xfe000000 0xfe0fffff } ∷ [];
      rom = None;
      bridge = None;
    }
device_of_a_text = refl

its_capabilities : map (pointer vector.image) (0 ∷ 1 ∷ 2 ∷ []) ≡ 0x40 ∷ 0x50 ∷ 0 ∷ []
its_capabilities = refl

their_lengths : map (body_length vector.image) (0x40 ∷ 0x50 ∷ []) ≡ 8 ∷ 14 ∷ []
their_lengths = refl

-- ---- a system with its records

abbrev page_bridge : Function
page_bridge = bridge (slot 0 1 0) 2 0x010100 ((0x20, 0xe000e000) ∷ []) []

abbrev page_device : Function
page_device = device (slot 1 0 0) 2 ((0x10, 0xe0000000) ∷ []) ((0x10, 0xfffff000) ∷ [])

abbrev pair : System
pair = page_bridge ∷ page_device ∷ []

bridge_bars : (n : ℕ) → n < 2 → bar_fault page_bridge.image page_bridge.probe n ≡ None
unfolding each_from some_from
bridge_bars zero less = refl
bridge_bars (suc zero) less = refl
bridge_bars (suc (suc n)) less = absurd (let no : ⊥ = omega (arith, less) in no)

device_bars : (n : ℕ) → n < 6 → bar_fault page_device.image page_device.probe n ≡ None
unfolding each_from some_from
device_bars zero less = refl
device_bars (suc zero) less = refl
device_bars (suc (suc zero)) less = refl
device_bars (suc (suc (suc zero))) less = refl
device_bars (suc (suc (suc (suc zero)))) less = refl
device_bars (suc (suc (suc (suc (suc zero))))) less = refl
device_bars (suc (suc (suc (suc (suc (suc n)))))) less = absurd (let no : ⊥ = omega (arith, less) in no)

bridge_windows : (kind : WindowKind) → layout page_bridge.image ≡ 1 → IsFalse (breaks_window_rule kind page_bridge.image page_bridge.probe)
bridge_windows IoWindow h = refl
bridge_windows MemoryWindow h = refl
bridge_windows PrefetchWindow h = refl

bridge_is_decodable : IsDecodable page_bridge
unfolding each_from some_from
bridge_is_decodable = record { vendor = refl; header = refl; bars = bridge_bars; rom = refl; windows = bridge_windows }

device_is_decodable : IsDecodable page_device
unfolding each_from some_from
device_is_decodable = record { vendor = refl; header = refl; bars = device_bars; rom = refl; windows = λ kind h. absurd (let no : ⊥ = omega (arith, h) in no) }

both_are : All IsDecodable pair
both_are zero d less = bridge_is_decodable
both_are (suc zero) d less = device_is_decodable
both_are (suc (suc k)) d less = absurd (let no : ⊥ = omega (arith, less) in no)

has_these_records : HasRecords pair (
    record {
      slot = slot 0 1 0;
      command = 2;
      bars = [];
      rom = None;
      bridge = Some record { primary = 0; secondary = 1; subordinate = 1; windows = record { io = None; memory = record { wide = false; range = Some (range 0xe0000000 0xe00fffff) }; prefetch = None } };
    }
    ∷ record {
      slot = slot 1 0 0;
      command = 2;
      bars = record { register = 0x10; kind = Memory32; prefetchable = false; range = range 0xe0000000 0xe0000fff } ∷ [];
      rom = None;
      bridge = None;
    } ∷ [])
has_these_records = record { decodable = both_are; same = refl }

each_function : All IsFunction pair
each_function zero d less = record { slot = (lit< tt, lit< tt, lit< tt); image = record { full = refl; bytes = bytes_by page_bridge.image refl }; probe = record { full = refl; bytes = bytes_by page_bridge.probe refl } }
each_function (suc zero) d less = record { slot = (lit< tt, lit< tt, lit< tt); image = record { full = refl; bytes = bytes_by page_device.image refl }; probe = record { full = refl; bytes = bytes_by page_device.probe refl } }
each_function (suc (suc k)) d less = absurd (let no : ⊥ = omega (arith, less) in no)

rises : IsRising (map (λ (f : Function). f.slot) pair)
rises zero less = lit< tt
rises (suc k) less = absurd (let no : ⊥ = omega (arith, less) in no)

pair_is_a_system : IsSystem pair
pair_is_a_system = record { each = each_function; rising = rises }

-- ---- what has no record

what_has_records_decodes : (s : System) (records : List Record) → HasRecords s records → All IsDecodable s
what_has_records_decodes s records h = h.decodable

records_tell_all_that_is_decoded : (s : System) (records : List Record) → HasRecords s records → map record_of s ≡ records
records_tell_all_that_is_decoded s records h = h.same

-- a function that doesn't answer, and one of another header
nothing_answers : IsDecodable (record { slot = slot 0 1 0; image = replicate 256 0xff; probe = zeros }) → ⊥
nothing_answers d = both_ways true d.vendor refl

other_header : IsDecodable (record { slot = slot 0 1 0; image = blank 2 0; probe = zeros }) → ⊥
other_header d = both_ways true d.header refl

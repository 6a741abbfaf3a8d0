-- CardBus bridges, and functions that are none.
use Rattle.std.proofs.Common.{◌≡◌, ℕ, [], ◌∷◌, refl, true, false, map, set}
use Rattle.std.specs.List.{list_any, range_with_len}
use Rattle.pci_spec.specs.Number.{byte_at, number_at}
use Rattle.pci_spec.specs.Header.{layout, status}
use Rattle.pci_spec.specs.System.{Function}
use Rattle.pci_spec.specs.Fault.{has_other_layout, is_stray}
use Rattle.pci_spec.proofs.Examples.Samples.{device, slot}
use Rattle.judge_spec.specs.ModelWords.{Words, all_words, no_words}
use Rattle.judge_spec.specs.Taken.{cardbus_aside}

abbrev cardbus_counts : Words
cardbus_counts = record no_words { cardbus = true }

-- a function with this register 0Ch, in which Header Type is the third byte, and with Status 0290h: its socket registers at FE000000h, its buses 2, 3 and 6, a memory window
-- at 1Ch, an I/O window at 2Ch, and its list at 14h; 10h and 1Ch read back something
abbrev socket : ℕ → Function
socket kind = device (slot 2 4 0) 7 ((0x04, 0x02900007) ∷ (0x0c, kind) ∷ (0x10, 0xfe000000) ∷ (0x14, 0x020000a0) ∷ (0x18, 0x20060302) ∷ (0x1c, 0x88000000) ∷ (0x20, 0x8bfff000)
    ∷ (0x2c, 0x0000c000) ∷ (0x30, 0x0000c0fc) ∷ (0x34, 0x0000c400) ∷ (0x3c, 0x05c0010a) ∷ []) ((0x10, 0xfffff000) ∷ (0x1c, 0xfffff000) ∷ [])

is_taken : map (λ kind. layout (cardbus_aside cardbus_counts (socket kind)).image) (0x020000 ∷ 0x820000 ∷ 0x030000 ∷ 0x010000 ∷ []) ≡ 0 ∷ 0 ∷ 3 ∷ 1 ∷ []
is_taken = refl

multi_function_bit_stays : byte_at (cardbus_aside cardbus_counts (socket 0x820000)).image 0x0e ≡ 0x80
multi_function_bit_stays = refl

has_no_fault_of_its_header : map (λ w. has_other_layout (cardbus_aside w (socket 0x020000)).image) (cardbus_counts ∷ all_words ∷ no_words ∷ record all_words { cardbus = false } ∷ []) ≡ false ∷ false ∷ true ∷ true ∷ []
has_no_fault_of_its_header = refl

-- the address registers of a device show 0: what stands at 28h, 34h and 3Ch stays, and of Status all but the list
what_shows : map (λ offset. number_at (cardbus_aside cardbus_counts (socket 0x020000)).image offset 4) (0x10 ∷ 0x14 ∷ 0x18 ∷ 0x1c ∷ 0x20 ∷ 0x24 ∷ 0x2c ∷ 0x30 ∷ 0x34 ∷ 0x3c ∷ [])
    ≡ 0 ∷ 0 ∷ 0 ∷ 0 ∷ 0 ∷ 0 ∷ 0xc000 ∷ 0 ∷ 0xc400 ∷ 0x05c0010a ∷ []
what_shows = refl

other_status_bits_stay : status (cardbus_aside cardbus_counts (socket 0x020000)).image ≡ 0x0280
other_status_bits_stay = refl

-- what reads back at these registers is left out, and anything else is still a stray byte of the probe
abbrev stray_at_2c : Function
stray_at_2c = record { slot = slot 2 4 0; image = (socket 0x020000).image; probe = set (socket 0x020000).probe 0x2d 0xff }

stray_probes : map (λ f. list_any (is_stray (cardbus_aside cardbus_counts f).image (cardbus_aside cardbus_counts f).probe) (range_with_len 0 256)) (socket 0x020000 ∷ stray_at_2c ∷ []) ≡ false ∷ true ∷ []
stray_probes = refl

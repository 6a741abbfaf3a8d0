-- Listings of functions, to the byte.
use Rattle.std.proofs.Common.{◌≡◌, ℕ, ◌+◌, ◌*◌, List, [], ◌∷◌, ◌++◌, refl, codes, map}
use Rattle.std.specs.List.{range_with_len}
use Rattle.pci_spec.specs.Number.{each_from, some_from}
use Rattle.pci_spec.specs.Bar.{IoBar, Memory32, Memory64, Reserved}
use Rattle.pci_spec.specs.System.{Function, Io, Memory}
use Rattle.pci_spec.specs.Listing.{kind_name, kind_space, decimal_text, function_listing, places_of, listing}
use Rattle.pci_spec.proofs.Examples.Samples.{slot, device, bridge, put_bytes, blank, zeros}

-- a device with these bytes besides, and with a capabilities list
abbrev with_list : List (ℕ × ℕ) → Function
with_list bytes = record { slot = slot 0 1 0; image = put_bytes bytes (put_bytes ((0x06, 0x10) ∷ []) (blank 0 0)); probe = zeros }

abbrev line : List ℕ → List ℕ
line text = text ++ 10 ∷ []

abbrev head_with_list : List ℕ
head_with_list = line (codes "00:01.0 type 0 vendor 1234 device 5678 class 000000 command 0000 status 0010")

bridge_with_windows : function_listing (bridge (slot 0 1 0) 2 0x010100 ((0x20, 0xe010e000) ∷ (0x24, 0x00010001) ∷ (0x28, 1) ∷ (0x2c, 1) ∷ [])
    ((0x24, 0xfff1fff1) ∷ (0x28, 0xffffffff) ∷ (0x2c, 0xffffffff) ∷ []))
    ≡ line (codes "00:01.0 type 1 vendor 1234 device 5678 class 000000 command 0002 status 0000")
    ++ line (codes "  bus 00 01 01") ++ line (codes "  window 1c io none")
    ++ line (codes "  window 20 mem 00000000e0000000-00000000e01fffff")
    ++ line (codes "  window 24 pref 0000000100000000-00000001000fffff")
unfolding function_listing places_of each_from some_from
bridge_with_windows = refl

bridge_with_closed_memory_and_a_rom : function_listing (bridge (slot 0 1 0) 0 0x020100
    ((0x1c, 0x0000f1e1) ∷ (0x20, 0x0000fff0) ∷ (0x30, 0x00010001) ∷ (0x38, 0xfe000001) ∷ [])
    ((0x1c, 0x0000f1f1) ∷ (0x30, 0xffffffff) ∷ (0x38, 0xfffff800) ∷ []))
    ≡ line (codes "00:01.0 type 1 vendor 1234 device 5678 class 000000 command 0000 status 0000")
    ++ line (codes "  rom 38 on 00000000fe000000-00000000fe0007ff")
    ++ line (codes "  bus 00 01 02") ++ line (codes "  window 1c io 0001e000-0001ffff")
    ++ line (codes "  window 20 mem closed") ++ line (codes "  window 24 pref none")
unfolding function_listing places_of each_from some_from
bridge_with_closed_memory_and_a_rom = refl

bars_of_each_kind : function_listing (device (slot 2 0x1f 7) 7
    ((0x10, 0xe001) ∷ (0x14, 0xfe000008) ∷ (0x18, 0xc) ∷ (0x1c, 2) ∷ (0x20, 0xfd000000) ∷ (0x30, 0xfc000000) ∷ [])
    ((0x10, 0xffe1) ∷ (0x14, 0xfff00008) ∷ (0x18, 0xc) ∷ (0x1c, 0xfffffffe) ∷ (0x20, 0xfffff000) ∷ (0x30, 0xffff0000) ∷ []))
    ≡ line (codes "02:1f.7 type 0 vendor 1234 device 5678 class 000000 command 0007 status 0000")
    ++ line (codes "  bar 10 io 0000e000-0000e01f")
    ++ line (codes "  bar 14 mem32 pref 00000000fe000000-00000000fe0fffff")
    ++ line (codes "  bar 18 mem64 pref 0000000200000000-00000003ffffffff")
    ++ line (codes "  bar 20 mem32 00000000fd000000-00000000fd000fff")
    ++ line (codes "  rom 30 off 00000000fc000000-00000000fc00ffff")
unfolding function_listing places_of each_from some_from
bars_of_each_kind = refl

power_management : function_listing (with_list ((0x34, 0x40) ∷ (0x40, 1) ∷ (0x42, 0x03) ∷ (0x43, 0xce) ∷ (0x44, 0x03) ∷ (0x45, 0x81) ∷ []))
    ≡ head_with_list ++ line (codes "  cap 40 power version 3 d1 1 d2 1 pme 19 state 3 enable 1 status 1")
unfolding function_listing places_of each_from some_from
power_management = refl

msi_with_all_its_parts : function_listing (with_list ((0x34, 0xe8) ∷ (0xe8, 5) ∷ (0xea, 0xab) ∷ (0xeb, 1) ∷ (0xee, 0xe0) ∷ (0xef, 0xfe) ∷ (0xf0, 1) ∷ (0xf4, 0x41) ∷ (0xf5, 0x40) ∷ []))
    ≡ head_with_list ++ line (codes "  cap e8 msi on 1 capable 32 enabled 4 wide 1 mask 1 address 00000001fee00000 data 4041")
unfolding function_listing places_of each_from some_from
msi_with_all_its_parts = refl

msi_with_a_reserved_count : function_listing (with_list ((0x34, 0x40) ∷ (0x40, 5) ∷ (0x42, 0x0c) ∷ []))
    ≡ head_with_list ++ line (codes "  cap 40 msi on 0 capable reserved enabled 1 wide 0 mask 0 address 0000000000000000 data 0000")
unfolding function_listing places_of each_from some_from
msi_with_a_reserved_count = refl

raw_capabilities_along_the_list : function_listing (with_list ((0x34, 0x43) ∷ (0x40, 9) ∷ (0x41, 0x80) ∷ (0x80, 0x10) ∷ []))
    ≡ head_with_list ++ line (codes "  cap 40 raw 09") ++ line (codes "  cap 80 raw 10")
unfolding function_listing places_of each_from some_from
raw_capabilities_along_the_list = refl

functions_by_slot : listing (device (slot 0 1 0) 0 [] [] ∷ device (slot 1 0 0) 0 [] [] ∷ [])
    ≡ line (codes "00:01.0 type 0 vendor 1234 device 5678 class 000000 command 0000 status 0000")
    ++ line (codes "01:00.0 type 0 vendor 1234 device 5678 class 000000 command 0000 status 0000")
unfolding function_listing places_of each_from some_from
functions_by_slot = refl

nothing_to_list : listing [] ≡ []
nothing_to_list = refl

-- ---- fields beside bits that are not shown, and a full list

-- bits beside the fields are not shown
all_ones_of_power_management : function_listing (with_list ((0x34, 0x40) ∷ (0x40, 1) ∷ (0x42, 0xff) ∷ (0x43, 0xff) ∷ (0x44, 0xff) ∷ (0x45, 0xff) ∷ []))
    ≡ head_with_list ++ codes "  cap 40 power version 7 d1 1 d2 1 pme 1f state 3 enable 1 status 1" ++ 10 ∷ []
unfolding function_listing places_of each_from some_from
all_ones_of_power_management = refl

-- a bridge's windows come before its capabilities
bridge_with_a_list : function_listing (bridge (slot 0 1 0) 0 0x010100 ((0x04, 0x00100000) ∷ (0x20, 0xfff0) ∷ (0x34, 0x40) ∷ (0x40, 9) ∷ []) [])
    ≡ line (codes "00:01.0 type 1 vendor 1234 device 5678 class 000000 command 0000 status 0010")
    ++ line (codes "  bus 00 01 01") ++ line (codes "  window 1c io none") ++ line (codes "  window 20 mem closed") ++ line (codes "  window 24 pref none")
    ++ line (codes "  cap 40 raw 09")
unfolding function_listing places_of each_from some_from
bridge_with_a_list = refl

-- D1 alone, and the enable bit of PMCSR alone
one_bit_of_each : function_listing (with_list ((0x34, 0x40) ∷ (0x40, 1) ∷ (0x43, 0x02) ∷ (0x45, 0x01) ∷ []))
    ≡ head_with_list ++ line (codes "  cap 40 power version 0 d1 1 d2 0 pme 00 state 0 enable 1 status 0")
unfolding function_listing places_of each_from some_from
one_bit_of_each = refl

-- 64-bit addresses without masking, and masking without 64-bit addresses
wide_without_a_mask : function_listing (with_list ((0x34, 0x40) ∷ (0x40, 5) ∷ (0x42, 0x80) ∷ (0x47, 0xfe) ∷ (0x48, 0x01) ∷ (0x4c, 0x41) ∷ []))
    ≡ head_with_list ++ line (codes "  cap 40 msi on 0 capable 1 enabled 1 wide 1 mask 0 address 00000001fe000000 data 0041")
unfolding function_listing places_of each_from some_from
wide_without_a_mask = refl

mask_without_upper_addresses : function_listing (with_list ((0x34, 0x40) ∷ (0x40, 5) ∷ (0x42, 0x01) ∷ (0x43, 0x01) ∷ (0x47, 0xfe) ∷ (0x48, 0x43) ∷ (0x4c, 0x41) ∷ []))
    ≡ head_with_list ++ line (codes "  cap 40 msi on 1 capable 1 enabled 1 wide 0 mask 1 address 00000000fe000000 data 0043")
unfolding function_listing places_of each_from some_from
mask_without_upper_addresses = refl

bit_4_of_message_control_is_not_of_the_capable_count : function_listing (with_list ((0x34, 0x40) ∷ (0x40, 5) ∷ (0x42, 0x10) ∷ []))
    ≡ head_with_list ++ codes "  cap 40 msi on 0 capable 1 enabled 2 wide 0 mask 0 address 0000000000000000 data 0000" ++ 10 ∷ []
unfolding function_listing places_of each_from some_from
bit_4_of_message_control_is_not_of_the_capable_count = refl

abbrev longest : List ℕ
longest = put_bytes (map (λ n. (65 + 4 * n, 68 + 4 * n)) (range_with_len 0 47)) (put_bytes ((0x06, 0x10) ∷ (0x34, 0x40) ∷ []) (blank 0 0))

all_48_places_are_listed : places_of longest ≡ map (λ n. 64 + 4 * n) (range_with_len 0 48)
unfolding places_of
all_48_places_are_listed = refl

-- ---- decimal numbers

one_or_two_digits : map decimal_text (0 ∷ 9 ∷ 10 ∷ 32 ∷ 99 ∷ []) ≡ codes "0" ∷ codes "9" ∷ codes "10" ∷ codes "32" ∷ codes "99" ∷ []
one_or_two_digits = refl

-- a reserved type has no name, and would be of memory
reserved_kind : map kind_name (IoBar ∷ Memory32 ∷ Memory64 ∷ Reserved ∷ []) ≡ codes "io" ∷ codes "mem32" ∷ codes "mem64" ∷ [] ∷ []
reserved_kind = refl

spaces_of_kinds : map kind_space (IoBar ∷ Memory32 ∷ Memory64 ∷ Reserved ∷ []) ≡ Io ∷ Memory ∷ Memory ∷ Memory ∷ []
spaces_of_kinds = refl

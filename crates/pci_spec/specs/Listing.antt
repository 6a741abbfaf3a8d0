-- How a decoded function is listed: its header, BARs, ROM, windows and capabilities, a line each.
use Rattle.std.specs.Prelude.{ℕ, ◌+◌, ◌*◌, ◌/◌, ◌%◌, ◌^◌, ◌==◌, nat_lt, Bool, true, false, not, if◌then◌else◌, List, [], ◌∷◌, ◌++◌, map, codes, Option, None, Some}
use Rattle.std.specs.List.{flat_map, range_with_len, take_while}
use Rattle.pci_spec.specs.Number.{number_at, has_bit}
use Rattle.pci_spec.specs.Slot.{Slot}
use Rattle.pci_spec.specs.Header.{vendor_id, device_id, class_code, command, status, layout}
use Rattle.pci_spec.specs.Bar.{BarKind, IoBar, Memory32, Memory64, Reserved}
use Rattle.pci_spec.specs.Window.{WindowKind, IoWindow, MemoryWindow, PrefetchWindow, window_register}
use Rattle.pci_spec.specs.Capability.{pointer, POWER_MANAGEMENT, MSI, capability_id, message_control}
use Rattle.pci_spec.specs.Text.{hex_byte, slot_text}
use Rattle.pci_spec.specs.System.{Space, Io, Memory, Function, System, window_space}
use Rattle.pci_spec.specs.Line.{hex_number, address_text, window_name}
use Rattle.pci_spec.specs.Decoded.{Range, DecodedBar, DecodedRom, DecodedWindow, Bridge, decoded_bars, decoded_rom, bridge_of}

-- words, each behind a space, and the line's end
abbrev pub words : List (List ℕ) → List ℕ
words [] = 10 ∷ []
words (word ∷ rest) = (32 ∷ word) ++ words rest

-- all lines but a function's first begin with two spaces
abbrev pub inner_line : List (List ℕ) → List ℕ
inner_line line = 32 ∷ words line

-- a number below 100 in decimal, without leading zeros
abbrev pub decimal_text : ℕ → List ℕ
decimal_text n = if nat_lt n 10 then (48 + n) ∷ [] else (48 + n / 10) ∷ (48 + n % 10) ∷ []

-- bit i of a number, as 0 or 1
abbrev pub flag_text : ℕ → ℕ → List ℕ
flag_text n i = if has_bit n i then codes "1" else codes "0"

-- first and last address, in 8 digits in I/O space and 16 in memory space
abbrev pub range_text : Space → Range → List ℕ
range_text space r = address_text space r.first ++ (45 ∷ address_text space r.last)

-- ---- the header

abbrev pub header_line : Slot → List ℕ → List ℕ
header_line slot image =
    slot_text slot ++ words (
    codes "type" ∷ decimal_text (layout image)
    ∷ codes "vendor" ∷ hex_number 4 (vendor_id image) ∷ codes "device"
    ∷ hex_number 4 (device_id image)
    ∷ codes "class" ∷ hex_number 6 (class_code image)
    ∷ codes "command" ∷ hex_number 4 (command image) ∷ codes "status" ∷ hex_number 4 (status image)
    ∷ [])

-- ---- BARs and ROM

abbrev pub kind_name : BarKind → List ℕ
kind_name IoBar = codes "io"
kind_name Memory32 = codes "mem32"
kind_name Memory64 = codes "mem64"
kind_name Reserved = []

abbrev pub kind_text : BarKind → Bool → List ℕ
kind_text kind true = kind_name kind ++ codes " pref"
kind_text kind false = kind_name kind

abbrev pub kind_space : BarKind → Space
kind_space IoBar = Io
kind_space Memory32 = Memory
kind_space Memory64 = Memory
kind_space Reserved = Memory

abbrev pub bar_line : DecodedBar → List ℕ
bar_line b =
    inner_line (codes "bar" ∷ hex_byte b.register ∷ kind_text b.kind b.prefetchable
    ∷ range_text (kind_space b.kind) b.range ∷ [])

abbrev pub on_text : Bool → List ℕ
on_text true = codes "on"
on_text false = codes "off"

abbrev pub rom_line : DecodedRom → List ℕ
rom_line rom =
    inner_line
    (codes "rom" ∷ hex_byte rom.register ∷ on_text rom.on ∷ range_text Memory rom.range ∷ [])

abbrev pub rom_lines : Option DecodedRom → List ℕ
rom_lines None = []
rom_lines (Some rom) = rom_line rom

-- ---- a bridge

abbrev pub bus_line : Bridge → List ℕ
bus_line b =
    inner_line
    (codes "bus" ∷ hex_byte b.primary ∷ hex_byte b.secondary ∷ hex_byte b.subordinate ∷ [])

abbrev pub open_text : Space → Option Range → List ℕ
open_text space None = codes "closed"
open_text space (Some range) = range_text space range

abbrev pub window_text : Space → Option DecodedWindow → List ℕ
window_text space None = codes "none"
window_text space (Some window) = open_text space window.range

abbrev pub window_line : WindowKind → Option DecodedWindow → List ℕ
window_line kind window =
    inner_line (codes "window" ∷ hex_byte (window_register kind) ∷ window_name kind
    ∷ window_text (window_space kind) window ∷ [])

abbrev pub bridge_lines : Bridge → List ℕ
bridge_lines b =
    bus_line b ++ (window_line IoWindow b.windows.io
    ++ (window_line MemoryWindow (Some b.windows.memory)
    ++ window_line PrefetchWindow b.windows.prefetch))

-- ---- capabilities

-- Power Management 1.2, 3.2.3 and 3.2.4: by PMC, two bytes behind the ID, and PMCSR, four bytes behind it
abbrev pub power_line : ℕ → ℕ → ℕ → List ℕ
power_line place capabilities control =
    inner_line (codes "cap" ∷ hex_byte place ∷ codes "power" ∷ codes "version"
    ∷ decimal_text (capabilities % 8)
    ∷ codes "d1" ∷ flag_text capabilities 9 ∷ codes "d2" ∷ flag_text capabilities 10 ∷ codes "pme"
    ∷ hex_byte (capabilities / 2 ^ 11)
    ∷ codes "state" ∷ decimal_text (control % 4) ∷ codes "enable" ∷ flag_text control 8
    ∷ codes "status" ∷ flag_text control 15 ∷ [])

-- how many vectors a code of three bits means; 6 and 7 are reserved
abbrev pub vectors_text : ℕ → List ℕ
vectors_text code = if nat_lt code 6 then decimal_text (2 ^ code) else codes "reserved"

-- PCI 3.0, 6.8.1: by Message Control, two bytes behind the ID, Message Address and Message Data
abbrev pub message_line : ℕ → ℕ → ℕ → ℕ → List ℕ
message_line place control address value =
    inner_line (codes "cap" ∷ hex_byte place ∷ codes "msi" ∷ codes "on" ∷ flag_text control 0
    ∷ codes "capable" ∷ vectors_text (control / 2 % 8) ∷ codes "enabled"
    ∷ vectors_text (control / 16 % 8)
    ∷ codes "wide" ∷ flag_text control 7 ∷ codes "mask" ∷ flag_text control 8
    ∷ codes "address" ∷ hex_number 16 address ∷ codes "data" ∷ hex_number 4 value ∷ [])

abbrev pub raw_line : ℕ → ℕ → List ℕ
raw_line place id = inner_line (codes "cap" ∷ hex_byte place ∷ codes "raw" ∷ hex_byte id ∷ [])

-- Message Address has an upper half where bit 7 of Message Control is set, and Message Data stands behind it
abbrev pub message_address : List ℕ → ℕ → ℕ
message_address image place =
    number_at image (place + 4) 4
    + (if has_bit (message_control image place) 7 then 2 ^ 32 * number_at image (place + 8) 4
    else 0)

abbrev pub message_value : List ℕ → ℕ → ℕ
message_value image place =
    number_at image (place + (if has_bit (message_control image place) 7 then 12 else 8)) 2

abbrev pub capability_line : List ℕ → ℕ → List ℕ
capability_line image place =
    if capability_id image place == POWER_MANAGEMENT
    then power_line place (number_at image (place + 2) 2) (number_at image (place + 4) 2)
    else if capability_id image place == MSI
    then message_line place (message_control image place) (message_address image place)
    (message_value image place)
    else raw_line place (capability_id image place)

-- the places of a list that ends: there are 48 at most
unfoldable pub places_of : List ℕ → List ℕ
places_of image = take_while (λ place. not (place == 0)) (map (pointer image) (range_with_len 0 48))

-- ---- a function and a system

-- the lines of a function; what its Command enables makes no difference
unfoldable pub function_listing : Function → List ℕ
function_listing f =
    header_line f.slot f.image
    ++ (flat_map bar_line (decoded_bars f.image f.probe) ++ (rom_lines (decoded_rom f.image f.probe)
    ++ ((if layout f.image == 1 then bridge_lines (bridge_of f.image f.probe) else [])
    ++ flat_map (capability_line f.image) (places_of f.image))))

abbrev pub listing : System → List ℕ
listing s = flat_map function_listing s

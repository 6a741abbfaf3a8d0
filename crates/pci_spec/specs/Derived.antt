-- Read backs that are derived from what a function's registers show and what Linux tells of them, with nothing written.
use Rattle.std.specs.Prelude.{ℕ, ◌+◌, ◌-◌, ◌*◌, ◌/◌, ◌%◌, ◌^◌, ◌==◌, nat_lt, Bool, true, false, ◌&&◌, if◌then◌else◌, List, map, Option, None, Some}
use Rattle.std.specs.List.{filter, range_with_len}
use Rattle.pci_spec.specs.Number.{has_bit}
use Rattle.pci_spec.specs.Registers.{IO_BASE, MEMORY_BASE, PREFETCHABLE_BASE, PREFETCHABLE_BASE_UPPER, PREFETCHABLE_LIMIT_UPPER}
use Rattle.pci_spec.specs.Header.{command, layout, bar_count, bar_register, rom_register, address_registers}
use Rattle.pci_spec.specs.Bar.{bar_at, starts_bar, is_io, is_wide, encodings}
use Rattle.pci_spec.specs.Rom.{rom_at}
use Rattle.pci_spec.specs.Window.{WindowKind, IoWindow, MemoryWindow, PrefetchWindow, Bounds, bounds_at, page_bits, upper_bits, is_zero, is_optional}
use Rattle.pci_spec.specs.Machine.{without_low, register_at}
use Rattle.pci_spec.specs.Resource.{ResourceLine, line_at, rom_line, is_of_register, address_count, tells_bar, tells_rom, rom_step}

-- what is derived for an address register
pub data Derived : Type 0 where
  -- a read back that follows from what is shown and told
  Known : (read_back : ℕ) → Derived
  -- of a ROM that is off, or a window that shows 0: a read back by habit
  Assumed : (read_back : ℕ) → Derived
  -- of a BAR, on or off, or a ROM that is on no size is told: the read back of the least size
  Untold : (read_back : ℕ) → Derived
  -- the register shows 0, and what is told isn't of it
  OtherSize : Derived

-- ---- BARs

-- whether register n is the lower half of a BAR of 64 bits, by what it shows
abbrev pub is_pair : List ℕ → ℕ → Bool
is_pair image n = is_wide (bar_at image n) && nat_lt (n + 1) (bar_count (layout image))

-- what the BAR at register n shows, and in how many bits
abbrev pub shown_bar : List ℕ → ℕ → ℕ
shown_bar image n =
    if is_pair image n then bar_at image n + 2 ^ 32 * bar_at image (n + 1) else bar_at image n

abbrev pub bar_width : List ℕ → ℕ → ℕ
bar_width image n = if is_pair image n then 64 else 32

-- whether Command enables the space that a BAR maps into
abbrev pub is_enabled : List ℕ → ℕ → Bool
is_enabled image value = has_bit (command image) (if is_io value then 0 else 1)

-- the read back of a BAR of so many addresses: ones from there upward, with the encoding that it shows
unfoldable pub bar_of_size : ℕ → ℕ → ℕ → ℕ
bar_of_size width value size =
    without_low (encodings value) (2 ^ width - size) + value % encodings value

-- Of a BAR, by its line, how many bits it has and what it shows; its least size is 16 addresses, and 4 of I/O. Whether the
-- BAR is on doesn't count: a size that is guessed for one that is off would become true once its address is written.
unfoldable pub derived_bar : ResourceLine → ℕ → ℕ → Derived
derived_bar line width value =
    if tells_bar line width value then Known (bar_of_size width value (address_count line))
    else if value == 0 then (if is_of_register line then OtherSize else Known 0)
    else Untold (bar_of_size width value (encodings value))

-- of the BAR at register n
abbrev pub bar_derived : List ℕ → List ResourceLine → ℕ → Derived
bar_derived image lines n =
    derived_bar (line_at lines n) (bar_width image n) (shown_bar image n)

-- ---- the ROM

-- the read back of a ROM of so many addresses: the ones of bits 31:11 from there upward
abbrev pub rom_of_size : ℕ → ℕ
rom_of_size size = without_low rom_step (2 ^ 32 - size)

-- Of a ROM, by its line, whether memory is enabled and what it shows; its least size is 2 KB.
unfoldable pub derived_rom : ResourceLine → Bool → ℕ → Derived
derived_rom line enabled value =
    if tells_rom line value then Known (rom_of_size (address_count line))
    else if value == 0 then Known 0
    else if has_bit value 0 && enabled then Untold (rom_of_size rom_step)
    else Assumed (rom_of_size rom_step)

abbrev pub rom_derived : List ℕ → List ResourceLine → Derived
rom_derived image lines =
    derived_rom (rom_line lines) (has_bit (command image) 1) (rom_at image image)

-- ---- windows

-- whether a window that may be absent shows 0
abbrev pub shows_none : WindowKind → List ℕ → Bool
shows_none kind image = is_optional kind && is_zero (bounds_at kind image)

-- the bit of Command that enables what passes a window
abbrev pub window_enable : WindowKind → ℕ
window_enable IoWindow = 0
window_enable MemoryWindow = 1
window_enable PrefetchWindow = 1

-- the low nibble of base and limit; a memory window's is 0
abbrev pub window_nibble : WindowKind → List ℕ → ℕ
window_nibble kind image = if is_optional kind then (bounds_at kind image).base % 16 else 0

-- ones in the page numbers, and in the upper halves where the nibble says that they are there
abbrev pub bounds_of_nibble : WindowKind → ℕ → Bounds
bounds_of_nibble kind n = record {
  base = page_bits kind + n;
  limit = page_bits kind + n;
  base_upper = if n == 0 then 0 else upper_bits kind;
  limit_upper = if n == 0 then 0 else upper_bits kind;
}

-- the read backs of a window: it is taken as absent where it shows 0
unfoldable pub window_read_back : WindowKind → List ℕ → Bounds
window_read_back kind image =
    if shows_none kind image
    then record { base = 0; limit = 0; base_upper = 0; limit_upper = 0 }
    else bounds_of_nibble kind (window_nibble kind image)

-- of a window's base and limit: taking it as absent is a habit where its space is enabled
abbrev pub window_derived : WindowKind → List ℕ → ℕ → Derived
window_derived kind image read_back =
    if shows_none kind image && has_bit (command image) (window_enable kind) then Assumed read_back
    else Known read_back

-- ---- the registers of a function, by their offsets

abbrev pub is_assumed : Derived → Bool
is_assumed (Known read_back) = false
is_assumed (Assumed read_back) = true
is_assumed (Untold read_back) = true
is_assumed OtherSize = false

-- the read back, or 0 where there is none
abbrev pub read_back_of : Derived → ℕ
read_back_of (Known read_back) = read_back
read_back_of (Assumed read_back) = read_back
read_back_of (Untold read_back) = read_back
read_back_of OtherSize = 0

-- the lower 32 bits, in which a BAR is named
abbrev pub lower_half : Derived → Derived
lower_half (Known read_back) = Known (read_back % 2 ^ 32)
lower_half (Assumed read_back) = Assumed (read_back % 2 ^ 32)
lower_half (Untold read_back) = Untold (read_back % 2 ^ 32)
lower_half OtherSize = OtherSize

-- of BAR register n: a BAR, or the upper half of the one before
unfoldable pub bar_register_derived : List ℕ → List ResourceLine → ℕ → Derived
bar_register_derived image lines n =
    if starts_bar image n then lower_half (bar_derived image lines n)
    else Known (read_back_of (bar_derived image lines (n - 1)) / 2 ^ 32)

-- of the register of a bridge's windows at an offset
unfoldable pub window_register_derived : List ℕ → ℕ → Derived
window_register_derived image offset =
    if offset == IO_BASE
    then window_derived IoWindow image
    ((window_read_back IoWindow image).base + 2 ^ 8 * (window_read_back IoWindow image).limit)
    else if offset == MEMORY_BASE
    then Known ((window_read_back MemoryWindow image).base + 2 ^ 16
    * (window_read_back MemoryWindow image).limit)
    else if offset == PREFETCHABLE_BASE
    then window_derived PrefetchWindow image ((window_read_back PrefetchWindow image).base + 2 ^ 16
    * (window_read_back PrefetchWindow image).limit)
    else if offset == PREFETCHABLE_BASE_UPPER
    then Known (window_read_back PrefetchWindow image).base_upper
    else if offset == PREFETCHABLE_LIMIT_UPPER
    then Known (window_read_back PrefetchWindow image).limit_upper
    else Known ((window_read_back IoWindow image).base_upper + 2 ^ 16
    * (window_read_back IoWindow image).limit_upper)

-- of the address register at an offset
unfoldable pub register_derived : List ℕ → List ResourceLine → ℕ → Derived
register_derived image lines offset =
    if nat_lt offset (bar_register (bar_count (layout image)))
    then bar_register_derived image lines ((offset - bar_register 0) / 4)
    else if offset == rom_register (layout image) then rom_derived image lines
    else window_register_derived image offset

-- the offsets of the address registers, which rise
abbrev pub register_offsets : List ℕ → List ℕ
register_offsets image = map (λ r. r.0) (address_registers (layout image))

-- ---- the probe of a function

-- the byte at an offset: one of the register that it lies in, or 0 outside the address registers
abbrev pub derived_byte : List ℕ → List ResourceLine → ℕ → Option (ℕ × ℕ) → ℕ
derived_byte image lines place None = 0
derived_byte image lines place (Some (register, width)) =
    read_back_of (register_derived image lines register) / 256 ^ (place - register) % 256

unfoldable pub derived_probe : List ℕ → List ResourceLine → List ℕ
derived_probe image lines =
    map (λ place. derived_byte image lines place (register_at (layout image) place))
    (range_with_len 0 256)

-- the registers whose read backs are assumed, by rising offset
unfoldable pub assumed_registers : List ℕ → List ResourceLine → List ℕ
assumed_registers image lines =
    filter (λ offset. is_assumed (register_derived image lines offset)) (register_offsets image)

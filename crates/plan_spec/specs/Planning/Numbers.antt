-- What the registers of a function have to hold when everything is placed, by the system as it stands before.
use Rattle.std.specs.Prelude.{◌≡◌, ℕ, zero, suc, ◌+◌, ◌*◌, ◌/◌, ◌%◌, ◌-◌, ◌^◌, ◌<◌, ◌==◌, Bool, ◌&&◌, ◌||◌, not, if◌then◌else◌, IsFalse, List}
use Rattle.std.specs.List.{list_any, Contains}
use Rattle.pci_spec.specs.Number.{byte_at, number_at, IsImage}
use Rattle.pci_spec.specs.Registers.{COMMAND, BASE_ADDRESS, EXPANSION_ROM, IO_BASE, MEMORY_BASE, PREFETCHABLE_BASE, PREFETCHABLE_BASE_UPPER, PREFETCHABLE_LIMIT_UPPER, IO_BASE_UPPER}
use Rattle.pci_spec.specs.Header.{command, layout, address_registers}
use Rattle.pci_spec.specs.Bar.{bar_at, starts_bar, has_bar}
use Rattle.pci_spec.specs.Rom.{rom_at, has_rom}
use Rattle.pci_spec.specs.Window.{WindowKind, IoWindow, MemoryWindow, PrefetchWindow, Bounds, bounds_at, has_window, bounds_for, closed_bounds}
use Rattle.pci_spec.specs.Fault.{is_in_address_register}
use Rattle.pci_spec.specs.System.{System, Function, Part, Bar, Rom, Window, bars_and_rom, is_bridge}
use Rattle.pci_spec.specs.Machine.{without_low}
use Rattle.plan_spec.specs.Plan.{Pools, class_of, is_io_part, has_behind}
use Rattle.plan_spec.specs.Place.{Item, part_item, window_item, place_of, nibble_of}
use Rattle.plan_spec.specs.Planning.Showing.{bar_value, rom_value}

abbrev pub item_of : System → Pools → Function → Part → Item
item_of s pools f (Bar n) = part_item f (Bar n)
item_of s pools f Rom = part_item f Rom
item_of s pools f (Window kind) = window_item s pools kind f

-- the place of a part
abbrev pub place_at : List ℕ → System → Pools → Function → Part → ℕ
place_at roots s pools f part =
    place_of roots s pools (class_of s pools f part) (item_of s pools f part)

-- ---- BARs and ROM

abbrev pub new_bar : List ℕ → System → Pools → Function → ℕ → ℕ
new_bar roots s pools f n = bar_value f.image f.probe n (place_at roots s pools f (Bar n))

-- the register that starts a BAR
abbrev pub lower_number : List ℕ → System → Pools → Function → ℕ → ℕ
lower_number roots s pools f n =
    if has_bar f.probe n then new_bar roots s pools f n % 2 ^ 32 else bar_at f.image n

-- Base Address register n: it starts a BAR, or is the upper half of the one before
abbrev pub bar_number : List ℕ → System → Pools → Function → ℕ → ℕ
bar_number roots s pools f zero = lower_number roots s pools f zero
bar_number roots s pools f (suc n) =
    if starts_bar f.probe (suc n) then lower_number roots s pools f (suc n)
    else new_bar roots s pools f n / 2 ^ 32

abbrev pub rom_number : List ℕ → System → Pools → Function → ℕ
rom_number roots s pools f =
    if has_rom f.image f.probe then rom_value f.image (place_at roots s pools f Rom)
    else rom_at f.image f.image

-- ---- windows

-- from the window's place on, or closed, or as they are where there is no window
abbrev pub new_bounds : List ℕ → System → Pools → Function → WindowKind → Bounds
new_bounds roots s pools b kind =
    if not (has_window kind b.probe) then bounds_at kind b.image
    else if has_behind s pools kind b
    then bounds_for kind (nibble_of kind b) (place_at roots s pools b (Window kind))
    (place_at roots s pools b (Window kind) + ((item_of s pools b (Window kind)).size - 1))
    else closed_bounds kind (nibble_of kind b)

-- ---- registers

abbrev pub device_number : List ℕ → System → Pools → Function → ℕ → ℕ
device_number roots s pools f offset =
    if offset == EXPANSION_ROM then rom_number roots s pools f
    else bar_number roots s pools f ((offset - BASE_ADDRESS) / 4)

abbrev pub bridge_number : List ℕ → System → Pools → Function → ℕ → ℕ
bridge_number roots s pools b offset =
    if offset == BASE_ADDRESS then bar_number roots s pools b 0
    else if offset == BASE_ADDRESS + 4 then bar_number roots s pools b 1
    else if offset == IO_BASE
    then (new_bounds roots s pools b IoWindow).base + 2 ^ 8
    * (new_bounds roots s pools b IoWindow).limit
    else if offset == MEMORY_BASE
    then (new_bounds roots s pools b MemoryWindow).base + 2 ^ 16
    * (new_bounds roots s pools b MemoryWindow).limit
    else if offset == PREFETCHABLE_BASE
    then (new_bounds roots s pools b PrefetchWindow).base + 2 ^ 16
    * (new_bounds roots s pools b PrefetchWindow).limit
    else if offset == PREFETCHABLE_BASE_UPPER
    then (new_bounds roots s pools b PrefetchWindow).base_upper
    else if offset == PREFETCHABLE_LIMIT_UPPER
    then (new_bounds roots s pools b PrefetchWindow).limit_upper
    else if offset == IO_BASE_UPPER
    then (new_bounds roots s pools b IoWindow).base_upper + 2 ^ 16
    * (new_bounds roots s pools b IoWindow).limit_upper
    else rom_number roots s pools b

-- the number of an address register, by its offset
abbrev pub new_number : List ℕ → System → Pools → Function → ℕ × ℕ → ℕ
new_number roots s pools f r =
    if is_bridge f then bridge_number roots s pools f r.0 else device_number roots s pools f r.0

-- there is something to decode in I/O space, and in memory space
abbrev pub needs_io : System → Pools → Function → Bool
needs_io s pools f =
    list_any (is_io_part f) (bars_and_rom f)
    || (is_bridge f && has_window IoWindow f.probe && has_behind s pools IoWindow f)

abbrev pub needs_memory : System → Pools → Function → Bool
needs_memory s pools f =
    list_any (λ part. not (is_io_part f part)) (bars_and_rom f)
    || (is_bridge f && has_window MemoryWindow f.probe && has_behind s pools MemoryWindow f)
    || (is_bridge f && has_window PrefetchWindow f.probe && has_behind s pools PrefetchWindow f)

-- Command with its bits 0 and 1 as there is something to decode
abbrev pub new_command : System → Pools → Function → ℕ
new_command s pools f =
    without_low 4 (command f.image) + (if needs_io s pools f then 1 else 0)
    + (if needs_memory s pools f then 2 else 0)

-- The function g is f with these numbers in its address registers and this Command, and all else as it was.
pub record IsFilled (value : ℕ × ℕ → ℕ) (new_command : ℕ) (f g : Function) : Type 0 where
  pub slot : g.slot ≡ f.slot
  pub probe : g.probe ≡ f.probe
  pub image : IsImage g.image
  pub registers : (r : ℕ × ℕ) → Contains (address_registers (layout f.image)) r
      → number_at g.image r.0 r.1 ≡ value r
  pub command_is : command g.image ≡ new_command
  pub others : (offset : ℕ) → offset < 256
      → IsFalse (is_in_address_register (layout f.image) offset)
      → IsFalse (offset == COMMAND || offset == COMMAND + 1)
      → byte_at g.image offset ≡ byte_at f.image offset

-- the function with everything placed
abbrev pub IsPlannedFunction : List ℕ → System → Pools → Function → Function → Type 0
IsPlannedFunction roots s pools f g =
    IsFilled (new_number roots s pools f) (new_command s pools f) f g

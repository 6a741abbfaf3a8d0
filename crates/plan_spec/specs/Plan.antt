-- Placing BARs, ROMs and windows in pools of addresses (Bridge 1.2, chapter 4: 4 KB of I/O and 1 MB of memory a page).
use Rattle.std.specs.Prelude.{◌≡◌, ℕ, zero, suc, ◌+◌, ◌*◌, ◌/◌, ◌-◌, ◌^◌, ◌<◌, min, max, ◌==◌, nat_lt, nat_le, Bool, true, false, ◌&&◌, ◌||◌, not, if◌then◌else◌, IsTrue, IsFalse, List, [], ◌∷◌, ◌++◌, map}
use Rattle.std.specs.List.{list_any, list_all, filter, fold, flat_map, sum, Contains, AllZip}
use Rattle.std.specs.Int.{bit_at}
use Rattle.pci_spec.specs.Number.{byte_at, has_bit, IsImage}
use Rattle.pci_spec.specs.Slot.{Slot}
use Rattle.pci_spec.specs.Registers.{COMMAND}
use Rattle.pci_spec.specs.Header.{command}
use Rattle.pci_spec.specs.Bar.{bar_at, is_io, is_wide, is_prefetchable}
use Rattle.pci_spec.specs.Window.{WindowKind, IoWindow, MemoryWindow, PrefetchWindow, page_size, has_window, is_wide_window, is_closed}
use Rattle.pci_spec.specs.Decoded.{Range, InRange, bar_size, rom_size}
use Rattle.pci_spec.specs.System.{System, Function, Space, Io, Memory, Part, Bar, Rom, Window, has_part, bars_and_rom, is_window, Decodes, is_bridge}
use Rattle.pci_spec.specs.Bus.{secondary, is_behind}
use Rattle.pci_spec.specs.Fault.{Fault}
use Rattle.pci_spec.specs.Machine.{in_fields, address_fields}

-- the addresses that each class of regions is placed in
pub record Pools : Type 0 where
  pub io : Range
  pub memory : Range
  pub prefetch : Range

abbrev pub pool_of : Pools → WindowKind → Range
pool_of pools IoWindow = pools.io
pool_of pools MemoryWindow = pools.memory
pool_of pools PrefetchWindow = pools.prefetch

abbrev pub is_backward : Range → Bool
is_backward pool = nat_lt pool.last pool.first

-- whether pools are refused: one is backward or too high, or a memory address is in two
abbrev pub are_bad : Pools → Bool
are_bad pools =
    is_backward pools.io || is_backward pools.memory || is_backward pools.prefetch
    || nat_lt 0xffff pools.io.last || nat_lt 0xffff_ffff pools.memory.last
    || (nat_le pools.memory.first pools.prefetch.last
    && nat_le pools.prefetch.first pools.memory.last)

-- the bridges between a root and a bus
abbrev pub bridges_above : System → ℕ → List Function
bridges_above s bus = filter (λ b. is_bridge b && is_behind b bus) s

-- whether all prefetchable windows above a BAR are there, and wide enough for the addresses of the pool
abbrev pub is_served : System → Pools → Function → ℕ → Bool
is_served s pools f n =
    if nat_le pools.prefetch.last 0xffff_ffff
    then list_all (λ b. has_window PrefetchWindow b.probe) (bridges_above s f.slot.bus)
    else is_wide (bar_at f.probe n)
    && list_all (λ b. is_wide_window PrefetchWindow b.probe) (bridges_above s f.slot.bus)

-- the class that a part is placed in: that of the windows that lead to it
abbrev pub class_of : System → Pools → Function → Part → WindowKind
class_of s pools f (Bar n) =
    if is_io (bar_at f.probe n) then IoWindow
    else if is_prefetchable (bar_at f.probe n) && is_served s pools f n then PrefetchWindow
    else MemoryWindow
class_of s pools f Rom = MemoryWindow
class_of s pools f (Window kind) = kind

abbrev pub same_class : WindowKind → WindowKind → Bool
same_class IoWindow IoWindow = true
same_class MemoryWindow MemoryWindow = true
same_class PrefetchWindow PrefetchWindow = true
same_class c d = false

-- how many addresses a BAR or ROM has
abbrev pub size_of : Function → Part → ℕ
size_of f (Bar n) = bar_size f.probe n
size_of f Rom = rom_size f.image f.probe
size_of f (Window kind) = 0

-- the sizes of a function's BARs and ROM of a class
abbrev pub sizes_in : System → Pools → WindowKind → Function → List ℕ
sizes_in s pools c f =
    map (size_of f) (filter (λ part. same_class c (class_of s pools f part)) (bars_and_rom f))

-- twice as much, as often as it takes to reach n
unfoldable pub doubled_to : ℕ → ℕ → ℕ → ℕ
doubled_to n zero size = size
doubled_to n (suc times) size = if nat_le n size then size else doubled_to n times (2 * size)

-- the size of the window that need behind a bridge asks for: the least power of two that is no less than it, nor than a page
abbrev pub window_size : WindowKind → ℕ → ℕ
window_size c need = doubled_to need 66 (page_size c)

-- no pool holds so much
abbrev pub limited : ℕ → ℕ
limited n = min (2 ^ 65) n

-- the sizes of the BARs and ROM of a function, where it stands on a bus
abbrev pub own_sizes : System → Pools → WindowKind → ℕ → Function → List ℕ
own_sizes s pools c bus f = if f.slot.bus == bus then sizes_in s pools c f else []

-- the size of the window of a bridge with so much need behind it, where it stands on a bus: none without need
abbrev pub window_over : WindowKind → ℕ → Function → ℕ → List ℕ
window_over c bus b need =
    if is_bridge b && b.slot.bus == bus && nat_lt 0 need then window_size c (limited need) ∷ []
    else []

-- The sizes of what stands on a bus: BARs and ROMs, and a window for each bridge with something behind it,
-- where at most `depth` buses are below one another.
unfoldable pub items_within : System → Pools → WindowKind → ℕ → ℕ → List ℕ
items_within s pools c zero bus = []
items_within s pools c (suc depth) bus =
    flat_map (own_sizes s pools c bus) s
    ++ flat_map (λ b. window_over c bus b (sum (items_within s pools c depth (secondary b)))) s

-- buses rise on the way down, so 256 of them are all
abbrev pub items_on : System → Pools → WindowKind → ℕ → List ℕ
items_on s pools c bus = items_within s pools c 256 bus

abbrev pub need_of : System → Pools → WindowKind → ℕ → ℕ
need_of s pools c bus = limited (sum (items_on s pools c bus))

abbrev pub greatest : List ℕ → ℕ
greatest sizes = fold max 0 sizes

-- the least multiple of a size from n on
abbrev pub raised_to : ℕ → ℕ → ℕ
raised_to size n = (n + size - 1) / size * size

-- what the root buses need together: their items are placed as those of one bus
abbrev pub need_of_roots : List ℕ → System → Pools → WindowKind → ℕ
need_of_roots roots s pools c = sum (map (need_of s pools c) roots)

abbrev pub greatest_of_roots : List ℕ → System → Pools → WindowKind → ℕ
greatest_of_roots roots s pools c = greatest (flat_map (items_on s pools c) roots)

-- whether what is of a class fits its pool
abbrev pub fits : List ℕ → System → Pools → WindowKind → Bool
fits roots s pools c =
    need_of_roots roots s pools c == 0
    || nat_le (raised_to (greatest_of_roots roots s pools c) (pool_of pools c).first
    + need_of_roots roots s pools c)
    ((pool_of pools c).last + 1)

-- what a class lacks that doesn't fit its pool
pub record Shortage : Type 0 where
  -- how many addresses it needs
  pub needed : ℕ
  -- the first address that they could have
  pub start : ℕ
  -- how many addresses the pool has from there on
  pub available : ℕ

abbrev pub shortage : List ℕ → System → Pools → WindowKind → Shortage
shortage roots s pools c =
    let start = raised_to (greatest_of_roots roots s pools c) (pool_of pools c).first in
    record {
      needed = need_of_roots roots s pools c;
      start = start;
      available = (pool_of pools c).last + 1 - start;
    }

-- whether a part is an I/O BAR
abbrev pub is_io_part : Function → Part → Bool
is_io_part f (Bar n) = is_io (bar_at f.probe n)
is_io_part f Rom = false
is_io_part f (Window kind) = false

-- an I/O BAR of the function at the slot is behind a bridge without an I/O window
abbrev pub LacksWindow : System → Slot → Type 0
LacksWindow s slot =
    (f : Function) × Contains s f × (f.slot ≡ slot)
    × IsTrue (list_any (is_io_part f) (bars_and_rom f))
    × IsTrue (list_any (λ b. not (has_window IoWindow b.probe)) (bridges_above s slot.bus))

-- a BAR or ROM of a class is behind a bridge
abbrev pub has_behind : System → Pools → WindowKind → Function → Bool
has_behind s pools c b =
    list_any (λ f. is_behind b f.slot.bus
    && list_any (λ part. same_class c (class_of s pools f part)) (bars_and_rom f)) s

-- a window of the bridge is open
abbrev pub is_open : Function → WindowKind → Bool
is_open b kind = is_bridge b && has_window kind b.probe && not (is_closed kind b.image)

-- whether a function has something to decode in a space
abbrev pub wants : Function → Space → Bool
wants f Io = list_any (λ part. is_io_part f part) (bars_and_rom f) || is_open f IoWindow
wants f Memory =
    list_any (λ part. not (is_io_part f part)) (bars_and_rom f) || is_open f MemoryWindow
    || is_open f PrefetchWindow

-- two images of a function differ at most in address bits and in the Command bits that enable a space
pub record IsMoved (old new : Function) : Type 0 where
  pub slot : new.slot ≡ old.slot
  pub probe : new.probe ≡ old.probe
  pub image : IsImage new.image
  pub same : (offset i : ℕ) → offset < 256 → i < 8
      → IsFalse (in_fields (address_fields old.image old.probe) offset i)
      → IsFalse (offset == COMMAND && nat_lt i 2)
      → bit_at (byte_at new.image offset) i ≡ bit_at (byte_at old.image offset) i

-- why nothing is planned
pub data PlanFault : Type 0 where
  BadPools : PlanFault
  -- an I/O BAR of the function at the slot is behind a bridge without an I/O window
  NoWindow : (slot : Slot) → PlanFault
  -- what is of the class doesn't fit its pool
  NoRoom : (class : WindowKind) → PlanFault
  -- the plan itself is judged, and refused
  NotAccepted : (fault : Fault) → PlanFault

abbrev pub plan_fault_number : PlanFault → ℕ
plan_fault_number BadPools = 70
plan_fault_number (NoWindow slot) = 71
plan_fault_number (NoRoom class) = 72
plan_fault_number (NotAccepted fault) = 73

-- The new system is the old one with everything placed and enabled.
pub record IsPlanned (old new : System) (pools : Pools) : Type 0 where
  pub moved : AllZip IsMoved old new
  -- each BAR and ROM is whole in the pool of its class
  pub placed : (f : Function) (part : Part) (a : ℕ) → Contains new f → IsTrue (has_part f part)
      → IsFalse (is_window part) → Decodes f part a
      → InRange (pool_of pools (class_of new pools f part)) a
  -- a window is open exactly where something of its class is behind it
  pub windows : (b : Function) (kind : WindowKind) → Contains new b → IsTrue (is_bridge b)
      → IsTrue (has_window kind b.probe)
      → is_open b kind ≡ has_behind new pools kind b
  -- Command enables exactly the spaces in which there is something to decode
  pub io : (f : Function) → Contains new f → has_bit (command f.image) 0 ≡ wants f Io
  pub memory : (f : Function) → Contains new f → has_bit (command f.image) 1 ≡ wants f Memory

-- Where the parts of a planned system lie, read off its registers.
use Rattle.std.specs.Prelude.{◌≡◌, ℕ, ◌+◌, ◌*◌, ◌-◌, ◌<◌, ◌≤◌, ◌⊎◌, nat_lt, Bool, ◌&&◌, IsTrue, IsFalse, List}
use Rattle.std.specs.List.{Contains}
use Rattle.pci_spec.specs.Number.{has_bit}
use Rattle.pci_spec.specs.Slot.{same_slot}
use Rattle.pci_spec.specs.Header.{command, layout, bar_count}
use Rattle.pci_spec.specs.Bar.{whole_bar, has_bar}
use Rattle.pci_spec.specs.Rom.{rom_at, has_rom}
use Rattle.pci_spec.specs.Window.{base_page, limit_page, page_size}
use Rattle.pci_spec.specs.Decoded.{Range, aligned_range, bar_size, rom_size}
use Rattle.pci_spec.specs.System.{System, Function, Io, Memory, Part, Bar, Rom, Window, register_of}
use Rattle.pci_spec.specs.Bus.{LeadsTo}
use Rattle.plan_spec.specs.Plan.{Pools, pool_of, class_of, is_open, wants}

-- the addresses of a BAR, a ROM or an open window
abbrev pub range_of : Function → Part → Range
range_of f (Bar n) = aligned_range (whole_bar f.probe f.image n) (bar_size f.probe n)
range_of f Rom = aligned_range (rom_at f.image f.image) (rom_size f.image f.probe)
range_of f (Window kind) =
    record {
      first = base_page kind f.image * page_size kind;
      last = limit_page kind f.image * page_size kind + (page_size kind - 1);
    }

-- whether a part has a place: an implemented BAR or ROM, or an open window
abbrev pub is_item : Function → Part → Bool
is_item f (Bar n) = nat_lt n (bar_count (layout f.image)) && has_bar f.probe n
is_item f Rom = has_rom f.image f.probe
is_item f (Window kind) = is_open f kind

abbrev pub IsInside : Range → Range → Type 0
IsInside inner outer = (outer.first ≤ inner.first) × (inner.last ≤ outer.last)

abbrev pub LieApart : Range → Range → Type 0
LieApart r q = (r.last < q.first) ⊎ (q.last < r.first)

-- on one bus, or both on roots
abbrev pub AreBeside : List ℕ → Function → Function → Type 0
AreBeside roots f g =
    (f.slot.bus ≡ g.slot.bus) ⊎ (Contains roots f.slot.bus × Contains roots g.slot.bus)

-- two regions, not one
abbrev pub AreTwo : Function → Part → Function → Part → Type 0
AreTwo f p g q = IsFalse (same_slot f.slot g.slot) ⊎ (register_of f p ≡ register_of g q → ⊥)

-- Everything has its place: in the pool on a root, in the window of its class behind a bridge, and apart from what is beside it.
pub record IsLaidOut (roots : List ℕ) (t : System) (pools : Pools) : Type 0 where
  pub pool : (f : Function) (p : Part) → Contains t f → IsTrue (is_item f p)
      → Contains roots f.slot.bus → IsInside (range_of f p) (pool_of pools (class_of t pools f p))
  pub window : (f c : Function) (p : Part) → Contains t f → IsTrue (is_item f p)
      → LeadsTo t c f.slot.bus
      → IsTrue (is_open c (class_of t pools f p))
      × IsInside (range_of f p) (range_of c (Window (class_of t pools f p)))
  pub apart : (f g : Function) (p q : Part) → Contains t f → Contains t g → IsTrue (is_item f p)
      → IsTrue (is_item g q) → AreBeside roots f g
      → class_of t pools f p ≡ class_of t pools g q → AreTwo f p g q
      → LieApart (range_of f p) (range_of g q)

-- Command enables exactly the spaces in which there is something to decode
pub record IsSwitchedOn (t : System) : Type 0 where
  pub io : (f : Function) → Contains t f → has_bit (command f.image) 0 ≡ wants f Io
  pub memory : (f : Function) → Contains t f → has_bit (command f.image) 1 ≡ wants f Memory

-- Which addresses a bridge passes, by its record.
use Rattle.std.specs.Prelude.{ℕ, ◌≤◌, nat_le, Bool, false, ◌&&◌, ◌||◌, Option, None, Some, IfSome}
use Rattle.pci_spec.specs.Window.{WindowKind, IoWindow, MemoryWindow, PrefetchWindow}
use Rattle.pci_spec.specs.System.{window_space}
use Rattle.pci_spec.specs.Decoded.{Range, DecodedWindow, DecodedWindows, Bridge, Record}
use Rattle.pci_base.specs.Space.{is_on}

-- whether there is a range, and it has the address
abbrev pub is_in : Option Range → ℕ → Bool
is_in None a = false
is_in (Some r) a = nat_le r.first a && nat_le a r.last

-- the range of a window that is there and open
abbrev pub range_in : Option DecodedWindow → Option Range
range_in None = None
range_in (Some w) = w.range

-- whether the windows pass an address of a kind of access: prefetchable memory goes through the window of other memory too
abbrev pub windows_pass : WindowKind → ℕ → DecodedWindows → Bool
windows_pass IoWindow a w = is_in (range_in w.io) a
windows_pass MemoryWindow a w = is_in w.memory.range a
windows_pass PrefetchWindow a w = is_in w.memory.range a || is_in (range_in w.prefetch) a

abbrev pub bridge_passes : WindowKind → ℕ → Option Bridge → Bool
bridge_passes kind a None = false
bridge_passes kind a (Some b) = windows_pass kind a b.windows

-- whether the record is of a bridge that passes an address of a kind of access
abbrev pub record_passes : WindowKind → ℕ → Record → Bool
record_passes kind a r = is_on r.command (window_space kind) && bridge_passes kind a r.bridge

-- the range isn't empty
abbrev pub IsSpan : Option Range → Type 0
IsSpan o = IfSome o (λ r. r.first ≤ r.last)

-- no open window is empty
pub record HaveSpans (w : DecodedWindows) : Type 0 where
  pub io : IsSpan (range_in w.io)
  pub memory : IsSpan w.memory.range
  pub prefetch : IsSpan (range_in w.prefetch)

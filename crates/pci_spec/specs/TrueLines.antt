-- What Linux tells of a function is true of what its registers really read back.
use Rattle.std.specs.Prelude.{◌≡◌, ℕ, nat_lt, ◌==◌, Bool, ◌&&◌, not, IsTrue, IsFalse, List}
use Rattle.pci_spec.specs.Header.{layout, bar_count}
use Rattle.pci_spec.specs.Bar.{starts_bar, has_bar}
use Rattle.pci_spec.specs.Rom.{rom_at, has_rom}
use Rattle.pci_spec.specs.Window.{WindowKind, has_window}
use Rattle.pci_spec.specs.Decoded.{bar_size, rom_size}
use Rattle.pci_spec.specs.Resource.{ResourceLine, line_at, rom_line, is_of_register, address_count, tells_bar, tells_rom}
use Rattle.pci_spec.specs.Derived.{shown_bar, bar_width, shows_none}
use Rattle.pci_spec.specs.ToldAlike.{enables_bar, enables_window}

-- register n starts a BAR, by what the image shows, and its line tells the size
abbrev pub is_told_bar : List ℕ → List ResourceLine → ℕ → Bool
is_told_bar image lines n =
    nat_lt n (bar_count (layout image)) && starts_bar image n
    && tells_bar (line_at lines n) (bar_width image n) (shown_bar image n)

-- register n is enabled, shows 0, and its line tells no addresses of a register
abbrev pub is_untold_bar : List ℕ → List ResourceLine → ℕ → Bool
is_untold_bar image lines n =
    enables_bar image n && shown_bar image n == 0 && not (is_of_register (line_at lines n))

-- a window's space is enabled, and the window shows 0
abbrev pub is_untold_window : WindowKind → List ℕ → Bool
is_untold_window kind image = enables_window kind image && shows_none kind image

pub record IsTrueOf (lines : List ResourceLine) (image probe : List ℕ) : Type 0 where
  -- a BAR or a ROM whose size is told is there, with that size
  pub bars : (n : ℕ) → IsTrue (is_told_bar image lines n)
      → IsTrue (has_bar probe n) × (bar_size probe n ≡ address_count (line_at lines n))
  pub rom : IsTrue (tells_rom (rom_line lines) (rom_at image image))
      → IsTrue (has_rom image probe) × (rom_size image probe ≡ address_count (rom_line lines))
  -- a BAR or a window that is enabled, shows 0 and isn't told isn't there
  pub no_bars : (n : ℕ) → IsTrue (is_untold_bar image lines n) → IsFalse (has_bar probe n)
  pub no_windows : (kind : WindowKind) → IsTrue (is_untold_window kind image)
      → IsFalse (has_window kind probe)

-- Two probes of a function of which the same is told: of all that is enabled they show the same sizes.
-- What isn't enabled may read back anything that goes with what its registers show.
use Rattle.std.specs.Prelude.{◌≡◌, ◌≤◌, ℕ, ◌==◌, nat_lt, Bool, ◌&&◌, IsTrue, IsFalse, List}
use Rattle.pci_spec.specs.Number.{has_bit}
use Rattle.pci_spec.specs.Header.{command, layout, bar_count}
use Rattle.pci_spec.specs.Bar.{bar_at, starts_bar, has_bar}
use Rattle.pci_spec.specs.Rom.{rom_is_on}
use Rattle.pci_spec.specs.Window.{WindowKind, has_window}
use Rattle.pci_spec.specs.System.{Function}
use Rattle.pci_spec.specs.Fault.{is_stray}
use Rattle.pci_spec.specs.Decoded.{IsDecodable, bar_size, rom_size}
use Rattle.pci_spec.specs.Derived.{is_enabled, window_enable}

-- by what an image shows, register n starts a BAR, and Command enables the space that it maps into
abbrev pub enables_bar : List ℕ → ℕ → Bool
enables_bar image n =
    nat_lt n (bar_count (layout image)) && starts_bar image n && is_enabled image (bar_at image n)

-- Command enables memory, and the ROM's own bit enables the ROM
abbrev pub enables_rom : List ℕ → Bool
enables_rom image = has_bit (command image) 1 && rom_is_on image

-- the header is a bridge's, and Command enables the space that the window forwards
abbrev pub enables_window : WindowKind → List ℕ → Bool
enables_window kind image = layout image == 1 && has_bit (command image) (window_enable kind)

-- one function with two probes, of which the same is told
pub record IsToldAlike (f g : Function) : Type 0 where
  pub slot : f.slot ≡ g.slot
  pub image : f.image ≡ g.image
  -- both have an enabled BAR or neither has it,
  pub bars : (n : ℕ) → IsTrue (enables_bar f.image n) → has_bar f.probe n ≡ has_bar g.probe n
  -- of the same size
  pub bar_sizes : (n : ℕ) → IsTrue (enables_bar f.image n) → IsTrue (has_bar f.probe n)
      → bar_size f.probe n ≡ bar_size g.probe n
  pub rom : IsTrue (enables_rom f.image) → rom_size f.image f.probe ≡ rom_size g.image g.probe
  -- both have a window whose space is enabled, or neither has it
  pub windows : (kind : WindowKind) → IsTrue (enables_window kind f.image)
      → has_window kind f.probe ≡ has_window kind g.probe

-- one function with two probes: of what is enabled the second tells all that the first tells, of sizes no less
pub record IsToldAtLeast (f g : Function) : Type 0 where
  pub slot : f.slot ≡ g.slot
  pub image : f.image ≡ g.image
  pub bars : (n : ℕ) → IsTrue (enables_bar f.image n) → has_bar f.probe n ≡ has_bar g.probe n
  pub bar_sizes : (n : ℕ) → IsTrue (enables_bar f.image n) → IsTrue (has_bar f.probe n)
      → bar_size f.probe n ≤ bar_size g.probe n
  pub rom : IsTrue (enables_rom f.image) → rom_size f.image f.probe ≤ rom_size g.image g.probe
  pub windows : (kind : WindowKind) → IsTrue (enables_window kind f.image)
      → has_window kind f.probe ≡ has_window kind g.probe

-- image and probe of a function go together, and the probe shows address registers alone
pub record IsReadable (f : Function) : Type 0 where
  pub decodable : IsDecodable f
  pub clean : (offset : ℕ) → IsFalse (is_stray f.image f.probe offset)

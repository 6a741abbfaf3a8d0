-- The windows above a bus.
use Rattle.std.specs.Prelude.{◌≡◌, ℕ, Bool, false, List, Option, None, Some, slice_index_or}
use Rattle.std.specs.List.{list_all, Contains}
use Rattle.pci_spec.specs.Window.{IoWindow, PrefetchWindow, has_window, is_wide_window}
use Rattle.pci_spec.specs.System.{System, Function, system_of}
use Rattle.pci_spec.specs.Decoded.{DecodedWindow}
use Rattle.plan_spec.specs.Plan.{bridges_above}
use Rattle.pci_tree.specs.Admission.{Admission}
use Rattle.pci_place.specs.declared.above.Above.{Above}

-- the system that is planned for
abbrev pub system_in : Admission → System
system_in a = system_of a.dump a.probe

-- whether a window is there and has upper halves
abbrev pub is_wide_in : Option DecodedWindow → Bool
is_wide_in None = false
is_wide_in (Some window) = window.wide

-- what the bridges between the host and a bus have
pub record IsAbove (s : System) (bus : ℕ) (above : Above) : Type 0 where
  pub io : above.io ≡ list_all (λ b. has_window IoWindow b.probe) (bridges_above s bus)
  pub pref : above.pref ≡ list_all (λ b. has_window PrefetchWindow b.probe) (bridges_above s bus)
  pub wide : above.wide
      ≡ list_all (λ b. is_wide_window PrefetchWindow b.probe) (bridges_above s bus)

-- the table has it for each bus with a function on it
abbrev pub AreAboves : System → List Above → Type 0
AreAboves s aboves =
    (f : Function) (d : Above) → Contains s f
    → IsAbove s f.slot.bus (slice_index_or aboves f.slot.bus d)

-- Windows in which room is kept free, as a table by function tells them.
use Rattle.std.specs.Prelude.{◌≡◌, ℕ, IsTrue, IsFalse, List, Option, None, Some, slice_get, slice_index_or}
use Rattle.std.specs.List.{Contains}
use Rattle.std.specs.Option.{option_map}
use Rattle.pci_spec.specs.Window.{WindowKind}
use Rattle.pci_spec.specs.System.{System, Function, Part, has_part, is_window}
use Rattle.settle_spec.specs.Stands.{window_part}
use Rattle.settle_spec.specs.Kept.{Kept as Keeping}
use Rattle.pci_base.specs.declared.range.Range.{Range}
use Rattle.pci_base.specs.declared.window_kind.ByKind.{ByKind}
use Rattle.pci_base.specs.Ranges.{decoded_range_of}
use Rattle.pci_first_fit.specs.Keeping.{told_of_kind}
use Rattle.pci_first_fit.specs.Tables.{untold}

-- their addresses, and nothing of a window that shows its place
pub record TellsWishes (s : System) (keep : Keeping) (wished : List (ByKind (Option Range))) : Type 0 where
  pub each : (n : ℕ) (f : Function) (c : WindowKind) → slice_get s n ≡ Some f
      → keep.wished (window_part c f)
      ≡ option_map decoded_range_of (told_of_kind (slice_index_or wished n untold) c)
  -- it is of windows alone
  pub others : (f : Function) (p : Part) → Contains s f → IsTrue (has_part f p) → IsFalse (is_window p)
      → keep.wished record { function = f; part = p } ≡ None

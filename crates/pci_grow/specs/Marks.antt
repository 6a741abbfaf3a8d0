-- Windows of which a table tells something, as marks of parts that keep their places.
use Rattle.std.specs.Prelude.{◌≡◌, ℕ, Bool, false, ◌||◌, if◌then◌else◌, List, [], ◌∷◌, length, Option, None, slice_index_or}
use Rattle.std.specs.Option.{is_some}
use Rattle.pci_spec.specs.System.{Part, Bar, Rom, Window}
use Rattle.pci_base.specs.declared.range.Range.{Range}
use Rattle.pci_base.specs.declared.window_kind.WindowKind.{WindowKind}
use Rattle.pci_base.specs.declared.window_kind.ByKind.{ByKind}
use Rattle.pci_base.specs.WindowKinds.{kind_value}
use Rattle.pci_first_fit.specs.declared.kept.Kept.{Kept}
use Rattle.pci_first_fit.specs.Kept.{kept_of, nothing_kept}
use Rattle.pci_first_fit.specs.Tables.{told}

-- the windows of a function of which something is told, and nothing else
abbrev pub marks_of : ByKind (Option Range) → Kept
marks_of ranges = record {
  bars = false ∷ false ∷ false ∷ false ∷ false ∷ false ∷ [];
  rom = false;
  windows = record {
    io = is_some ranges.io;
    memory = is_some ranges.memory;
    prefetchable = is_some ranges.prefetchable;
  };
}

-- whether a window is marked; nothing else counts
abbrev pub is_window_kept : Kept → Part → Bool
is_window_kept t (Bar n) = false
is_window_kept t Rom = false
is_window_kept t (Window c) = kept_of t (Window c)

-- a table keeps what it kept, and the windows that another one keeps
pub record AreKeptToo (old others new : List Kept) : Type 0 where
  pub count : length new ≡ length old
  pub each : (k : ℕ) (part : Part)
      → kept_of (slice_index_or new k nothing_kept) part
      ≡ (kept_of (slice_index_or old k nothing_kept) part
      || is_window_kept (slice_index_or others k nothing_kept) part)

-- a table tells what it told of the windows that another one keeps, and nothing of the rest
pub record AreLeftToldOf (marks : List Kept) (old new : List (ByKind (Option Range))) : Type 0 where
  pub count : length new ≡ length old
  pub each : (k : ℕ) (class : WindowKind)
      → told new k class
      ≡ (if kept_of (slice_index_or marks k nothing_kept) (Window (kind_value class)) then told old k class else None)

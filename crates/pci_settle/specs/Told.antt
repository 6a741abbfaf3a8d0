-- What a table by function tells of parts.
use Rattle.std.specs.Prelude.{◌≡◌, ℕ, Bool, IsTrue, List, Option, Some, length, slice_get, slice_index_or}
use Rattle.pci_spec.specs.System.{System, Function, Part, has_part}
use Rattle.settle_spec.specs.Lists.{Request}
use Rattle.settle_spec.specs.Parts.{FunctionPart}
use Rattle.settle_spec.specs.Stands.{stands}
use Rattle.settle_spec.specs.Kept.{Kept as Keeping}
use Rattle.pci_base.specs.declared.range.Range.{Range}
use Rattle.pci_base.specs.declared.window_kind.ByKind.{ByKind}
use Rattle.pci_first_fit.specs.declared.kept.Kept.{Kept}
use Rattle.pci_first_fit.specs.Kept.{kept_of}
use Rattle.pci_first_fit.specs.Keeping.{AreKeptRanges}

-- for each part of each function, in slot order, what a test says
pub record IsTableOf (s : System) (test : FunctionPart → Bool) (table : List Kept) : Type 0 where
  pub count : length table ≡ length s
  pub each : (k : ℕ) (f : Function) (d : Kept) (part : Part) → slice_get s k ≡ Some f
      → IsTrue (has_part f part)
      → kept_of (slice_index_or table k d) part ≡ test record { function = f; part = part }

-- what is kept, as tables by function tell it: which parts stay, and to what windows grow
pub record TellsKeeping (q : Request) (s : System) (keep : Keeping) (grown : List (ByKind (Option Range)))
    (staying : List Kept) : Type 0 where
  pub standing : (r : FunctionPart) → IsTrue (keep.stays r) → IsTrue (stands q s r)
  pub stays_are : IsTableOf s keep.stays staying
  pub ranges_are : AreKeptRanges s keep grown

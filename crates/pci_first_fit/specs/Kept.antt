-- Which parts of functions keep their places, as tables of the code have it.
use Rattle.std.specs.Prelude.{◌≡◌, ℕ, ◌<◌, Bool, false, IsTrue, List, [], Some, slice_get, slice_index_or}
use Rattle.std.specs.List.{All}
use Rattle.pci_spec.specs.Window.{IoWindow, MemoryWindow, PrefetchWindow}
use Rattle.pci_spec.specs.System.{System, Function, Part, Bar, Rom, Window, has_part}
use Rattle.settle_spec.specs.Parts.{FunctionPart}
use Rattle.pci_base.specs.WindowKinds.{kind_value}
use Rattle.pci_first_fit.specs.declared.kept.Kept.{Kept}
use Rattle.pci_first_fit.specs.declared.kept.Part.{Part as CodePart}
use Rattle.pci_first_fit.specs.declared.kept.Part.TheVariants as parts

abbrev pub spec_part : CodePart → Part
spec_part (parts.Bar n) = Bar n
spec_part parts.Rom = Rom
spec_part (parts.Window kind) = Window (kind_value kind)

-- a header has six Base Address registers at most
abbrev pub IsCodePart : CodePart → Type 0
IsCodePart (parts.Bar n) = n < 6
IsCodePart parts.Rom = Unit {0}
IsCodePart (parts.Window kind) = Unit {0}

-- whether a part keeps its place
abbrev pub kept_of : Kept → Part → Bool
kept_of t (Bar n) = slice_index_or t.bars n false
kept_of t Rom = t.rom
kept_of t (Window IoWindow) = t.windows.io
kept_of t (Window MemoryWindow) = t.windows.memory
kept_of t (Window PrefetchWindow) = t.windows.prefetchable

-- nothing does
abbrev pub AreNone : List Kept → Type 0
AreNone table = All (λ t. (part : Part) → kept_of t part ≡ false) table

abbrev pub nothing_kept : Kept
nothing_kept = record {
  bars = [];
  rom = false;
  windows = record { io = false; memory = false; prefetchable = false };
}

-- a table by function in slot order has what a test tells of each part; a function without an entry keeps nothing
abbrev pub AreKeptParts : System → (FunctionPart → Bool) → List Kept → Type 0
AreKeptParts s keeps table =
    (k : ℕ) (f : Function) (part : Part) → slice_get s k ≡ Some f → IsTrue (has_part f part)
    → kept_of (slice_index_or table k nothing_kept) part ≡ keeps record { function = f; part = part }

-- Whether two tables tell the same of what stays of a function.
use Rattle.std.specs.Prelude.{ℕ, Bool, ◌&&◌, ◌||◌, not, if◌then◌else◌, IsTrue}
use Rattle.std.specs.Bool.{beq}
use Rattle.std.specs.List.{list_all, range_with_len}
use Rattle.pci_spec.specs.Window.{IoWindow, MemoryWindow, PrefetchWindow}
use Rattle.pci_spec.specs.System.{System, Part, Bar, Rom, Window}
use Rattle.settle_spec.specs.Lists.{Request}
use Rattle.settle_spec.specs.Parts.{FunctionPart, is_part}
use Rattle.pci_first_fit.specs.declared.kept.Kept.{Kept}
use Rattle.pci_first_fit.specs.Kept.{kept_of}

abbrev pub told_alike : Kept → Kept → Part → Bool
told_alike one other part = beq (kept_of one part) (kept_of other part)

abbrev pub bars_alike : ℕ → Kept → Kept → Bool
bars_alike count one other = list_all (λ n. told_alike one other (Bar n)) (range_with_len 0 count)

abbrev pub windows_alike : Kept → Kept → Bool
windows_alike one other =
    told_alike one other (Window IoWindow)
    && (told_alike one other (Window MemoryWindow) && told_alike one other (Window PrefetchWindow))

-- a device has no windows
abbrev pub parts_alike : Bool → Kept → Kept → Bool
parts_alike is_bridge one other =
    bars_alike (if is_bridge then 2 else 6) one other
    && ((not is_bridge || windows_alike one other) && told_alike one other Rom)

-- only parts pass a test
abbrev pub PassesPartsOnly : Request → System → (FunctionPart → Bool) → Type 0
PassesPartsOnly q s test =
    (r : FunctionPart) → IsTrue (test r) → IsTrue (is_part q s r.function r.part)

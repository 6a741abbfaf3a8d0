-- The phases whose faults are those of one function by itself.
use Rattle.std.specs.Prelude.{◌≡◌, ℕ, List, ◌++◌}
use Rattle.pci_spec.specs.System.{Function}
use Rattle.pci_spec.specs.Fault as faults
use Rattle.pci_spec.specs.Order.{phase_key, Identity, Decoding, Profile}
use Rattle.pci_faults.specs.declared.functions.OwnPhase.{OwnPhase}
use Rattle.pci_faults.specs.declared.functions.OwnPhase.TheVariants as codes
use Rattle.pci_faults.specs.Lists.{AreJust}
use Rattle.pci_faults.specs.OwnLines.{IsBeforeIn, IsOwnLine}

abbrev pub own_phase_number : OwnPhase → ℕ
own_phase_number codes.Identity = phase_key Identity
own_phase_number codes.Decoding = phase_key Decoding
own_phase_number codes.Profile = phase_key Profile

-- a list has grown by the function's lines
abbrev pub IsAdding : ℕ → Function → List faults.Fault → List faults.Fault → Type 0
IsAdding phase f old new =
    (more : List faults.Fault) × (new ≡ old ++ more)
    × AreJust (IsBeforeIn f) (IsOwnLine phase f) more

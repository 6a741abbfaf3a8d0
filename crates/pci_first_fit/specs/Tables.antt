-- What is told of windows, by function in slot order.
use Rattle.std.specs.Prelude.{◌≡◌, ℕ, ◌≤◌, List, Option, None, IfSome, slice_index_or}
use Rattle.std.specs.List.{All}
use Rattle.pci_base.specs.declared.range.Range.{Range}
use Rattle.pci_base.specs.declared.window_kind.WindowKind.{WindowKind}
use Rattle.pci_base.specs.declared.window_kind.ByKind.{ByKind}
use Rattle.pci_base.specs.WindowKinds.{by_kind}

-- nothing is told of any window of a function
abbrev pub untold : ByKind (Option Range)
untold = record { io = None; memory = None; prefetchable = None }

-- what a table tells of a window
abbrev pub told : List (ByKind (Option Range)) → ℕ → WindowKind → Option Range
told table k class = by_kind (slice_index_or table k untold) class

-- it tells nothing
abbrev pub AreUntold : List (ByKind (Option Range)) → Type 0
AreUntold table = All (λ ranges. ranges ≡ untold) table

-- of other windows a table tells the same as another one
abbrev pub TellsSame : List (ByKind (Option Range)) → List (ByKind (Option Range)) → ℕ → WindowKind → Type 0
TellsSame old new function class =
    (k : ℕ) (other : WindowKind) → ((k ≡ function) → (other ≡ class) → ⊥)
    → told new k other ≡ told old k other

-- the ranges that it tells have addresses
abbrev pub AreForward : List (ByKind (Option Range)) → Type 0
AreForward table =
    (k : ℕ) (class : WindowKind) → IfSome (told table k class) (λ r. r.first ≤ r.last)

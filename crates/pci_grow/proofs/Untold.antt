-- A table in which nothing is told of any window.
use Rattle.std.proofs.Common.{◌≡◌, ℕ, inl, inr, List, length, get_or, refl, Option, None}
use Rattle.std.proofs.lemmas.Bool.{cases_lt}
use Rattle.std.proofs.lemmas.List.{get_or_past}
use Rattle.pci_base.specs.declared.range.Range.{Range}
use Rattle.pci_base.specs.declared.window_kind.WindowKind.{WindowKind as CodeKind}
use Rattle.pci_base.specs.declared.window_kind.WindowKind.TheVariants as kinds
use Rattle.pci_base.specs.declared.window_kind.ByKind.{ByKind}
use Rattle.pci_base.specs.WindowKinds.{by_kind}
use Rattle.pci_first_fit.specs.Tables.{untold, AreUntold}

pub at_untold : (table : List (ByKind (Option Range))) → AreUntold table → (k : ℕ) → get_or table k untold ≡ untold
at_untold table none k = elim (cases_lt k (length table)) [
  | inl less ↦ none k untold less
  | inr past ↦ get_or_past table k untold past
]

pub untold_is : (class : CodeKind) → by_kind untold class ≡ None
untold_is kinds.Io = refl
untold_is kinds.Memory = refl
untold_is kinds.Prefetchable = refl

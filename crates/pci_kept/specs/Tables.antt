-- Tables of what stands.
use Rattle.std.specs.Prelude.{ℕ, suc, Bool, if◌then◌else◌, List, [], ◌∷◌, slice_index_or}
use Rattle.pci_spec.specs.Slot.{Slot, same_slot}
use Rattle.pci_spec.specs.System.{System}
use Rattle.settle_spec.specs.Parts.{FunctionPart}
use Rattle.pci_first_fit.specs.declared.kept.Kept.{Kept}
use Rattle.pci_first_fit.specs.Kept.{kept_of, nothing_kept}

-- the index of the function at a slot
abbrev pub index_of : System → Slot → ℕ
index_of [] slot = 0
index_of (f ∷ s) slot = if same_slot f.slot slot then 0 else suc (index_of s slot)

-- what a table by function in slot order tells of a part
abbrev pub stands_in : System → List Kept → FunctionPart → Bool
stands_in s table r =
    kept_of (slice_index_or table (index_of s r.function.slot) nothing_kept) r.part

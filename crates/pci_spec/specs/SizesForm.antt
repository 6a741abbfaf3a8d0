-- The text of a block of sizes place by place: 408 cells, which bytes may stand where.
use Rattle.std.specs.Prelude.{ℕ, zero, suc, List, [], ◌∷◌, ◌++◌, replicate}
use Rattle.pci_spec.specs.Form.{Cell, Fixed, Digit, slot_cells}

-- `0x` and sixteen hex digits
abbrev pub number_cells : List Cell
number_cells = Fixed 48 ∷ Fixed 120 ∷ replicate 16 (Digit 15)

abbrev pub resource_cells : List Cell
resource_cells =
    number_cells ++ (Fixed 32 ∷ number_cells) ++ (Fixed 32 ∷ number_cells) ++ (Fixed 10 ∷ [])

-- so many lines
unfoldable pub lines_cells : ℕ → List Cell
lines_cells zero = []
lines_cells (suc n) = resource_cells ++ lines_cells n

unfoldable pub sizes_cells : List Cell
sizes_cells = slot_cells ++ (Fixed 10 ∷ lines_cells 7) ++ (Fixed 10 ∷ [])

-- Lines of zeros at a block's end.
use Rattle.std.specs.Prelude.{◌≡◌, ◌*◌, ◌++◌, ℕ, List, [], ◌∷◌, drop, replicate}
use Rattle.pci_spec.specs.Form.{rows_text}

-- so many lines from a row on are those of zeros, and the empty line follows
abbrev pub HasZeros : List ℕ → ℕ → ℕ → Type 0
HasZeros bytes row n =
    drop (52 * row) bytes ≡ (rows_text row n (replicate (16 * n) 0) ++ 10 ∷ []) ++ drop 833 bytes

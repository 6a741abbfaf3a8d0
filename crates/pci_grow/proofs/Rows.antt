-- Rows of parts: those of one row follow one another.
use Rattle.std.proofs.Common.{◌≡◌, ℕ, ◌+◌, ◌-◌, ◌<◌, List, length, get_or, arith, ap, ◌∙◌}
use Rattle.std.specs.List.Sorted.{IsNonDecreasingBy}
use Rattle.std.proofs.lemmas.List.{get_or_default}
use Rattle.pci_kept.specs.declared.region.Region.{Region}
use Rattle.pci_grow.specs.Rows.{region_row_number, AreAllInLowerRows, AreAllInHigherRows}

module _ (rows : List Region) (order : IsNonDecreasingBy region_row_number rows) (index : ℕ) (within : index < length rows) (e : Region) where
  -- where the part before one is in another row, all before it are in lower ones
  pub lower_rows : 0 < index → (region_row_number (get_or rows (index - 1) e) ≡ region_row_number (get_or rows index e) → ⊥) → AreAllInLowerRows rows index
  lower_rows some differ k d less =
      let up = order k (index - 1) d (omega (arith, less, some)) (omega (arith, within)) in
      let next = order (index - 1) index d (omega (arith, some)) within in
      let apart : region_row_number (get_or rows (index - 1) d) ≡ region_row_number (get_or rows index d) → ⊥ = λ same. differ
      (ap region_row_number (get_or_default rows (index - 1) e d (omega (arith, within))) ∙ same ∙ ap region_row_number (get_or_default rows index d e within)) in
      omega (arith, up, next, apart)

  -- and where the one behind it is, all behind it are in higher ones
  pub higher_rows : (region_row_number (get_or rows (index + 1) e) ≡ region_row_number (get_or rows index e) → ⊥) → AreAllInHigherRows rows index
  higher_rows differ k d less inside =
      let up = order (index + 1) k d (omega (arith, less)) inside in
      let next = order index (index + 1) d (omega arith) (omega (arith, less, inside)) in
      let apart : region_row_number (get_or rows (index + 1) d) ≡ region_row_number (get_or rows index d) → ⊥ = λ same. differ
      (ap region_row_number (get_or_default rows (index + 1) e d (omega (arith, less, inside))) ∙ same ∙ ap region_row_number (get_or_default rows index d e within)) in
      omega (arith, up, next, apart)

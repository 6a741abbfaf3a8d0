-- The seven lines that a text begins with: how long they are, which cells they fill, and that a text has one such beginning.
use Rattle.std.proofs.Common.{◌≡◌, ℕ, ◌≤◌, List, [], ◌∷◌, ◌++◌, length, take, drop, refl, sym, ◌∙◌, ap, subst, arith}
use Rattle.std.specs.List.{All, flat_map}
use Rattle.std.proofs.lemmas.List.{length-append, length-drop, take_at, take-append-drop}
use Rattle.pci_spec.specs.Text.{slot_text}
use Rattle.pci_spec.specs.Resource.{ResourceLine}
use Rattle.pci_spec.specs.SizesText.{SizesBlock, IsSizesBlock, IsResourceLine, resource_text, sizes_block_text}
use Rattle.pci_spec.specs.Form.{Cell, Fits}
use Rattle.pci_spec.specs.SizesForm.{sizes_cells, lines_cells}
use Rattle.pci_spec.proofs.Cells.{fits_between}
use Rattle.pci_spec.proofs.SizesTexts.{fits_sizes, block_long, sized_same}
use Rattle.pci_here.specs.Resource.{AreFirstLines}

-- the block of a function that has these lines
abbrev of_lines : List ResourceLine → SizesBlock
of_lines lines = record { slot = record { bus = 0; device = 0; function = 0 }; lines = lines }

is_block : (lines : List ResourceLine) → length lines ≡ 7 → All IsResourceLine lines → IsSizesBlock (of_lines lines)
is_block lines seven each = record { slot = (omega arith, omega arith, omega arith); seven = seven; each = each }

behind_slot : (lines : List ResourceLine) → drop 8 (sizes_block_text (of_lines lines)) ≡ flat_map resource_text lines ++ 10 ∷ []
unfolding sizes_block_text
behind_slot lines = refl

pub lines_long : (lines : List ResourceLine) → length lines ≡ 7 → All IsResourceLine lines → length (flat_map resource_text lines) ≡ 399
lines_long lines seven each =
    let whole : length (sizes_block_text (of_lines lines)) ≡ 408 = block_long (of_lines lines) (is_block lines seven each) in
    omega (arith, whole, length-drop 8 (sizes_block_text (of_lines lines)), ap length (behind_slot lines), length-append (flat_map resource_text lines) (10 ∷ []))

cells_between : take 399 (drop 8 sizes_cells) ≡ lines_cells 7
unfolding sizes_cells lines_cells
cells_between = refl

pub fits_lines : (lines : List ResourceLine) → length lines ≡ 7 → All IsResourceLine lines → Fits (lines_cells 7) (flat_map resource_text lines)
fits_lines lines seven each =
    let text : List ℕ = sizes_block_text (of_lines lines) in
    let fits = fits_between 8 399 sizes_cells text (fits_sizes (of_lines lines) (is_block lines seven each)) in
    let same : take 399 (drop 8 text) ≡ flat_map resource_text lines
    = ap (λ t. take 399 t) (behind_slot lines) ∙ take_at (flat_map resource_text lines) (10 ∷ []) 399 (lines_long lines seven each) in
    subst (λ t. Fits (lines_cells 7) t) same (subst (λ (cells : List Cell). Fits cells (take 399 (drop 8 text))) cells_between fits)

-- the lines are in the first 399 bytes
pub first_bytes : (text : List ℕ) (lines : List ResourceLine) → AreFirstLines text lines → take 399 text ≡ flat_map resource_text lines
first_bytes text lines are = ap (λ t. take 399 t) are.whole ∙ take_at (flat_map resource_text lines) are.rest 399 (lines_long lines are.seven are.each)

pub enough_bytes : (text : List ℕ) (lines : List ResourceLine) → AreFirstLines text lines → 399 ≤ length text
enough_bytes text lines are =
    omega (arith, ap length are.whole, length-append (flat_map resource_text lines) are.rest, lines_long lines are.seven are.each)

pub lines_same : (text : List ℕ) (lines others : List ResourceLine) → AreFirstLines text lines → AreFirstLines text others → lines ≡ others
unfolding sizes_block_text
lines_same text lines others are also =
    let same : flat_map resource_text lines ≡ flat_map resource_text others = sym (first_bytes text lines are) ∙ first_bytes text others also in
    ap (λ (b : SizesBlock). b.lines)
    (sized_same (of_lines lines) (of_lines others) (is_block lines are.seven are.each) (is_block others also.seven also.each)
    (ap (λ t. slot_text record { bus = 0; device = 0; function = 0 } ++ (10 ∷ t) ++ (10 ∷ [])) same))

pub lines_there : (text bytes : List ℕ) (lines : List ResourceLine) → bytes ≡ text → length lines ≡ 7
    → All IsResourceLine lines × (take 399 bytes ≡ flat_map resource_text lines) → AreFirstLines text lines
lines_there text bytes lines same seven are = record {
  seven = seven;
  each = are.0;
  rest = drop 399 text;
  whole = sym (take-append-drop 399 text) ∙ ap (λ t. t ++ drop 399 text) (ap (λ t. take 399 t) (sym same) ∙ are.1);
}

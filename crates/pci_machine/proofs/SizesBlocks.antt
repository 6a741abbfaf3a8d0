-- A block of sizes, from its slot and its lines.
use Rattle.std.proofs.Common.{◌≡◌, ℕ, ◌+◌, ◌-◌, ◌<◌, List, [], ◌∷◌, ◌++◌, length, drop, get_or, map, sym, ◌∙◌, ap, subst, arith, lit<, inl, inr, Some}
use Rattle.std.specs.Prelude.{slice_get, slice_range}
use Rattle.std.specs.List.{flat_map}
use Rattle.std.specs.List.Sorted.{IsStrictlyIncreasing}
use Rattle.std.proofs.lemmas.Bool.{cases_lt}
use Rattle.std.proofs.lemmas.Option.{get_or_from_slice_get}
use Rattle.std.proofs.lemmas.List.{drop_all, length-append, length-map, map-append, get_or_append_left, get_or_at, get_or-map}
use Rattle.pci_spec.specs.Slot.{Slot, slot_number, IsRising}
use Rattle.pci_spec.specs.Text.{slot_text}
use Rattle.pci_spec.specs.Form.{Fixed, Fits, slot_cells}
use Rattle.pci_spec.specs.SizesText.{SizesBlock, sized_slots, resource_text, sizes_block_text}
use Rattle.pci_spec.specs.SizesForm.{lines_cells, sizes_cells}
use Rattle.pci_spec.proofs.Cells.{fits_at, fits_between}
use Rattle.pci_machine.proofs.SizesLines.{piece_and_byte}

-- ---- a slot behind others

abbrev numbers_of : List SizesBlock → List ℕ
numbers_of blocks = map slot_number (sized_slots blocks)

module _ (blocks : List SizesBlock) (s : Slot) where
  abbrev longer : List ℕ
  longer = numbers_of blocks ++ slot_number s ∷ []

  numbers_with : map slot_number (sized_slots blocks ++ s ∷ []) ≡ longer
  numbers_with = map-append slot_number (sized_slots blocks) (s ∷ [])

  many : length (numbers_of blocks) ≡ length blocks
  many = length-map (sized_slots blocks) slot_number ∙ length-map blocks (λ (b : SizesBlock). b.slot)

  module _ (last : SizesBlock) (some : 0 < length blocks) (is : Some last ≡ slice_get blocks (length blocks - 1)) where
    last_number : (k : ℕ) → k + 1 ≡ length blocks → get_or (numbers_of blocks) k 0 ≡ slot_number last.slot
    last_number k e =
        let at : length blocks - 1 ≡ k = omega (arith, e) in
        let n = length-map blocks (λ (b : SizesBlock). b.slot) in
        get_or-map slot_number (sized_slots blocks) k last.slot 0 (omega (arith, e, n))
        ∙ ap slot_number (get_or-map (λ (b : SizesBlock). b.slot) blocks k last last.slot (omega (arith, e)))
        ∙ ap (λ (b : SizesBlock). slot_number b.slot) (get_or_from_slice_get blocks k last last (ap (slice_get blocks) (sym at) ∙ sym is))

    pub rises_with : IsRising (sized_slots blocks) → slot_number last.slot < slot_number s → IsRising (sized_slots blocks ++ s ∷ [])
    rises_with rising above = subst IsStrictlyIncreasing (sym numbers_with) (λ k within.
        let n = many in
        let l = length-append (numbers_of blocks) (slot_number s ∷ []) in
        let here = get_or_append_left (numbers_of blocks) (slot_number s ∷ []) 0 k (omega (arith, within, l)) in
        elim (cases_lt (k + 1) (length blocks)) [
          | inl inside ↦
              let next = get_or_append_left (numbers_of blocks) (slot_number s ∷ []) 0 (k + 1) (omega (arith, inside, n)) in
              let less = rising k (omega (arith, inside, n)) in
              omega (arith, here, next, less)
          | inr last_one ↦
              let next = get_or_at (numbers_of blocks) (slot_number s) [] 0 (k + 1) (omega (arith, within, l, last_one, n)) in
              let number = last_number k (omega (arith, within, l, last_one, n)) in
              omega (arith, here, next, number, above)
        ])

    pub rises_above : IsRising (sized_slots blocks ++ s ∷ []) → slot_number last.slot < slot_number s
    rises_above rising =
        let n = many in
        let l = length-append (numbers_of blocks) (slot_number s ∷ []) in
        let k = length blocks - 1 in
        let less = subst IsStrictlyIncreasing numbers_with rising k (omega (arith, some, n, l)) in
        let here = get_or_append_left (numbers_of blocks) (slot_number s ∷ []) 0 k (omega (arith, some, n)) in
        let next = get_or_at (numbers_of blocks) (slot_number s) [] 0 (k + 1) (omega (arith, some, n)) in
        let number = last_number k (omega (arith, some)) in
        omega (arith, here, next, number, less)

-- ---- a block in pieces

block_pieces : (text : List ℕ) → length text ≡ 408 → text ≡ slice_range text 0 7 ++ (get_or text 7 0 ∷ (slice_range text 8 407 ++ (get_or text 407 0 ∷ [])))
block_pieces text long =
    let none : drop 408 text ≡ [] = drop_all 408 text (omega (arith, long)) in
    let second : drop 8 text ≡ slice_range text 8 407 ++ (get_or text 407 0 ∷ []) = piece_and_byte text 8 407 (omega arith) (omega (arith, long)) ∙ ap (λ (t : List ℕ). slice_range text 8 407 ++ get_or text 407 0 ∷ t) none in
    piece_and_byte text 0 7 (omega arith) (omega (arith, long)) ∙ ap (λ (t : List ℕ). slice_range text 0 7 ++ get_or text 7 0 ∷ t) second

pub block_there : (text : List ℕ) (b : SizesBlock) → length text ≡ 408 → get_or text 7 0 ≡ 10 → get_or text 407 0 ≡ 10 → slice_range text 0 7 ≡ slot_text b.slot → slice_range text 8 407 ≡ flat_map resource_text b.lines
    → text ≡ sizes_block_text b
unfolding sizes_block_text
block_there text b long head end slot lines = block_pieces text long ∙ (λ i. slot i ++ (head i ∷ (lines i ++ (end i ∷ []))))

-- what its cells ask of its pieces
pub record AreBlockCells (text : List ℕ) : Type 0 where
  pub head : get_or text 7 0 ≡ 10
  pub end : get_or text 407 0 ≡ 10
  pub slot : Fits slot_cells (slice_range text 0 7)
  pub lines : Fits (lines_cells 7) (slice_range text 8 407)

pub block_cells : (text : List ℕ) → Fits sizes_cells text → AreBlockCells text
unfolding sizes_cells lines_cells
block_cells text f = record {
  head = fits_at 7 sizes_cells text (Fixed 0) f (lit< tt);
  end = fits_at 407 sizes_cells text (Fixed 0) f (lit< tt);
  slot = fits_between 0 7 sizes_cells text f;
  lines = fits_between 8 399 sizes_cells text f;
}

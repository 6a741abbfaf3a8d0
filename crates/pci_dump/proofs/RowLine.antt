-- The line of a row, by its places.
use Rattle.std.proofs.Common.{◌≡◌, refl, ℕ, ◌+◌, ◌*◌, ◌/◌, ◌%◌, ◌<◌, ◌++◌, ◌∷◌, [], List, Bool, true, length, take, drop, replicate, get_or, slice_index, slice_set, arith, ◌∙◌, ap}
use Rattle.std.specs.Prelude.{◌==◌, bit_or}
use Rattle.std.specs.List.{slice_range}
use Rattle.std.proofs.lemmas.Bool.{eqb-true}
use Rattle.std.proofs.lemmas.List.{take_more, replicate_more, get_or-take, get_or-drop}
use Rattle.std.proofs.lemmas.Nat.{le_or_l, le_or_r}
use Rattle.pci_spec.specs.Number.{each_from}
use Rattle.pci_spec.specs.Text.{hex_digit}
use Rattle.pci_spec.specs.Form.{row_text}
use Rattle.pci_spec.proofs.Bits.{each_from-at}
use Rattle.pci_dump.specs.declared.row.TheConstants.{ROW_OF_ZEROS}
use Rattle.pci_dump.specs.Value.{AreSmall}
use Rattle.pci_dump.proofs.Values.{read_row}

-- where the bits of all bytes so far and of one more are 0, so are the bytes
pub zero_more : (xs : List ℕ) (bits k : ℕ) → k < length xs → (bits ≡ 0 → take k xs ≡ replicate k 0) → bit_or bits (slice_index xs k) ≡ 0
    → take (k + 1) xs ≡ replicate (k + 1) 0
zero_more xs bits k within before none =
    let left = le_or_l bits (slice_index xs k) in
    let right = le_or_r bits (slice_index xs k) in
    let bits_0 : bits ≡ 0 = omega (arith, left, none) in
    let byte_0 : slice_index xs k ≡ 0 = omega (arith, right, none) in
    take_more xs k 0 within ∙ (λ i. before bits_0 i ++ byte_0 i ∷ []) ∙ replicate_more k 0

-- each value has a space before it
abbrev is_space : ℕ → ℕ → Bool
is_space digit k = get_or (slice_set ROW_OF_ZEROS 0 digit) (3 * k + 3) 0 == 32

all_spaces : (digit : ℕ) → each_from 0 16 (is_space digit) ≡ true
unfolding each_from
all_spaces digit = refl

pub space_there : (digit k : ℕ) → k < 16 → slice_index (slice_set ROW_OF_ZEROS 0 digit) (3 * k + 3) ≡ 32
space_there digit k below = eqb-true _ 32 (each_from-at 0 16 (is_space digit) (all_spaces digit) k (omega arith) (omega (arith, below)))

-- a cell of a line, by its place in the line
cell : (line : List ℕ) (k : ℕ) → k < 48 → slice_index (slice_range line 3 51) k ≡ slice_index line (3 + k)
cell line k below = get_or-take 48 (drop 3 line) k 0 below ∙ get_or-drop 3 line k 0

pub row_written : (row : ℕ) (line values : List ℕ) → length line ≡ 52 → row < 16 → length values ≡ 16 → AreSmall values
    → slice_index line 0 ≡ hex_digit row → slice_index line 1 ≡ 48 → slice_index line 2 ≡ 58 → slice_index line 51 ≡ 10
    → ((k : ℕ) → k < 16 → slice_index line (3 * k + 3) ≡ 32)
    → ((k : ℕ) → k < 16 → slice_index line (3 * k + 4) ≡ hex_digit (slice_index values k / 16))
    → ((k : ℕ) → k < 16 → slice_index line (3 * k + 5) ≡ hex_digit (slice_index values k % 16)) → line ≡ row_text row values
row_written row line values long within many small first second third last spaces high low =
    read_row row line values long within many first second third last (λ k below.
    let a : 3 + 3 * k ≡ 3 * k + 3 = omega arith in
    let b : 3 + (3 * k + 1) ≡ 3 * k + 4 = omega arith in
    let c : 3 + (3 * k + 2) ≡ 3 * k + 5 = omega arith in
    record {
      small = small k;
      space = cell line (3 * k) (omega (arith, below)) ∙ ap (slice_index line) a ∙ spaces k below;
      high = cell line (3 * k + 1) (omega (arith, below)) ∙ ap (slice_index line) b ∙ high k below;
      low = cell line (3 * k + 2) (omega (arith, below)) ∙ ap (slice_index line) c ∙ low k below;
    })

-- The bytes of a block's text, and the largest dump.
use Rattle.std.proofs.Common.{◌≡◌, ℕ, zero, suc, ◌+◌, ◌*◌, ◌/◌, ◌%◌, ◌<◌, ◌≤◌, List, [], ◌∷◌, ◌++◌, refl, true, Option, None, arith, sym, ◌∙◌, ap, subst, length, get_or, map}
use Rattle.std.specs.Prelude.{IsTrue}
use Rattle.std.specs.List.{All, range_with_len}
use Rattle.std.proofs.lemmas.Bool.{agree_below_at}
use Rattle.std.proofs.lemmas.List.{length-map, get_or-map}
use Rattle.std.proofs.lemmas.List.Elements.{All-append, All-cons, All-nil}
use Rattle.std.proofs.lemmas.List.FromFn.{get_or-map-range_with_len, length-map-range_with_len}
use Rattle.pci_spec.specs.Slot.{slot_number, IsRising}
use Rattle.pci_spec.specs.Text.{Block, IsBlock, hex_digit, slot_text, title_text, block_text, slots_of}
use Rattle.pci_spec.specs.Form.{Cell, Fixed, Digit, InTitle, Takes, Fits, slot_cells, value_cells, row_cells, rows_cells, rest_cells}
use Rattle.pci_spec.specs.TextLaws.{is_plain, BlockWithoutTitleIsPlain, DumpHasRoom, LargestDumpIsThere}
use Rattle.pci_spec.proofs.Forms.{parts_of, fits_slot}

-- ---- plain bytes

plain_digit : (d : ℕ) → d < 16 → is_plain (hex_digit d) ≡ true
plain_digit d small = agree_below_at (λ d. is_plain (hex_digit d)) (λ _. true) 16 d refl small

-- cells that take plain bytes alone
abbrev IsPlainCell : Cell → Type 0
IsPlainCell (Fixed n) = IsTrue (is_plain n)
IsPlainCell (Digit n) = n < 16
IsPlainCell InTitle = ⊥

abbrev ArePlain : List Cell → Type 0
ArePlain [] = Unit {0}
ArePlain (t ∷ cells) = IsPlainCell t × ArePlain cells

plain_byte : (t : Cell) (c : ℕ) → IsPlainCell t → Takes t c → is_plain c ≡ true
plain_byte (Fixed n) c h e = ap is_plain e ∙ h
plain_byte (Digit n) c h d = ap is_plain d.2 ∙ plain_digit d.0 (let most = d.1 in omega (arith, h, most))
plain_byte InTitle c h e = absurd h

plain_bytes : (cells : List Cell) (bytes : List ℕ) → ArePlain cells → Fits cells bytes → All (λ c. IsTrue (is_plain c)) bytes
plain_bytes [] [] h f = All-nil _
plain_bytes [] (x ∷ bytes) h f = absurd f
plain_bytes (t ∷ cells) [] h f = absurd f
plain_bytes (t ∷ cells) (x ∷ bytes) h f = All-cons (λ c. IsTrue (is_plain c)) x bytes (plain_byte t x h.0 f.0) (plain_bytes cells bytes h.1 f.1)

plain_append : (a b : List Cell) → ArePlain a → ArePlain b → ArePlain (a ++ b)
plain_append [] b h k = k
plain_append (t ∷ a) b h k = (h.0, plain_append a b h.1 k)

plain_values : (n : ℕ) → ArePlain (value_cells n)
unfolding value_cells
plain_values zero = tt
plain_values (suc n) = (refl, (omega arith, (omega arith, plain_values n)))

plain_row : (row : ℕ) → row < 16 → ArePlain (row_cells row)
plain_row row small =
    (plain_digit (16 * row / 16) (omega arith), (plain_digit (16 * row % 16) (omega arith), (refl, plain_append (value_cells 16) (Fixed 10 ∷ []) (plain_values 16) (refl, tt))))

plain_rows : (row n : ℕ) → row + n ≤ 16 → ArePlain (rows_cells row n)
unfolding rows_cells
plain_rows row zero h = tt
plain_rows row (suc n) h = plain_append (row_cells row) (rows_cells (row + 1) n) (plain_row row (omega (arith, h))) (plain_rows (row + 1) n (omega (arith, h)))

plain_slot : ArePlain slot_cells
plain_slot = (omega arith, (omega arith, (refl, (omega arith, (omega arith, (refl, (omega arith, tt)))))))

pub block_without_title_is_plain : BlockWithoutTitleIsPlain
block_without_title_is_plain b h none =
    let p = parts_of b h in
    let e : block_text b ≡ slot_text b.slot ++ 10 ∷ p.rest = p.text ∙ ap (λ (t : Option (List ℕ)). slot_text b.slot ++ (title_text t ++ 10 ∷ p.rest)) none in
    let slot = plain_bytes slot_cells (slot_text b.slot) plain_slot (fits_slot b.slot h.slot) in
    let rest = plain_bytes rest_cells p.rest (plain_append (rows_cells 0 16) (Fixed 10 ∷ []) (plain_rows 0 16 (omega arith)) (refl, tt)) p.fits in
    subst (λ (t : List ℕ). All (λ c. IsTrue (is_plain c)) t) (sym e)
    (All-append (λ c. IsTrue (is_plain c)) (slot_text b.slot) (10 ∷ p.rest) slot (All-cons (λ c. IsTrue (is_plain c)) 10 p.rest refl rest))

-- ---- the largest dump

pub dump_has_room : DumpHasRoom
dump_has_room blocks d = d.room

-- so many zeros
zeros : ℕ → List ℕ
zeros zero = []
zeros (suc n) = 0 ∷ zeros n

length-zeros : (n : ℕ) → length (zeros n) ≡ n
unfolding zeros
length-zeros zero = refl
length-zeros (suc n) = ap suc (length-zeros n)

zeros_small : (n k : ℕ) → get_or (zeros n) k 0 < 256
unfolding zeros
zeros_small zero k = omega arith
zeros_small (suc n) zero = omega arith
zeros_small (suc n) (suc k) = zeros_small n k

-- the function of each slot number, with nothing in its image
nth_block : ℕ → Block
nth_block k = record { slot = record { bus = k / 256; device = k / 8 % 32; function = k % 8 }; title = None; image = zeros 256 }

nth_is_block : (k : ℕ) → k < 4096 → IsBlock (nth_block k)
unfolding nth_block
nth_is_block k below = record { slot = (omega (arith, below), omega arith, omega arith); title = tt; image = record { full = length-zeros 256; bytes = zeros_small 256 } }

nth_number : (k : ℕ) → slot_number (nth_block k).slot ≡ k
unfolding nth_block
nth_number k = omega arith

largest : List Block
largest = map nth_block (range_with_len 0 4096)

length-largest : length largest ≡ 4096
unfolding largest
length-largest = length-map-range_with_len nth_block 0 4096

nth-largest : (k : ℕ) (d : Block) → k < 4096 → get_or largest k d ≡ nth_block k
unfolding largest
nth-largest k d below = get_or-map-range_with_len nth_block 0 4096 k k d below (omega arith)

number_in : (blocks : List Block) (d : Block) (k : ℕ) → k < length blocks → get_or (map slot_number (slots_of blocks)) k 0 ≡ slot_number (get_or blocks k d).slot
number_in blocks d k below =
    let slots : length (slots_of blocks) ≡ length blocks = length-map blocks (λ (b : Block). b.slot) in
    get_or-map slot_number (slots_of blocks) k d.slot 0 (omega (arith, slots, below)) ∙ ap slot_number (get_or-map (λ (b : Block). b.slot) blocks k d d.slot below)

number-largest : (k : ℕ) → k < 4096 → get_or (map slot_number (slots_of largest)) k 0 ≡ k
number-largest k below =
    let many = length-largest in
    number_in largest (nth_block 0) k (omega (arith, many, below)) ∙ ap (λ (b : Block). slot_number b.slot) (nth-largest k (nth_block 0) below) ∙ nth_number k

largest_rises : IsRising (slots_of largest)
largest_rises k below =
    let slots = length-map largest (λ (b : Block). b.slot) in
    let numbers = length-map (slots_of largest) slot_number in
    let many = length-largest in
    let inside : k + 1 < 4096 = omega (arith, slots, numbers, many, below) in
    let here = number-largest k (omega (arith, inside)) in
    let next = number-largest (k + 1) inside in
    omega (arith, here, next)

pub largest_dump_is_there : LargestDumpIsThere
largest_dump_is_there =
    let many = length-largest in (
      largest,
      record {
        each = (λ k d below. let inside : k < 4096 = omega (arith, below, many) in subst IsBlock (sym (nth-largest k d inside)) (nth_is_block k inside));
        rising = largest_rises;
        room = omega (arith, many);
      },
      many,
    )

-- How long a block's text is, and in which of its lines a fault stands.
use Rattle.std.proofs.Common.{◌≡◌, ℕ, zero, suc, ◌+◌, ◌-◌, ◌<◌, get_or, ◌*◌, ◌≤◌, List, [], ◌∷◌, ◌++◌, refl, Option, None, Some, arith, sym, ◌∙◌, ap, subst, length, map}
use Rattle.std.specs.Prelude.{IfSome, IsTrue, replicate}
use Rattle.std.specs.List.{All}
use Rattle.std.proofs.lemmas.List.{length-append, length-map, length-replicate}
use Rattle.std.specs.List.Sorted.{IsStrictlyIncreasing}
use Rattle.std.proofs.lemmas.List.Elements.{All-replicate}
use Rattle.pci_spec.specs.Text.{Block, IsBlock, IsTitle, is_title_byte, slot_text, title_text, block_text, text_of, line_ends, slots_of, BeginsBlock, IsGood, BadSlot, BadTitle, BadLine, NoBlank, Order, TooMany, Ended, StopsWhere}
use Rattle.pci_spec.specs.Slot.{slot_number, IsRising}
use Rattle.pci_spec.specs.Form.{value_cells, rows_cells, rest_cells}
use Rattle.pci_spec.specs.TextLaws.{BlockWithoutTitleHasLength, BlockHasMostLength, LongestBlockIsThere, DumpListsSlotsInOrder, FaultIsInItsLine}
use Rattle.pci_spec.proofs.Forms.{parts_of, made_of, fits_length, filler, filled, line_ends_append}
use Rattle.pci_spec.proofs.Fronts.{rising_more}
use Rattle.pci_spec.proofs.Faults.{text_ends}
use Rattle.pci_spec.proofs.Beginnings.{begun_at_most}
use Rattle.pci_spec.proofs.TextLaws.{Says, no_end_in_slot, begins_part, room_for_part}

lines_length : length rest_cells ≡ 833
unfolding rows_cells value_cells
lines_length = refl

block_length : (b : Block) → IsBlock b → length (block_text b) ≡ 841 + length (title_text b.title)
block_length b h =
    let p = parts_of b h in
    let rest = fits_length rest_cells p.rest p.fits ∙ lines_length in
    let text = ap length p.text in
    let slot = length-append (slot_text b.slot) (title_text b.title ++ 10 ∷ p.rest) in
    let title = length-append (title_text b.title) (10 ∷ p.rest) in
    omega (arith, rest, text, slot, title)

pub block_without_title_has_length : BlockWithoutTitleHasLength
block_without_title_has_length b h none = let l = block_length b h in let t = ap (λ (t : Option (List ℕ)). length (title_text t)) none in omega (arith, l, t)

title_length : (title : Option (List ℕ)) → IfSome title IsTitle → length (title_text title) ≤ 201
title_length None h = omega arith
title_length (Some t) h = let most = h.1 in omega (arith, most)

pub block_has_most_length : BlockHasMostLength
block_has_most_length b h = let l = block_length b h in let t = title_length b.title h.title in omega (arith, l, t)

-- a title of 200 letters
longest_title : List ℕ
longest_title = replicate 200 97

title_is_long : length longest_title ≡ 200
unfolding longest_title
title_is_long = length-replicate {A = ℕ} 200 97

letters : All (λ c. IsTrue (is_title_byte c)) longest_title
unfolding longest_title
letters = All-replicate (λ c. IsTrue (is_title_byte c)) 200 97 refl

pub longest_block_is_there : LongestBlockIsThere
longest_block_is_there =
    let long = title_is_long in
    let title : IsTitle longest_title = (omega (arith, long), omega (arith, long), letters) in
    let m = made_of record { bus = 0; device = 0; function = 0 } (Some longest_title) (map filler rest_cells) (omega arith, omega arith, omega arith) title (filled rest_cells) in
    let rest = fits_length rest_cells (map filler rest_cells) (filled rest_cells) ∙ lines_length in
    let text = ap length m.text in
    let all = length-append longest_title (10 ∷ map filler rest_cells) in
    (m.block, m.holds, omega (arith, long, rest, text, all))

-- ---- slots

increasing_between : (xs : List ℕ) (j gap : ℕ) → IsStrictlyIncreasing xs → j + gap + 1 < length xs → get_or xs j 0 < get_or xs (j + gap + 1) 0
increasing_between xs j zero h below =
    let next = h j (omega (arith, below)) in
    let e : j + 0 + 1 ≡ j + 1 = omega arith in
    subst (λ k. get_or xs j 0 < get_or xs k 0) (sym e) next
increasing_between xs j (suc gap) h below =
    let before = increasing_between xs j gap h (omega (arith, below)) in
    let next = h (j + gap + 1) (omega (arith, below)) in
    let e : j + gap + 1 + 1 ≡ j + suc gap + 1 = omega arith in
    subst (λ k. get_or xs j 0 < get_or xs k 0) e (omega (arith, before, next))

pub dump_lists_slots_in_order : DumpListsSlotsInOrder
dump_lists_slots_in_order blocks j k d order below =
    let numbers = map slot_number (slots_of blocks) in
    let many : length numbers ≡ length blocks = length-map (slots_of blocks) slot_number ∙ length-map blocks (λ (b : Block). b.slot) in
    let e : j + (k - j - 1) + 1 ≡ k = omega arith in
    subst (λ n. get_or numbers j 0 < get_or numbers n 0) e (increasing_between numbers j (k - j - 1) d.rising (omega (arith, many, order, below)))

-- ---- lines

-- the line of a stop: eighteen for each whole block, and those of its own block
line_of_stop : (bytes : List ℕ) (line : ℕ) (P : Says) (s : StopsWhere bytes line P) → line ≡ 18 * length s.blocks + line_ends s.part + 1
line_of_stop bytes line P s =
    let front = ap line_ends s.is_front.split in
    let both = line_ends_append (text_of s.blocks) s.part in
    let blocks = text_ends s.blocks s.is_front.each in
    let at = s.in_line in
    omega (arith, front, both, blocks, at)

-- a beginning of one block's text is good
begun_is_good : (part : List ℕ) → BeginsBlock part → IsGood part
begun_is_good part begun =
    let rising : IsRising (slots_of []) = λ k below. absurd (omega (arith, below)) in (
      [],
      part,
      record {
        split = refl;
        each = (λ k d below. absurd (omega (arith, below)));
        rising = rising;
        next = (begun.0, begun.1, λ _. rising_more [] begun.0 rising tt);
        room = (let some = begun_at_most [] part in omega (arith, some));
      },
    )

-- so a slot that isn't above the one before it has one before it
behind_a_block : (blocks : List Block) (part front : List ℕ) (byte : ℕ) → front ≡ text_of blocks ++ part → BeginsBlock (part ++ byte ∷ []) → (IsGood (front ++ byte ∷ []) → ⊥) → 1 ≤ length blocks
behind_a_block [] part front byte split begun bad = absurd (bad (subst (λ (t : List ℕ). IsGood (t ++ byte ∷ [])) (sym split) (begun_is_good (part ++ byte ∷ []) begun)))
behind_a_block (b ∷ blocks) part front byte split begun bad = omega arith

nothing_begun : (part : List ℕ) → (1 ≤ length part → ⊥) → line_ends part ≡ 0
nothing_begun [] none = refl
nothing_begun (c ∷ part) none = absurd (none (omega arith))

pub fault_is_in_its_line : FaultIsInItsLine
fault_is_in_its_line bytes (BadSlot line) h =
    let s = h in
    let at = line_of_stop bytes line _ s in
    let none = no_end_in_slot s.part (begins_part s.front s.blocks s.part s.is_front) s.holds.1 in
    omega (arith, at, none)
fault_is_in_its_line bytes (BadTitle line) h =
    let s = h in
    let at = line_of_stop bytes line _ s in
    let none = s.holds.1 in
    omega (arith, at, none)
fault_is_in_its_line bytes (BadLine line) h =
    let s = h in
    let at = line_of_stop bytes line _ s in
    let some = s.holds.0 in
    let most = s.holds.1 in
    (omega (arith, at, some, most), omega (arith, at, some, most))
fault_is_in_its_line bytes (NoBlank line) h =
    let s = h in
    let at = line_of_stop bytes line _ s in
    let all = s.holds in
    (omega (arith, at, all), omega (arith, at, all))
fault_is_in_its_line bytes (Order line) h =
    let s = h in
    let at = line_of_stop bytes line _ s in
    let six = s.holds.0 in
    let none = no_end_in_slot s.part (begins_part s.front s.blocks s.part s.is_front) (omega (arith, six)) in
    let some = behind_a_block s.blocks s.part s.front s.byte s.is_front.split s.holds.1 s.bad in
    (omega (arith, at, none), omega (arith, at, none, some))
fault_is_in_its_line bytes (TooMany line) h =
    let s = h in
    let at = line_of_stop bytes line _ s in
    let full = s.holds in
    let none = nothing_begun s.part (λ some. let few = room_for_part s.front s.blocks s.part s.is_front some in omega (arith, few, full)) in
    omega (arith, at, full, none)
fault_is_in_its_line bytes (Ended line) h = h.2

-- Texts that stop being one: the fault and its line, whatever comes after.
use Rattle.std.proofs.Common.{◌≡◌, ℕ, suc, ◌+◌, ◌*◌, ◌<◌, List, [], ◌∷◌, ◌++◌, refl, true, false, None, Some, length, replicate, arith, lit<, lit≤, subst, sym, ap, ◌≤◌}
use Rattle.std.specs.Prelude.{codes, ◌==◌}
use Rattle.std.specs.List.{flat_map, range_with_len}
use Rattle.std.proofs.lemmas.Bool.{eq-eqb, both_ways}
use Rattle.pci_spec.specs.Number.{some_from}
use Rattle.pci_spec.specs.Slot.{IsSlot}
use Rattle.pci_spec.specs.Text.{IsFront, Block, IsDump, byte_line, hex_digit, block_text, text_of, BadSlot, BadTitle, BadLine, NoBlank, Order, TooMany, Ended, IsFaultOf}
use Rattle.pci_spec.specs.Form.{Digit, Fixed, Takes, Fits, Leaves, Breaks, value_cells, slot_cells, row_cells, rows_cells, rows_text}
use Rattle.pci_spec.specs.Stops.{Stops, InLine}
use Rattle.pci_spec.proofs.Bits.{some_from-at}
use Rattle.pci_spec.proofs.Forms.{fits_rows}
use Rattle.pci_spec.proofs.Stopping.{stop_in_slot, stop_after_slot, stop_at_order, stop_in_title, stop_in_rest}
use Rattle.pci_spec.proofs.Faults.{fault_slot, fault_order, fault_title, fault_line, fault_blank, fault_ended, fault_many, refused_line, refused_part, breaks_in_row, breaks_in_blank, leaves_in_row, leaves_in_blank, ends_in_rest, ends_after_slot}
use Rattle.pci_spec.proofs.Examples.Samples.{slot, zeros}
use Rattle.pci_spec.proofs.Examples.Texts.{plain, one_block, repeated, bytes_by, each_by}

none : IsDump []
none = record { each = λ k d less. absurd (let no : ⊥ = omega (arith, less) in no); rising = λ k less. absurd (let no : ⊥ = omega (arith, less) in no); room = lit≤ tt }

-- a digit is one of its cell's
taken_digit : (n c : ℕ) → Takes (Digit n) c → some_from 0 (suc n) (λ d. hex_digit d == c) ≡ true
taken_digit n c (d, less, is) = some_from-at 0 (suc n) (λ d. hex_digit d == c) d (omega arith) (omega (arith, less)) (eq-eqb (hex_digit d) c (sym is))

other_digit : (n c : ℕ) → some_from 0 (suc n) (λ d. hex_digit d == c) ≡ false → Takes (Digit n) c → ⊥
other_digit n c h takes = both_ways _ h (taken_digit n c takes)

at_1 : IsSlot (slot 0 1 0)
at_1 = (lit< tt, lit< tt, lit< tt)

-- ---- slots

bad_slot : (bytes more : List ℕ) → Breaks slot_cells bytes → IsFaultOf (bytes ++ more) (BadSlot 1)
bad_slot bytes more k = fault_slot [] bytes more none (lit< tt) (stop_in_slot None bytes k)

device_above_31 : (more : List ℕ) → IsFaultOf (codes "00:20.0" ++ more) (BadSlot 1)
unfolding some_from
device_above_31 more = bad_slot (codes "00:20.0") more (refused_line slot_cells (codes "00:20.0") refl (λ fits. other_digit 1 50 refl fits.1.1.1.0))

function_above_7 : (more : List ℕ) → IsFaultOf (codes "00:01.8" ++ more) (BadSlot 1)
unfolding some_from
function_above_7 more = bad_slot (codes "00:01.8") more (refused_line slot_cells (codes "00:01.8") refl (λ fits. other_digit 7 56 refl fits.1.1.1.1.1.1.0))

upper_case_digit : (more : List ℕ) → IsFaultOf (codes "0A:00.0" ++ more) (BadSlot 1)
unfolding some_from
upper_case_digit more = bad_slot (codes "0A:00.0") more (refused_line slot_cells (codes "0A:00.0") refl (λ fits. other_digit 15 65 refl fits.1.0))

line_end_alone : (more : List ℕ) → IsFaultOf (codes "\n" ++ more) (BadSlot 1)
unfolding some_from
line_end_alone more = bad_slot (codes "\n") more (refused_part slot_cells (codes "\n") (lit< tt) (λ fits. other_digit 15 10 refl fits.0))

carriage_return : (more : List ℕ) → IsFaultOf (codes "00:01.0\r" ++ more) (BadSlot 1)
carriage_return more = fault_slot [] (codes "00:01.0\r") more none (lit< tt)
    (stop_after_slot None (codes "00:01.0\r") (slot 0 1 0) 13 [] at_1 refl tt (λ e. omega (arith, e)) (λ e. omega (arith, e)))

function_above_7_after_a_higher_slot : (more : List ℕ) → IsFaultOf (block_text (plain 2) ++ [] ++ (codes "00:01.8" ++ more)) (BadSlot 19)
unfolding some_from
function_above_7_after_a_higher_slot more =
    fault_slot (plain 2 ∷ []) (codes "00:01.8") more (one_block 2 (lit< tt)) (lit< tt)
    (stop_in_slot (Some (slot 0 2 0)) (codes "00:01.8") (refused_line slot_cells (codes "00:01.8") refl (λ fits. other_digit 7 56 refl fits.1.1.1.1.1.1.0)))

one_line_end_more : (more : List ℕ) → IsFaultOf (block_text (plain 2) ++ [] ++ (codes "\n" ++ more)) (BadSlot 19)
unfolding some_from
one_line_end_more more =
    fault_slot (plain 2 ∷ []) (codes "\n") more (one_block 2 (lit< tt)) (lit< tt)
    (stop_in_slot (Some (slot 0 2 0)) (codes "\n") (refused_part slot_cells (codes "\n") (lit< tt) (λ fits. other_digit 15 10 refl fits.0)))

-- ---- order and number

lower_slot : (more : List ℕ) → IsFaultOf (block_text (plain 2) ++ [] ++ (codes "00:01.0" ++ more)) (Order 19)
lower_slot more =
    fault_order (plain 2 ∷ []) (codes "00:01.0") more (one_block 2 (lit< tt)) (lit< tt)
    (stop_at_order (Some (slot 0 2 0)) (codes "00:01.0") (slot 0 1 0) [] at_1 refl (λ less. let above : 16 < 8 = less in omega (arith, above)))

same_slot_twice : (more : List ℕ) → IsFaultOf (block_text (plain 1) ++ [] ++ (codes "00:01.0" ++ more)) (Order 19)
same_slot_twice more =
    fault_order (plain 1 ∷ []) (codes "00:01.0") more (one_block 1 (lit< tt)) (lit< tt)
    (stop_at_order (Some (slot 0 1 0)) (codes "00:01.0") (slot 0 1 0) [] at_1 refl (λ less. let above : 8 < 8 = less in omega (arith, above)))

byte_after_4096_blocks : (blocks : List Block) (c : ℕ) (more : List ℕ) → IsDump blocks → length blocks ≡ 4096 → IsFaultOf (text_of blocks ++ c ∷ more) (TooMany 73729)
byte_after_4096_blocks blocks c more dump full = subst (λ n. IsFaultOf (text_of blocks ++ c ∷ more) (TooMany (18 * n + 0 + 1))) full (fault_many blocks c more dump full)

no_block_is_begun_after_4096 : (bytes : List ℕ) (blocks : List Block) (c : ℕ) (part : List ℕ) → length blocks ≡ 4096 → IsFront bytes blocks (c ∷ part) → ⊥
no_block_is_begun_after_4096 bytes blocks c part full front = let room : length blocks + 1 ≤ 4096 = front.room in omega (arith, full, room)

-- ---- titles

empty_title : (more : List ℕ) → IsFaultOf (codes "00:01.0 \n" ++ more) (BadTitle 1)
empty_title more = fault_title [] (codes "00:01.0 \n") more none (lit< tt)
    (stop_in_title None (codes "00:01.0 \n") (slot 0 1 0) [] 10 [] at_1 tt (lit≤ tt) (λ k d less. absurd (let no : ⊥ = omega (arith, less) in no)) refl (λ e. refl) (λ h. absurd (both_ways false refl h)))

title_of_201_bytes : (more : List ℕ) → IsFaultOf ((codes "00:01.0 " ++ replicate 201 97) ++ more) (BadTitle 1)
title_of_201_bytes more = fault_title [] (codes "00:01.0 " ++ replicate 201 97) more none (lit< tt)
    (stop_in_title None (codes "00:01.0 " ++ replicate 201 97) (slot 0 1 0) (replicate 200 97) 97 [] at_1 tt (lit≤ tt) (repeated 200 97 refl) refl (λ e. absurd (let no : ⊥ = omega (arith, e) in no)) (λ h. refl))

title_with_a_delete : (more : List ℕ) → IsFaultOf (((codes "00:01.0 a") ++ 127 ∷ []) ++ more) (BadTitle 1)
title_with_a_delete more = fault_title [] (codes "00:01.0 a" ++ 127 ∷ []) more none (lit< tt)
    (stop_in_title None (codes "00:01.0 a" ++ 127 ∷ []) (slot 0 1 0) (97 ∷ []) 127 [] at_1 tt (lit≤ tt) (repeated 1 97 refl) refl (λ e. absurd (let no : ⊥ = omega (arith, e) in no)) (λ h. absurd (both_ways false refl h)))

-- ---- byte lines

-- so many lines of zeros
abbrev lines : ℕ → List ℕ
lines n = flat_map (byte_line zeros) (range_with_len 0 n)

-- the slot line of 00:01.0, whole lines, and what comes next
abbrev begun : ℕ → List ℕ → List ℕ
begun n line = codes "00:01.0\n" ++ (lines n ++ line)

fits_2 : Fits (rows_cells 0 2) (lines 2)
unfolding rows_text
fits_2 = fits_rows 0 2 (replicate 32 0) refl (bytes_by (replicate 32 0) refl)

fits_3 : Fits (rows_cells 0 3) (lines 3)
unfolding rows_text
fits_3 = fits_rows 0 3 (replicate 48 0) refl (bytes_by (replicate 48 0) refl)

fits_15 : Fits (rows_cells 0 15) (lines 15)
unfolding rows_text
fits_15 = fits_rows 0 15 (replicate 240 0) refl (bytes_by (replicate 240 0) refl)

fits_16 : Fits (rows_cells 0 16) (lines 16)
unfolding rows_text
fits_16 = fits_rows 0 16 zeros refl (bytes_by zeros refl)

bad_line : (row : ℕ) (line more : List ℕ) → row < 16 → Fits (rows_cells 0 row) (lines row) → Breaks (row_cells row) line
    → IsFaultOf (begun row line ++ more) (BadLine (18 * 0 + (1 + row) + 1))
bad_line row line more h fits breaks =
    let b = breaks_in_row row (lines row) line h fits breaks in
    fault_line [] (begun row line) more (1 + row) none (lit< tt) (omega arith) (omega (arith, h))
    (subst (λ n. Stops None (begun row line) (InLine (1 + n))) b.ends (stop_in_rest None (begun row line) (slot 0 1 0) None (lines row ++ line) at_1 tt tt refl b.breaks))

upper_case_digit_in_line_5 : (more : List ℕ) → IsFaultOf (begun 3 (codes "30: 0A") ++ more) (BadLine 5)
unfolding some_from value_cells
upper_case_digit_in_line_5 more = bad_line 3 (codes "30: 0A") more (lit< tt) fits_3 (refused_part (row_cells 3) (codes "30: 0A") (lit< tt) (λ fits. other_digit 15 65 refl fits.1.1.1.1.1.0))

last_byte_line_left_out : (more : List ℕ) → IsFaultOf (begun 15 (codes "\n") ++ more) (BadLine 17)
unfolding value_cells
last_byte_line_left_out more = bad_line 15 (codes "\n") more (lit< tt) fits_15 (refused_part (row_cells 15) (codes "\n") (lit< tt) (λ fits. let e : 10 ≡ 102 = fits.0 in omega (arith, e)))

line_of_another_offset : (more : List ℕ) → IsFaultOf (begun 3 (codes "40") ++ more) (BadLine 5)
unfolding value_cells
line_of_another_offset more = bad_line 3 (codes "40") more (lit< tt) fits_3 (refused_part (row_cells 3) (codes "40") (lit< tt) (λ fits. let e : 52 ≡ 51 = fits.0 in omega (arith, e)))

abbrev long_title : List ℕ
long_title = codes "ExampleG00: 34 12 78 56 02 00 10 00 00 00 00 00 00 00 00 00"

-- the end of the slot line is lost
title_that_runs_into_the_first_line : (more : List ℕ) → IsFaultOf ((codes "00:01.0 " ++ long_title ++ codes "\n10") ++ more) (BadLine 2)
unfolding value_cells rows_cells
title_that_runs_into_the_first_line more =
    let b = breaks_in_row 0 [] (codes "10") (lit< tt) tt (refused_part (row_cells 0) (codes "10") (lit< tt) (λ fits. let e : 49 ≡ 48 = fits.0 in omega (arith, e))) in
    let bytes : List ℕ = codes "00:01.0 " ++ long_title ++ codes "\n10" in
    fault_line [] bytes more 1 none (lit< tt) (lit≤ tt) (lit≤ tt)
    (subst (λ n. Stops None bytes (InLine (1 + n))) b.ends (stop_in_rest None bytes (slot 0 1 0) (Some long_title) (codes "10") at_1 (lit≤ tt, lit≤ tt, each_by long_title refl) tt refl b.breaks))

no_empty_line : (more : List ℕ) → IsFaultOf (begun 16 (codes "0") ++ more) (NoBlank 18)
no_empty_line more =
    let b = breaks_in_blank (lines 16) (codes "0") fits_16 (refused_line (Fixed 10 ∷ []) (codes "0") refl (λ fits. let e : 48 ≡ 10 = fits.0 in omega (arith, e))) in
    fault_blank [] (begun 16 (codes "0")) more none (lit< tt)
    (subst (λ n. Stops None (begun 16 (codes "0")) (InLine (1 + n))) b.ends (stop_in_rest None (begun 16 (codes "0")) (slot 0 1 0) None (lines 16 ++ codes "0") at_1 tt tt refl b.breaks))

-- ---- texts that end too early

nothing_of_row_2 : Leaves (row_cells 2) []
nothing_of_row_2 = record { done = []; todo = row_cells 2; cells_split = refl; some = λ e. let n = ap length e in omega (arith, n); fits = tt }

slot_alone : IsFaultOf (codes "00:01.0") (Ended 1)
slot_alone = fault_ended [] (codes "00:01.0") none (lit< tt) (ends_after_slot None (codes "00:01.0") (slot 0 1 0) at_1 tt refl)

cut_after_line_3 : IsFaultOf (begun 2 []) (Ended 4)
cut_after_line_3 = fault_ended [] (begun 2 []) none (lit< tt) (ends_in_rest None (begun 2 []) (slot 0 1 0) None (lines 2 ++ []) at_1 tt tt refl (leaves_in_row 2 (lines 2) [] (lit< tt) fits_2 nothing_of_row_2))

without_its_last_line_end : IsFaultOf (begun 16 []) (Ended 18)
without_its_last_line_end =
    fault_ended [] (begun 16 []) none (lit< tt)
    (ends_in_rest None (begun 16 []) (slot 0 1 0) None (lines 16 ++ []) at_1 tt tt refl
    (leaves_in_blank (lines 16) [] fits_16 record { done = []; todo = Fixed 10 ∷ []; cells_split = refl; some = λ e. let n = ap length e in omega (arith, n); fits = tt }))

second_block_cut_after_line_3 : IsFaultOf (block_text (plain 0) ++ [] ++ begun 2 []) (Ended 22)
second_block_cut_after_line_3 =
    fault_ended (plain 0 ∷ []) (begun 2 []) (one_block 0 (lit< tt)) (lit< tt)
    (ends_in_rest (Some (slot 0 0 0)) (begun 2 []) (slot 0 1 0) None (lines 2 ++ []) at_1 tt (lit< tt) refl (leaves_in_row 2 (lines 2) [] (lit< tt) fits_2 nothing_of_row_2))

-- Texts of sizes: their bytes, and the fault and its line where they stop being one, whatever comes after.
use Rattle.std.proofs.Common.{◌≡◌, ℕ, zero, suc, ◌+◌, ◌*◌, ◌^◌, ◌<◌, ◌≤◌, List, [], ◌∷◌, ◌++◌, refl, Bool, true, false, length, take, replicate, arith, lit<, lit≤, subst, sym}
use Rattle.std.specs.Prelude.{codes, ◌==◌, ◌&&◌}
use Rattle.std.specs.Bool.{nat_lt}
use Rattle.std.specs.List.{All, list_all}
use Rattle.std.proofs.lemmas.Bool.{and_parts, ltb-true, eq-eqb, both_ways}
use Rattle.std.proofs.lemmas.List.{length-map}
use Rattle.pci_spec.specs.Number.{some_from}
use Rattle.pci_spec.specs.Slot.{Slot, IsRising, slot_number}
use Rattle.pci_spec.specs.Text.{hex_digit, line_ends, BadSlot, BadLine, NoBlank, Order, TooMany, Ended}
use Rattle.pci_spec.specs.Resource.{ResourceLine, no_line}
use Rattle.pci_spec.specs.Form.{Digit, Takes, Fits}
use Rattle.pci_spec.specs.SizesText.{SizesBlock, IsResourceLine, IsSizesBlock, IsSizes, resource_text, sizes_block_text, sizes_text_of, IsSizesTextOf, IsSizesFaultOf}
use Rattle.pci_spec.specs.SizesForm.{lines_cells, sizes_cells}
use Rattle.pci_spec.specs.SizesStops.{SlotFollows}
use Rattle.pci_spec.proofs.Bits.{some_from-at}
use Rattle.pci_spec.proofs.Cells.{fits_first}
use Rattle.pci_spec.proofs.SizesTexts.{fits_sizes}
use Rattle.pci_spec.proofs.SizesFaults.{fault_slot, fault_line, fault_blank, fault_ended, fault_order, fault_many}
use Rattle.pci_spec.proofs.Examples.Samples.{slot}

-- ---- bytes of a text

-- a memory BAR of 4 KB, not prefetchable
abbrev bar_line : ResourceLine
bar_line = record { first = 0xfea04000; last = 0xfea04fff; flags = 0x40200 }

line_of_a_bar : resource_text bar_line ≡ codes "0x00000000fea04000 0x00000000fea04fff 0x0000000000040200\n"
line_of_a_bar = refl

greatest_number : resource_text record { first = 0; last = 0xffffffffffffffff; flags = 0 } ≡ codes "0x0000000000000000 0xffffffffffffffff 0x0000000000000000\n"
greatest_number = refl

abbrev is_small : ResourceLine → Bool
is_small line = nat_lt line.first (2 ^ 64) && (nat_lt line.last (2 ^ 64) && nat_lt line.flags (2 ^ 64))

-- a device of bus 0 with this BAR alone
abbrev sized : ℕ → SizesBlock
sized d = record { slot = slot 0 d 0; lines = bar_line ∷ replicate 6 no_line }

abbrev zero_line : List ℕ
zero_line = codes "0x0000000000000000 0x0000000000000000 0x0000000000000000\n"

whole_block : sizes_block_text (sized 2) ≡
    codes "00:02.0\n"
    ++ codes "0x00000000fea04000 0x00000000fea04fff 0x0000000000040200\n"
    ++ zero_line ++ zero_line ++ zero_line ++ zero_line ++ zero_line ++ zero_line
    ++ codes "\n"
unfolding sizes_block_text
whole_block = refl

its_length : length (sizes_block_text (sized 2)) ≡ 408
unfolding sizes_block_text
its_length = refl

its_lines : line_ends (sizes_block_text (sized 2)) ≡ 9
unfolding sizes_block_text
its_lines = refl

each_small : (lines : List ResourceLine) → list_all is_small lines ≡ true → All IsResourceLine lines
each_small [] h k d below = absurd (let no : ⊥ = omega (arith, below) in no)
each_small (line ∷ lines) h zero d below =
    let parts = and_parts (is_small line) (list_all is_small lines) h in
    let first = and_parts (nat_lt line.first (2 ^ 64)) (nat_lt line.last (2 ^ 64) && nat_lt line.flags (2 ^ 64)) parts.0 in
    let others = and_parts (nat_lt line.last (2 ^ 64)) (nat_lt line.flags (2 ^ 64)) first.1 in
    record { first = ltb-true line.first (2 ^ 64) first.0; last = ltb-true line.last (2 ^ 64) others.0; flags = ltb-true line.flags (2 ^ 64) others.1 }
each_small (line ∷ lines) h (suc k) d below = each_small lines (and_parts (is_small line) (list_all is_small lines) h).1 k d (omega (arith, below))

sized_block : (d : ℕ) → d < 32 → IsSizesBlock (sized d)
sized_block d h = record { slot = (lit< tt, h, lit< tt); seven = refl; each = each_small (sized 0).lines refl }

-- ---- sizes

no_pairs : (slots : List Slot) → length slots ≤ 1 → IsRising slots
no_pairs slots few k below = absurd (let l = length-map slots slot_number in let no : ⊥ = omega (arith, few, below, l) in no)

none : IsSizes []
none = record { each = each_of_none; rising = no_pairs [] (lit≤ tt); room = lit≤ tt } where
  each_of_none : All IsSizesBlock []
  each_of_none k d below = absurd (let no : ⊥ = omega (arith, below) in no)

one : (d : ℕ) → d < 32 → IsSizes (sized d ∷ [])
one d h = record { each = each_of_one; rising = no_pairs (slot 0 d 0 ∷ []) (lit≤ tt); room = lit≤ tt } where
  each_of_one : All IsSizesBlock (sized d ∷ [])
  each_of_one zero e below = sized_block d h
  each_of_one (suc k) e below = absurd (let no : ⊥ = omega (arith, below) in no)

nothing_is_a_text : IsSizesTextOf [] []
nothing_is_a_text = (none, refl)

text_of_one : IsSizesTextOf (sizes_block_text (sized 2)) (sized 2 ∷ [])
unfolding sizes_block_text
text_of_one = (one 2 (lit< tt), refl)

no_text_of_a_block_twice : (bytes : List ℕ) → IsSizesTextOf bytes (sized 1 ∷ sized 1 ∷ []) → ⊥
no_text_of_a_block_twice bytes text = let less : 8 < 8 = text.0.rising 0 (lit< tt) in omega (arith, less)

no_line_of_65_bits : IsResourceLine record { first = 0; last = 2 ^ 64; flags = 0 } → ⊥
no_line_of_65_bits h = let less : 2 ^ 64 < 2 ^ 64 = h.last in omega (arith, less)

no_block_of_six_lines : IsSizesBlock record { slot = slot 0 1 0; lines = replicate 6 no_line } → ⊥
no_block_of_six_lines h = let seven : 6 ≡ 7 = h.seven in omega (arith, seven)

-- ---- faults

-- the first bytes of the text of 00:02.0
abbrev begun : ℕ → List ℕ
begun k = take k (sizes_block_text (sized 2))

begun_fits : (k : ℕ) → Fits (take k sizes_cells) (begun k)
begun_fits k = fits_first k sizes_cells (sizes_block_text (sized 2)) (fits_sizes (sized 2) (sized_block 2 (lit< tt)))

its_slot_follows : (bytes : List ℕ) (k : ℕ) → take 7 bytes ≡ codes "00:02.0" → SlotFollows [] bytes k
its_slot_follows bytes k first seven = (slot 0 2 0, first, no_pairs (slot 0 2 0 ∷ []) (lit≤ tt))

other_digit : (n c : ℕ) → some_from 0 (suc n) (λ d. hex_digit d == c) ≡ false → Takes (Digit n) c → ⊥
other_digit n c h (d, less, is) = both_ways _ h (some_from-at 0 (suc n) (λ d. hex_digit d == c) d (omega arith) (omega (arith, less)) (eq-eqb (hex_digit d) c (sym is)))

device_above_31 : (more : List ℕ) → IsSizesFaultOf (codes "00:2" ++ more) (BadSlot 1)
unfolding sizes_cells sizes_block_text some_from
device_above_31 more =
    fault_slot [] (codes "00:2") 3 none (lit< tt) (lit< tt) (begun_fits 3) (lit< tt) (other_digit 1 50 refl) more (lit< tt) (λ seven. absurd (let no : ⊥ = omega (arith, seven) in no))

a_title : (more : List ℕ) → IsSizesFaultOf (codes "00:02.0 " ++ more) (BadSlot 1)
unfolding sizes_cells sizes_block_text
a_title more =
    fault_slot [] (codes "00:02.0 ") 7 none (lit< tt) (lit< tt) (begun_fits 7) (lit< tt) (λ e. let no : ⊥ = omega (arith, e) in no) more (lit< tt) (its_slot_follows (codes "00:02.0 ") 7 refl)

no_prefix : (more : List ℕ) → IsSizesFaultOf (codes "00:02.0\n00000000fea04000" ++ more) (BadLine 2)
unfolding sizes_cells lines_cells sizes_block_text
no_prefix more =
    fault_line [] (codes "00:02.0\n00000000fea04000") 9 none (lit< tt) (lit< tt) (begun_fits 9) (lit< tt) (λ e. let no : ⊥ = omega (arith, e) in no) more (lit≤ tt) (lit≤ tt) (its_slot_follows (codes "00:02.0\n00000000fea04000") 9 refl)

upper_case_digit_in_line_3 : (more : List ℕ) → IsSizesFaultOf ((begun 82 ++ codes "F") ++ more) (BadLine 3)
unfolding sizes_cells lines_cells sizes_block_text some_from
upper_case_digit_in_line_3 more =
    fault_line [] (begun 82 ++ codes "F") 82 none (lit< tt) (lit< tt) (begun_fits 82) (lit< tt) (other_digit 15 70 refl) more (lit≤ tt) (lit≤ tt) (its_slot_follows (begun 82 ++ codes "F") 82 refl)

eighth_line : (more : List ℕ) → IsSizesFaultOf ((begun 407 ++ codes "0") ++ more) (NoBlank 9)
unfolding sizes_cells lines_cells sizes_block_text
eighth_line more =
    fault_blank [] (begun 407 ++ codes "0") 407 none (lit< tt) (lit< tt) (begun_fits 407) (lit< tt) (λ e. let no : ⊥ = omega (arith, e) in no) more refl (its_slot_follows (begun 407 ++ codes "0") 407 refl)

lower_slot : (more : List ℕ) → IsSizesFaultOf (sizes_text_of (sized 2 ∷ []) ++ (codes "00:01.0" ++ more)) (Order 10)
lower_slot more =
    fault_order (sized 2 ∷ []) (codes "00:01.0") more (slot 0 1 0) (one 2 (lit< tt)) (lit< tt) (lit< tt, lit< tt, lit< tt) (lit≤ tt) refl (λ rising. let less : 16 < 8 = rising 0 (lit< tt) in omega (arith, less))

byte_after_4096_blocks : (blocks : List SizesBlock) (c : ℕ) (more : List ℕ) → IsSizes blocks → length blocks ≡ 4096 → IsSizesFaultOf (sizes_text_of blocks ++ c ∷ more) (TooMany 36865)
byte_after_4096_blocks blocks c more sizes full = subst (λ n. IsSizesFaultOf (sizes_text_of blocks ++ c ∷ more) (TooMany (9 * n + 0 + 1))) full (fault_many blocks c more sizes full)

slot_alone : IsSizesFaultOf (codes "00:02.0") (Ended 1)
unfolding sizes_block_text
slot_alone = fault_ended [] (codes "00:02.0") 7 none (lit< tt) (lit< tt) (begun_fits 7) refl (lit≤ tt) (its_slot_follows (codes "00:02.0") 7 refl)

cut_after_line_3 : IsSizesFaultOf (begun 122) (Ended 4)
unfolding sizes_block_text
cut_after_line_3 = fault_ended [] (begun 122) 122 none (lit< tt) (lit< tt) (begun_fits 122) refl (lit≤ tt) (its_slot_follows (begun 122) 122 refl)

without_its_last_line_end : IsSizesFaultOf (begun 407) (Ended 9)
unfolding sizes_block_text
without_its_last_line_end = fault_ended [] (begun 407) 407 none (lit< tt) (lit< tt) (begun_fits 407) refl (lit≤ tt) (its_slot_follows (begun 407) 407 refl)

second_block_cut_after_line_3 : IsSizesFaultOf (sizes_text_of (sized 1 ∷ []) ++ begun 122) (Ended 13)
unfolding sizes_block_text
second_block_cut_after_line_3 = fault_ended (sized 1 ∷ []) (begun 122) 122 (one 1 (lit< tt)) (lit< tt) (lit< tt) (begun_fits 122) refl (lit≤ tt) (λ seven. (slot 0 2 0, refl, rising)) where
  rising : IsRising (slot 0 1 0 ∷ slot 0 2 0 ∷ [])
  rising zero below = lit< tt
  rising (suc k) below = absurd (let no : ⊥ = omega (arith, below) in no)

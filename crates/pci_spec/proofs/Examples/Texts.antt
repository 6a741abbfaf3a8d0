-- Texts of blocks: their bytes, titles, and how many blocks a dump has.
use Rattle.std.proofs.Common.{◌≡◌, ℕ, zero, suc, ◌*◌, ◌<◌, ◌≤◌, List, [], ◌∷◌, ◌++◌, refl, true, false, Option, None, Some, length, replicate, get_or, arith, lit<, lit≤, subst, sym, map}
use Rattle.std.specs.Prelude.{IsTrue, codes}
use Rattle.std.specs.Bool.{nat_lt}
use Rattle.std.specs.List.{All, list_all, flat_map, range_with_len}
use Rattle.std.proofs.lemmas.Bool.{and_parts, ltb-true, both_ways}
use Rattle.std.proofs.lemmas.List.{get_or-replicate, length-replicate}
use Rattle.pci_spec.specs.Slot.{IsRising}
use Rattle.pci_spec.specs.Text.{Block, IsBlock, IsTitle, IsDump, IsTextOf, is_title_byte, hex_digit, hex_byte, slot_text, byte_line, block_text, slots_of, line_ends, line_after}
use Rattle.pci_spec.proofs.Examples.Samples.{puts, put_bytes, zeros, blank, slot}

-- ---- bytes of a text

digits_are_in_lower_case : map hex_digit (range_with_len 0 16) ≡ codes "0123456789abcdef"
digits_are_in_lower_case = refl

high_digit_first : hex_byte 0x4b ≡ codes "4b"
high_digit_first = refl

slot_with_leading_zeros : slot_text (slot 0 2 0) ≡ codes "00:02.0"
slot_with_leading_zeros = refl

greatest_slot : slot_text (slot 255 31 7) ≡ codes "ff:1f.7"
greatest_slot = refl

-- the line of a row, counted from 0
row_of_bytes : byte_line (range_with_len 0 256) 15 ≡ codes "f0: f0 f1 f2 f3 f4 f5 f6 f7 f8 f9 fa fb fc fd fe ff" ++ 10 ∷ []
row_of_bytes = refl

-- a device with power management and MSI
abbrev vector_image : List ℕ
vector_image =
    puts ((0x10, 0xfe000008) ∷ (0x34, 0x40) ∷ (0x40, 0x00025001) ∷ (0x50, 0x00800005) ∷ (0x54, 0xfee00000) ∷ (0x5c, 0x00004041) ∷ [])
    (put_bytes ((0x06, 0x10) ∷ []) (blank 0 2))

abbrev pub vector : Block
vector = record { slot = slot 0 2 0; title = Some (codes "Example"); image = vector_image }

whole_block : block_text vector ≡
    codes "00:02.0 Example\n"
    ++ codes "00: 34 12 78 56 02 00 10 00 00 00 00 00 00 00 00 00\n"
    ++ codes "10: 08 00 00 fe 00 00 00 00 00 00 00 00 00 00 00 00\n"
    ++ codes "20: 00 00 00 00 00 00 00 00 00 00 00 00 00 00 00 00\n"
    ++ codes "30: 00 00 00 00 40 00 00 00 00 00 00 00 00 00 00 00\n"
    ++ codes "40: 01 50 02 00 00 00 00 00 00 00 00 00 00 00 00 00\n"
    ++ codes "50: 05 00 80 00 00 00 e0 fe 00 00 00 00 41 40 00 00\n"
    ++ flat_map (λ row. hex_byte (16 * row) ++ codes ": 00 00 00 00 00 00 00 00 00 00 00 00 00 00 00 00\n") (range_with_len 6 10)
    ++ codes "\n"
unfolding block_text
whole_block = refl

its_length : length (block_text vector) ≡ 849
unfolding block_text
its_length = refl

-- ---- titles

abbrev titled : Option (List ℕ) → Block
titled title = record { slot = slot 0 1 0; title = title; image = zeros }

block_without_a_title : length (block_text (titled None)) ≡ 841
unfolding block_text
block_without_a_title = refl

block_with_a_title_of_200_bytes : length (block_text (titled (Some (replicate 200 97)))) ≡ 1042
unfolding block_text
block_with_a_title_of_200_bytes = refl

title_bytes : map is_title_byte (0x1f ∷ 0x20 ∷ 0x41 ∷ 0x7e ∷ 0x7f ∷ 0x80 ∷ 0xff ∷ 0x100 ∷ 0x0a ∷ []) ≡ false ∷ true ∷ true ∷ true ∷ false ∷ true ∷ true ∷ false ∷ false ∷ []
title_bytes = refl

pub each_by : (xs : List ℕ) → list_all is_title_byte xs ≡ true → All (λ c. IsTrue (is_title_byte c)) xs
each_by [] h k d less = absurd (let no : ⊥ = omega (arith, less) in no)
each_by (x ∷ xs) h zero d less = (and_parts (is_title_byte x) (list_all is_title_byte xs) h).0
each_by (x ∷ xs) h (suc k) d less = each_by xs (and_parts (is_title_byte x) (list_all is_title_byte xs) h).1 k d (omega (arith, less))

-- so many times one byte
pub repeated : (n c : ℕ) → is_title_byte c ≡ true → All (λ c. IsTrue (is_title_byte c)) (replicate n c)
repeated n c h k d less = subst (λ x. is_title_byte x ≡ true) (sym (get_or-replicate n k c d (let l = length-replicate n c in omega (arith, less, l)))) h

title_of_1_byte : IsTitle (replicate 1 97)
title_of_1_byte = (lit≤ tt, lit≤ tt, repeated 1 97 refl)

title_of_200_bytes : IsTitle (replicate 200 97)
title_of_200_bytes = (lit≤ tt, lit≤ tt, repeated 200 97 refl)

title_of_blanks : IsTitle (replicate 3 32)
title_of_blanks = (lit≤ tt, lit≤ tt, repeated 3 32 refl)

no_title_of_201_bytes : IsTitle (replicate 201 97) → ⊥
no_title_of_201_bytes h = let few : 201 ≤ 200 = h.1 in omega (arith, few)

no_empty_title : IsTitle [] → ⊥
no_empty_title h = let some : 1 ≤ 0 = h.0 in omega (arith, some)

-- ---- dumps

pub bytes_by : (xs : List ℕ) → list_all (λ b. nat_lt b 256) xs ≡ true → (i : ℕ) → get_or xs i 0 < 256
bytes_by [] h i = lit< tt
bytes_by (x ∷ xs) h zero = ltb-true x 256 (and_parts (nat_lt x 256) (list_all (λ b. nat_lt b 256) xs) h).0
bytes_by (x ∷ xs) h (suc i) = bytes_by xs (and_parts (nat_lt x 256) (list_all (λ b. nat_lt b 256) xs) h).1 i

-- a function of bus 0 whose bytes are all 0
abbrev pub plain : ℕ → Block
plain d = record { slot = slot 0 d 0; title = None; image = zeros }

pub plain_block : (d : ℕ) → d < 32 → IsBlock (plain d)
plain_block d h = record { slot = (lit< tt, h, lit< tt); title = tt; image = record { full = refl; bytes = bytes_by zeros refl } }

vector_is_a_block : IsBlock vector
vector_is_a_block = record {
  slot = (lit< tt, lit< tt, lit< tt);
  title = (lit≤ tt, lit≤ tt, each_by (codes "Example") refl);
  image = record { full = refl; bytes = bytes_by vector_image refl };
}

one_of : {X : Type 0} (P : X → Type 0) (x : X) → P x → All P (x ∷ [])
one_of P x h zero d less = h
one_of P x h (suc k) d less = absurd (let no : ⊥ = omega (arith, less) in no)

pub one_block : (d : ℕ) → d < 32 → IsDump (plain d ∷ [])
one_block d h = record { each = one_of IsBlock (plain d) (plain_block d h); rising = λ k less. absurd (let no : ⊥ = omega (arith, less) in no); room = lit≤ tt }

one_text : IsTextOf (block_text (plain 1)) (plain 1 ∷ [])
unfolding block_text
one_text = (one_block 1 (lit< tt), refl)

no_block : IsTextOf [] []
no_block = (record { each = λ k d less. absurd (let no : ⊥ = omega (arith, less) in no); rising = λ k less. absurd (let no : ⊥ = omega (arith, less) in no); room = lit≤ tt }, refl)

no_text_of_a_block_twice : (bytes : List ℕ) → IsTextOf bytes (plain 1 ∷ plain 1 ∷ []) → ⊥
no_text_of_a_block_twice bytes text = let less : 8 < 8 = text.0.rising 0 (lit< tt) in omega (arith, less)

no_title_with_a_line_end : IsTitle (97 ∷ 10 ∷ []) → ⊥
no_title_with_a_line_end title = both_ways false refl (title.2 1 0 (lit< tt))

two_rising_slots : IsRising (slot 0 1 0 ∷ slot 0 1 1 ∷ [])
two_rising_slots zero less = lit< tt
two_rising_slots (suc k) less = absurd (let no : ⊥ = omega (arith, less) in no)

no_slot_comes_twice : IsRising (slot 0 1 0 ∷ slot 0 1 0 ∷ []) → ⊥
no_slot_comes_twice rising = let less : 8 < 8 = rising 0 (lit< tt) in omega (arith, less)

slots_do_not_fall : IsRising (slot 1 0 0 ∷ slot 0 31 7 ∷ []) → ⊥
slots_do_not_fall rising = let less : 256 < 255 = rising 0 (lit< tt) in omega (arith, less)

room_for_4096_blocks : (blocks : List Block) → All IsBlock blocks → IsRising (slots_of blocks) → length blocks ≡ 4096 → IsDump blocks
room_for_4096_blocks blocks each rising many = record { each = each; rising = rising; room = omega (arith, many) }

no_room_for_4097_blocks : (blocks : List Block) → length blocks ≡ 4097 → IsDump blocks → ⊥
no_room_for_4097_blocks blocks many dump = let room = dump.room in omega (arith, many, room)

-- ---- line ends

lines_of_a_block : line_ends (block_text vector) ≡ 18
unfolding block_text
lines_of_a_block = refl

first_byte_is_in_line_1 : line_after [] ≡ 1
first_byte_is_in_line_1 = refl

byte_after_a_line_end_is_in_line_2 : line_after (codes "00:02.0\n") ≡ 2
byte_after_a_line_end_is_in_line_2 = refl

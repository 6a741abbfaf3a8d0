-- Numbers in configuration space, and their bits.
use Rattle.std.specs.Prelude.{◌≡◌, ℕ, zero, suc, ◌+◌, ◌*◌, ◌-◌, ◌^◌, ◌<◌, ◌≤◌, ◌==◌, Bool, true, false, ◌&&◌, ◌||◌, List, length, slice_index}
use Rattle.std.specs.Int.{bit_at}
use Rattle.std.specs.List.{find, range_with_len}
use Rattle.std.specs.Option.{unwrap_or}

-- the byte at an offset
abbrev pub byte_at : List ℕ → ℕ → ℕ
byte_at image offset = slice_index image offset

-- the 256 bytes of a function's configuration space
pub record IsImage (image : List ℕ) : Type 0 where
  pub full : length image ≡ 256
  pub bytes : (offset : ℕ) → byte_at image offset < 256

-- `width` bytes from an offset on, the low byte first (PCI 3.0, 6.1)
abbrev pub number_at : List ℕ → ℕ → ℕ → ℕ
number_at image offset zero = 0
number_at image offset (suc width) =
    number_at image offset width + byte_at image (offset + width) * 256 ^ width

-- whether bit i of a number is 1, bit 0 being the lowest
abbrev pub has_bit : ℕ → ℕ → Bool
has_bit n i = bit_at n i == 1

-- whether each of `count` numbers from `low` on passes the test, and whether some does
unfoldable pub each_from : ℕ → ℕ → (ℕ → Bool) → Bool
each_from low zero test = true
each_from low (suc count) test = test low && each_from (low + 1) count test

unfoldable pub some_from : ℕ → ℕ → (ℕ → Bool) → Bool
some_from low zero test = false
some_from low (suc count) test = test low || some_from (low + 1) count test

-- two numbers have the same bits from bit k upward
abbrev pub AgreeFrom : ℕ → ℕ → ℕ → Type 0
AgreeFrom k a b = (i : ℕ) → k ≤ i → bit_at a i ≡ bit_at b i

-- the lowest bit from bit `from` upward that is 1, or 64 where there is none
abbrev pub lowest_one : ℕ → ℕ → ℕ
lowest_one from n = unwrap_or (find (has_bit n) (range_with_len from (64 - from))) 64

-- What a byte makes of a line, as the definitions have it.
use Rattle.std.specs.Prelude.{◌≡◌, ◌≢◌, ℕ, ◌+◌, ◌-◌, ◌<◌, ◌≤◌, List, length, drop, slice_index_or, None}
use Rattle.pci_spec.specs.System.{Space}
use Rattle.judge_spec.specs.Told.{ToldRange}
use Rattle.judge_spec.specs.ToldForm.{Field, Bus, Device, Function, First, Last, Place, Digits, Begun, IsBegun, Step, Wrong, Goes, Ends, ToldSoFar, digit_in, digits_of, take_bytes}
use Rattle.pci_dump.specs.declared.told_line.Next.{Next}
use Rattle.pci_dump.specs.declared.told_line.Next.TheVariants as next

-- the line that is left; one that is wrong stays as it was, of one that has ended the range is left
abbrev pub IsStep : Begun → Step → Next → Begun → Type 0
IsStep old Wrong answer new = (answer ≡ next.Wrong) × (new ≡ old)
IsStep old (Goes line) answer new = (answer ≡ next.Goes) × (new ≡ line)
IsStep old (Ends range) answer new = (answer ≡ next.Ends) × (new.range ≡ range)

-- a number that its field has room for
abbrev pub IsOfField : Field → ℕ → Type 0
IsOfField Bus n = n < 256
IsOfField Device n = n < 32
IsOfField Function n = n < 8
IsOfField First n = Unit {0}
IsOfField Last n = Unit {0}

abbrev pub IsAddressField : Field → Type 0
IsAddressField Bus = ⊥
IsAddressField Device = ⊥
IsAddressField Function = ⊥
IsAddressField First = Unit {0}
IsAddressField Last = Unit {0}

-- ---- bytes one after the other

-- so many bytes are taken: all of them come to what the rest comes to behind these
pub record AreTaken (old : ToldSoFar) (bytes : List ℕ) (k : ℕ) (s : ToldSoFar) : Type 0 where
  pub rest : take_bytes old bytes ≡ take_bytes s (drop k bytes)
  pub begun : IsBegun s.line

abbrev pub so_far : List ToldRange → Begun → ToldSoFar
so_far ranges line = record { ranges = ranges; line = line }

-- so many bytes are taken within a line, whatever lines are before it: a text goes on behind fewer than 4,096
pub record AreTakenWithin (old : Begun) (bytes : List ℕ) (k : ℕ) (new : Begun) : Type 0 where
  pub count : k ≤ length bytes
  pub taken : (ranges : List ToldRange) → length ranges ≢ 4096 → AreTaken (so_far ranges old) bytes k (so_far ranges new)

-- ---- digits of an address

-- how many digits of an address come yet before its last one
abbrev pub inner_digits : Place → Space → ℕ
inner_digits (Digits First k) space = digits_of First space - (k + 1)
inner_digits (Digits Last k) space = digits_of Last space - (k + 1)
inner_digits place space = 0

-- bytes behind a line begin with so many digits of an address before its last one, and with no more of them
pub record BeginWithDigits (line : Begun) (bytes : List ℕ) (n : ℕ) : Type 0 where
  pub count : n ≤ length bytes
  pub inner : n ≤ inner_digits line.place line.range.space
  pub digits : (i : ℕ) → i < n → digit_in (slice_index_or bytes i 0) ≢ None
  pub ends : n < length bytes → n < inner_digits line.place line.range.space
      → digit_in (slice_index_or bytes n 0) ≡ None

-- How far a title goes.
use Rattle.std.specs.Prelude.{◌≡◌, ℕ, ◌+◌, ◌<◌, ◌≤◌, ◌==◌, if◌then◌else◌, true, false, List, length, take, slice_index, IsTrue}
use Rattle.std.specs.Int.{w64, trailing_zeros}
use Rattle.std.specs.List.{All}
use Rattle.pci_spec.specs.Text.{is_title_byte}

-- the first n bytes may stand in a title; the next one may not, where there is one, or they are 200
pub record IsTitleFront (bytes : List ℕ) (n : ℕ) : Type 0 where
  pub bound : n ≤ length bytes
  pub few : n ≤ 200
  pub each : All (λ c. IsTrue (is_title_byte c)) (take n bytes)
  pub last : n < length bytes → IsTrue (is_title_byte (slice_index bytes n)) → n ≡ 200

-- the first bytes of the sixteen from a place on may stand in a title, the next one may not
pub record IsTitleRun (bytes : List ℕ) (at run : ℕ) : Type 0 where
  pub few : run ≤ 16
  pub each : (k : ℕ) → at ≤ k → k < at + run → is_title_byte (slice_index bytes k) ≡ true
  pub last : run < 16 → is_title_byte (slice_index bytes (at + run)) ≡ false

-- the place of the lowest of sixteen bits that is set, or 16
abbrev pub first_of_16 : ℕ → ℕ
first_of_16 bits = if bits == 0 then 16 else trailing_zeros w64 bits

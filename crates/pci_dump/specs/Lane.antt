-- Sixteen bytes at once.
use Rattle.std.specs.Prelude.{◌≡◌, ◌<◌, ℕ, List, slice_index}
use Rattle.pci_spec.specs.Text.{hex_digit}

-- a hex digit in lower case
abbrev pub IsDigit : ℕ → Type 0
IsDigit c = (d : ℕ) × (d < 16) × (c ≡ hex_digit d)

abbrev pub AreDigits : List ℕ → Type 0
AreDigits cells = (k : ℕ) → k < 16 → IsDigit (slice_index cells k)

abbrev pub AreSpaces : List ℕ → Type 0
AreSpaces cells = (k : ℕ) → k < 16 → slice_index cells k ≡ 32

abbrev pub AreZero : List ℕ → Type 0
AreZero cells = (k : ℕ) → k < 16 → slice_index cells k ≡ 0

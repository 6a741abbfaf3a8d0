-- Bytes by their bits.
use Rattle.std.specs.Prelude.{◌≡◌, ℕ, ◌<◌, Bool, ◌||◌, List}
use Rattle.pci_spec.specs.Number.{byte_at, has_bit}
use Rattle.pci_spec.specs.Machine.{Field, field_has, in_fields}

-- the bits of 256 bytes are those that pass the test of offset and bit
abbrev pub HasBits : List ℕ → (ℕ → ℕ → Bool) → Type 0
HasBits bytes test =
    (place i : ℕ) → place < 256 → i < 8 → has_bit (byte_at bytes place) i ≡ test place i

-- the bits of a field were added
abbrev pub AddsField : List ℕ → List ℕ → Field → Type 0
AddsField old new field =
    (place i : ℕ) → place < 256 → i < 8
    → has_bit (byte_at new place) i ≡ (has_bit (byte_at old place) i || field_has place i field)

-- the bits of several fields were added
abbrev pub AddsFields : List ℕ → List ℕ → List Field → Type 0
AddsFields old new fields =
    (place i : ℕ) → place < 256 → i < 8
    → has_bit (byte_at new place) i ≡ (has_bit (byte_at old place) i || in_fields fields place i)

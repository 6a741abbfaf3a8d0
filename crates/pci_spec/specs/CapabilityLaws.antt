-- Laws of the capabilities list.
use Rattle.std.specs.Prelude.{◌≡◌, ◌≢◌, ℕ, ◌+◌, ◌*◌, ◌/◌, ◌%◌, ◌<◌, ◌≤◌, IsTrue, IsFalse, List, length, slice_index}
use Rattle.std.specs.Int.{bit_at}
use Rattle.pci_spec.specs.Number.{byte_at, has_bit, IsImage}
use Rattle.pci_spec.specs.Header.{status}
use Rattle.pci_spec.specs.Capability.{pointer, msi_length, IsChain}

-- The walk starts at the Capabilities Pointer where Status says that there is a list, and is empty where it doesn't.
abbrev pub WalkStartsAtPointer : Type 0
WalkStartsAtPointer =
    (image : List ℕ) → IsTrue (has_bit (status image) 4)
    → pointer image 0 ≡ byte_at image 0x34 / 4 * 4

abbrev pub NoListHasNoWalk : Type 0
NoListHasNoWalk =
    (image : List ℕ) (n : ℕ) → IsFalse (has_bit (status image) 4) → pointer image n ≡ 0

-- from each place it goes on by the byte behind the place's own
abbrev pub WalkGoesOnByNextByte : Type 0
WalkGoesOnByNextByte =
    (image : List ℕ) (n : ℕ) → pointer image n ≢ 0
    → pointer image (n + 1) ≡ byte_at image (pointer image n + 1) / 4 * 4

-- a pointer is of a doubleword of the image
abbrev pub PointerIsAligned : Type 0
PointerIsAligned =
    (image : List ℕ) (n : ℕ) → IsImage image → (pointer image n ≤ 0xfc) × (pointer image n % 4 ≡ 0)

-- a walk that has ended stays at its end
abbrev pub WalkStaysEnded : Type 0
WalkStaysEnded = (image : List ℕ) (n more : ℕ) → pointer image n ≡ 0 → pointer image (n + more) ≡ 0

-- behind the header there are 48 places, so a walk that comes to none twice has at most so many
abbrev pub WalkHasAtMost48Places : Type 0
WalkHasAtMost48Places =
    (image : List ℕ) (n : ℕ) → IsImage image → ((i : ℕ) → i < n → 0x40 ≤ pointer image i)
    → ((i j : ℕ) → i < j → j < n → pointer image i ≢ pointer image j) → n ≤ 48

abbrev pub ChainHasAtMost48Places : Type 0
ChainHasAtMost48Places =
    (image places : List ℕ) → IsImage image → IsChain image places → length places ≤ 48

-- its places are doublewords behind the header
abbrev pub ChainPlacesAreAligned : Type 0
ChainPlacesAreAligned =
    (image places : List ℕ) (k : ℕ) → IsImage image → IsChain image places → k < length places
    → (0x40 ≤ slice_index places k) × (slice_index places k ≤ 0xfc) × (slice_index places k % 4 ≡ 0)

-- an image has one chain
abbrev pub ImageHasOneChain : Type 0
ImageHasOneChain =
    (image places others : List ℕ) → IsChain image places → IsChain image others → places ≡ others

-- An MSI capability has ten bytes, four more with a 64-bit address, and ten more with per-vector masking.
abbrev pub MsiLengthByBits : Type 0
MsiLengthByBits =
    (control : ℕ) → msi_length control ≡ 10 + 4 * bit_at control 7 + 10 * bit_at control 8

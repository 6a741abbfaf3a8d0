-- What a stop says of the bytes.
use Rattle.std.specs.Prelude.{◌≡◌, ◌≢◌, ◌⊎◌, ℕ, zero, suc, ◌+◌, ◌<◌, ◌≤◌, List, [], ◌∷◌, ◌++◌, Option, None, Some, take, drop, length, IsTrue, IfSome}
use Rattle.std.specs.List.{All}
use Rattle.pci_spec.specs.Slot.{Slot}
use Rattle.pci_spec.specs.Text.{Block, IsBlock, IsTitle, is_title_byte, block_text, title_text, line_ends}
use Rattle.pci_spec.specs.Form.{slot_cells, Breaks, Leaves, BreaksIn, row_cells, rest_cells}
use Rattle.pci_spec.specs.Stops.{IsAboveLast, Stops, EndsIn, InSlot, InTitleText, InLine, AtSlotEnd}
use Rattle.pci_dump.specs.declared.parse.BlockFault.{BlockFault}
use Rattle.pci_dump.specs.declared.parse.BlockFault.TheVariants.{BadSlot, BadTitle, BadLine, NoBlank, Order, Ended, EndedFirst}

-- of a row's line that the input cuts
abbrev pub RowStops : ℕ → List ℕ → BlockFault → Type 0
RowStops row part (BadLine r) = (r ≡ row) × Breaks (row_cells row) part
RowStops row part (Ended r) = (r ≡ row) × Leaves (row_cells row) part
RowStops row part BadSlot = ⊥
RowStops row part BadTitle = ⊥
RowStops row part NoBlank = ⊥
RowStops row part Order = ⊥
RowStops row part EndedFirst = ⊥

-- of what follows a slot line
abbrev pub RestStops : List ℕ → BlockFault → Type 0
RestStops bytes (BadLine r) = (r < 16) × BreaksIn r bytes
RestStops bytes NoBlank = BreaksIn 16 bytes
RestStops bytes (Ended r) = Leaves rest_cells bytes × (line_ends bytes ≡ r)
RestStops bytes BadSlot = ⊥
RestStops bytes BadTitle = ⊥
RestStops bytes Order = ⊥
RestStops bytes EndedFirst = ⊥

-- of a slot that the input cuts
abbrev pub SlotStops : List ℕ → BlockFault → Type 0
SlotStops part BadSlot = Breaks slot_cells part
SlotStops part EndedFirst = Leaves slot_cells part
SlotStops part BadTitle = ⊥
SlotStops part (BadLine r) = ⊥
SlotStops part NoBlank = ⊥
SlotStops part Order = ⊥
SlotStops part (Ended r) = ⊥

-- the title of so many bytes that may follow a slot
abbrev pub title_at : List ℕ → ℕ → Option (List ℕ)
title_at bytes zero = None
title_at bytes (suc n) = Some (take (suc n) (drop 1 bytes))

-- the bytes of the line after the slot
abbrev pub head_long : ℕ → ℕ
head_long zero = 1
head_long (suc n) = suc n + 2

pub record IsHead (bytes : List ℕ) (n : ℕ) : Type 0 where
  pub title : IfSome (title_at bytes n) IsTitle
  pub text : bytes ≡ title_text (title_at bytes n) ++ 10 ∷ drop (head_long n) bytes
  pub fits : head_long n ≤ length bytes

-- it stops after a space and some bytes of a title
pub record TitleBreaks (bytes : List ℕ) : Type 0 where
  pub begun : List ℕ
  pub c : ℕ
  pub more : List ℕ
  pub split : bytes ≡ 32 ∷ begun ++ c ∷ more
  pub few : length begun ≤ 200
  pub each : All (λ b. IsTrue (is_title_byte b)) begun
  pub no_line : c ≡ 10 → begun ≡ []
  pub full : IsTrue (is_title_byte c) → length begun ≡ 200

pub record TitleLeaves (begun : List ℕ) : Type 0 where
  pub few : length begun ≤ 200
  pub each : All (λ b. IsTrue (is_title_byte b)) begun

-- of what follows a slot in its line
abbrev pub TitleStops : List ℕ → BlockFault → Type 0
TitleStops bytes BadSlot = (c : ℕ) × (bytes ≡ c ∷ drop 1 bytes) × (c ≢ 10) × (c ≢ 32)
TitleStops bytes BadTitle = TitleBreaks bytes
TitleStops bytes EndedFirst =
    (bytes ≡ []) ⊎ ((begun : List ℕ) × (bytes ≡ 32 ∷ begun) × TitleLeaves begun)
TitleStops bytes (BadLine r) = ⊥
TitleStops bytes NoBlank = ⊥
TitleStops bytes Order = ⊥
TitleStops bytes (Ended r) = ⊥

-- of a block
abbrev pub BlockStops : Option Slot → List ℕ → BlockFault → Type 0
BlockStops last bytes BadSlot = Stops last bytes InSlot
BlockStops last bytes BadTitle = Stops last bytes InTitleText
BlockStops last bytes (BadLine r) = (r < 16) × Stops last bytes (InLine (1 + r))
BlockStops last bytes NoBlank = Stops last bytes (InLine 17)
BlockStops last bytes Order = Stops last bytes AtSlotEnd
BlockStops last bytes (Ended r) = EndsIn last bytes × (line_ends bytes ≡ 1 + r)
BlockStops last bytes EndedFirst = EndsIn last bytes × (line_ends bytes ≡ 0)

-- the bytes begin with this block's text, of so many bytes, and its slot may stand after the last
pub record IsBlockAt (last : Option Slot) (bytes : List ℕ) (b : Block) (used : ℕ) : Type 0 where
  pub block : IsBlock b
  pub text : bytes ≡ block_text b ++ drop used bytes
  pub above : IsAboveLast last b.slot
  pub fits : used ≤ length bytes

-- it does not say that the input ends
abbrev pub GoesOn : BlockFault → Type 0
GoesOn (Ended r) = ⊥
GoesOn EndedFirst = ⊥
GoesOn BadSlot = Unit {0}
GoesOn BadTitle = Unit {0}
GoesOn (BadLine r) = Unit {0}
GoesOn NoBlank = Unit {0}
GoesOn Order = Unit {0}

-- The text of sizes: for each function a slot line, seven lines of what Linux tells of its address registers, and an empty line.
use Rattle.std.specs.Prelude.{◌≡◌, ◌≢◌, ℕ, ◌^◌, ◌<◌, ◌≤◌, List, [], ◌∷◌, ◌++◌, map, length}
use Rattle.std.specs.List.{flat_map, All}
use Rattle.pci_spec.specs.Slot.{Slot, IsSlot, IsRising}
use Rattle.pci_spec.specs.Text.{slot_text, line_ends, line_after, TextFault, BadSlot, BadTitle, BadLine, NoBlank, Order, TooMany, Ended}
use Rattle.pci_spec.specs.Line.{hex_number}
use Rattle.pci_spec.specs.Resource.{ResourceLine}

-- a function as a sizes text lists it: lines 0 to 5 are those of its BAR registers, line 6 is that of its ROM
pub record SizesBlock : Type 0 where
  pub slot : Slot
  pub lines : List ResourceLine

-- each number has 64 bits
pub record IsResourceLine (line : ResourceLine) : Type 0 where
  pub first : line.first < 2 ^ 64
  pub last : line.last < 2 ^ 64
  pub flags : line.flags < 2 ^ 64

pub record IsSizesBlock (b : SizesBlock) : Type 0 where
  pub slot : IsSlot b.slot
  pub seven : length b.lines ≡ 7
  pub each : All IsResourceLine b.lines

abbrev pub sized_slots : List SizesBlock → List Slot
sized_slots blocks = map (λ b. b.slot) blocks

-- the blocks of a sizes text: at most 4096, and their slots rise
pub record IsSizes (blocks : List SizesBlock) : Type 0 where
  pub each : All IsSizesBlock blocks
  pub rising : IsRising (sized_slots blocks)
  pub room : length blocks ≤ 4096

-- ---- the text

-- `0x` and sixteen hex digits
abbrev pub number_text : ℕ → List ℕ
number_text n = 48 ∷ 120 ∷ hex_number 16 n

-- the first address, the last address and flags
abbrev pub resource_text : ResourceLine → List ℕ
resource_text line =
    number_text line.first ++ (32 ∷ number_text line.last) ++ (32 ∷ number_text line.flags)
    ++ (10 ∷ [])

-- the nine lines of a block
unfoldable pub sizes_block_text : SizesBlock → List ℕ
sizes_block_text b = slot_text b.slot ++ (10 ∷ flat_map resource_text b.lines) ++ (10 ∷ [])

abbrev pub sizes_text_of : List SizesBlock → List ℕ
sizes_text_of blocks = flat_map sizes_block_text blocks

-- the bytes are the text of these sizes
abbrev pub IsSizesTextOf : List ℕ → List SizesBlock → Type 0
IsSizesTextOf bytes blocks = IsSizes blocks × (bytes ≡ sizes_text_of blocks)

-- ---- its beginnings

-- less than a whole block: more is needed to make it this block's text
pub record IsPartOfSizes (part : List ℕ) (b : SizesBlock) : Type 0 where
  pub block : IsSizesBlock b
  pub rest : List ℕ
  pub unfinished : rest ≢ []
  pub whole : part ++ rest ≡ sizes_block_text b

-- it begins some block's text
abbrev pub BeginsSizes : List ℕ → Type 0
BeginsSizes part = (b : SizesBlock) × IsPartOfSizes part b

-- A good beginning: whole blocks, and a part of one more. Each whole slot, of seven bytes, is above the one before it,
-- and no more blocks are begun than there is room for.
pub record IsSizesFront (bytes : List ℕ) (blocks : List SizesBlock) (part : List ℕ) : Type 0 where
  pub split : bytes ≡ sizes_text_of blocks ++ part
  pub each : All IsSizesBlock blocks
  pub rising : IsRising (sized_slots blocks)
  pub next : (b : SizesBlock) × IsPartOfSizes part b
      × (7 ≤ length part → IsRising (sized_slots (blocks ++ b ∷ [])))
  pub room : length blocks ≤ 4096
  pub begun : part ≢ [] → length blocks < 4096

abbrev pub IsGoodSizes : List ℕ → Type 0
IsGoodSizes bytes = (blocks : List SizesBlock) × (part : List ℕ) × IsSizesFront bytes blocks part

-- ---- its faults

-- A good beginning, and the byte in this line with which it isn't good any more; P holds of the blocks and the part before
-- the byte, and of the byte.
pub record SizesStopWhere (bytes : List ℕ) (line : ℕ)
    (P : List SizesBlock → List ℕ → ℕ → Type 0) : Type 0 where
  pub front : List ℕ
  pub byte : ℕ
  pub more : List ℕ
  pub split : bytes ≡ front ++ byte ∷ more
  pub blocks : List SizesBlock
  pub part : List ℕ
  pub is_front : IsSizesFront front blocks part
  pub bad : IsGoodSizes (front ++ byte ∷ []) → ⊥
  pub in_line : line ≡ line_after front
  pub holds : P blocks part byte

-- the first fault of a text that is none
abbrev pub IsSizesFaultOf : List ℕ → TextFault → Type 0
-- one of the first eight bytes of a block is not of any
IsSizesFaultOf bytes (BadSlot line) =
    SizesStopWhere bytes line (λ blocks part c. (length blocks < 4096) × (length part < 8)
    × (BeginsSizes (part ++ c ∷ []) → ⊥))
-- there are no titles
IsSizesFaultOf bytes (BadTitle line) = ⊥
-- a byte of the seven lines
IsSizesFaultOf bytes (BadLine line) =
    SizesStopWhere bytes line (λ blocks part c. (1 ≤ line_ends part) × (line_ends part ≤ 7))
-- the byte in the place of the empty line's end
IsSizesFaultOf bytes (NoBlank line) =
    SizesStopWhere bytes line (λ blocks part c. line_ends part ≡ 8)
-- the byte that completes a slot that isn't above the one before it
IsSizesFaultOf bytes (Order line) =
    SizesStopWhere bytes line (λ blocks part c. (length part ≡ 6) × BeginsSizes (part ++ c ∷ []))
-- the first byte after all the blocks that there is room for
IsSizesFaultOf bytes (TooMany line) =
    SizesStopWhere bytes line (λ blocks part c. length blocks ≡ 4096)
-- the whole input begins a text, and is none
IsSizesFaultOf bytes (Ended line) =
    IsGoodSizes bytes × ((blocks : List SizesBlock) → IsSizesTextOf bytes blocks → ⊥)
    × (line ≡ line_after bytes)

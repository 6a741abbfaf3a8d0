-- Laws of texts: a dump and its text are one to one, and an input that is no text has one fault.
use Rattle.std.specs.Prelude.{◌≡◌, ◌⊎◌, ℕ, ◌+◌, ◌%◌, ◌<◌, ◌≤◌, ◌==◌, nat_le, Bool, ◌&&◌, ◌||◌, IsTrue, List, ◌++◌, map, length, slice_index, None}
use Rattle.std.specs.List.{All}
use Rattle.pci_spec.specs.Slot.{slot_number}
use Rattle.pci_spec.specs.Text.{slots_of, Block, IsBlock, IsDump, block_text, line_ends, IsTextOf, IsGood, TextFault, BadSlot, BadTitle, BadLine, NoBlank, Order, TooMany, Ended, IsFaultOf}

-- a dump has a text
abbrev pub DumpHasText : Type 0
DumpHasText = (blocks : List Block) → IsDump blocks → (bytes : List ℕ) × IsTextOf bytes blocks

-- and only one
abbrev pub DumpHasOneText : Type 0
DumpHasOneText =
    (bytes others : List ℕ) (blocks : List Block) → IsTextOf bytes blocks → IsTextOf others blocks
    → bytes ≡ others

-- no text is two dumps'
abbrev pub TextIsOfOneDump : Type 0
TextIsOfOneDump =
    (bytes : List ℕ) (blocks others : List Block) → IsTextOf bytes blocks → IsTextOf bytes others
    → blocks ≡ others

-- a dump lists each function once, in the order of their slots
abbrev pub DumpListsSlotsInOrder : Type 0
DumpListsSlotsInOrder =
    (blocks : List Block) (j k : ℕ) → IsDump blocks → j < k → k < length blocks
    → slice_index (map slot_number (slots_of blocks)) j
    < slice_index (map slot_number (slots_of blocks)) k

-- what an input begins with is good where the input is
abbrev pub BeginningsAreGood : Type 0
BeginningsAreGood = (front rest : List ℕ) → IsGood (front ++ rest) → IsGood front

-- a text is good
abbrev pub TextIsGood : Type 0
TextIsGood = (bytes : List ℕ) (blocks : List Block) → IsTextOf bytes blocks → IsGood bytes

-- an input has at most one fault
abbrev pub InputHasOneFault : Type 0
InputHasOneFault =
    (bytes : List ℕ) (f g : TextFault) → IsFaultOf bytes f → IsFaultOf bytes g → f ≡ g

-- and each input is a text or has one
abbrev pub InputIsTextOrHasFault : Type 0
InputIsTextOrHasFault =
    (bytes : List ℕ)
    → ((blocks : List Block) × IsTextOf bytes blocks) ⊎ ((f : TextFault) × IsFaultOf bytes f)

-- A text has none.
abbrev pub TextHasNoFault : Type 0
TextHasNoFault =
    (bytes : List ℕ) (blocks : List Block) (f : TextFault) → IsTextOf bytes blocks
    → IsFaultOf bytes f → ⊥

-- a block's text has 841 bytes without a title
abbrev pub BlockWithoutTitleHasLength : Type 0
BlockWithoutTitleHasLength = (b : Block) → IsBlock b → b.title ≡ None → length (block_text b) ≡ 841

-- 1,042 bytes at most
abbrev pub BlockHasMostLength : Type 0
BlockHasMostLength = (b : Block) → IsBlock b → length (block_text b) ≤ 1042

-- and some block has so many
abbrev pub LongestBlockIsThere : Type 0
LongestBlockIsThere = (b : Block) × IsBlock b × (length (block_text b) ≡ 1042)

-- Without a title it is made of small hex digits, spaces, colons, a full stop and line ends.
abbrev pub is_plain : ℕ → Bool
is_plain c =
    c == 10 || c == 32 || c == 46 || c == 58 || (nat_le 48 c && nat_le c 57)
    || (nat_le 97 c && nat_le c 102)

abbrev pub BlockWithoutTitleIsPlain : Type 0
BlockWithoutTitleIsPlain =
    (b : Block) → IsBlock b → b.title ≡ None → All (λ c. IsTrue (is_plain c)) (block_text b)

-- a dump has room for 4096 blocks, and for no more
abbrev pub DumpHasRoom : Type 0
DumpHasRoom = (blocks : List Block) → IsDump blocks → length blocks ≤ 4096

abbrev pub LargestDumpIsThere : Type 0
LargestDumpIsThere = (blocks : List Block) × IsDump blocks × (length blocks ≡ 4096)

-- Each fault names a line of its kind: of the 18 lines of a block the first is its slot line, then come sixteen byte lines
-- and the empty line. After 4096 blocks it is the next line, and an input that ends too early is refused in its last one.
abbrev pub IsInLineOf : List ℕ → TextFault → Type 0
IsInLineOf bytes (BadSlot line) = line % 18 ≡ 1
IsInLineOf bytes (BadTitle line) = line % 18 ≡ 1
IsInLineOf bytes (BadLine line) = (2 ≤ line % 18) × (line % 18 ≤ 17)
IsInLineOf bytes (NoBlank line) = (line % 18 ≡ 0) × (18 ≤ line)
IsInLineOf bytes (Order line) = (line % 18 ≡ 1) × (19 ≤ line)
IsInLineOf bytes (TooMany line) = line ≡ 73729
IsInLineOf bytes (Ended line) = line ≡ line_ends bytes + 1

abbrev pub FaultIsInItsLine : Type 0
FaultIsInItsLine = (bytes : List ℕ) (f : TextFault) → IsFaultOf bytes f → IsInLineOf bytes f

-- What a reader has before it, and what a step of it does.
use Rattle.std.specs.Prelude.{◌≡◌, ◌≢◌, ℕ, ◌+◌, ◌<◌, Bool, true, false, List, ◌++◌, length, Option, Some}
use Rattle.std.specs.Io.KnownBytes.{Consumes, IsAtEnd, Keeps, prepend_known}
use Rattle.pci_spec.specs.Slot.{Slot}
use Rattle.pci_spec.specs.Text.{Block, IsBlock, IsDump, block_text, text_of}
use Rattle.pci_spec.specs.Stops.{IsAboveLast, last_slot}
use Rattle.pci_dump.specs.declared.read_fault.ReadFault.{ReadFault}
use Rattle.pci_dump.specs.declared.read_fault.ReadFault.TheVariants as faults
use Rattle.pci_dump.specs.declared.ahead.Progress.{Progress}
use Rattle.pci_dump.specs.declared.ahead.Progress.TheVariants as stages
use Rattle.pci_dump.specs.ReadFault.{IsTextFault}

-- how far a text was read, apart from its source
pub record Ahead : Type 0 where
  -- bytes that were read from the source and belong to no block so far
  pub held : List ℕ
  -- the source has told its end
  pub drained : Bool
  -- how many blocks were read, and the last one's slot
  pub count : ℕ
  pub last : Option Slot
  pub progress : Progress

-- how far a text was read, with what its source has left
pub record State : Type 0 where
  pub left : Option (List ℕ)
  pub failures : ℕ
  pub count : ℕ
  pub last : Option Slot
  pub progress : Progress

abbrev pub state_of : Ahead → Option (List ℕ) → ℕ → State
state_of ahead left failures = record {
  left = prepend_known ahead.held left;
  failures = failures;
  count = ahead.count;
  last = ahead.last;
  progress = ahead.progress;
}

-- where the source has told its end, no byte is left
abbrev pub IsOver : Ahead → Option (List ℕ) → Type 0
IsOver ahead left = ahead.drained ≡ true → IsAtEnd left

-- It is the fault of each text of so many blocks, the last at this slot, followed by these bytes.
abbrev pub IsFaultAfter : ℕ → Option Slot → List ℕ → ReadFault → Type 0
IsFaultAfter count last bytes fault =
    (blocks : List Block) → IsDump blocks → length blocks ≡ count → last_slot blocks ≡ last
    → IsTextFault (text_of blocks ++ bytes) fault

-- the same number of blocks, and the same last slot
abbrev pub HasSameBlocks : State → State → Type 0
HasSameBlocks old new = (new.count ≡ old.count) × (new.last ≡ old.last)

-- Exactly this block's text was taken from the bytes left.
pub record TakesBlock (old new : State) (b : Block) : Type 0 where
  pub was_open : old.progress ≡ stages.Open
  pub block : IsBlock b
  pub text : Consumes old.left new.left (block_text b)
  pub few : old.count < 4096
  pub above : IsAboveLast old.last b.slot
  pub count : new.count ≡ old.count + 1
  pub last : new.last ≡ Some b.slot
  pub progress : new.progress ≡ stages.Open
  pub failures : new.failures ≡ old.failures

-- No byte was left.
pub record TakesNone (old new : State) : Type 0 where
  pub at_end : IsAtEnd new.left
  pub kept : Keeps old.left new.left
  pub blocks : HasSameBlocks old new
  pub progress : new.progress ≡ stages.Done
  pub failures : new.failures ≡ old.failures

-- this block was taken, or none was left
abbrev pub TakesBlockOrNone : Bool → State → State → Block → Type 0
TakesBlockOrNone true old new b = TakesBlock old new b
TakesBlockOrNone false old new b = TakesNone old new

-- The text has this fault, or a read failed, now or before.
pub record TakesFault (old new : State) (fault : ReadFault) : Type 0 where
  pub kept : Keeps old.left new.left
  pub blocks : HasSameBlocks old new
  pub progress : new.progress ≡ stages.Failed fault
  -- where it first comes, it is the fault of the text
  pub text : (bytes : List ℕ) → old.progress ≡ stages.Open → old.left ≡ Some bytes
      → fault ≢ faults.Io → IsFaultAfter old.count old.last bytes fault
  pub io : fault ≡ faults.Io → old.progress ≡ stages.Open → new.failures ≡ old.failures + 1
  pub fine : fault ≢ faults.Io → new.failures ≡ old.failures
  pub no_memory : fault ≢ faults.Memory

-- Of a text, which had these bytes and failures before, just the text of these blocks was read.
pub record IsRead (before : Option (List ℕ)) (failures : ℕ) (state : State)
    (blocks : List Block) : Type 0 where
  pub dump : IsDump blocks
  pub text : Consumes before state.left (text_of blocks)
  pub count : state.count ≡ length blocks
  pub last : state.last ≡ last_slot blocks
  pub going : state.progress ≡ stages.Open
  pub fine : state.failures ≡ failures

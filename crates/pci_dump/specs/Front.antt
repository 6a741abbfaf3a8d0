-- What is at the front of the bytes that are held.
use Rattle.std.specs.Prelude.{◌≡◌, ◌≢◌, ◌⊎◌, Bool, true, false, ℕ, ◌+◌, ◌<◌, ◌≤◌, List, [], ◌++◌, length, Some}
use Rattle.pci_spec.specs.Text.{Block, IsBlock, block_text}
use Rattle.pci_spec.specs.Stops.{IsAboveLast}
use Rattle.pci_dump.specs.declared.read_fault.ReadFault.{ReadFault}
use Rattle.pci_dump.specs.declared.read_fault.ReadFault.TheVariants as faults
use Rattle.pci_dump.specs.declared.ahead.Progress.TheVariants as stages
use Rattle.pci_dump.specs.State.{Ahead, IsFaultAfter}

-- a block's text, which is taken
pub record HoldsBlock (old new : Ahead) (b : Block) : Type 0 where
  pub block : IsBlock b
  pub text : old.held ≡ block_text b ++ new.held
  pub few : old.count < 4096
  pub above : IsAboveLast old.last b.slot
  pub state : new ≡ record old { held = new.held; count = old.count + 1; last = Some b.slot }

-- nothing
pub record HoldsNone (old new : Ahead) : Type 0 where
  pub empty : old.held ≡ []
  pub state : new ≡ record old { progress = stages.Done }

-- a block's text, or nothing
abbrev pub HoldsBlockOrNone : Bool → Ahead → Ahead → Block → Type 0
HoldsBlockOrNone true old new b = HoldsBlock old new b
HoldsBlockOrNone false old new b = HoldsNone old new

-- Bytes at which the text has this fault, where they are as long as a block or all that is left.
pub record HoldsFault (old new : Ahead) (fault : ReadFault) : Type 0 where
  pub text : (more : List ℕ) → (1042 ≤ length old.held) ⊎ (more ≡ [])
      → IsFaultAfter old.count old.last (old.held ++ more) fault
  pub state : new ≡ record old { progress = stages.Failed fault }
  pub no_io : fault ≢ faults.Io
  pub no_memory : fault ≢ faults.Memory

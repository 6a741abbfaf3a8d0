-- How bytes go from a source to what is held.
use Rattle.std.specs.Prelude.{◌≡◌, ◌⊎◌, ℕ, ◌<◌, ◌≤◌, true, List, length, Option}
use Rattle.std.specs.Io.KnownBytes.{Keeps, prepend_known}
use Rattle.pci_dump.specs.State.{Ahead, IsOver}

-- nothing but the held bytes and the source's end has changed
pub record IsSameText (old new : Ahead) : Type 0 where
  pub count : new.count ≡ old.count
  pub last : new.last ≡ old.last
  pub progress : new.progress ≡ old.progress

-- one read put some bytes behind those that are held, or told the end
pub record HoldsMore (old new : Ahead) (before after : Option (List ℕ)) : Type 0 where
  pub kept : Keeps (prepend_known old.held before) (prepend_known new.held after)
  pub over : IsOver new after
  pub more : (new.drained ≡ true) ⊎ (length old.held < length new.held)
  pub text : IsSameText old new

-- reads moved bytes from the source to those that are held
pub record Moves (old new : Ahead) (before after : Option (List ℕ)) : Type 0 where
  pub kept : Keeps (prepend_known old.held before) (prepend_known new.held after)
  pub over : IsOver new after
  pub text : IsSameText old new

-- what is held is a block's text at least, where more is left
abbrev pub HoldsEnough : Ahead → Type 0
HoldsEnough ahead = (1042 ≤ length ahead.held) ⊎ (ahead.drained ≡ true)

-- A log of accesses to a board, and the boards of which it is true.
use Rattle.std.specs.Prelude.{◌≡◌, ℕ, zero, suc, ◌+◌, ◌/◌, ◌%◌, ◌==◌, ◌&&◌, ◌||◌, nat_le, not, Bool, true, false, if◌then◌else◌, List, [], ◌∷◌, Option, Some, None}
use Rattle.std.specs.List.{slice_get}
use Rattle.pci_spec.specs.Slot.{Slot}
use Rattle.pci_spec.specs.Machine.{Write}
use Rattle.pci_number.specs.Board.{Board}
use Rattle.pci_number.specs.Access.{IsByteRead, IsByteWritten}
use Rattle.pci_number.specs.Stops.{number_write}
use Rattle.pci_number.specs.declared.access.Access.{Access}

-- the slot of a bus and a place: eight times the device, and the function
abbrev pub slot_of_access : Access → Slot
slot_of_access a = record { bus = a.bus; device = a.place / 8; function = a.place % 8 }

-- an access of the kind 1 is a write, any other one a read
abbrev pub is_write : Access → Bool
is_write a = a.kind == 1

-- what an access shows of the board before it, and what it leaves
pub record IsAccessTrueOf (before : Board) (a : Access) (after : Board) : Type 0 where
  pub shown : is_write a ≡ false → IsByteRead before (slot_of_access a) a.offset a.value
  pub same : is_write a ≡ false → after ≡ before
  pub written : is_write a ≡ true → IsByteWritten before (slot_of_access a) a.offset after

-- each access of a log is true of the board before it and the one after it, from the n-th board on
abbrev pub AreTrueFrom : (ℕ → Board) → ℕ → List Access → Type 0
AreTrueFrom boards n [] = Unit {0}
AreTrueFrom boards n (a ∷ log) = IsAccessTrueOf (boards n) a (boards (suc n)) × AreTrueFrom boards (suc n) log

-- A log, the boards that stood before each of its accesses and after the last one, and what one write more leaves of each.
pub record TrueLog : Type 0 where
  pub log : List Access
  pub boards : ℕ → Board
  pub are_true : AreTrueFrom boards 0 log
  pub left_by : ℕ → Slot → ℕ → ℕ → Board
  pub are_left : (n : ℕ) (slot : Slot) (offset value : ℕ) → IsByteWritten (boards n) slot offset (left_by n slot offset value)

-- no access
pub no_log : TrueLog
no_log =
    record {
      log = [];
      boards = λ n. [];
      are_true = tt;
      left_by = λ n slot offset value. [];
      are_left = λ n slot offset value. record { nothing = λ none i. []; byte = λ place one. absurd (let no : ⊥ = cc in no) };
    }

-- an access that is wanted is a read or a write
abbrev pub is_read_or_write : Option Access → Bool
is_read_or_write None = true
is_read_or_write (Some a) = nat_le a.kind 1

-- an access of a log is the one that is wanted; of a read it doesn't count what it showed
abbrev pub is_same : Access → Access → Bool
is_same made wanted =
    made.bus == wanted.bus && (made.place == wanted.place && (made.offset == wanted.offset && (made.kind == wanted.kind
    && (wanted.kind == 0 || made.value == wanted.value))))

-- an access that is wanted is not the one at a place of a log: the log ends there, or has another one
abbrev pub is_new : Option Access → Option Access → Bool
is_new made None = true
is_new None (Some wanted) = true
is_new (Some made) (Some wanted) = not (is_same made wanted)

-- ---- what was written by the first n accesses of a log

abbrev pub is_a_write : Option Access → Bool
is_a_write None = false
is_a_write (Some a) = is_write a

abbrev pub write_of_access : Option Access → Option Write
write_of_access None = None
write_of_access (Some a) = Some (number_write (slot_of_access a) a.offset a.value)

-- how many writes they are
abbrev pub writes_made : List Access → ℕ → ℕ
writes_made log zero = 0
writes_made log (suc n) = if is_a_write (slice_get log n) then writes_made log n + 1 else writes_made log n

-- the last write
abbrev pub last_made : List Access → ℕ → Option Write
last_made log zero = None
last_made log (suc n) = if is_a_write (slice_get log n) then write_of_access (slice_get log n) else last_made log n

-- the boards that stood after each write, the last one first
abbrev pub boards_stood : TrueLog → ℕ → List Board
boards_stood world zero = []
boards_stood world (suc n) =
    if is_a_write (slice_get world.log n) then world.boards (suc n) ∷ boards_stood world n else boards_stood world n

-- ---- the same, once the access that is wanted was made, too: a read changes nothing

abbrev pub board_then : TrueLog → ℕ → Option Access → Board
board_then world n None = world.boards n
board_then world n (Some a) = if is_write a then world.left_by n (slot_of_access a) a.offset a.value else world.boards n

abbrev pub stood_then : TrueLog → ℕ → Option Access → List Board
stood_then world n wanted = if is_a_write wanted then board_then world n wanted ∷ boards_stood world n else boards_stood world n

abbrev pub last_then : List Access → ℕ → Option Access → Option Write
last_then log n wanted = if is_a_write wanted then write_of_access wanted else last_made log n

abbrev pub writes_then : List Access → ℕ → Option Access → ℕ
writes_then log n wanted = if is_a_write wanted then writes_made log n + 1 else writes_made log n

-- how many accesses they are, where a read that is wanted isn't one yet
abbrev pub accesses_then : ℕ → Option Access → ℕ
accesses_then n wanted = if is_a_write wanted then n + 1 else n

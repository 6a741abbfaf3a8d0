-- The boards that stand after each write, the last one first.
use Rattle.std.specs.Prelude.{◌≡◌, ◌⊎◌, List, [], ◌∷◌, ◌++◌, Result, Ok, Err}
use Rattle.pci_number.specs.Board.{Board}

-- said of each board in a list
abbrev pub Each : (Board → Type 0) → List Board → Type 0
Each P [] = Unit {0}
Each P (board ∷ boards) = P board × Each P boards

-- boards have come to those that stood, and this is said of each that has
abbrev pub Adds : (Board → Type 0) → List Board → List Board → Type 0
Adds P old new = (added : List Board) × (new ≡ added ++ old) × Each P added

-- The same, but that of one last board nothing is said: its write may not have been taken.
abbrev pub Ends : (Board → Type 0) → List Board → List Board → Type 0
Ends P old new =
    (taken : List Board) × Adds P old taken
    × ((new ≡ taken) ⊎ ((board : Board) × (new ≡ board ∷ taken)))

-- the one where all was done, the other where an error came
abbrev pub AddsOrEnds : {T E : Type 0} → (Board → Type 0) → Result T E → List Board → List Board
    → Type 0
AddsOrEnds P (Ok x) old new = Adds P old new
AddsOrEnds P (Err e) old new = Ends P old new

-- the board that stands at a moment, and those that stood after each write up to then
pub record BoardMoment : Type 0 where
  pub board : Board
  pub history : List Board

abbrev pub board_moment : Board → List Board → BoardMoment
board_moment board history = record { board = board; history = history }

-- from one moment to another one write at most was made
abbrev pub IsOneMore : BoardMoment → BoardMoment → Type 0
IsOneMore from to =
    ((to.board ≡ from.board) × (to.history ≡ from.history))
    ⊎ (to.history ≡ to.board ∷ from.history)

-- ---- from one board to the next

-- the board that stands: the last that came, or else the one before them
abbrev pub latest : Board → List Board → Board
latest before [] = before
latest before (board ∷ boards) = board

-- said of each board in a list and of the one that stood before it
abbrev pub EachStep : (Board → Board → Type 0) → Board → List Board → Type 0
EachStep R before [] = Unit {0}
EachStep R before (board ∷ boards) = R (latest before boards) board × EachStep R before boards

-- From one moment to another boards have come to those that stood, and this is said of each that has
-- and of the one before it.
abbrev pub AddsSteps : (Board → Board → Type 0) → BoardMoment → BoardMoment → Type 0
AddsSteps R from to =
    (added : List Board) × (to.history ≡ added ++ from.history) × EachStep R from.board added
    × (latest from.board added ≡ to.board)

-- The same, but that of one last board nothing is said.
abbrev pub EndsSteps : (Board → Board → Type 0) → BoardMoment → List Board → Type 0
EndsSteps R from new =
    (last : BoardMoment) × AddsSteps R from last
    × ((new ≡ last.history) ⊎ ((board : Board) × (new ≡ board ∷ last.history)))

abbrev pub StepsOrEnds : {T E : Type 0} → (Board → Board → Type 0) → Result T E → BoardMoment → BoardMoment
    → Type 0
StepsOrEnds R (Ok x) from to = AddsSteps R from to
StepsOrEnds R (Err e) from to = EndsSteps R from to.history

-- The board is single while numbers are given.
use Rattle.std.specs.Prelude.{◌≡◌, ℕ, ◌+◌, ◌≤◌, ◌⊎◌, true, Bool, List, ◌∷◌, Result, Ok, Err, length}
use Rattle.pci_spec.specs.Slot.{Slot}
use Rattle.pci_number.specs.Board.{Nodes, NoMore, Node, Board, is_type_1, answers, HasOneAnswer}
use Rattle.pci_number.specs.Access.{nodes_behind, with_nodes}
use Rattle.pci_number.specs.Walk.{all_after, is_walkable}
use Rattle.pci_number.specs.Room.{shows}
use Rattle.pci_number.specs.Numbered.{without_numbers}
use Rattle.pci_number.specs.Spread.{IsSpread}
use Rattle.pci_number.specs.Ready.{IsReady}
use Rattle.pci_number.specs.Seen.{View, code, IsSeen, IsClosed}
use Rattle.pci_number.specs.Hushing.{Rest, IsRestOf}
use Rattle.pci_number.specs.Less.{without_own_numbers, AreShut}
use Rattle.pci_number.specs.Walked.{Outset}
use Rattle.pci_number.specs.Stood.{Adds, AddsOrEnds, BoardMoment, AddsSteps}
use Rattle.pci_number.specs.declared.stop.Stop.{Stop}
use Rattle.pci_number.specs.declared.walk.Walk.{Walk}

-- The board is single with these nodes where their bridges are spread over the buses above `high`,
-- up to `last`.
abbrev pub IsApart : View → Nodes → ℕ → ℕ → Type 0
IsApart v nodes high last =
    (after : Nodes) → without_numbers after ≡ without_numbers nodes → IsSpread high last after
    → HasOneAnswer (v.fill after)

-- A bridge that forwards nothing gets a bus.
abbrev pub IsShowStood : {T E : Type 0} → BoardMoment → Slot → ℕ → Result T E → List Board → Type 0
IsShowStood from slot bus result new =
    (v : View) (high last : ℕ) (image : List ℕ) (behind others : Nodes)
    → from.board ≡ v.fill (Node slot.device slot.function image behind others)
    → IsSeen v slot.bus (code slot) high last → all_after slot.device slot.function others ≡ true
    → is_type_1 image ≡ true → shows image 0 0 0 ≡ true → IsClosed others
    → high + 1 ≤ bus → bus ≤ last
    → IsApart v (Node slot.device slot.function image behind others) high last
    → AddsOrEnds HasOneAnswer result from.history new

-- The same, and the bridges on that bus are closed.
abbrev pub IsOpenStood : BoardMoment → Slot → ℕ → ℕ → Result Bool Stop → List Board → Type 0
IsOpenStood from slot bus last result new =
    (v : View) (high : ℕ) (image : List ℕ) (behind others : Nodes)
    → from.board ≡ v.fill (Node slot.device slot.function image behind others)
    → IsSeen v slot.bus (code slot) high last → all_after slot.device slot.function others ≡ true
    → is_type_1 image ≡ true → shows image 0 0 0 ≡ true → IsClosed others
    → is_walkable behind ≡ true → high + 1 ≤ bus → bus ≤ last
    → IsApart v (Node slot.device slot.function image behind others) high last
    → AddsOrEnds HasOneAnswer result from.history new

-- The bridges on a bus, which are closed, and those behind them get their numbers.
abbrev pub IsBusStood : {T E : Type 0} → BoardMoment → Outset → Result T E → List Board → Type 0
IsBusStood from o result new =
    (v : View) (nodes : Nodes) → from.board ≡ v.fill nodes
    → IsSeen v o.bus 0 o.start.taken o.last → is_walkable nodes ≡ true → IsClosed nodes
    → IsApart v nodes o.start.taken o.last → AddsOrEnds HasOneAnswer result from.history new

-- the walk over a bus under way
abbrev pub IsWalkStanding : BoardMoment → Outset → ℕ → Bool → Walk → BoardMoment → Type 0
IsWalkStanding from o place more walk to =
    (v : View) (nodes : Nodes) → from.board ≡ v.fill nodes
    → IsSeen v o.bus 0 o.start.taken o.last → is_walkable nodes ≡ true → IsClosed nodes
    → IsApart v nodes o.start.taken o.last
    → (rest : Rest) × IsRestOf to.board place more rest
    × IsSeen rest.view o.bus place walk.taken o.last × IsClosed rest.nodes
    × IsApart rest.view rest.nodes walk.taken o.last × Adds HasOneAnswer from.history to.history

-- What is behind the other roots is single.
abbrev pub IsSingleBeside : Board → ℕ → Type 0
IsSingleBeside before root = HasOneAnswer (with_nodes before root NoMore)

-- The board is single at the end.
abbrev pub EndsSingle : Board → ℕ → ℕ → Board → Type 0
EndsSingle before root last after = IsReady before root last → IsSingleBeside before root
    → HasOneAnswer after

-- A board that stood while the bridges on the root bus were closed, and the one before it.
pub record IsHushStep (before : Board) (root : ℕ) (was : Board) (board : Board) : Type 0 where
  -- it is as at the start but for the bus numbers of the bridges on that bus
  pub others : board ≡ with_nodes before root (nodes_behind board root)
  pub own : without_own_numbers (nodes_behind board root)
      ≡ without_own_numbers (nodes_behind before root)
  -- no access has more answers than on the one before it
  pub fewer : (access : Slot) → length (answers board access) ≤ length (answers was access)
  -- it is single if no bridge on that bus forwards anything
  pub shut : IsSingleBeside before root → AreShut (nodes_behind board root) → HasOneAnswer board

-- The bridges on the root bus were closed, or numbering stopped before that was done: no write came
-- after it but the one at which it stopped.
abbrev pub ClosedOrStopped : {T E : Type 0} → Nodes → Result T E → List Board → List Board → Type 0
ClosedOrStopped nodes (Ok answer) hushed new = AreShut nodes
ClosedOrStopped nodes (Err stop) hushed new =
    AreShut nodes ⊎ ((new ≡ hushed) ⊎ ((board : Board) × (new ≡ board ∷ hushed)))

-- The boards that stood after each write. Where numbering stopped with an error, nothing is said of
-- the one after its last write: that may have left another number.
pub record IsSingleThroughout {T E : Type 0} (from : BoardMoment) (root : ℕ) (answer : Result T E)
    (new : List Board) : Type 0 where
  -- the moment at which the bridges on the root bus were closed
  pub closed : BoardMoment
  pub hushing : AddsSteps (IsHushStep from.board root) from closed
  pub done : ClosedOrStopped (nodes_behind closed.board root) answer closed.history new
  -- each board after that is single,
  pub later : IsSingleBeside from.board root → AddsOrEnds HasOneAnswer answer closed.history new
  -- and each at all, if the board was single at the start
  pub always : HasOneAnswer from.board → AddsOrEnds HasOneAnswer answer from.history new

-- How many writes numbering makes.
use Rattle.std.specs.Prelude.{◌≡◌, ℕ, ◌+◌, ◌*◌, ◌≤◌, true, if◌then◌else◌}
use Rattle.pci_spec.specs.Slot.{Slot}
use Rattle.pci_number.specs.Board.{Nodes, NoMore, Node, Board, is_type_1}
use Rattle.pci_number.specs.Access.{nodes_behind}
use Rattle.pci_number.specs.Walk.{is_walkable}
use Rattle.pci_number.specs.NoBus.{bridges}
use Rattle.pci_number.specs.Ready.{IsReady}
use Rattle.pci_number.specs.Seen.{View, IsSeen, IsClosed}
use Rattle.pci_number.specs.Steps.{OfOpening}
use Rattle.pci_number.specs.Walked.{Outset}

-- how many bridges there are on the bus itself
abbrev pub bridges_on : Nodes → ℕ
bridges_on NoMore = 0
bridges_on (Node device function image behind others) =
    if is_type_1 image then 1 + bridges_on others else bridges_on others

-- For each bridge behind the root there are at most 8 writes.
abbrev pub IsFew : Board → ℕ → ℕ → ℕ → ℕ → Type 0
IsFew before root last made total =
    IsReady before root last → total ≤ made + 8 * bridges (nodes_behind before root)

-- ---- as it is seen from the bus

-- Each bridge on a bus is closed by 3 writes at most.
abbrev pub IsHushFew : Board → ℕ → ℕ → ℕ → Type 0
IsHushFew before bus made total =
    (v : View) (high last : ℕ) (nodes : Nodes) → before ≡ v.fill nodes
    → IsSeen v bus 0 high last → is_walkable nodes ≡ true
    → total ≤ made + 3 * bridges_on nodes

-- A bridge gets a bus by 4 at most, and those there are closed.
abbrev pub IsOpenFew : Board → Slot → ℕ → ℕ → ℕ → ℕ → Type 0
IsOpenFew before slot bus last made total =
    OfOpening before slot bus last (λ v image behind others. total ≤ made + 4 + 3 * bridges_on behind)

-- The bridges on a bus, which are closed, get numbers, and so do those behind them.
abbrev pub IsBusFew : Board → Outset → ℕ → ℕ → Type 0
IsBusFew before o made total =
    (v : View) (nodes : Nodes) → before ≡ v.fill nodes
    → IsSeen v o.bus 0 o.start.taken o.last → is_walkable nodes ≡ true → IsClosed nodes
    → total + 3 * bridges_on nodes ≤ made + 8 * bridges nodes

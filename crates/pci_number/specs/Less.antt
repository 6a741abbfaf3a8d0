-- Bridges on a bus that forward less than they did.
use Rattle.std.specs.Prelude.{◌≡◌, ℕ, ◌<◌, ◌≤◌, ◌⊎◌, true, Bool, if◌then◌else◌, List, length, Result}
use Rattle.pci_spec.specs.Slot.{Slot}
use Rattle.pci_spec.specs.Header.{secondary_bus, subordinate_bus}
use Rattle.pci_number.specs.Board.{Nodes, NoMore, Node, Board, is_type_1, behind_bridges}
use Rattle.pci_number.specs.Walk.{all_after, is_walkable}
use Rattle.pci_number.specs.Numbered.{with_numbers, without_numbers}
use Rattle.pci_number.specs.Spread.{IsShut}
use Rattle.pci_number.specs.Seen.{View, code, IsSeen}
use Rattle.pci_number.specs.Hushing.{Rest, IsRestOf}
use Rattle.pci_number.specs.Stood.{BoardMoment, AddsSteps, StepsOrEnds}

-- the nodes with the bus numbers of the bridges on this bus alone taken away
abbrev pub without_own_numbers : Nodes → Nodes
without_own_numbers NoMore = NoMore
without_own_numbers (Node device function image behind others) =
    Node device function (if is_type_1 image then with_numbers 0 0 0 image else image) behind
    (without_own_numbers others)

-- no bridge on a bus forwards anything
abbrev pub AreShut : Nodes → Type 0
AreShut NoMore = Unit {0}
AreShut (Node device function image behind others) = IsShut image × AreShut others

-- a bridge passes on no bus beyond its own, and that one only if it did before
abbrev pub IsLess : List ℕ → List ℕ → Type 0
IsLess image new =
    (subordinate_bus new ≡ 0)
    × ((secondary_bus new ≡ secondary_bus image) ⊎ (secondary_bus new ≡ 0))

-- The nodes on a bus are as they were but for bus numbers of bridges on it, and no access gets more
-- answers from behind them.
pub record IsLessOf (nodes : Nodes) (after : Nodes) : Type 0 where
  pub same : without_numbers after ≡ without_numbers nodes
  pub own : without_own_numbers after ≡ without_own_numbers nodes
  pub less : (access : Slot) → 0 < access.bus
      → length (behind_bridges after access) ≤ length (behind_bridges nodes access)

-- From one board to the next there is less behind these nodes than there was.
pub record IsLessStep (v : View) (nodes : Nodes) (was : Board) (now : Board) : Type 0 where
  pub from : Nodes
  pub to : Nodes
  pub was_it : was ≡ v.fill from
  pub is : now ≡ v.fill to
  pub start : IsLessOf nodes from
  pub less : IsLessOf from to

-- While a bridge is closed it forwards less at each write.
abbrev pub IsCloseStood : {T E : Type 0} → BoardMoment → Slot → Result T E → BoardMoment → Type 0
IsCloseStood from slot result to =
    (v : View) (high last : ℕ) (image : List ℕ) (behind others : Nodes)
    → from.board ≡ v.fill (Node slot.device slot.function image behind others)
    → IsSeen v slot.bus (code slot) high last → all_after slot.device slot.function others ≡ true
    → is_type_1 image ≡ true
    → StepsOrEnds (IsLessStep v (Node slot.device slot.function image behind others)) result
    from to

-- While the bridges on a bus are closed they forward less at each write.
abbrev pub IsHushStood : {T E : Type 0} → BoardMoment → ℕ → Result T E → BoardMoment → Type 0
IsHushStood from bus result to =
    (v : View) (high last : ℕ) (nodes : Nodes) → from.board ≡ v.fill nodes
    → IsSeen v bus 0 high last → is_walkable nodes ≡ true
    → StepsOrEnds (IsLessStep v nodes) result from to

-- the nodes from a place on, put into the whole bus
pub record Wrap (v : View) (nodes : Nodes) (rest : Rest) : Type 0 where
  pub wrap : Nodes → Nodes
  pub fills : (after : Nodes) → rest.view.fill after ≡ v.fill (wrap after)
  pub less : (first second : Nodes) → IsLessOf first second → IsLessOf (wrap first) (wrap second)
  pub start : IsLessOf nodes (wrap rest.nodes)

-- the closing of the bridges on a bus under way
abbrev pub IsHushStanding : BoardMoment → ℕ → ℕ → Bool → BoardMoment → Type 0
IsHushStanding from bus place more to =
    (v : View) (high last : ℕ) (nodes : Nodes) → from.board ≡ v.fill nodes
    → IsSeen v bus 0 high last → is_walkable nodes ≡ true
    → (rest : Rest) × IsRestOf to.board place more rest × IsSeen rest.view bus place 0 0
    × Wrap v nodes rest × AddsSteps (IsLessStep v nodes) from to

-- The closing of the bridges on a bus under way.
use Rattle.std.specs.Prelude.{◌≡◌, ℕ, ◌+◌, ◌*◌, ◌≤◌, Bool, true, ◌||◌}
use Rattle.pci_number.specs.Board.{Nodes, Board}
use Rattle.pci_number.specs.Walk.{is_walkable}
use Rattle.pci_number.specs.Numbered.{without_numbers}
use Rattle.pci_number.specs.Seen.{View, IsSeen, AreLastNodes, IsClosed, has_bridges}

-- the nodes on a bus from a place on, on a board
pub record Rest : Type 0 where
  pub view : View
  pub nodes : Nodes
  pub device : ℕ

pub record IsRestOf (now : Board) (place : ℕ) (more : Bool) (rest : Rest) : Type 0 where
  pub is : now ≡ rest.view.fill rest.nodes
  pub past : more ≡ true → rest.device * 8 + 1 ≤ place
  pub has : AreLastNodes place rest.device more rest.nodes

-- the nodes up to there are closed
abbrev pub ClosedUpTo : View → Nodes → Bool → Rest → Type 0
ClosedUpTo v nodes bridges rest =
    (after : Nodes) → IsClosed after → without_numbers after ≡ without_numbers rest.nodes
    → (whole : Nodes) × (rest.view.fill after ≡ v.fill whole)
    × (without_numbers whole ≡ without_numbers nodes) × IsClosed whole
    × (has_bridges whole ≡ (bridges || has_bridges after))

-- and kept but for bus numbers
abbrev pub KeptUpTo : View → Nodes → Rest → Type 0
KeptUpTo v nodes rest =
    (after : Nodes) → without_numbers after ≡ without_numbers rest.nodes
    → (whole : Nodes) × (rest.view.fill after ≡ v.fill whole)
    × (without_numbers whole ≡ without_numbers nodes)

abbrev pub IsHushing : Board → ℕ → ℕ → Bool → Bool → Board → Type 0
IsHushing before bus place more bridges now =
    (v : View) (high last : ℕ) (nodes : Nodes) → before ≡ v.fill nodes
    → IsSeen v bus 0 high last → is_walkable nodes ≡ true
    → (rest : Rest) × IsRestOf now place more rest × IsSeen rest.view bus place 0 0
    × ClosedUpTo v nodes bridges rest × KeptUpTo v nodes rest

-- The walk over a bus under way.
use Rattle.std.specs.Prelude.{◌≡◌, ℕ, Bool, true}
use Rattle.pci_number.specs.Board.{Nodes, Board}
use Rattle.pci_number.specs.Walk.{is_walkable}
use Rattle.pci_number.specs.Numbered.{without_numbers}
use Rattle.pci_number.specs.Room.{last_behind, have_numbers}
use Rattle.pci_number.specs.SpareBuses.{spare_room}
use Rattle.pci_number.specs.NoBus.{first_slot, first_without}
use Rattle.pci_number.specs.Seen.{View, IsSeen, IsClosed}
use Rattle.pci_number.specs.Hushing.{Rest, IsRestOf, KeptUpTo}
use Rattle.pci_number.specs.Walked.{Outset}
use Rattle.pci_number.specs.declared.walk.Walk.{Walk}

-- the bridges up to there have their numbers
abbrev pub NumberedUpTo : View → Nodes → Outset → Walk → Rest → Type 0
NumberedUpTo v nodes o walk rest =
    (after : Nodes) → have_numbers (spare_room o.spare) o.last o.bus walk.taken after ≡ true
    → without_numbers after ≡ without_numbers rest.nodes
    → (whole : Nodes) × (rest.view.fill after ≡ v.fill whole)
    × (without_numbers whole ≡ without_numbers nodes)
    × (have_numbers (spare_room o.spare) o.last o.bus o.start.taken whole ≡ true)
    × (last_behind walk.taken after ≡ last_behind o.start.taken whole)
    × (first_slot walk.without (first_without o.bus after)
    ≡ first_slot o.start.without (first_without o.bus whole))

abbrev pub IsWalking : Board → Outset → ℕ → Bool → Walk → Board → Type 0
IsWalking before o place more walk now =
    (v : View) (nodes : Nodes) → before ≡ v.fill nodes
    → IsSeen v o.bus 0 o.start.taken o.last → is_walkable nodes ≡ true → IsClosed nodes
    → (rest : Rest) × IsRestOf now place more rest
    × IsSeen rest.view o.bus place walk.taken o.last × IsClosed rest.nodes
    × NumberedUpTo v nodes o walk rest × KeptUpTo v nodes rest

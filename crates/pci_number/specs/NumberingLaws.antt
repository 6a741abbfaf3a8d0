-- Laws of numbering.
use Rattle.std.specs.Prelude.{◌≡◌, ◌↔◌, ℕ, ◌+◌, ◌≤◌, IsTrue, List, [], ◌∷◌, None, map}
use Rattle.std.specs.List.{Contains, filter}
use Rattle.std.specs.List.Sorted.{IsStrictlyIncreasing}
use Rattle.pci_spec.specs.Slot.{Slot}
use Rattle.pci_spec.specs.Header.{secondary_bus}
use Rattle.pci_spec.specs.System.{System}
use Rattle.pci_spec.specs.Bus.{IsNested}
use Rattle.pci_spec.specs.NestingLaws.{HasNoBusFault}
use Rattle.pci_number.specs.Board.{Nodes, RootBus, Board, NodePlace, is_type_1, node_image, access_of, answers, HasOneAnswer}
use Rattle.pci_number.specs.Access.{nodes_behind}
use Rattle.pci_number.specs.Walk.{is_rising, is_walkable, walk}
use Rattle.pci_number.specs.Numbered.{without_numbers, secondaries, IsNumbered}
use Rattle.pci_number.specs.Room.{IsNumberedWithRoom}
use Rattle.pci_number.specs.SpareBuses.{IsSteady, spare_room}
use Rattle.pci_number.specs.Spread.{IsSpread}
use Rattle.pci_number.specs.NoBus.{first_without, bridges}
use Rattle.pci_number.specs.Ready.{IsReady}
use Rattle.pci_number.specs.Listed.{IsBoardListing, HasNumbers, HasRoomyNumbers}
use Rattle.pci_number.specs.Reached.{reached, only_bridges_lead}

-- The bridges whose numbers are in order are those that the walk comes to, where it finds all
-- nodes.
abbrev pub WalkIsInOrder : Type 0
WalkIsInOrder =
    (nodes : Nodes) → IsTrue (is_walkable nodes)
    → secondaries nodes
    ≡ map secondary_bus (filter is_type_1 (map (node_image nodes) (walk nodes nodes)))

-- Whether it finds them doesn't hang on bus numbers.
abbrev pub SameIsWalkable : Type 0
SameIsWalkable =
    (before after : Nodes) → without_numbers before ≡ without_numbers after
    → is_walkable before ≡ is_walkable after

-- Where the nodes behind a root are numbered, and no two on a bus have one device and function,
-- each access is answered by one node at most.
abbrev pub NumberedIsSingle : Type 0
NumberedIsSingle =
    (root last : ℕ) (before after : Nodes) → IsTrue (is_rising after)
    → IsNumbered root last before after
    → HasOneAnswer (record { number = root; nodes = after } ∷ [])

-- The same where numbers are kept free,
abbrev pub RoomyIsSingle : Type 0
RoomyIsSingle =
    (room : List ℕ → ℕ) (root last : ℕ) (before after : Nodes) → IsTrue (is_rising after)
    → IsNumberedWithRoom room root last before after
    → HasOneAnswer (record { number = root; nodes = after } ∷ [])

-- and where none are the n-th bridge has the n-th bus above the root.
abbrev pub NoRoomIsInOrder : Type 0
NoRoomIsInOrder =
    (root last : ℕ) (before after : Nodes) → IsNumberedWithRoom (λ image. 0) root last before after
    → IsNumbered root last before after

-- Nor is any where it is said to keep none free behind hot-plug slots.
abbrev pub NoSpareIsInOrder : Type 0
NoSpareIsInOrder =
    (root last : ℕ) (before after : Nodes)
    → IsNumberedWithRoom (spare_room 0) root last before after → IsNumbered root last before after

-- How many are kept free behind a bridge doesn't hang on its bus numbers.
abbrev pub SpareStays : Type 0
SpareStays = (spare : ℕ) → IsSteady (spare_room spare)

-- So it is while the numbers are given.
abbrev pub SpreadIsSingle : Type 0
SpreadIsSingle =
    (root high : ℕ) (nodes : Nodes) → IsTrue (is_rising nodes) → IsSpread root high nodes
    → HasOneAnswer (record { number = root; nodes = nodes } ∷ [])

-- Numbers don't hang on those that were there: where the same nodes are numbered twice, a walk
-- comes to the same nodes with the same images,
abbrev pub NumbersAreOne : Type 0
NumbersAreOne =
    (root last : ℕ) (first second after again : Nodes)
    → without_numbers first ≡ without_numbers second → IsNumbered root last first after
    → IsNumbered root last second again → reached after ≡ reached again

-- and where each bridge has a bus, and there is nothing behind what is no bridge, all nodes are the
-- same.
abbrev pub AllNumbersAreOne : Type 0
AllNumbersAreOne =
    (root last : ℕ) (first second after again : Nodes)
    → without_numbers first ≡ without_numbers second → IsNumbered root last first after
    → IsNumbered root last second again → first_without root after ≡ None
    → IsTrue (only_bridges_lead after) → after ≡ again

-- The same where numbers are kept free,
abbrev pub RoomyNumbersAreOne : Type 0
RoomyNumbersAreOne =
    (room : List ℕ → ℕ) → IsSteady room → (root last : ℕ) (first second after again : Nodes)
    → without_numbers first ≡ without_numbers second
    → IsNumberedWithRoom room root last first after
    → IsNumberedWithRoom room root last second again → reached after ≡ reached again

-- of the walk and of all nodes.
abbrev pub AllRoomyNumbersAreOne : Type 0
AllRoomyNumbersAreOne =
    (room : List ℕ → ℕ) → IsSteady room → (root last : ℕ) (first second after again : Nodes)
    → without_numbers first ≡ without_numbers second
    → IsNumberedWithRoom room root last first after
    → IsNumberedWithRoom room root last second again → first_without root after ≡ None
    → IsTrue (only_bridges_lead after) → after ≡ again

-- Where each bridge has its numbers, the bus ranges of the functions that a walk lists nest, with
-- the board's roots.
abbrev pub ListedIsNested : Type 0
ListedIsNested =
    (last : ℕ → ℕ) (board : Board) (s : System) → HasNumbers last board → IsBoardListing board s
    → IsNested (map (λ root. root.number) board) s

-- So none of them has a bus-range fault, and none is an orphan.
abbrev pub ListedHasNoBusFault : Type 0
ListedHasNoBusFault =
    (last : ℕ → ℕ) (board : Board) (s : System) → HasNumbers last board → IsBoardListing board s
    → HasNoBusFault (map (λ root. root.number) board) s

-- The same where numbers are kept free.
abbrev pub RoomyIsNested : Type 0
RoomyIsNested =
    (room : List ℕ → ℕ) (last : ℕ → ℕ) (board : Board) (s : System)
    → HasRoomyNumbers room last board → IsBoardListing board s
    → IsNested (map (λ root. root.number) board) s

abbrev pub RoomyHasNoBusFault : Type 0
RoomyHasNoBusFault =
    (room : List ℕ → ℕ) (last : ℕ → ℕ) (board : Board) (s : System)
    → HasRoomyNumbers room last board → IsBoardListing board s
    → HasNoBusFault (map (λ root. root.number) board) s

-- A board whose roots rise is single where each of them alone is.
abbrev pub RootsAreSingle : Type 0
RootsAreSingle =
    (board : Board) → IsStrictlyIncreasing (map (λ root. root.number) board)
    → ((root : RootBus) → Contains board root → HasOneAnswer (root ∷ [])) → HasOneAnswer board

-- Each node that the walk finds answers one access, that to its bus, device and function, and no
-- other.
abbrev pub FoundAnswersOnce : Type 0
FoundAnswersOnce =
    (root last : ℕ) (before after : Nodes) → IsNumbered root last before after
    → (place : NodePlace) → Contains (walk after after) place
    → (access : Slot)
    → Contains (answers (record { number = root; nodes = after } ∷ []) access) (root, place)
    ↔ (access ≡ access_of root after place)

-- So it does where numbers are kept free.
abbrev pub RoomyAnswersOnce : Type 0
RoomyAnswersOnce =
    (room : List ℕ → ℕ) (root last : ℕ) (before after : Nodes)
    → IsNumberedWithRoom room root last before after
    → (place : NodePlace) → Contains (walk after after) place
    → (access : Slot)
    → Contains (answers (record { number = root; nodes = after } ∷ []) access) (root, place)
    ↔ (access ≡ access_of root after place)

-- So it does among other roots, whatever is behind them.
abbrev pub AmongRootsAnswersOnce : Type 0
AmongRootsAnswersOnce =
    (room : List ℕ → ℕ) (board : Board) (root last : ℕ) → IsReady board root last
    → IsNumberedWithRoom room root last (nodes_behind board root) (nodes_behind board root)
    → (place : NodePlace) → Contains (walk (nodes_behind board root) (nodes_behind board root)) place
    → (access : Slot)
    → Contains (answers board access) (root, place)
    ↔ (access ≡ access_of root (nodes_behind board root) place)

-- Where no numbers are kept free, each bridge has its numbers exactly where there are as many
-- numbers as bridges.
abbrev pub EnoughForAll : Type 0
EnoughForAll =
    (root last : ℕ) (before after : Nodes) → root ≤ last → IsNumbered root last before after
    → (first_without root after ≡ None) ↔ (root + bridges after ≤ last)

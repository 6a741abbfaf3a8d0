-- What the steps of numbering do, as they are seen from the bus that they are made on.
use Rattle.std.specs.Prelude.{◌≡◌, ℕ, ◌+◌, ◌*◌, ◌≤◌, Bool, true, false, if◌then◌else◌, List}
use Rattle.pci_spec.specs.Slot.{Slot}
use Rattle.pci_spec.specs.Number.{byte_at}
use Rattle.pci_number.specs.Board.{Nodes, Node, Board, is_type_1}
use Rattle.pci_number.specs.Walk.{all_after, is_walkable}
use Rattle.pci_number.specs.Room.{shows}
use Rattle.pci_number.specs.Numbered.{with_numbers, without_numbers}
use Rattle.pci_number.specs.Seen.{View, code, IsSeen, IsKeptBut, AreLastNodes, IsClosed, has_bridges}
use Rattle.pci_number.specs.declared.look.Found.{Found}

-- A byte of the node at a slot shows a number, and all else is kept.
abbrev pub IsNumberPut : Board → Slot → ℕ → ℕ → Board → Type 0
IsNumberPut before slot offset number after =
    (v : View) (high last : ℕ) (image : List ℕ) (behind others : Nodes)
    → before ≡ v.fill (Node slot.device slot.function image behind others)
    → IsSeen v slot.bus (code slot) high last → all_after slot.device slot.function others ≡ true
    → (new : List ℕ) × (after ≡ v.fill (Node slot.device slot.function new behind others))
    × IsKeptBut offset image new × (byte_at new offset ≡ number)

-- All but that byte is kept.
abbrev pub IsTouched : Board → Slot → ℕ → Board → Type 0
IsTouched before slot offset after =
    (v : View) (high last : ℕ) (image : List ℕ) (behind others : Nodes)
    → before ≡ v.fill (Node slot.device slot.function image behind others)
    → IsSeen v slot.bus (code slot) high last → all_after slot.device slot.function others ≡ true
    → (new : List ℕ) × (after ≡ v.fill (Node slot.device slot.function new behind others))
    × IsKeptBut offset image new

-- what is at a place of a bus
pub data IsLook (slot : Slot) (found : Found) (rest : Nodes) : Type 0 where
  Absent : (device : ℕ) → found.bridge ≡ false
      → (found.more ≡ true → device * 8 ≤ code slot)
      → AreLastNodes (code slot + 1) device found.more rest → IsLook slot found rest
  There : (image : List ℕ) (behind others : Nodes) (device : ℕ)
      → rest ≡ Node slot.device slot.function image behind others → is_type_1 image ≡ found.bridge
      → is_walkable behind ≡ true → all_after slot.device slot.function others ≡ true
      → (found.more ≡ true → device * 8 ≤ code slot)
      → AreLastNodes (code slot + 1) device found.more others → IsLook slot found rest

-- what a look finds
abbrev pub IsLooked : Board → Slot → Bool → Found → Type 0
IsLooked board slot more found =
    (v : View) (high last device : ℕ) (rest : Nodes) → board ≡ v.fill rest
    → IsSeen v slot.bus (code slot) high last → slot.function ≤ 7
    → (more ≡ true → device * 8 + 1 ≤ code slot) → AreLastNodes (code slot) device more rest
    → IsLook slot found rest

-- an image is as it was but for bus numbers
pub record IsAlike (image : List ℕ) (new : List ℕ) : Type 0 where
  pub cleared : with_numbers 0 0 0 new ≡ with_numbers 0 0 0 image
  pub kind : is_type_1 new ≡ is_type_1 image

-- The node at a slot shows these numbers, and all else is kept.
abbrev pub IsShownAt : Board → Slot → ℕ → ℕ → ℕ → Board → Type 0
IsShownAt before slot primary secondary subordinate after =
    (v : View) (high last : ℕ) (image : List ℕ) (behind others : Nodes)
    → before ≡ v.fill (Node slot.device slot.function image behind others)
    → IsSeen v slot.bus (code slot) high last → all_after slot.device slot.function others ≡ true
    → (new : List ℕ) × (after ≡ v.fill (Node slot.device slot.function new behind others))
    × IsAlike image new × (shows new primary secondary subordinate ≡ true)

-- All but its bus numbers is kept.
abbrev pub IsLeftAt : Board → Slot → Board → Type 0
IsLeftAt before slot after =
    (v : View) (high last : ℕ) (image : List ℕ) (behind others : Nodes)
    → before ≡ v.fill (Node slot.device slot.function image behind others)
    → IsSeen v slot.bus (code slot) high last → all_after slot.device slot.function others ≡ true
    → (new : List ℕ) × (after ≡ v.fill (Node slot.device slot.function new behind others))
    × IsAlike image new

-- The bridges on a bus forward nothing.
abbrev pub IsHushed : Board → ℕ → Bool → Board → Type 0
IsHushed before bus bridges after =
    (v : View) (high last : ℕ) (nodes : Nodes) → before ≡ v.fill nodes
    → IsSeen v bus 0 high last → is_walkable nodes ≡ true
    → (whole : Nodes) × (after ≡ v.fill whole) × (without_numbers whole ≡ without_numbers nodes)
    × IsClosed whole × (has_bridges whole ≡ bridges)

-- All but bus numbers is kept.
abbrev pub IsHushLeft : Board → ℕ → Board → Type 0
IsHushLeft before bus after =
    (v : View) (high last : ℕ) (nodes : Nodes) → before ≡ v.fill nodes
    → IsSeen v bus 0 high last → is_walkable nodes ≡ true
    → (whole : Nodes) × (after ≡ v.fill whole) × (without_numbers whole ≡ without_numbers nodes)

-- Said of a bridge that gets a bus while those after it forward nothing: of how its own bus is
-- seen, of its image, and of the nodes behind it and after it.
abbrev pub OfOpening : Board → Slot → ℕ → ℕ → (View → List ℕ → Nodes → Nodes → Type 0) → Type 0
OfOpening before slot bus last P =
    (v : View) (high : ℕ) (image : List ℕ) (behind others : Nodes)
    → before ≡ v.fill (Node slot.device slot.function image behind others)
    → IsSeen v slot.bus (code slot) high last → all_after slot.device slot.function others ≡ true
    → is_type_1 image ≡ true → IsClosed others → is_walkable behind ≡ true
    → high + 1 ≤ bus → bus ≤ last → P v image behind others

-- A bridge has a bus behind it, on which no bridge forwards anything.
abbrev pub IsBusOpened : Board → Slot → ℕ → ℕ → Bool → Board → Type 0
IsBusOpened before slot bus last bridges after =
    OfOpening before slot bus last (λ v image behind others.
    (new : List ℕ) × (nodes : Nodes)
    × (after ≡ v.fill (Node slot.device slot.function new nodes others)) × IsAlike image new
    × (without_numbers nodes ≡ without_numbers behind)
    × (shows new slot.bus bus (if bridges then last else bus) ≡ true)
    × IsClosed nodes × (has_bridges nodes ≡ bridges))

-- All but bus numbers is kept.
abbrev pub IsOpenLeft : Board → Slot → ℕ → ℕ → Board → Type 0
IsOpenLeft before slot bus last after =
    OfOpening before slot bus last (λ v image behind others.
    (new : List ℕ) × (nodes : Nodes)
    × (after ≡ v.fill (Node slot.device slot.function new nodes others)) × IsAlike image new
    × (without_numbers nodes ≡ without_numbers behind))

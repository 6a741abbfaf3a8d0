-- The bus numbers of a board that had none (Bridge 1.2, 3.2.5.2 to 3.2.5.4).
use Rattle.std.specs.Prelude.{◌≡◌, ℕ, ◌+◌, ◌==◌, nat_le, max, Bool, true, ◌&&◌, ◌||◌, not, if◌then◌else◌, IsTrue, List, [], ◌∷◌, ◌++◌, length, map, set}
use Rattle.std.specs.List.{range_with_len}
use Rattle.pci_spec.specs.Registers.{PRIMARY_BUS, SECONDARY_BUS, SUBORDINATE_BUS}
use Rattle.pci_spec.specs.Header.{primary_bus, secondary_bus, subordinate_bus}
use Rattle.pci_number.specs.Board.{Nodes, NoMore, Node, is_type_1}
use Rattle.pci_number.specs.Walk.{has_bus}

-- an image with these bus numbers
abbrev pub with_numbers : ℕ → ℕ → ℕ → List ℕ → List ℕ
with_numbers primary secondary subordinate image =
    set (set (set image PRIMARY_BUS primary) SECONDARY_BUS secondary) SUBORDINATE_BUS subordinate

-- the nodes with all bus numbers of their bridges taken away
abbrev pub without_numbers : Nodes → Nodes
without_numbers NoMore = NoMore
without_numbers (Node device function image behind others) =
    Node device function (if is_type_1 image then with_numbers 0 0 0 image else image)
    (without_numbers behind) (without_numbers others)

-- the secondary bus numbers of the bridges that a walk comes to, in its order: a bridge before what
-- is behind it, and nothing behind one without a bus
abbrev pub secondaries : Nodes → List ℕ
secondaries NoMore = []
secondaries (Node device function image behind others) =
    (if is_type_1 image
    then secondary_bus image ∷ (if has_bus image then secondaries behind else []) else [])
    ++ secondaries others

-- the secondary bus number of the n-th bridge behind a root: where it would be above the last bus,
-- the bridge has none
abbrev pub secondary_number : ℕ → ℕ → ℕ → ℕ
secondary_number root last n = if nat_le (root + n) last then root + n else 0

-- the greatest of a number and those that follow
abbrev pub greatest_from : ℕ → List ℕ → ℕ
greatest_from n [] = n
greatest_from n (m ∷ more) = greatest_from (max n m) more

-- whether a bridge shows the bus that it is on, and the greatest secondary bus number of a bridge
-- behind it or its own; one without a bus shows 0 in all three
abbrev pub has_range : ℕ → List ℕ → Nodes → Bool
has_range bus image behind =
    if has_bus image
    then primary_bus image == bus
    && subordinate_bus image == greatest_from (secondary_bus image) (secondaries behind)
    else primary_bus image == 0 && subordinate_bus image == 0

-- whether each bridge that a walk comes to does, on a bus and behind it
abbrev pub have_ranges : ℕ → Nodes → Bool
have_ranges bus NoMore = true
have_ranges bus (Node device function image behind others) =
    (not (is_type_1 image) || has_range bus image behind)
    && (not (has_bus image) || have_ranges (secondary_bus image) behind) && have_ranges bus others

-- The nodes behind a root are numbered, up to a last bus. Of what is behind a bridge without a bus
-- nothing more is said: no access gets there.
pub record IsNumbered (root : ℕ) (last : ℕ) (before : Nodes) (after : Nodes) : Type 0 where
  -- they are the same nodes with the same images, but for the bus numbers of bridges
  pub same : without_numbers before ≡ without_numbers after
  -- the n-th bridge has the n-th bus above the root
  pub order : secondaries after
      ≡ map (secondary_number root last) (range_with_len 1 (length (secondaries after)))
  -- and shows the bus that it is on, and the last bus that it leads to
  pub ranges : IsTrue (have_ranges root after)

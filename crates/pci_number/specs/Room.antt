-- Bus numbers of a board where some are kept free behind bridges, as for what is plugged in later.
use Rattle.std.specs.Prelude.{◌≡◌, ℕ, ◌+◌, ◌==◌, nat_lt, min, Bool, true, ◌&&◌, if◌then◌else◌, IsTrue, List}
use Rattle.pci_spec.specs.Header.{primary_bus, secondary_bus, subordinate_bus}
use Rattle.pci_number.specs.Board.{Nodes, NoMore, Node, is_type_1}
use Rattle.pci_number.specs.Walk.{has_bus}
use Rattle.pci_number.specs.Numbered.{without_numbers}

-- the last bus that the bridges on a bus lead to: where none leads anywhere, the bus before theirs
abbrev pub last_behind : ℕ → Nodes → ℕ
last_behind bus NoMore = bus
last_behind bus (Node device function image behind others) =
    last_behind (if has_bus image then subordinate_bus image else bus) others

-- whether a bridge shows these numbers
abbrev pub shows : List ℕ → ℕ → ℕ → ℕ → Bool
shows image primary secondary subordinate =
    primary_bus image == primary && secondary_bus image == secondary
    && subordinate_bus image == subordinate

-- Whether the bridges on a bus have their numbers, where those up to `taken` are in use. The first
-- bridge takes the next number, those behind it take the numbers after that, and it leads to the
-- last of these and to as many more as it has room for. The bridges that follow on its bus take the
-- numbers after that.
abbrev pub have_numbers : (List ℕ → ℕ) → ℕ → ℕ → ℕ → Nodes → Bool
have_numbers room last bus taken NoMore = true
have_numbers room last bus taken (Node device function image behind others) =
    if is_type_1 image then (if nat_lt taken last
    then shows image bus (taken + 1) (min last (last_behind (taken + 1) behind + room image))
    && have_numbers room last (taken + 1) (taken + 1) behind
    && have_numbers room last bus (subordinate_bus image) others
    else shows image 0 0 0 && have_numbers room last bus taken others)
    else have_numbers room last bus taken others

-- The nodes behind a root are numbered, up to a last bus, with room for so many more buses behind
-- each bridge, by its image. Of what is behind a bridge without a bus nothing more is said.
pub record IsNumberedWithRoom (room : List ℕ → ℕ) (root : ℕ) (last : ℕ) (before : Nodes)
    (after : Nodes) : Type 0 where
  -- they are the same nodes with the same images, but for the bus numbers of bridges
  pub same : without_numbers before ≡ without_numbers after
  pub numbers : IsTrue (have_numbers room last root root after)

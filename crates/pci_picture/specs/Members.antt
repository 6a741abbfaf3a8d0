-- The members of sections, and how deep they stand.
use Rattle.std.specs.Prelude.{◌≡◌, ℕ, ◌+◌, ◌*◌, ◌==◌, ◌&&◌, Bool, IsTrue, not, List, map, if◌then◌else◌}
use Rattle.std.specs.List.{All, filter}
use Rattle.std.specs.List.Sorted.{IsNonDecreasingBy}
use Rattle.pci_picture.specs.Lanes.{IsIndented}
use Rattle.pci_picture.specs.Maps.{headed_line, headed_member, regions_of_members}
use Rattle.pci_picture.specs.Nested.{AreSortedByTop, headed_in}
use Rattle.pci_picture.specs.declared.map.Line.{Line}
use Rattle.pci_picture.specs.declared.plan.Member.{Member}
use Rattle.pci_picture.specs.declared.region.Region.{Region}

-- a member stands below a heading of a section
abbrev pub is_member_in_place : ℕ → Member → Bool
is_member_in_place number member = not member.is_lost && (member.section == number)

abbrev pub regions_below : ℕ → List Member → List Region
regions_below number members = regions_of_members (filter (is_member_in_place number) members)

-- what is out of place stands inside nothing
abbrev pub IsFlatIfLost : Member → Type 0
IsFlatIfLost member = IsTrue member.is_lost → member.region.depth ≡ 1

-- twice the number of its section, and one more where it is out of place
abbrev pub member_number : Member → ℕ
member_number member = 2 * member.section + (if member.is_lost then 1 else 0)

-- what is in place of a section is indented by one step at most, and what is out of place stands behind it
pub record AreIndentedBySection (members : List Member) : Type 0 where
  pub indented : (number : ℕ) → IsIndented (regions_below number members)
  pub flat : All IsFlatIfLost members
  pub lost_last : IsNonDecreasingBy member_number members

-- what is in place of a section are the regions of its lines, in their order but that lines of depth 1 rise
abbrev pub AreSortedBySection : List Line → List Member → Type 0
AreSortedBySection lines members =
    (number : ℕ) → AreSortedByTop (headed_in number (map headed_line lines)) (map headed_member (filter (is_member_in_place number) members))

-- How wide the sections of a picture are, and where they stand from the left.
use Rattle.std.specs.Prelude.{◌≡◌, ℕ, ◌==◌, ◌+◌, ◌-◌, ◌*◌, ◌/◌, max, min, List, fold, if◌then◌else◌}
use Rattle.std.specs.List.{filter, list_any}
use Rattle.pci_picture.specs.Headings.{Headed, is_in_section, is_lost}
use Rattle.pci_picture.specs.declared.plan.Site.{Site}

-- the depth of the deepest line of all sections, and 1 where there is none
abbrev pub deepest : List Headed → ℕ
deepest regions = fold (λ depth (region : Headed). max depth region.depth) 1 (filter (λ (region : Headed). is_in_section region.heading) regions)

-- a window has 126 units for its own text, and less where many levels stand inside each other
abbrev pub column_at : ℕ → ℕ
column_at depth = if depth - 1 == 0 then 126 else min 126 (1260 / (depth - 1))

-- what is out of place has 240 units beside all sections
abbrev pub width_of_lost : List Headed → ℕ
width_of_lost regions = if list_any (λ (region : Headed). is_lost region.heading) regions then 240 else 0

-- a section of a map's regions stands behind the tree. It has a column for each level above the deepest one, 330 units for the
-- innermost lines, and the width of what is out of place
pub record HasColumnsOf (regions : List Headed) (site : Site) : Type 0 where
  pub x_is : site.x ≡ 436
  pub column_is : site.column ≡ column_at (deepest regions)
  pub width_is : site.width ≡ site.column * (deepest regions - 1) + 330 + width_of_lost regions

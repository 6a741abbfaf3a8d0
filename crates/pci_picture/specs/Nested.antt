-- The boxes of a section with the depths of their lines, as the map's text tells them.
use Rattle.std.specs.Prelude.{◌≡◌, ℕ, ◌==◌, List, ◌++◌, false, map, true}
use Rattle.std.specs.List.{All, filter}
use Rattle.std.specs.List.Sorted.{IsNonDecreasingBy}
use Rattle.pci_picture.specs.Columns.{HasColumnsOf}
use Rattle.pci_picture.specs.Headings.{Headed, is_section}
use Rattle.pci_picture.specs.Lanes.{IsIndented}
use Rattle.pci_picture.specs.Looks.{IsTitled, Look, looks_of, words_of_boxes}
use Rattle.pci_picture.specs.Maps.{headed_member, lines_of_regions, regions_of_members}
use Rattle.pci_picture.specs.Sides.{HasSides, StandBeside, sides_drawn, sides_of_width}
use Rattle.pci_picture.specs.Spots.{Section, classes_drawn, lines_drawn}
use Rattle.pci_picture.specs.declared.lanes.Width.{Width}
use Rattle.pci_picture.specs.declared.plan.Member.{Member}
use Rattle.pci_picture.specs.declared.plan.Site.{Site}
use Rattle.pci_picture.specs.declared.region.Region.{Region}

-- the regions below the headings of a section
abbrev pub headed_in : ℕ → List Headed → List Headed
headed_in number regions = filter (λ region. is_section number region.heading) regions

-- those inside the lines of depth 1 that begin at an address, and these lines themselves
abbrev pub headed_with_top : ℕ → List Headed → List Headed
headed_with_top top regions = filter (λ region. region.top == top) regions

-- lines of depth 1 rise by their first addresses, each with what is inside it. All that is inside one such line keeps its order, and
-- so do lines of depth 1 that begin at the same address
pub record AreSortedByTop (told drawn : List Headed) : Type 0 where
  pub rise : IsNonDecreasingBy (λ (region : Headed). region.top) drawn
  pub kept : (top : ℕ) → headed_with_top top drawn ≡ headed_with_top top told

-- the boxes of a section are those of regions in place, and behind them those of regions out of place. The regions in place are
-- those below its headings, each with its depth in the map's text, in the order of this text but that lines of depth 1 rise. Each
-- is one step deeper at most than the one before it. Their boxes stand inside those of their parents, and side by side where they
-- have an address in common. Each box looks as its line says, and so does its title. The words of the section are those of its boxes,
-- one behind the other, and behind them what is written where regions would fit. All sections
-- have columns as wide as the deepest line of the map asks for
pub record HasNestedBoxes (look : Look) (regions : List Headed) (section : Section) : Type 0 where
  pub inside : List Member
  pub lost : List Region
  pub told : AreSortedByTop (headed_in section.number regions) (map headed_member inside)
  pub out_of_place : lines_of_regions lost ≡ section.lost
  pub drawn : lines_drawn section.spots ≡ lines_of_regions (regions_of_members inside ++ lost)
  pub looks : classes_drawn section.spots ≡ looks_of look false (regions_of_members inside) ++ looks_of look true lost
  pub titled : All (IsTitled look) section.spots
  pub indented : IsIndented (regions_of_members inside)
  pub site : Site
  pub room : HasSides site
  pub columns : HasColumnsOf regions site
  pub widths : List Width
  pub sides : sides_drawn section.spots ≡ map sides_of_width widths
  pub beside : StandBeside site (regions_of_members inside) lost widths
  pub fits : List ℕ
  pub written : section.words ≡ words_of_boxes look widths section.spots ++ fits

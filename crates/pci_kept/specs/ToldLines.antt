-- What is known of told ranges, as they lie in a system.
use Rattle.std.specs.Prelude.{◌≡◌, ℕ, ◌<◌, Bool, ◌&&◌, ◌||◌, not, List, length, slice_index_or}
use Rattle.pci_spec.specs.Decoded.{Range}
use Rattle.pci_spec.specs.System.{System, Space}
use Rattle.plan_spec.specs.Plan.{same_class}
use Rattle.judge_spec.specs.Told.{ToldRange}
use Rattle.judge_spec.specs.ToldClaims.{is_marked_held, is_range_on}
use Rattle.judge_spec.specs.ToldRegion.{ToldRegion, told_extent}
use Rattle.settle_spec.specs.Lists.{Request}
use Rattle.settle_spec.specs.Parts.{lies_within, are_same_space}
use Rattle.settle_spec.specs.Lines.{is_marked_always}
use Rattle.settle_spec.specs.Stands.{range_class}
use Rattle.settle_laws.specs.Order.{level}
use Rattle.pci_base.specs.Ranges.{decoded_range_of}
use Rattle.pci_base.specs.Space as code
use Rattle.pci_base.specs.WindowKinds.{kind_value}
use Rattle.pci_first_fit.specs.declared.kept.Part.{Part}
use Rattle.pci_first_fit.specs.declared.kept.Part.TheVariants as parts
use Rattle.pci_kept.specs.declared.region.Region.{Region}
use Rattle.pci_kept.specs.declared.told_line.ToldLine.{ToldLine}

-- a told range, whatever its line
abbrev pub unnamed : ToldRange → ToldRegion
unnamed t = record { register = 0; told = t }

pub record IsToldLineOf (q : Request) (s : System) (t : ToldRange) (line : ToldLine) : Type 0 where
  pub level : line.level ≡ level q t.slot.bus
  pub class : kind_value line.class ≡ range_class q s (unnamed t)
  pub on : line.on ≡ is_range_on q.told s t

-- of each told range what is known of it
pub record AreToldLines (q : Request) (s : System) (lines : List ToldLine) : Type 0 where
  pub size : length lines ≡ length q.told.ranges
  pub each : (k : ℕ) (d : ToldLine) (t : ToldRange) → k < length q.told.ranges
      → IsToldLineOf q s (slice_index_or q.told.ranges k t) (slice_index_or lines k d)

-- ---- what leads to them

-- whether a part of a bridge leads to a told range behind it, by its space and addresses
abbrev pub part_leads_to : Part → Space → Range → ToldRange → ToldLine → Bool
part_leads_to (parts.Window kind) space r t line =
    same_class (kind_value kind) (kind_value line.class) && lies_within (told_extent t) r
part_leads_to (parts.Bar n) space r t line = is_marked_always t.mark && are_same_space space t.space
part_leads_to parts.Rom space r t line = is_marked_always t.mark && are_same_space space t.space

-- and this one is on, or any one counts
abbrev pub leads_to_line : Bool → Region → ToldRange → ToldLine → Bool
leads_to_line any r t line =
    (any || line.on) && not (is_marked_held t.mark)
    && part_leads_to r.part (code.space_of r.space) (decoded_range_of r.range) t line

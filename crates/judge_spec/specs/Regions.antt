-- The regions that have a line in a map: enabled ones that address registers show, and told ranges that are on.
use Rattle.std.specs.Prelude.{ℕ}
use Rattle.pci_spec.specs.Slot.{Slot}
use Rattle.pci_spec.specs.System.{System, Space}
use Rattle.pci_spec.specs.Decoded.{Range}
use Rattle.pci_spec.specs.Why.{Region, IsRegionIn}
use Rattle.judge_spec.specs.ToldClaims.{Told}
use Rattle.judge_spec.specs.ToldAllFaults.{region_number}
use Rattle.judge_spec.specs.ToldRegion.{ToldRegion, told_extent, IsToldIn}

pub data MapRegion : Type 0 where
  -- a BAR, a ROM or a window
  Own : Region → MapRegion
  OfLine : ToldRegion → MapRegion

abbrev pub slot_of : MapRegion → Slot
slot_of (Own q) = q.slot
slot_of (OfLine x) = x.told.slot

abbrev pub register_of : MapRegion → ℕ
register_of (Own q) = q.register
register_of (OfLine x) = x.register

abbrev pub space_of : MapRegion → Space
space_of (Own q) = q.space
space_of (OfLine x) = x.told.space

abbrev pub range_of : MapRegion → Range
range_of (Own q) = q.range
range_of (OfLine x) = told_extent x.told

-- it is one of the system's or of what is told, and has just the addresses that it claims
abbrev pub IsIn : Told → System → MapRegion → Type 0
IsIn told s (Own q) = IsRegionIn s q
IsIn told s (OfLine x) = IsToldIn told s x

-- by slot, and then by register
abbrev pub region_rank : MapRegion → ℕ
region_rank q = region_number (slot_of q) (register_of q)

-- What places are told by: the ranges that roots have for an item, and the items that are placed.
use Rattle.std.specs.Prelude.{ℕ, ◌==◌, if◌then◌else◌, List, [], ◌∷◌, ◌++◌, Option, None, Some}
use Rattle.std.specs.List.{find}
use Rattle.pci_spec.specs.Window.{WindowKind, MemoryWindow, PrefetchWindow}
use Rattle.pci_spec.specs.Decoded.{Range}
use Rattle.settle_spec.specs.FirstPlace.{is_high}
use Rattle.settle_spec.specs.Lists.{Request, class_ranges}
use Rattle.settle_spec.specs.Parts.{FunctionPart}
use Rattle.settle_spec.specs.Stands.{rank}
use Rattle.settle_spec.specs.Items.{PlacingItem, Placed, Placing, AllPlaced, Lacks, taken_by}

-- the further ranges of an item that may lie above 4 GB
abbrev pub wide_ranges : Request → WindowKind → ℕ → List Range
wide_ranges q MemoryWindow bus = class_ranges q PrefetchWindow bus
wide_ranges q c bus = []

-- the ranges that an item on a root can have: a BAR of memory that may lie above 4 GB has those of prefetchable memory too
abbrev pub root_ranges : Request → PlacingItem → List Range
root_ranges q i =
    class_ranges q i.class i.region.function.slot.bus
    ++ (if is_high i.extent then wide_ranges q i.class i.region.function.slot.bus else [])

abbrev pub placed_of : Placing → List Placed
placed_of (AllPlaced placed) = placed
placed_of (Lacks i) = []

-- the item of a part among those that are placed
abbrev pub place_among : FunctionPart → List Placed → Option Placed
place_among r placed = find (λ (p : Placed). rank p.item.region == rank r) placed

abbrev pub placed_range : Option Placed → List Range
placed_range None = []
placed_range (Some p) = taken_by p.item p.at ∷ []

-- the item that lacks a place in one placing, or else another
abbrev pub first_lack : Placing → Option PlacingItem → Option PlacingItem
first_lack (AllPlaced placed) other = other
first_lack (Lacks i) other = Some i

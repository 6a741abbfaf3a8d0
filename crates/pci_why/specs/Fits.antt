-- Where a region would fit, with what is given.
use Rattle.std.specs.Prelude.{◌≡◌, ℕ, Bool, List, Option, MatchOption}
use Rattle.std.specs.Option.{option_map}
use Rattle.std.specs.List.{Contains}
use Rattle.pci_spec.specs.System.{System, Function, Space}
use Rattle.pci_spec.specs.System as system
use Rattle.pci_spec.specs.Bus.{IsNested}
use Rattle.pci_spec.specs.Mark.{AssumedRegister}
use Rattle.pci_spec.specs.Fault.{RegionName}
use Rattle.judge_spec.specs.Given.{Given}
use Rattle.judge_spec.specs.ToldClaims.{Told}
use Rattle.judge_spec.specs.Why.{AnyRegion, IsNamed, IsRegionIn, IsPlaceFor, IsLeastPlace, IsFitBehind}
use Rattle.pci_base.specs.Space.{kind_in}
use Rattle.pci_why.specs.Free.{AreFreeFor}
use Rattle.pci_why.specs.Rooms.{RoomValue, IsRoomOfBus, IsRoomFor}
use Rattle.pci_base.specs.declared.range.Range.{Range}
use Rattle.pci_base.specs.Ranges.{decoded_range_of}
use Rattle.pci_tree.specs.declared.region.Region as outline
use Rattle.pci_tree.specs.Regions.{IsRegionOf}
use Rattle.pci_tree.specs.Outline.{Tree}
use Rattle.pci_tree.specs.Trees.{HasTree}
use Rattle.pci_why.specs.Lines.{Appends}
use Rattle.pci_claims.specs.Found.{region_of_found}

-- just the addresses that are free for a region, by what there is on its bus
abbrev pub AreFreeIn : RoomValue → Space → outline.Region → List Range → Type 0
AreFreeIn room space q out =
    (told : Told) (given : Given) (t : Tree) → IsRoomOfBus told given t (kind_in space q.prefetch) room
    → room.bus ≡ q.slot.bus → AreFreeFor told given t space q out

-- the least place for the region in each system with the tree that has it
abbrev pub IsFitFor : Told → Given → Tree → Space → outline.Region → Bool → Option Range → Type 0
IsFitFor told given t space q wide o =
    (s : System) (f : Function) (part : system.Part) → HasTree t s → IsNested t.roots s
    → Contains s f → IsRegionOf f part space q
    → MatchOption (option_map decoded_range_of o)
    ((first : ℕ) → IsPlaceFor told given t.roots s (region_of_found q part space) wide first → ⊥)
    (λ r. IsLeastPlace told given t.roots s (region_of_found q part space) wide r)

-- the same by what there is on its bus
abbrev pub IsFitIn : Option RoomValue → Space → outline.Region → Bool → Option Range → Type 0
IsFitIn room space q wide o =
    (told : Told) (given : Given) (t : Tree) → IsRoomFor told given t q.slot (kind_in space q.prefetch) room
    → IsFitFor told given t space q wide o

-- in each system with the tree that has the region, the lines that tell where it would fit
abbrev pub IsFitTold :
    List AssumedRegister → Told → Given → Tree → RegionName → Space → List ℕ → List ℕ → Type 0
IsFitTold assumed told given t region space before after =
    (s : System) (q : AnyRegion) → HasTree t s → IsNamed q region.slot region.register space
    → IsRegionIn told given s q
    → Appends (IsFitBehind assumed told given t.roots s q) before after

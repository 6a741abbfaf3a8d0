-- What has a line of its own in a map, as the definitions have it.
use Rattle.std.specs.Prelude.{◌≡◌, ℕ, List}
use Rattle.std.specs.List.{AllPairs, Contains}
use Rattle.pci_spec.specs.System.{System, Function, Space, Part, Claims}
use Rattle.judge_spec.specs.Told.{ToldRange, IsTold}
use Rattle.judge_spec.specs.ToldClaims.{Told}
use Rattle.judge_spec.specs.ToldNumbered.{AreListedIn}
use Rattle.judge_spec.specs.ToldRegion.{ToldRegion, IsToldIn}
use Rattle.judge_spec.specs.Regions.{MapRegion, Own, OfLine}
use Rattle.judge_spec.specs.Lines.{region_mark, MarkIsBefore}
use Rattle.pci_base.specs.declared.range.Range.{Range}
use Rattle.pci_tree.specs.declared.region.Region.{Region}
use Rattle.pci_tree.specs.Regions.{IsRegionOf, IsRegionOn}
use Rattle.pci_claims.specs.Found.{range_at}
use Rattle.pci_map.specs.declared.seat.Seat.{Seat}
use Rattle.pci_map.specs.declared.seat.Seat.TheVariants as seats
use Rattle.pci_map.specs.declared.seat.ToldRegion as declared
use Rattle.pci_map.specs.Values.{value_of}

abbrev pub told_region_value : declared.ToldRegion → ToldRegion
told_region_value x = record { register = x.register; told = x.told.now }

abbrev pub seat_value : Space → Seat → MapRegion
seat_value space (seats.Own q) = Own (value_of space q)
seat_value space (seats.OfLine x) = OfLine (told_region_value x)

abbrev pub told_range : ToldRange → Range
told_range r = record { first = r.first; last = r.last }

abbrev pub seat_range : Seat → Range
seat_range (seats.Own q) = range_at q
seat_range (seats.OfLine x) = told_range x.told.now

abbrev pub seat_first : Seat → ℕ
seat_first (seats.Own q) = q.first
seat_first (seats.OfLine x) = x.told.now.first

-- the ranges are those of a text, and the system lists each slot of one that isn't held
pub record IsToldOfListedSlots (told : Told) (s : System) : Type 0 where
  pub lawful : IsTold told.ranges
  pub listed : AreListedIn told s

-- a told range of a bus and a space, which is on
pub record IsToldOn (told : Told) (s : System) (bus : ℕ) (space : Space) (x : ToldRegion) : Type 0 where
  pub is : IsToldIn told s x
  pub on_bus : x.told.slot.bus ≡ bus
  pub of_space : x.told.space ≡ space

-- a region of a bus and a space
abbrev pub IsSeatOn : Told → System → ℕ → Space → Seat → Type 0
IsSeatOn told s bus space (seats.Own q) = IsRegionOn s bus space q
IsSeatOn told s bus space (seats.OfLine x) = IsToldOn told s bus space (told_region_value x)

abbrev pub AreSeatsOn : Told → System → ℕ → Space → List Seat → Type 0
AreSeatsOn told s bus space qs = (q : Seat) → Contains qs q → IsSeatOn told s bus space q

-- by first address, then by slot and register
abbrev pub SeatIsBefore : Space → Seat → Seat → Type 0
SeatIsBefore space p q = MarkIsBefore (region_mark (seat_value space p)) (region_mark (seat_value space q))

-- the region stands in the list
pub record IsAmongSeats (space : Space) (qs : List Seat) (v : MapRegion) : Type 0 where
  pub q : Seat
  pub has : Contains qs q
  pub is : seat_value space q ≡ v

-- the list has the region of a function's part
pub record HasSeatOfPart (qs : List Seat) (f : Function) (part : Part) (space : Space) : Type 0 where
  pub q : Region
  pub has : Contains qs (seats.Own q)
  pub is : IsRegionOf f part space q

-- the list has a told range
pub record HasLine (qs : List Seat) (x : ToldRegion) : Type 0 where
  pub y : declared.ToldRegion
  pub has : Contains qs (seats.OfLine y)
  pub is : told_region_value y ≡ x

-- just the regions of a bus and a space, in order
pub record AreSortedSeatsOf (told : Told) (s : System) (bus : ℕ) (space : Space)
    (qs : List Seat) : Type 0 where
  pub each : AreSeatsOn told s bus space qs
  pub parts : (f : Function) (part : Part) (a : ℕ) → Contains s f → f.slot.bus ≡ bus
      → Claims f part space a → HasSeatOfPart qs f part space
  pub lines : (x : ToldRegion) → IsToldOn told s bus space x → HasLine qs x
  pub sorted : AllPairs (SeatIsBefore space) qs

-- just those of some regions of which P holds, in their order
pub record AreFilteredSeats (P : Seat → Type 0) (space : Space) (qs out : List Seat) : Type 0 where
  pub each : (q : Seat) → Contains out q → Contains qs q
  pub hold : (q : Seat) → Contains out q → P q
  pub complete : (q : Seat) → Contains qs q → P q → Contains out q
  pub sorted : AllPairs (SeatIsBefore space) qs → AllPairs (SeatIsBefore space) out

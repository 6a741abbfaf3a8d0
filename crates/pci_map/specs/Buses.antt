-- The lines of root buses, and of what bridges take.
use Rattle.std.specs.Prelude.{◌≡◌, ℕ, ◌<◌, List, ◌++◌, map}
use Rattle.std.specs.List.{AllPairs, Contains, filter, flat_map}
use Rattle.pci_spec.specs.Slot.{slot_number}
use Rattle.pci_spec.specs.System.{System, Function}
use Rattle.pci_spec.specs.Bus.{is_root}
use Rattle.judge_spec.specs.Given.{Given}
use Rattle.judge_spec.specs.ToldClaims.{Told}
use Rattle.judge_spec.specs.Regions.{MapRegion, slot_of, space_of, range_of, IsIn}
use Rattle.judge_spec.specs.Lines.{StandsBehind, IsOutOfPlace}
use Rattle.judge_spec.specs.Map.{MapTaking, MapSpace, MapRoot, IsBelow, IsTaking, IsSpaceOfMap, IsRootOfMap}
use Rattle.judge_spec.specs.MapText.{taking_text, space_lines, root_text}
use Rattle.pci_map.specs.declared.takers.Taker.{Taker}
use Rattle.pci_map.specs.declared.seat.Seat.{Seat}
use Rattle.pci_map.specs.Values.{Mapped}
use Rattle.pci_map.specs.Seats.{seat_first, AreSeatsOn, SeatIsBefore, IsAmongSeats}
use Rattle.pci_map.specs.Above.{IsSeatOut}
use Rattle.pci_map.specs.Takers.{IsTakenFirst}

-- a text got the lines of the roots among some buses
pub record AreRootsTold (told : Told) (given : Given) (roots : List ℕ) (s : System) (among : List ℕ)
    (old new : List ℕ) : Type 0 where
  pub written : List MapRoot
  pub buses : map (λ root. root.bus) written ≡ filter (is_root roots) among
  pub each : (root : MapRoot) → Contains written root → IsRootOfMap told given roots s root
  pub text : new ≡ old ++ flat_map (root_text given) written

-- a text got all lines of a space of a root bus
pub record IsSpaceTold (m : Mapped) (bus : ℕ) (old new : List ℕ) : Type 0 where
  pub x : MapSpace
  pub are : IsSpaceOfMap m.told m.given m.roots m.system m.space bus x
  pub text : new ≡ old ++ space_lines m.given bus m.space x

-- a text got those of some bridges that take what nobody claims
pub record AreTakingsTold (m : Mapped) (root : ℕ) (among : List Taker) (old new : List ℕ) : Type 0 where
  pub written : List MapTaking
  pub each : (t : MapTaking) → Contains written t
      → IsTaking m.told m.given m.roots m.system m.space root t
  pub from : (t : MapTaking) → Contains written t
      → (taker : Taker) × Contains among taker × (taker.slot ≡ t.slot)
  pub complete : (taker : Taker) (q : MapRegion) → Contains among taker
      → IsBelow m.system root taker.slot → IsIn m.told m.system q → space_of q ≡ m.space
      → StandsBehind m.given m.system taker.slot q
      → (IsOutOfPlace m.told m.given m.roots m.system q → ⊥)
      → (t : MapTaking) × Contains written t × (t.slot ≡ taker.slot)
  pub rising : AllPairs (λ t u. slot_number t.slot < slot_number u.slot) written
  pub text : new ≡ old ++ flat_map (taking_text m.given m.space) written

-- just the regions behind a bridge that it takes, none of its windows claims, and that are in their place, in order
pub record IsTakenOf (m : Mapped) (b : Function) (bus : ℕ) (qs : List Seat) : Type 0 where
  pub each : AreSeatsOn m.told m.system bus m.space qs
  pub taken : (q : Seat) → Contains qs q → IsTakenFirst m.given m.space b (seat_first q)
  pub within : (q : Seat) → Contains qs q
      → IsSeatOut m.told m.given m.roots m.system m.space q → ⊥
  pub complete : (v : MapRegion) → IsIn m.told m.system v → space_of v ≡ m.space
      → (slot_of v).bus ≡ bus → IsTakenFirst m.given m.space b (range_of v).first
      → (IsOutOfPlace m.told m.given m.roots m.system v → ⊥) → IsAmongSeats m.space qs v
  pub sorted : AllPairs (SeatIsBefore m.space) qs

-- The regions of a bus: those that registers show, with told ranges.
use Rattle.std.specs.Prelude.{◌≡◌, ℕ, ◌+◌, ◌*◌, ◌<◌, Bool, List, ◌++◌}
use Rattle.std.specs.List.{AllPairs, Contains}
use Rattle.pci_spec.specs.System.{Space}
use Rattle.judge_spec.specs.Told.{ToldRange}
use Rattle.judge_spec.specs.ToldClaims.{told_register}
use Rattle.judge_spec.specs.ToldAllFaults.{region_number}
use Rattle.pci_claims.specs.AllClaims.{IsOnAt}
use Rattle.pci_map.specs.declared.seat.Seat.{Seat}
use Rattle.pci_map.specs.declared.seat.Seat.TheVariants as seats
use Rattle.pci_map.specs.declared.seat.ToldRegion as declared
use Rattle.pci_map.specs.Seats.{seat_first}

-- the place of a region in the order of first addresses, slots and registers
abbrev pub seat_place_number : ℕ → ℕ → ℕ
seat_place_number first number = first * 4294967296 + number

-- the place of a region in the order of slots and registers
abbrev pub slot_place : Seat → ℕ
slot_place (seats.Own q) = region_number q.slot q.reg
slot_place (seats.OfLine x) = region_number x.told.now.slot x.register

abbrev pub seat_number : Seat → ℕ
seat_number q = seat_place_number (seat_first q) (slot_place q)

abbrev pub seat_register : Seat → ℕ
seat_register (seats.Own q) = q.reg
seat_register (seats.OfLine x) = x.register

-- the region of the range at an index
pub record IsSeatAt (r : ToldRange) (index : ℕ) (q : Seat) : Type 0 where
  pub x : declared.ToldRegion
  pub is : q ≡ seats.OfLine x
  pub told : x.told.now ≡ r
  pub register : x.register ≡ told_register index

-- of each range of a part of a list that is on and of the space there is one region, by their order
pub record AreToldSeats (ranges : List ToldRange) (on : List Bool) (first end : ℕ) (space : Space)
    (qs : List Seat) : Type 0 where
  pub each : (q : Seat) → Contains qs q
      → (k : ℕ) × (r : ToldRange) × IsOnAt ranges on first end space k r × IsSeatAt r k q
  pub complete : (k : ℕ) (r : ToldRange) → IsOnAt ranges on first end space k r
      → (q : Seat) × Contains qs q × IsSeatAt r k q
  pub rising : AllPairs (λ p q. seat_register p < seat_register q) qs

-- a list got regions of which P holds
pub record AreMoreSeats (P : List Seat → Type 0) (old new : List Seat) : Type 0 where
  pub more : List Seat
  pub made : P more
  pub appended : new ≡ old ++ more

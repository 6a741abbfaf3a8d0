-- What a window holds, by regions of an outline.
use Rattle.std.specs.Prelude.{◌≡◌, ℕ, ◌<◌, nat_le, ◌==◌, Bool, ◌&&◌, not, List, map, Option, None, Some, MatchOption, MatchBool}
use Rattle.std.specs.List.{AllPairs, Contains}
use Rattle.pci_spec.specs.Registers.{MEMORY_BASE, PREFETCHABLE_BASE}
use Rattle.pci_spec.specs.System.{System, Space}
use Rattle.pci_spec.specs.Why.{AreRuns}
use Rattle.judge_spec.specs.Given.{is_isa_port}
use Rattle.judge_spec.specs.Regions.{MapRegion, space_of, IsIn}
use Rattle.judge_spec.specs.Lines.{BelongsUnder, IsFreeIn, IsOutOfPlace}
use Rattle.pci_base.specs.declared.range.Range.{Range}
use Rattle.pci_base.specs.Ranges.{decoded_range_of}
use Rattle.pci_tree.specs.declared.region.Region.{Region}
use Rattle.pci_map.specs.declared.seat.Seat.{Seat}
use Rattle.pci_map.specs.Values.{Mapped, value_of}
use Rattle.pci_map.specs.Seats.{seat_value, seat_first, AreSeatsOn, SeatIsBefore, IsAmongSeats}
use Rattle.pci_map.specs.Above.{IsSeatOut}
use Rattle.pci_claims.specs.Found.{NoneClaims, IsFoundIn}

abbrev pub region_has : Region → ℕ → Bool
region_has q a = nat_le q.first a && nat_le a q.last

-- whether ISA Enable takes an address from a window, by whether it cuts it
abbrev pub is_cut_by_isa : Bool → ℕ → Bool
is_cut_by_isa cut a = cut && is_isa_port a

-- whether a window has an address, and an earlier one of its bridge, where there is one, hasn't
abbrev pub is_first_window_with : Region → Option Region → ℕ → Bool
is_first_window_with w None a = region_has w a
is_first_window_with w (Some other) a = region_has w a && not (region_has other a)

-- the same of the first address of a region, where ISA Enable doesn't take it
abbrev pub is_held_first : Region → Option Region → Bool → Seat → Bool
is_held_first w o cut q = not (is_cut_by_isa cut (seat_first q)) && is_first_window_with w o (seat_first q)

-- before the prefetchable window the memory window comes, where it is enabled and open; before the others none
abbrev pub IsEarlierWindow : System → Space → Region → Option Region → Type 0
IsEarlierWindow s space w o =
    MatchBool (w.reg == PREFETCHABLE_BASE)
    (MatchOption o (NoneClaims s w.slot MEMORY_BASE space)
    (λ q. IsFoundIn s w.slot MEMORY_BASE space q)) (o ≡ None)

-- Just the regions that belong under a window and aren't out of place, in order, and the greatest runs of what is free
-- of it; and the bus behind its bridge, which is a higher one.
pub record AreInsideWindow (m : Mapped) (w : Region) (bus : ℕ) (regions : List Seat)
    (runs : List Range) : Type 0 where
  pub rises : w.slot.bus < bus
  pub each : AreSeatsOn m.told m.system bus m.space regions
  pub belong : (q : Seat) → Contains regions q
      → BelongsUnder m.given m.system (value_of m.space w) (seat_value m.space q)
  pub within : (q : Seat) → Contains regions q
      → IsSeatOut m.told m.given m.roots m.system m.space q → ⊥
  pub complete : (v : MapRegion) → IsIn m.told m.system v → space_of v ≡ m.space
      → BelongsUnder m.given m.system (value_of m.space w) v
      → (IsOutOfPlace m.told m.given m.roots m.system v → ⊥) → IsAmongSeats m.space regions v
  pub sorted : AllPairs (SeatIsBefore m.space) regions
  pub free : AreRuns (IsFreeIn m.told m.given m.system (value_of m.space w)) (map decoded_range_of runs)

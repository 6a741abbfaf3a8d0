-- The addresses that parts of functions get, as a table of the code has them.
use Rattle.std.specs.Prelude.{◌≡◌, ℕ, ◌<◌, ◌^◌, IsTrue, List, length, Option, None, Some, IfSome, IfNone, slice_get, slice_index_or}
use Rattle.std.specs.List.{All}
use Rattle.pci_spec.specs.Window.{IoWindow, MemoryWindow, PrefetchWindow}
use Rattle.pci_spec.specs.System.{System, Function, Part, Bar, Rom, Window, has_part}
use Rattle.plan_spec.specs.Place.{range_from}
use Rattle.settle_spec.specs.Items.{Placed, taken_by}
use Rattle.settle_spec.specs.Places.{place_among}
use Rattle.pci_base.specs.declared.range.Range.{Range}
use Rattle.pci_base.specs.Ranges.{range_of_decoded}
use Rattle.pci_first_fit.specs.declared.item.Part.{Part as CodePart}
use Rattle.pci_first_fit.specs.declared.item.Part.TheVariants as parts
use Rattle.pci_settle_places.specs.declared.candidate.Candidate.{Candidate}
use Rattle.pci_settle_places.specs.declared.places.Places.{Places}
use Rattle.pci_settle_places.specs.Candidates.{IsWithin, HasAddressAndAlignment}

-- a header has six Base Address registers at most
abbrev pub IsPlacesPart : CodePart → Type 0
IsPlacesPart (parts.Bar n) = n < 6
IsPlacesPart parts.Rom = Unit {0}
IsPlacesPart parts.Window = Unit {0}

-- the addresses of a part
abbrev pub place_range_in : Places → Part → Option Range
place_range_in p (Bar n) = slice_index_or p.bars n None
place_range_in p Rom = p.rom
place_range_in p (Window IoWindow) = p.windows.io
place_range_in p (Window MemoryWindow) = p.windows.memory
place_range_in p (Window PrefetchWindow) = p.windows.prefetchable

-- those of an item at its place
abbrev pub placed_at : Option Placed → Option Range
placed_at None = None
placed_at (Some p) = Some (range_of_decoded (taken_by p.item p.at))

-- those that are noted, or else those that were
abbrev pub or_kept : Option Range → Option Range → Option Range
or_kept None old = old
or_kept (Some r) old = Some r

-- items end in 64 bits at the places of a table
abbrev pub AreEndingAt : List Candidate → List ℕ → Type 0
AreEndingAt candidates places =
    (k : ℕ) (d : Candidate) → k < length candidates
    → (range_from (slice_index_or places k 0) (slice_index_or candidates k d).item.extent.size).last
    < 2 ^ 64

-- a table gets the places of some items, by function and part
abbrev pub NotesOf : System → List Placed → List Places → List Places → Type 0
NotesOf s placed old new =
    (k : ℕ) (f : Function) (d : Places) (part : Part) → slice_get s k ≡ Some f
    → IsTrue (has_part f part)
    → place_range_in (slice_index_or new k d) part
    ≡ or_kept (placed_at (place_among record { function = f; part = part } placed))
    (place_range_in (slice_index_or old k d) part)

-- items of so many functions can be noted where they are placed
pub record AreNotable (functions : ℕ) (candidates : List Candidate) (places : List ℕ)
    (lack : Option ℕ) : Type 0 where
  pub each : All (IsWithin functions) candidates
  pub parts : All (λ c. IsPlacesPart c.item.part) candidates
  pub lawful : All HasAddressAndAlignment candidates
  pub count : length places ≡ length candidates
  pub lacking : IfSome lack (λ k. k < length candidates)
  pub ends : IfNone lack (AreEndingAt candidates places)

-- The lines of a place, made of its regions and its free runs.
use Rattle.std.specs.Prelude.{◌≡◌, ℕ, suc, nat_le, if◌then◌else◌, List, [], ◌∷◌, ◌++◌, map, take, drop}
use Rattle.pci_spec.specs.System.{Space}
use Rattle.pci_spec.specs.Decoded as decoded
use Rattle.judge_spec.specs.Regions.{MapRegion}
use Rattle.judge_spec.specs.Lines.{Lines, End, Free, Sits, AreInside, AreAllInside}
use Rattle.judge_spec.specs.MapText.{map_region_line, lines_text}
use Rattle.pci_base.specs.declared.range.Range.{Range}
use Rattle.pci_base.specs.Ranges.{decoded_range_of}
use Rattle.pci_tree.specs.declared.region.Region.{Region}
use Rattle.pci_tree.specs.declared.region.Part.TheVariants as parts
use Rattle.pci_map.specs.declared.seat.Seat.{Seat}
use Rattle.pci_map.specs.declared.seat.Seat.TheVariants as seats
use Rattle.pci_map.specs.Inside.{AreInsideWindow}
use Rattle.pci_map.specs.Values.{Mapped}
use Rattle.pci_map.specs.Seats.{seat_value, seat_first}

-- how many of the first runs begin before an address
unfoldable pub ahead : ℕ → List Range → ℕ
ahead end [] = 0
ahead end (r ∷ rs) = if nat_le end r.first then 0 else suc (ahead end rs)

-- what has a line in a place itself
pub data Entry : Type 0 where
  Run : decoded.Range → Entry
  At : MapRegion → Entry

abbrev pub entries : Lines → List Entry
entries End = []
entries (Free r rest) = Run r ∷ entries rest
entries (Sits q inside rest) = At q ∷ entries rest

abbrev pub run_entries : List Range → List Entry
run_entries rs = map Run (map decoded_range_of rs)

-- the regions in their order, before each the runs that begin before it
unfoldable pub merged : Space → List Seat → List Range → List Entry
merged space [] rs = run_entries rs
merged space (q ∷ qs) rs =
    run_entries (take (ahead (seat_first q) rs) rs)
    ++ (At (seat_value space q) ∷ merged space qs (drop (ahead (seat_first q) rs) rs))

-- a text got the lines of some regions and runs, with all that is inside
pub record ArePlacesWritten (m : Mapped) (depth : ℕ) (all : List Entry) (old new : List ℕ) : Type 0 where
  pub lines : Lines
  pub entries : entries lines ≡ all
  pub inside : AreAllInside m.told m.given m.roots m.system m.space lines
  pub text : new ≡ old ++ lines_text m.given depth m.space lines

-- a text got the line of a region, and what is inside it
pub record IsSeated (m : Mapped) (depth : ℕ) (q : Seat) (old new : List ℕ) : Type 0 where
  pub inside : Lines
  pub is : AreInside m.told m.given m.roots m.system m.space (seat_value m.space q) inside
  pub deeper : AreAllInside m.told m.given m.roots m.system m.space inside
  pub text : new
      ≡ old ++ (map_region_line m.given depth (seat_value m.space q)
      ++ lines_text m.given (suc depth) m.space inside)

-- it isn't a window
abbrev pub IsNoWindow : Seat → Type 0
IsNoWindow (seats.Own q) = q.part ≡ parts.Window → ⊥
IsNoWindow (seats.OfLine x) = Unit {0}

-- what is inside a region, which is a window
pub record HasInside (m : Mapped) (q : Seat) (bus : ℕ) (regions : List Seat)
    (runs : List Range) : Type 0 where
  pub w : Region
  pub is : q ≡ seats.Own w
  pub window : w.part ≡ parts.Window
  pub inside : AreInsideWindow m w bus regions runs

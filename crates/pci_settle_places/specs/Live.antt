-- Which functions are live, as a table of the code has it by bus.
use Rattle.std.specs.Prelude.{◌≡◌, ℕ, ◌<◌, ◌==◌, Bool, false, ◌&&◌, ◌||◌, IsTrue, List, length, Option, None, Some, slice_get, slice_index_or}
use Rattle.std.specs.List.{list_any}
use Rattle.pci_spec.specs.System.{System, Function, Space, Part, has_part}
use Rattle.settle_spec.specs.Lists.{Request}
use Rattle.settle_spec.specs.Kept.{Kept}
use Rattle.settle_spec.specs.Keeping.Places.{new_place}
use Rattle.pci_function.specs.declared.record.Bridge.{Bridge}
use Rattle.pci_function.specs.declared.record.Record.{Record}
use Rattle.pci_place.specs.declared.above.Above.{Above}
use Rattle.pci_first_fit.specs.Slots.{demand_of}
use Rattle.pci_first_fit.specs.Own.{AreTerms}
use Rattle.pci_settle_places.specs.declared.places.Places.{Places}
use Rattle.pci_settle_places.specs.Places.{place_range_in, placed_at}
use Rattle.pci_settle_places.specs.declared.answering.Answering.{Answering}
use Rattle.pci_settle_places.specs.Answers.{is_answering, AreFlagsOfTold}
use Rattle.pci_settle_places.specs.Claims.{has_kept, is_enabled_by}
use Rattle.settle_spec.specs.LiveLaws.{is_live}

-- a function on a bus is live
abbrev pub is_live_on : Request → System → Kept → Space → ℕ → Bool
is_live_on q s keep space bus = list_any (λ g. g.slot.bus == bus && is_live q s keep space g) s

-- what is asked for has these roots, and this is told of it
pub record IsRequestOf (q : Request) (s : System) (roots : List ℕ) (a : Answering) : Type 0 where
  pub rooted : q.roots ≡ roots
  pub terms : AreTerms (demand_of q) a.terms
  pub told : q.told.ranges ≡ a.told.ranges.now
  pub flags : AreFlagsOfTold q s a.standing.now

-- a table by function has the place that each part gets: none for what stays
pub record HasAllPlaces (q : Request) (s : System) (keep : Kept) (table : List Places) : Type 0 where
  pub count : length table ≡ length s
  pub each : (k : ℕ) (f : Function) (d : Places) (part : Part) → slice_get s k ≡ Some f
      → IsTrue (has_part f part)
      → place_range_in (slice_index_or table k d) part
      ≡ placed_at (new_place q s keep record { function = f; part = part })

-- the table says for each bus whether one is, at the places of another table
abbrev pub AreLiveBuses : List ℕ → System → Space → Answering → List Places → List Bool → Type 0
AreLiveBuses roots s space a table live =
    (q : Request) (keep : Kept) (bus : ℕ) → IsRequestOf q s roots a → HasAllPlaces q s keep table → bus < 256
    → slice_index_or live bus false ≡ is_live_on q s keep space bus

-- ---- of a record

-- the bus behind a bridge is live
abbrev pub is_live_behind : List Bool → Option Bridge → Bool
is_live_behind live None = false
is_live_behind live (Some b) = slice_index_or live b.secondary false

-- it has something of its own: a told range that stands, a BAR or a ROM
abbrev pub has_own_by : Space → Above → Answering → Record → Bool
has_own_by space above a r =
    is_answering a.told.ranges.now a.standing.now space r.slot || has_kept space above a.terms r

abbrev pub is_live_by : Space → Places → Above → Answering → Record → Bool → Bool
is_live_by space p above a r behind =
    is_enabled_by space p above a.terms r behind && (has_own_by space above a r || behind)

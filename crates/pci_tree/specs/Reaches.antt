-- The addresses that get to a bus.
use Rattle.std.specs.Prelude.{◌≡◌, ℕ, ◌↔◌, ◌<◌, length, Bool, IsTrue, List, [], ◌∷◌, slice_index_or, Option, None, Some, IfSome, true, false}
use Rattle.std.specs.List.{Contains, HoldsAt}
use Rattle.pci_spec.specs.Window.{WindowKind}
use Rattle.pci_spec.specs.System.{Space, IsAddress, window_space}
use Rattle.pci_spec.specs.Decoded as decoded
use Rattle.pci_base.specs.declared.range.Range.{Range}
use Rattle.pci_function.specs.declared.record.Record.{Record}
use Rattle.pci_function.specs.Values.{record_value, bridge_value}
use Rattle.pci_tree.specs.Passes.{record_passes, HaveSpans}
use Rattle.pci_tree.specs.Ranges.{Covers, IsCanonical}
use Rattle.pci_tree.specs.Ways.{Leads}

-- each bridge of the list passes the address of a region
abbrev pub PassAll : WindowKind → ℕ → List Record → Type 0
PassAll kind a [] = Unit {0}
PassAll kind a (b ∷ bridges) =
    IsTrue (record_passes kind a (record_value b)) × PassAll kind a bridges

-- the address of a region is passed on all the way from a root to a bus
pub record GetsTo (records : List Record) (roots : List ℕ) (kind : WindowKind)
    (a bus : ℕ) : Type 0 where
  pub root : ℕ
  pub starts : Contains roots root
  pub way : List Record
  pub leads : Leads records root way bus
  pub pass : PassAll kind a way

-- the addresses of a space that get to a bus
pub record IsReachOf (records : List Record) (roots : List ℕ) (kind : WindowKind) (bus : ℕ)
    (out : List Range) : Type 0 where
  pub canonical : IsCanonical out
  pub exact : (a : ℕ) → Covers out a
      ↔ (IsAddress (window_space kind) a × GetsTo records roots kind a bus)

-- no open window of a bridge is empty
abbrev pub HasSpans : Record → Type 0
HasSpans r = IfSome r.bridge (λ b. HaveSpans (bridge_value b).windows)

-- all addresses of a space
pub record IsWhole (space : Space) (out : List Range) : Type 0 where
  pub canonical : IsCanonical out
  pub exact : (a : ℕ) → Covers out a ↔ IsAddress space a

-- the addresses of some ranges that a bridge passes
pub record IsPassedOn (above : List Range) (kind : WindowKind) (bridge : decoded.Record)
    (out : List Range) : Type 0 where
  pub canonical : IsCanonical out
  pub exact : (a : ℕ) → Covers out a ↔ (Covers above a × IsTrue (record_passes kind a bridge))

-- what gets to a bus, by what gets to the lower buses
abbrev pub IsStep : List (List Range) → List Record → Option ℕ → WindowKind → Bool → List Range
    → Type 0
IsStep above records index kind true out = IsWhole (window_space kind) out
IsStep above records None kind false out = out ≡ []
IsStep above records (Some k) kind false out =
    (d : List Range) (r : Record)
    → IsPassedOn (slice_index_or above (slice_index_or records k r).slot.bus d) kind
    (record_value (slice_index_or records k r)) out

-- the bridge at an index stands on a bus below a number
abbrev pub StandsBelow : List Record → ℕ → ℕ → Type 0
StandsBelow records n k = (k < length records) × HoldsAt (λ r. r.slot.bus < n) records k

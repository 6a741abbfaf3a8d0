-- The addresses of the parts that stay where they are.
use Rattle.std.specs.Prelude.{◌≡◌, ℕ, ◌≤◌, ◌==◌, Bool, ◌&&◌, IsTrue, List, Option, None, Some, slice_index_or}
use Rattle.std.specs.List.{All, Contains}
use Rattle.std.specs.List.Sorted.{IsNonDecreasingBy}
use Rattle.pci_spec.specs.System.{System, Space}
use Rattle.settle_spec.specs.Lists.{Lists, Request}
use Rattle.settle_spec.specs.Parts.{FunctionPart, system_parts, are_same_space}
use Rattle.settle_spec.specs.Stands.{part_space}
use Rattle.settle_spec.specs.Kept.{Kept as Keeping}
use Rattle.settle_laws.specs.Order.{level}
use Rattle.pci_base.specs.declared.range.Range.{Range}
use Rattle.pci_base.specs.Ranges.{decoded_range_of}
use Rattle.pci_base.specs.Space as code
use Rattle.pci_base.specs.declared.window_kind.ByKind.{ByKind}
use Rattle.pci_first_fit.specs.declared.kept.Kept.{Kept}
use Rattle.pci_first_fit.specs.declared.kept.Part.{Part}
use Rattle.pci_first_fit.specs.declared.kept.Part.TheVariants as parts
use Rattle.pci_first_fit.specs.Kept.{spec_part, kept_of, nothing_kept, AreKeptParts}
use Rattle.pci_first_fit.specs.Tables.{told}
use Rattle.pci_first_fit.specs.Keeping.{AreKeptRanges}
use Rattle.pci_kept.specs.declared.region.Region.{Region as CodeRegion}
use Rattle.pci_kept.specs.declared.held.Held.{Held}

-- ---- addresses of parts

-- whether a table tells of a part that it keeps its place
abbrev pub is_region_kept : List Kept → CodeRegion → Bool
is_region_kept kept r = kept_of (slice_index_or kept r.function nothing_kept) (spec_part r.part)

-- what a part comes to where it grows, as a table tells it
abbrev pub told_part : List (ByKind (Option Range)) → ℕ → Part → Option Range
told_part grown k (parts.Bar n) = None
told_part grown k parts.Rom = None
told_part grown k (parts.Window class) = told grown k class

abbrev pub told_or : Option Range → Range → Range
told_or None own = own
told_or (Some grown) own = grown

-- the addresses of a part that stays
abbrev pub kept_range : List (ByKind (Option Range)) → CodeRegion → Range
kept_range grown r = told_or (told_part grown r.function r.part) r.range

abbrev pub held_of : List (ByKind (Option Range)) → CodeRegion → Held
held_of grown r = record { level = r.level; space = r.space; range = kept_range grown r }

abbrev pub held_level : Held → ℕ
held_level h = h.level

abbrev pub held_range : Held → Range
held_range h = h.range

-- whether it is on a level, in a space
abbrev pub is_level_on : ℕ → Space → Held → Bool
is_level_on n space h = h.level == n && are_same_space space (code.space_of h.space)

abbrev pub IsForward : Held → Type 0
IsForward h = h.range.first ≤ h.range.last

-- by rising levels, each with an address
pub record AreByLevel (held : List Held) : Type 0 where
  pub order : IsNonDecreasingBy held_level held
  pub forward : All IsForward held

-- ---- what stays

-- these are the addresses of a part that stays
pub record IsHeldBy (q : Request) (s : System) (keep : Keeping) (h : Held) (r : FunctionPart) : Type 0 where
  pub listed : Contains (system_parts q s) r
  pub stays_is : IsTrue (keep.stays r)
  pub level_is : h.level ≡ level q r.function.slot.bus
  pub space_is : code.space_of h.space ≡ part_space r
  pub range_is : decoded_range_of h.range ≡ keep.range r

-- these are the addresses of all parts that stay
pub record AreHeld (q : Request) (s : System) (keep : Keeping) (held : List Held) : Type 0 where
  pub each : (h : Held) → Contains held h → (r : FunctionPart) × IsHeldBy q s keep h r
  pub all : (r : FunctionPart) → Contains (system_parts q s) r → IsTrue (keep.stays r)
      → (h : Held) × Contains held h × IsHeldBy q s keep h r

-- whatever is asked for below these roots, in these lists, of which tables tell what stays, and what grows to what
abbrev pub AreHeldIn : List ℕ → System → Lists → List Kept → List (ByKind (Option Range)) → List Held → Type 0
AreHeldIn roots s l kept grown held =
    (q : Request) (keep : Keeping) → q.roots ≡ roots → q.lists ≡ l → AreKeptParts s keep.stays kept
    → AreKeptRanges s keep grown → AreHeld q s keep held

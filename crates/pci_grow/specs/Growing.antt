-- What tables tell of windows that take and of those that grow, and of what stays where they do.
use Rattle.std.specs.Prelude.{◌≡◌, ℕ, Bool, if◌then◌else◌, IsTrue, List, length, Option, Some, None, slice_get}
use Rattle.std.specs.List.{Contains}
use Rattle.std.specs.Option.{option_map}
use Rattle.pci_spec.specs.Window.{WindowKind}
use Rattle.pci_spec.specs.System.{System, Function, IsSystem}
use Rattle.pci_spec.specs.Bus.{IsNested}
use Rattle.settle_spec.specs.Lists.{Lists, Request}
use Rattle.settle_spec.specs.Parts.{FunctionPart}
use Rattle.settle_spec.specs.Stands.{window_part, stands}
use Rattle.settle_spec.specs.Growth.{comes_to, has_grown}
use Rattle.settle_spec.specs.Kept.{is_kept}
use Rattle.settle_laws.specs.Reach.{WindowsAreLow}
use Rattle.pci_base.specs.declared.range.Range.{Range as CodeRange}
use Rattle.pci_base.specs.declared.window_kind.WindowKind.{WindowKind as CodeKind}
use Rattle.pci_base.specs.declared.window_kind.ByKind.{ByKind}
use Rattle.pci_base.specs.WindowKinds.{kind_value, by_kind}
use Rattle.pci_base.specs.Ranges.{decoded_range_of}
use Rattle.pci_first_fit.specs.declared.extent.Extent.{Extent}
use Rattle.pci_first_fit.specs.declared.kept.Kept.{Kept}
use Rattle.pci_first_fit.specs.Buses.{Classing, TellsClasses}
use Rattle.pci_kept.specs.Tables.{index_of}
use Rattle.pci_kept.specs.Staying.{AreStayingBy}
use Rattle.pci_grow.specs.declared.growing.Grown.{Grown as CodeGrown}
use Rattle.pci_first_fit.specs.declared.place.Places.{Places}
use Rattle.pci_first_fit.specs.PlaceTables.{placed}
use Rattle.pci_grow.specs.Reaching.{Reaching, IsReaching}
use Rattle.pci_first_fit.specs.Tables.{told}
use Rattle.pci_grow.specs.Telling.{HasNewAround, IsUnder, place_there}

-- a table tells what each window comes to of which a test holds, and nothing of others
pub record AreComing (q : Request) (s : System) (test : FunctionPart → Bool) (table : List (ByKind (Option CodeRange))) : Type 0 where
  pub count : length table ≡ length s
  pub each : (k : ℕ) (f : Function) (class : CodeKind) → slice_get s k ≡ Some f
      → option_map decoded_range_of (told table k class)
      ≡ (if test (window_part (kind_value class) f) then comes_to q s (window_part (kind_value class) f) else None)

-- a table tells where each part behind a window that takes is placed around it, and of other parts that they get no place
pub record ArePlacedThere (q : Request) (s : System) (table : List Places) : Type 0 where
  pub count : length table ≡ length s
  pub each : (c : WindowKind) (b : Function) (r : FunctionPart) → Contains s b → IsUnder q s c b r
      → placed table (index_of s r.function.slot) r.part ≡ place_there q s c b r

-- ---- all of it

-- a lawful system with what stands of it and the new windows of each class, or marks of those for which no window that stands
-- has room however far it grows
pub record CanGrow (q : Request) (p : Classing) (lists : Lists) (windows : ByKind (List (Option Extent)))
    (x : Reaching) : Type 0 where
  pub system : IsSystem p.system
  pub nested : IsNested q.roots p.system
  pub same : q.lists ≡ lists
  pub low : WindowsAreLow q p.system
  pub left : TellsClasses p q
  pub reaching : IsReaching q p.system x
  pub new : (class : CodeKind) (f : Function) → Contains p.system f
      → IsTrue (stands q p.system (window_part (kind_value class) f))
      → HasNewAround q p (kind_value class) (by_kind windows class) f

-- what stays, what windows that grow come to, and the places in windows that take
pub record Grown : Type 0 where
  pub stays : List Kept
  pub coming : List (ByKind (Option CodeRange))
  pub places : List Places

-- that of the code
abbrev pub grown_value : {A : Type 0} → CodeGrown A → Grown
grown_value x = record { stays = x.stays.items; coming = x.coming.items; places = x.places.items }

-- so it is of a system
pub record AreGrown (q : Request) (s : System) (x : Grown) : Type 0 where
  pub stay : AreStayingBy q s (is_kept q s) x.stays
  pub come : AreComing q s (has_grown q s) x.coming
  pub are_placed : ArePlacedThere q s x.places

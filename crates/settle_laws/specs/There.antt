-- Laws of what is there where windows grow: it stands, in its reach, and a window holds what is there behind it.
use Rattle.std.specs.Prelude.{◌≡◌, ◌≢◌, ℕ, ◌<◌, Bool, if◌then◌else◌, IsTrue, Option, Some}
use Rattle.std.specs.List.{Contains}
use Rattle.std.specs.Option.{is_some}
use Rattle.pci_spec.specs.Window.{WindowKind}
use Rattle.pci_spec.specs.Decoded.{Range}
use Rattle.pci_spec.specs.System.{System, Function, IsSystem, Part, Window}
use Rattle.pci_spec.specs.Bus.{is_root, secondary, are_siblings, IsNested}
use Rattle.settle_spec.specs.FirstPlace.{ranges_are_apart}
use Rattle.settle_spec.specs.Lists.{Request}
use Rattle.settle_spec.specs.Parts.{FunctionPart, system_parts, addresses, lies_within, class_in}
use Rattle.settle_spec.specs.Stands.{rank, are_beside, window_part, stands}
use Rattle.settle_spec.specs.Items.{PlacingItem, bus_items, new_window}
use Rattle.settle_spec.specs.Reach.{reach}
use Rattle.settle_spec.specs.Growth.{part_comes_to, there_if, there, comes_to}
use Rattle.settle_laws.specs.Reach.{WindowsAreLow}

-- each item has an alignment
abbrev pub ItemsAreAligned : Request → System → Type 0
ItemsAreAligned q s =
    (c : WindowKind) (keeps : FunctionPart → Bool) (bus : ℕ) (i : PlacingItem)
    → Contains (bus_items q s c keeps (new_window q s c) bus) i → 0 < i.extent.alignment

-- a bus, all roots being the lowest one
abbrev pub height : Request → ℕ → ℕ
height q bus = if is_root q.roots bus then 0 else bus

-- the addresses that a part can come to: a window those of its reach
abbrev pub part_reach : Request → System → Function → Part → Range
part_reach q s f (Window c) = reach q s c f
part_reach q s f p = addresses (record { function = f; part = p })

-- a part stands, and some addresses are such
pub record IsInReach (q : Request) (s : System) (r : FunctionPart) (x : Range) : Type 0 where
  pub stands : IsTrue (stands q s r)
  pub within : IsTrue (lies_within x (part_reach q s r.function r.part))

-- What is there stands, and is in its reach.
abbrev pub ThereIsInReach : Type 0
ThereIsInReach =
    (q : Request) (s : System) (r : FunctionPart) (x : Range) → IsSystem s → IsNested q.roots s
    → WindowsAreLow q s → ItemsAreAligned q s → Contains (system_parts q s) r
    → there q s r ≡ Some x → IsInReach q s r x

-- Two parts that are there, of one space and on one bus or both on roots, share no address.
abbrev pub ThereIsApart : Type 0
ThereIsApart =
    (q : Request) (s : System) (r t : FunctionPart) (x y : Range) → IsSystem s → IsNested q.roots s
    → WindowsAreLow q s → ItemsAreAligned q s → Contains (system_parts q s) r
    → Contains (system_parts q s) t → IsTrue (are_beside q r t) → rank r ≢ rank t
    → there q s r ≡ Some x → there q s t ≡ Some y → IsTrue (ranges_are_apart x y)

-- What is there is told by what is there before it on its bus, and by what it comes to, which what is there behind it tells:
-- 256 buses behind one another are all.
abbrev pub ThereByBus : Type 0
ThereByBus =
    (q : Request) (s : System) (r : FunctionPart) → IsSystem s → IsNested q.roots s
    → Contains (system_parts q s) r → there q s r ≡ there_if q s (comes_to q s) (there q s) r

-- what is told of each part follows so from what is told of others, and of what doesn't stand nothing is told
pub record TellsThere (q : Request) (s : System) (told : FunctionPart → Option Range) : Type 0 where
  pub each : (r : FunctionPart) → Contains (system_parts q s) r
      → told r ≡ there_if q s (λ t. part_comes_to q s told t.function t.part) told r
  pub only : (r : FunctionPart) → Contains s r.function → IsTrue (is_some (told r)) → IsTrue (stands q s r)

-- Nothing else tells so.
abbrev pub ThereAlone : Type 0
ThereAlone =
    (q : Request) (s : System) (told : FunctionPart → Option Range) → IsSystem s → IsNested q.roots s
    → TellsThere q s told → (r : FunctionPart) → Contains (system_parts q s) r → told r ≡ there q s r

-- What a window comes to holds all of its class that is there behind it.
abbrev pub ComesToHoldWhatIsThere : Type 0
ComesToHoldWhatIsThere =
    (q : Request) (s : System) (c : WindowKind) (b : Function) (g : Range) (r : FunctionPart) (x : Range)
    → comes_to q s (window_part c b) ≡ Some g → Contains (system_parts q s) r
    → IsTrue (are_siblings q.roots (secondary b) r.function.slot.bus)
    → class_in q s r.function r.part ≡ c → there q s r ≡ Some x → IsTrue (lies_within x g)

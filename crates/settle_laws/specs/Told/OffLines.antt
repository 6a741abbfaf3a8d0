-- Laws of lines beside what is settled: they keep nothing off but what stood where it is, and comes before what is off.
use Rattle.std.specs.Prelude.{◌≡◌, IsTrue, IsFalse}
use Rattle.std.specs.List.{Contains}
use Rattle.pci_spec.specs.Decoded.{Range}
use Rattle.pci_spec.specs.Slot.{Slot}
use Rattle.pci_spec.specs.System.{System, Function, Part, space_of}
use Rattle.judge_spec.specs.ToldRegion.{ToldRegion, told_regions}
use Rattle.settle_spec.specs.Kept.{Kept}
use Rattle.settle_spec.specs.Lines.{keeps_off, keeps_off_part}
use Rattle.settle_spec.specs.Lists.{Request}
use Rattle.settle_spec.specs.Parts.{FunctionPart, system_parts}
use Rattle.settle_spec.specs.Stands.{is_line_on, precedes_off, stands}
use Rattle.settle_spec.specs.Keeping.Registers.{settled}
use Rattle.settle_laws.specs.StandingTold.Kept.{LinesAreForward}
use Rattle.settle_laws.specs.Keeping.PlacesLaws.{CanSettle, EndsAt}

-- A line that is off keeps a part off where it stands. The part stays, as it comes before what is off.
pub record StaysOnOff (q : Request) (s : System) (k : Kept) (r : FunctionPart) (x : ToldRegion) : Type 0 where
  pub off : IsFalse (is_line_on q s x)
  pub stood : IsTrue (stands q s r)
  pub first : IsTrue (precedes_off q s r)
  pub shares : IsTrue (keeps_off_part q x r)
  pub stays : IsTrue (k.stays r)
  pub listed : Contains (system_parts q s) r

-- A line keeps a part off the addresses where it ends only if it is such a one.
abbrev pub PartsEndOffLines : Type 0
PartsEndOffLines =
    (q : Request) (s : System) (k : Kept) → CanSettle q s k → LinesAreForward q
    → (f : Function) (p : Part) (t : Range) (x : ToldRegion) → EndsAt q s k f p t
    → Contains (told_regions q.told) x → IsTrue (keeps_off q x f.slot (space_of f p) t)
    → StaysOnOff q s k record { function = f; part = p } x

-- a part of the start is one of a slot
pub record StoodFirst (q : Request) (s : System) (k : Kept) (slot : Slot) (part : Part) (x : ToldRegion) : Type 0 where
  pub f : Function
  pub listed : Contains s f
  pub slot_is : f.slot ≡ slot
  pub stood : StaysOnOff q s k record { function = f; part = part } x

-- So in the result a line keeps off such parts alone.
abbrev pub SettledIsOffLines : Type 0
SettledIsOffLines =
    (q : Request) (s : System) (k : Kept) → CanSettle q s k → LinesAreForward q
    → (r : FunctionPart) (x : ToldRegion) → Contains (system_parts q (settled q s k)) r
    → Contains (told_regions q.told) x → IsTrue (keeps_off_part q x r)
    → StoodFirst q s k r.function.slot r.part x

-- Laws of what is kept beside lines: what stays is no nearer to them with the addresses that it has then.
use Rattle.std.specs.Prelude.{◌≤◌, IsTrue}
use Rattle.std.specs.List.{Contains}
use Rattle.pci_spec.specs.System.{System, IsSystem}
use Rattle.pci_spec.specs.Bus.{IsNested}
use Rattle.judge_spec.specs.ToldRegion.{ToldRegion, told_regions}
use Rattle.settle_spec.specs.Lists.{Request}
use Rattle.settle_spec.specs.Parts.{FunctionPart, system_parts}
use Rattle.settle_spec.specs.Lines.{keeps_off, keeps_off_part}
use Rattle.settle_spec.specs.Stands.{part_space}
use Rattle.settle_spec.specs.Kept.{Kept, as_it_stands, growing}
use Rattle.settle_laws.specs.Reach.{WindowsAreLow}
use Rattle.settle_laws.specs.There.{ItemsAreAligned}

-- no line is backward
abbrev pub LinesAreForward : Request → Type 0
LinesAreForward q = (x : ToldRegion) → Contains (told_regions q.told) x → x.told.first ≤ x.told.last

-- A line keeps what stays off the addresses that it has then only where it keeps the part itself off.
abbrev pub StaysOffLines : Request → System → Kept → Type 0
StaysOffLines q s k =
    (r : FunctionPart) (x : ToldRegion) → Contains (system_parts q s) r → IsTrue (k.stays r)
    → Contains (told_regions q.told) x
    → IsTrue (keeps_off q x r.function.slot (part_space r) (k.range r))
    → IsTrue (keeps_off_part q x r)

-- So it is with what stays as it stands,
abbrev pub StandingStaysOffLines : Type 0
StandingStaysOffLines = (q : Request) (s : System) → StaysOffLines q s (as_it_stands q s)

-- and where windows grow.
abbrev pub GrowingStaysOffLines : Type 0
GrowingStaysOffLines =
    (q : Request) (s : System) → IsSystem s → IsNested q.roots s → WindowsAreLow q s → ItemsAreAligned q s
    → LinesAreForward q → StaysOffLines q s (growing q s)

-- Laws of what stands where lines keep nothing off: it is what stands where nothing is told.
use Rattle.std.specs.Prelude.{◌≡◌, ◌⊎◌, IsTrue, IsFalse}
use Rattle.std.specs.List.{Contains}
use Rattle.pci_spec.specs.System.{System, IsSystem}
use Rattle.pci_spec.specs.Bus.{is_root, IsNested}
use Rattle.judge_spec.specs.ToldClaims.{nothing_told}
use Rattle.judge_spec.specs.ToldRegion.{ToldRegion, told_regions}
use Rattle.settle_spec.specs.Lists.{Request}
use Rattle.settle_spec.specs.Parts.{FunctionPart, system_parts}
use Rattle.settle_spec.specs.Lines.{line_bus, is_held_line, keeps_off_part}
use Rattle.settle_spec.specs.Stands.{stands}

-- the same request, where nothing is told
abbrev pub without_told : Request → Request
without_told q = record q { told = nothing_told q.told.asleep }

-- No line keeps a part off.
abbrev pub PartsAreOffLines : Request → System → Type 0
PartsAreOffLines q s =
    (r : FunctionPart) (x : ToldRegion) → Contains (system_parts q s) r → Contains (told_regions q.told) x
    → IsFalse (keeps_off_part q x r)

-- no told range is behind a bridge
abbrev pub AreToldOnRoots : Request → Type 0
AreToldOnRoots q =
    (x : ToldRegion) → Contains (told_regions q.told) x → IsFalse (is_held_line x) → IsTrue (is_root q.roots (line_bus x))

-- each part stands where nothing is told
abbrev pub AllStandUntold : Request → System → Type 0
AllStandUntold q s = (r : FunctionPart) → Contains (system_parts q s) r → IsTrue (stands (without_told q) s r)

-- Where no line keeps a part off, the same parts stand as where nothing is told, if no told range is behind a bridge, or if all
-- parts stand there.
abbrev pub StandAsUntold : Type 0
StandAsUntold =
    (q : Request) (s : System) → IsSystem s → IsNested q.roots s → PartsAreOffLines q s
    → AreToldOnRoots q ⊎ AllStandUntold q s → (r : FunctionPart) → Contains (system_parts q s) r
    → stands q s r ≡ stands (without_told q) s r

-- Laws of what holds and what stays: buses can be gone over from the highest down for the one, and as they rise for the other.
use Rattle.std.specs.Prelude.{◌≡◌, Bool, ◌&&◌, IsTrue}
use Rattle.std.specs.List.{Contains}
use Rattle.pci_spec.specs.System.{System, Function, IsSystem}
use Rattle.pci_spec.specs.Bus.{is_root, IsNested, LeadsTo}
use Rattle.settle_spec.specs.Lists.{Request}
use Rattle.settle_spec.specs.Parts.{FunctionPart, class_in}
use Rattle.settle_spec.specs.Stands.{window_part, stands}
use Rattle.settle_spec.specs.Items.{has_room, has_room_behind, stays}

-- A test tells of each part of the functions of a system whether it stands with room for what is behind it, where the same test
-- tells what keeps its place there.
abbrev pub TellsRoom : Request → System → (FunctionPart → Bool) → Type 0
TellsRoom q s test =
    (r : FunctionPart) → Contains s r.function
    → test r ≡ (stands q s r && has_room q s test r.function r.part)

-- 256 buses behind one another are all.
abbrev pub HoldsByBus : Type 0
HoldsByBus = (q : Request) (s : System) → IsSystem s → IsNested q.roots s → TellsRoom q s (has_room_behind q s)

-- No other test tells so.
abbrev pub HoldsAlone : Type 0
HoldsAlone =
    (q : Request) (s : System) (test : FunctionPart → Bool) → IsSystem s → IsNested q.roots s
    → TellsRoom q s test → (r : FunctionPart) → Contains s r.function → test r ≡ has_room_behind q s r

-- On a root a part stays where it holds.
abbrev pub StaysOnRoot : Type 0
StaysOnRoot =
    (q : Request) (s : System) (r : FunctionPart) → IsSystem s → IsNested q.roots s
    → IsTrue (is_root q.roots r.function.slot.bus) → stays q s r ≡ has_room_behind q s r

-- Behind a bridge it stays where it holds and the window of its class over it stays.
abbrev pub StaysByBus : Type 0
StaysByBus =
    (q : Request) (s : System) (r : FunctionPart) (b : Function) → IsSystem s → IsNested q.roots s
    → LeadsTo s b r.function.slot.bus
    → stays q s r
    ≡ (has_room_behind q s r && stays q s (window_part (class_in q s r.function r.part) b))

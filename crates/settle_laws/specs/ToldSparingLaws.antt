-- Laws of settling with told ranges and room behind slots: nothing goes for spares, and no told range is refused for them.
use Rattle.std.specs.Prelude.{◌≡◌, IsTrue, IsFalse, Some}
use Rattle.std.specs.List.{Contains}
use Rattle.pci_spec.specs.Window.{WindowKind, has_window}
use Rattle.pci_spec.specs.Decoded.{Range}
use Rattle.pci_spec.specs.System.{System, Function, Part, has_part, is_window}
use Rattle.settle_spec.specs.FirstPlace.{Extent}
use Rattle.settle_spec.specs.Lists.{Request}
use Rattle.settle_spec.specs.Parts.{addresses, lies_within}
use Rattle.settle_spec.specs.Stands.{window_part}
use Rattle.settle_spec.specs.Items.{spare_of}
use Rattle.settle_spec.specs.Writes.{Settled}
use Rattle.settle_spec.specs.Keeping.Registers.{settled_command}
use Rattle.settle_spec.specs.Keeping.Writes.{settle_writes}
use Rattle.settle_spec.specs.Growing.{settle_growing, finally_kept}
use Rattle.settle_spec.specs.Wishes.{range_then}
use Rattle.settle_spec.specs.Sparing.{without_slots, is_settled, placing_request, grants, denied, settle_wished, settle_sparing}
use Rattle.settle_spec.specs.SpareLaws.{kept_sparing, result_sparing, has_room_for, result_of}
use Rattle.settle_laws.specs.ToldSoundLaws.{IsAdmittedSystem}

-- ---- nothing is refused for spares

-- What is settled without slots is settled with them.
abbrev pub SparesRefuseNoMore : Type 0
SparesRefuseNoMore =
    (q : Request) (s : System) → IsAdmittedSystem q s
    → IsTrue (is_settled (settle_growing (without_slots q) s)) → IsTrue (is_settled (settle_sparing q s))

-- It is settled beside wishes, too, and the writes are those beside what is kept with them.
abbrev pub WishedIsSettled : Type 0
WishedIsSettled =
    (q : Request) (s : System) → IsAdmittedSystem q s → IsTrue (is_settled (settle_growing (without_slots q) s))
    → settle_wished q s ≡ Settled (settle_writes (placing_request q s) s (grants q s).kept)

-- What is refused with slots is refused without them, and for the same reason.
abbrev pub ToldSparingRefusesNothing : Type 0
ToldSparingRefusesNothing =
    (q : Request) (s : System) → IsAdmittedSystem q s → IsFalse (is_settled (settle_sparing q s))
    → settle_sparing q s ≡ settle_growing (without_slots q) s

-- ---- nothing goes for spares

-- Command is that without slots.
abbrev pub ToldSparingSetsNoCommand : Type 0
ToldSparingSetsNoCommand =
    (q : Request) (s : System) (f : Function) → IsAdmittedSystem q s → Contains s f
    → IsTrue (is_settled (settle_growing (without_slots q) s))
    → settled_command (placing_request q s) s (kept_sparing q s) f
    ≡ settled_command (without_slots q) s (finally_kept (without_slots q) s) f

-- What stays has all addresses that it had, and a BAR or ROM has the same ones.
abbrev pub SparingKeepsAll : Type 0
SparingKeepsAll =
    (q : Request) (s : System) (f : Function) (p : Part) → IsAdmittedSystem q s → IsTrue (is_settled (settle_sparing q s))
    → Contains s f → IsTrue (has_part f p) → IsTrue ((kept_sparing q s).stays record { function = f; part = p })
    → (w : Range) × (range_then (placing_request q s) s (kept_sparing q s) record { function = f; part = p } ≡ Some w)
    × IsTrue (lies_within (addresses record { function = f; part = p }) w)
    × (IsFalse (is_window p) → w ≡ addresses record { function = f; part = p })

-- ---- what isn't denied is there

-- The spare behind a slot is denied, or else its window has room for it in the result.
abbrev pub ToldSparingLeavesRoom : Type 0
ToldSparingLeavesRoom =
    (q : Request) (s : System) (c : WindowKind) (b : Function) (e : Extent) → IsAdmittedSystem q s
    → Contains s b → spare_of q c b ≡ Some e → IsTrue (has_window c b.probe)
    → (Contains (denied q s) (window_part c b) → ⊥) → IsTrue (is_settled (settle_sparing q s))
    → IsTrue (has_room_for q (result_sparing q s) c (result_of q s b) e)

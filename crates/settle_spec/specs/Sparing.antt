-- Settling with room behind slots: in new windows, where the same parts stay, and then by wishes.
use Rattle.std.specs.Prelude.{Bool, true, false, ◌&&◌, if◌then◌else◌, List, []}
use Rattle.std.specs.Bool.{beq}
use Rattle.std.specs.List.{list_all}
use Rattle.pci_spec.specs.System.{System}
use Rattle.settle_spec.specs.Lists.{Request}
use Rattle.settle_spec.specs.Parts.{FunctionPart, system_parts}
use Rattle.settle_spec.specs.Items.{spare_of}
use Rattle.settle_spec.specs.Writes.{Settling, Settled}
use Rattle.settle_spec.specs.Kept.{Kept}
use Rattle.settle_spec.specs.Keeping.Writes.{settle_keeping}
use Rattle.settle_spec.specs.Growing.{settle_growing, finally_kept}
use Rattle.settle_spec.specs.Wishes.{Granted, granted}

-- no bridge has a slot
abbrev pub without_slots : Request → Request
without_slots q = record q { slots = [] }

abbrev pub is_settled : Settling → Bool
is_settled (Settled writes) = true
is_settled refused = false

-- the same parts stay
abbrev pub keep_alike : Request → System → Kept → Kept → Bool
keep_alike q s k j = list_all (λ r. beq (k.stays r) (j.stays r)) (system_parts q s)

-- new windows over slots have spares where it is settled so, and the same parts stay as without
abbrev pub have_spares : Request → System → Bool
have_spares q s =
    is_settled (settle_growing q s)
    && keep_alike q s (finally_kept (without_slots q) s) (finally_kept q s)

-- what is asked of new windows
abbrev pub placing_request : Request → System → Request
placing_request q s = if have_spares q s then q else without_slots q

-- wishes come once all has its place
abbrev pub granted_beside : Request → Request → System → Granted
granted_beside q p s = granted p s (spare_of q) (finally_kept p s)

abbrev pub grants : Request → System → Granted
grants q s = granted_beside q (placing_request q s) s

-- the windows whose spares are denied
abbrev pub denied : Request → System → List FunctionPart
denied q s = (grants q s).denied

-- all is settled beside what is kept then
abbrev pub settle_wished : Request → System → Settling
settle_wished q s = settle_keeping (placing_request q s) s (grants q s).kept

-- What is refused without slots is refused with them.
abbrev pub settle_sparing : Request → System → Settling
settle_sparing q s =
    if is_settled (settle_growing (without_slots q) s) then settle_wished q s
    else settle_growing (without_slots q) s

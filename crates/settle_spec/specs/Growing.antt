-- Settling where windows grow: what has no room in a window that stands gets it beside that window, if that is free.
use Rattle.pci_spec.specs.System.{System}
use Rattle.settle_spec.specs.Lists.{Request}
use Rattle.settle_spec.specs.Writes.{Settling, Settled}
use Rattle.settle_spec.specs.Kept.{Kept, as_it_stands, growing}
use Rattle.settle_spec.specs.Keeping.Writes.{settle_keeping}

abbrev pub or_else : Settling → Settling → Settling
or_else (Settled writes) other = Settled writes
or_else refused other = other

-- where nothing can be settled so, what stays does as it stands, and no window grows
abbrev pub settle_growing : Request → System → Settling
settle_growing q s = or_else (settle_keeping q s (growing q s)) (settle_keeping q s (as_it_stands q s))

abbrev pub kept_by : Settling → Kept → Kept → Kept
kept_by (Settled writes) own other = own
kept_by refused own other = other

-- so this is what is kept
abbrev pub finally_kept : Request → System → Kept
finally_kept q s = kept_by (settle_keeping q s (growing q s)) (growing q s) (as_it_stands q s)

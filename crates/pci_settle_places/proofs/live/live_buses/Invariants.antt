use Rattle.std.proofs.Common.{◌-◌, length}
use Rattle.pci_base.specs.Space.{space_of}
use Rattle.pci_place.specs.Above.{system_in}
use Rattle.pci_settle_places.proofs.LiveBuses.{AreLiveFrom}
use Rattle.pci_settle_places.proofs.live.live_buses.Given as goal

abbrev pub invariant-loop-done : goal.invariant-loop-done
invariant-loop-done g l = AreLiveFrom l.admitted.roots (system_in l.admitted) (space_of l.space) l.answering l.table (length (system_in l.admitted) - l.done) l.live

use Rattle.pci_base.specs.Space.{space_of}
use Rattle.pci_place.specs.Above.{system_in}
use Rattle.pci_first_fit.specs.Lists.{lists_value}
use Rattle.pci_settle_places.proofs.SpaceSteps.{IsSpaceTo}
use Rattle.pci_settle_places.proofs.space.place_space.Given as goal

abbrev pub invariant-loop-function : goal.invariant-loop-function
invariant-loop-function g l = IsSpaceTo l.pass.setting.now.admitted.now.roots (system_in l.pass.setting.now.admitted.now) (space_of l.pass.space) (lists_value l.lists) l.pass.setting.now.terms l.pass.setting.now.staying l.pass.windows.now l.function l.fn.table l.table

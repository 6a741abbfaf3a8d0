use Rattle.std.proofs.Common.{◌≡◌, take}
use Rattle.pci_picture.specs.Maps.{regions_of_members}
use Rattle.pci_picture.proofs.plan.regions_of.Given as goal

abbrev pub invariant-loop-member : goal.invariant-loop-member
invariant-loop-member g l = l.regions.items ≡ regions_of_members (take l.member-index l.members)

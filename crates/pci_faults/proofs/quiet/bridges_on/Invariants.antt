use Rattle.std.proofs.Common.{◌≡◌, take}
use Rattle.pci_faults.specs.Quiet.{HasThoseOn}
use Rattle.pci_faults.proofs.quiet.bridges_on.Given as goal

abbrev pub invariant-loop-bridge : goal.invariant-loop-bridge
invariant-loop-bridge g l = HasThoseOn (λ b. b ≡ l.bus) (take l.bridge-index l.bridges) l.out.items

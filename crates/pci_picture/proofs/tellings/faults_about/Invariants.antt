use Rattle.std.proofs.Common.{◌≡◌, take}
use Rattle.pci_picture.proofs.About.{faults_naming}
use Rattle.pci_picture.proofs.tellings.faults_about.Given as goal

abbrev pub invariant-loop-region : goal.invariant-loop-region
invariant-loop-region g l = l.about.items ≡ faults_naming l.faults.namings.items (take l.region-index l.regions)

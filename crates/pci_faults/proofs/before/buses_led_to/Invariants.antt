use Rattle.std.proofs.Common.{◌≡◌, length, take}
use Rattle.pci_faults.specs.Before.{AreLedTo}
use Rattle.pci_faults.proofs.before.buses_led_to.Given as goal

abbrev pub invariant-loop-block : goal.invariant-loop-block
invariant-loop-block l = record {
  size : length l.led ≡ 256;
  are : AreLedTo (take l.block-index l.dump) l.led;
}

use Rattle.std.proofs.Common.{◌≡◌, ◌-◌, ◌%◌}
use Rattle.pci_number.specs.SpareBuses.{leads_to_slot, has_hot_plug_slot}
use Rattle.pci_number.proofs.hot_plug.has_hot_plug_slot.Given as goal

abbrev pub invariant-loop-n : goal.invariant-loop-n
invariant-loop-n l = record {
  aligned : l.place % 4 ≡ 0;
  says : has_hot_plug_slot l.image.0 ≡ leads_to_slot l.image.0 (48 - l.n) l.place;
}

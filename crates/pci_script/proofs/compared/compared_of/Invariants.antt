use Rattle.std.proofs.Common.{◌≡◌, map, take}
use Rattle.std.specs.List.{filter}
use Rattle.pci_plan.specs.Writes.{write_value}
use Rattle.pci_plan.specs.Steps.{all_shown}
use Rattle.pci_script.specs.Scripts.{is_written}
use Rattle.pci_script.proofs.compared.compared_of.Given as goal

abbrev pub invariant-loop-block : goal.invariant-loop-block
invariant-loop-block g l = map write_value l.all.items ≡ all_shown (filter (is_written (map write_value l.writes)) (take l.block-index l.dump))

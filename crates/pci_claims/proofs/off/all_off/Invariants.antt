use Rattle.std.proofs.Common.{◌≡◌, map, take}
use Rattle.std.specs.List.{All, flat_map}
use Rattle.pci_spec.specs.System.{System}
use Rattle.pci_function.specs.Values.{record_value}
use Rattle.pci_tree.specs.Trees.{HasTree}
use Rattle.pci_claims.specs.Values.{told_value}
use Rattle.pci_claims.specs.Off.{off_value, HasOffLine, off_record_parts}
use Rattle.pci_claims.proofs.off.all_off.Given as goal

abbrev pub invariant-loop-function : goal.invariant-loop-function
invariant-loop-function g l = record {
  parts : (s : System) → HasTree l.outline s → map off_value l.off.items ≡ flat_map (off_record_parts (told_value l.told) s) (map record_value (take l.function-index l.function-items));
  lines : All HasOffLine l.off.items;
}

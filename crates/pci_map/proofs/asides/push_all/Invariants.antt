use Rattle.std.proofs.Common.{◌≤◌, take, length}
use Rattle.pci_spec.specs.System.{System}
use Rattle.pci_tree.specs.Ways.{slots_of}
use Rattle.pci_claims.specs.Values.{code_given_value, told_value}
use Rattle.pci_map.specs.Mapped.{IsSystemWith}
use Rattle.pci_map.specs.Asides.{IsAmongSlots, AreOfLowerSlots, AreOfNoLowerSlots, AreAsides}
use Rattle.pci_map.proofs.asides.push_all.Given as goal

abbrev pub invariant-loop-function : goal.invariant-loop-function
invariant-loop-function g l = record {
  within : l.next ≤ length l.ranges;
  below : AreOfLowerSlots l.ranges l.next l.records l.function-index;
  behind : AreOfNoLowerSlots l.ranges l.next (slots_of (take l.function-index l.records));
  written : (s : System) → IsSystemWith (told_value l.mapped.told) (code_given_value l.mapped.given) l.mapped.outline.now l.mapped.above.now l.mapped.ways.now l.mapped.takers.now s
      → AreAsides (told_value l.mapped.told) (code_given_value l.mapped.given) l.mapped.outline.now.roots s (IsAmongSlots (slots_of (take l.function-index l.records)) l.next) l.initial.asides l.asides;
}

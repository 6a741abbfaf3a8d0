use Rattle.std.proofs.Common.{◌≡◌, length, map}
use Rattle.std.specs.List.{All}
use Rattle.pci_spec.specs.System.{System}
use Rattle.pci_spec.specs.Decoded.{HasRecords}
use Rattle.settle_spec.specs.Lists.{Request}
use Rattle.pci_base.specs.WindowKinds.{kind_value}
use Rattle.pci_function.specs.Values.{record_value}
use Rattle.pci_first_fit.specs.Lines.{AreLines}
use Rattle.pci_kept.specs.Behind.{IsPartIn, AreBehindTo}
use Rattle.pci_kept.proofs.behind.behind_each.Given as goal

abbrev pub invariant-loop-item : goal.invariant-loop-item
invariant-loop-item g l = record {
  count : length l.all.items ≡ l.item-index;
  behind : (q : Request) (s : System) → HasRecords s (map record_value l.records) → AreLines q.roots q.told.ranges l.lines → All (IsPartIn s (kind_value l.class)) l.items → AreBehindTo q s (kind_value l.class) l.items l.item-index (map (λ list. list.items) l.all.items);
}

use Rattle.std.proofs.Common.{◌≡◌, length, map}
use Rattle.std.specs.List.{All}
use Rattle.pci_spec.specs.System.{System}
use Rattle.pci_spec.specs.Decoded.{HasRecords}
use Rattle.settle_spec.specs.Lists.{Request}
use Rattle.pci_function.specs.Values.{record_value}
use Rattle.pci_first_fit.specs.Lines.{AreLines}
use Rattle.pci_settle_places.specs.Candidates.{HasPart}
use Rattle.pci_settle_places.specs.Taken.{AreNearBehindTo}
use Rattle.pci_settle_places.proofs.behind.behind_each.Given as goal

abbrev pub invariant-loop-index : goal.invariant-loop-index
invariant-loop-index g l = record {
  count : length l.all.items ≡ l.index;
  behind : (q : Request) (s : System) → HasRecords s (map record_value l.records) → AreLines q.roots q.told.ranges l.staying.lines.now → All (HasPart s) l.candidates
      → AreNearBehindTo q s (map (λ list. list.items) l.asked.lists.now) l.asked.wanted.now l.candidates l.index (map (λ list. list.items) l.all.items);
}

use Rattle.std.proofs.Common.{◌≡◌, ◌<◌, length}
use Rattle.std.specs.List.{All}
use Rattle.pci_spec.specs.System.{System}
use Rattle.settle_spec.specs.Lists.{Request}
use Rattle.pci_kept.specs.declared.region.Region.{Region}
use Rattle.pci_kept.specs.Boards.{IsTree}
use Rattle.pci_kept.specs.Known.{AreParts}
use Rattle.pci_kept.specs.ToldLines.{AreToldLines}
use Rattle.pci_kept.proofs.LeadsNoted.{AreKnownBelow}
use Rattle.pci_kept.proofs.leads.note_leads.Given as goal

abbrev pub invariant-loop-index : goal.invariant-loop-index
invariant-loop-index l = record {
  size : length l.regions ≡ length l.fn.regions;
  functions : All (λ (r : Region). r.function < length l.records) l.regions;
  known : (q : Request) (s : System) → IsTree q s l.records → q.told.ranges ≡ l.reachable.told.ranges.now → AreToldLines q s l.reachable.told.lines.now → AreParts q s l.fn.regions → q.anew ≡ l.anew → AreKnownBelow q s l.index l.regions;
}

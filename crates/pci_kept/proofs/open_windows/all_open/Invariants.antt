use Rattle.std.proofs.Common.{ℕ, List, map}
use Rattle.pci_spec.specs.System.{System, IsSystem}
use Rattle.pci_spec.specs.Bus.{IsNested}
use Rattle.pci_spec.specs.Decoded.{HasRecords}
use Rattle.pci_function.specs.Values.{record_value}
use Rattle.pci_kept.proofs.Opened.{AreOpenTo}
use Rattle.pci_kept.proofs.open_windows.all_open.Given as goal

abbrev pub invariant-loop-record : goal.invariant-loop-record
invariant-loop-record l =
    (roots : List ℕ) (s : System) → HasRecords s (map record_value l.records) → IsSystem s → IsNested roots s → AreOpenTo s l.record-index l.over

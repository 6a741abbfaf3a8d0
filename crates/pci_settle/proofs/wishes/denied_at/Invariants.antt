use Rattle.std.proofs.Common.{◌≡◌, map, take}
use Rattle.pci_spec.specs.Decoded.{HasRecords}
use Rattle.pci_spec.specs.System.{System}
use Rattle.pci_function.specs.Values.{record_value}
use Rattle.pci_grow.specs.Granting.{part_of}
use Rattle.pci_settle.specs.Denied.{slot_and_offset_of, denied_value}
use Rattle.pci_settle.proofs.wishes.denied_at.Given as goal

abbrev pub invariant-loop-window : goal.invariant-loop-window
invariant-loop-window g l =
    (s : System) → HasRecords s (map record_value l.records)
    → map denied_value l.denied.items ≡ map (λ w. slot_and_offset_of (part_of s w)) (take l.window-index l.windows)

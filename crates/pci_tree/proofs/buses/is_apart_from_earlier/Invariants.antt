use Rattle.std.proofs.Common.{◌<◌}
use Rattle.pci_spec.specs.Slot.{slot_number}
use Rattle.pci_function.specs.declared.record.Bridge.{Bridge}
use Rattle.pci_function.specs.declared.record.Record.{Record}
use Rattle.pci_tree.specs.Roots.{buses_of}
use Rattle.pci_tree.specs.BusNumbers.{IsBridgeWith, AreSiblings, ShareNoBus}
use Rattle.pci_tree.proofs.buses.is_apart_from_earlier.Given as goal

abbrev pub invariant-loop-bus : goal.invariant-loop-bus
invariant-loop-bus l =
    (c : Record) (d : Bridge) → c.slot.bus < l.bus → IsBridgeWith l.records c d → AreSiblings (buses_of l.roots) c.slot.bus l.slot.bus → slot_number c.slot < slot_number l.slot → ShareNoBus l.bridge d

use Rattle.std.proofs.Common.{map, take}
use Rattle.std.specs.List.{flat_map}
use Rattle.pci_image.specs.Bars.{decoded_bar_of}
use Rattle.pci_model_settle.specs.LineValues.{AddsLines}
use Rattle.pci_model_settle.specs.OffDevices.{lines_of_part, shown_bar_part}
use Rattle.pci_model_settle.proofs.off_devices.add_device.Given as goal

abbrev pub invariant-loop-bar : goal.invariant-loop-bar
invariant-loop-bar g l =
    AddsLines l.initial.out.items l.out.items
    (flat_map lines_of_part (map (shown_bar_part l.function.slot) (map decoded_bar_of (take l.bar-index l.bar-items))))

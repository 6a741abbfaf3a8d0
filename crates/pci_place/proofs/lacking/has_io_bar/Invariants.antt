use Rattle.std.proofs.Common.{◌≡◌, false, take}
use Rattle.std.specs.List.{list_any}
use Rattle.pci_place.specs.Classes.{is_io_kind}
use Rattle.pci_place.proofs.lacking.has_io_bar.Given as goal

abbrev pub invariant-loop-bar : goal.invariant-loop-bar
invariant-loop-bar l = list_any (λ bar. is_io_kind bar.kind) (take l.bar-index l.bar-items) ≡ false

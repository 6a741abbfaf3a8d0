use Rattle.std.proofs.Common.{◌≡◌, false, take}
use Rattle.std.specs.List.{list_any}
use Rattle.pci_first_fit.specs.Own.{is_left_bar}
use Rattle.pci_settle_places.proofs.claim.has_left_bar.Given as goal

abbrev pub invariant-loop-bar : goal.invariant-loop-bar
invariant-loop-bar l = list_any (λ bar. is_left_bar bar l.above l.terms.has_io) (take l.bar-index l.bar-items) ≡ false

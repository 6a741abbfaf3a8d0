use Rattle.std.proofs.Common.{◌≡◌, false, take}
use Rattle.std.specs.List.{list_any}
use Rattle.pci_base.specs.Space.{space_of}
use Rattle.pci_settle_places.specs.Claims.{is_kept_bar}
use Rattle.pci_settle_places.proofs.claim.has_kept_bar.Given as goal

abbrev pub invariant-loop-bar : goal.invariant-loop-bar
invariant-loop-bar l = list_any (is_kept_bar (space_of l.space) l.above l.terms) (take l.bar-index l.bars) ≡ false

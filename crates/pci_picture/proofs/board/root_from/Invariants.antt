use Rattle.std.proofs.Common.{◌≡◌, ◌-◌, None, get_or}
use Rattle.pci_picture.specs.Roots.{go_up}
use Rattle.pci_picture.proofs.board.root_from.Given as goal

abbrev pub invariant-loop : goal.invariant-loop
invariant-loop l =
    go_up (λ bus. get_or l.above bus None) (256 - l.counter) l.root ≡ go_up (λ bus. get_or l.above bus None) 256 l.bus

use Rattle.std.proofs.Common.{arith}
use Rattle.pci_grow.proofs.fill.add_windows.Goals as goal

pub returns : goal.returns
returns g c = λ q s asked weight n.
    let io = c.in_ok-add_window.ensures q s asked weight n in
    let memory = c.in_ok-add_window-2.ensures q s asked weight n in
    let prefetch = c.in_ok-add_window-3.ensures q s asked weight n in
    omega (arith, io, memory, prefetch)

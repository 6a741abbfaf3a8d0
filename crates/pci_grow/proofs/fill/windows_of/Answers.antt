use Rattle.std.proofs.Common.{◌≡◌, length, arith, ap, ◌∙◌}
use Rattle.pci_grow.specs.Located.{windows_total}
use Rattle.pci_grow.proofs.Facts.{long}
use Rattle.pci_grow.proofs.Filled.{windows_more}
use Rattle.pci_grow.proofs.fill.windows_of.Goals as goal

pub loop-bridge-preserved : goal.loop-bridge-preserved
loop-bridge-preserved g c = λ q s asked weight n.
    let was = c.loop-bridge.invariant q s asked weight n in
    let more = c.in_ok-add_windows.ensures q s asked weight n in
    let next = windows_more q.roots s c.args.board.now.windows.now weight n c.loop-bridge.bridge in
    omega (arith, was, more, next)

pub returns : goal.returns
returns g c = λ q s asked weight n.
    let size = long q s c.args.board.now asked in
    let past = c.loop-bridge-test.false in
    let all : c.loop-bridge.bridge ≡ length s = omega (arith, size, past, c.loop-bridge.auto.bridge-end) in
    c.loop-bridge.invariant q s asked weight n ∙ ap (windows_total q.roots s c.args.board.now.windows.now weight n) all

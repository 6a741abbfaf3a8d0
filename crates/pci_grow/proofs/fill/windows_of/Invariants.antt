use Rattle.std.proofs.Common.{◌≡◌, ℕ}
use Rattle.pci_spec.specs.Decoded.{Range}
use Rattle.pci_spec.specs.System.{System}
use Rattle.settle_spec.specs.Lists.{Request}
use Rattle.pci_grow.specs.Board.{IsAsked}
use Rattle.pci_grow.specs.Located.{located_total, windows_total}
use Rattle.pci_grow.proofs.fill.windows_of.Given as goal

abbrev pub invariant-loop-bridge : goal.invariant-loop-bridge
invariant-loop-bridge g l =
    (q : Request) (s : System) → IsAsked q s l.board → (weight : Range → ℕ) (n : ℕ)
    → located_total q.roots weight n l.parts.items ≡ windows_total q.roots s l.board.windows.now weight n l.bridge

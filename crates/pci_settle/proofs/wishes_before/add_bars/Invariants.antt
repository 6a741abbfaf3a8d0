use Rattle.std.proofs.Common.{◌≡◌, ◌+◌, ℕ, List, drop}
use Rattle.std.specs.List.{sum_by}
use Rattle.pci_spec.specs.Decoded.{Range}
use Rattle.pci_grow.specs.Located.{located_total}
use Rattle.pci_settle.specs.Before.{bar_weight}
use Rattle.pci_settle.proofs.wishes_before.add_bars.Given as goal

abbrev pub invariant-loop-bar : goal.invariant-loop-bar
invariant-loop-bar g l =
    (roots : List ℕ) (weight : Range → ℕ) (n : ℕ)
    → located_total roots weight n l.parts.items + sum_by (bar_weight roots weight n l.bus l.places l.kept) (drop l.bar-index l.bars)
    ≡ located_total roots weight n l.initial.parts.items + sum_by (bar_weight roots weight n l.bus l.places l.kept) l.bars

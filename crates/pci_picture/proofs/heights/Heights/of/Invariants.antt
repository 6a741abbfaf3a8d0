use Rattle.std.proofs.Common.{◌<◌, ◌≤◌, ◌+◌, ◌-◌, ◌*◌, ◌^◌, length}
use Rattle.std.specs.List.Sorted.{IsNonDecreasingBy}
use Rattle.pci_picture.proofs.Ruled.{IsRuled}
use Rattle.pci_picture.proofs.Stacked.{IsUpTo}
use Rattle.pci_picture.proofs.heights.Heights.of.Given as goal

abbrev pub invariant-loop-cut : goal.invariant-loop-cut
invariant-loop-cut g l = record {
  fits : IsNonDecreasingBy (λ c. c.at) l.cuts → l.fn.top + 142 * length l.cuts < 2 ^ 64
      → IsUpTo l.cuts l.cut-index l.initial.begin l.fn.top l.begin l.heights.bottom l.heights.runs.items
      × IsRuled l.fn.base l.cuts l.cut-index l.begin l.reach l.heights.runs.items;
  uncut : IsNonDecreasingBy (λ c. c.at) l.cuts → l.heights.bottom < 2 ^ 64 - 1
      → IsUpTo l.cuts l.cut-index l.initial.begin l.fn.top l.begin l.heights.bottom l.heights.runs.items
      × IsRuled l.fn.base l.cuts l.cut-index l.begin l.reach l.heights.runs.items;
  down : l.fn.top ≤ l.heights.bottom;
}

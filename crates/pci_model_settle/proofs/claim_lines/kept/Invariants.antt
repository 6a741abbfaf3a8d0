use Rattle.std.proofs.Common.{◌≡◌, ◌∷◌, map, take}
use Rattle.pci_model_settle.specs.declared.claim_lines.Origin.TheVariants.{Bridge}
use Rattle.pci_model_settle.specs.LineValues.{code_line_ranges}
use Rattle.pci_model_settle.proofs.claim_lines.kept.Given as goal

abbrev pub invariant-loop-line : goal.invariant-loop-line
invariant-loop-line g l = record {
  told : l.ranges.items ≡ code_line_ranges (take l.line-index l.lines);
  origins : l.origins.items ≡ Bridge ∷ map (λ x. x.origin) (take l.line-index l.lines);
}

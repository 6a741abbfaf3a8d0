use Rattle.std.proofs.Common.{◌≡◌, ◌++◌, map, take}
use Rattle.std.specs.List.{filter}
use Rattle.pci_base.specs.Space.{space_of}
use Rattle.pci_first_fit.specs.Lines.{line_code_range, is_on_levels}
use Rattle.pci_first_fit.proofs.lines.add_levels.Given as goal

abbrev pub invariant-loop-line : goal.invariant-loop-line
invariant-loop-line g l = l.out.items ≡ l.initial.out.items ++ map line_code_range (filter (is_on_levels l.low l.high (space_of l.space)) (take l.line-index l.line-items))

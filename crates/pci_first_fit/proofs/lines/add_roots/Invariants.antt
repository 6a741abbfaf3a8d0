use Rattle.std.proofs.Common.{◌≡◌, ◌++◌, map, take}
use Rattle.std.specs.List.{filter}
use Rattle.pci_base.specs.Space.{space_of}
use Rattle.pci_first_fit.specs.Lines.{line_code_range, is_root_line}
use Rattle.pci_first_fit.proofs.lines.add_roots.Given as goal

abbrev pub invariant-loop-line : goal.invariant-loop-line
invariant-loop-line g l = l.out.items ≡ l.initial.out.items ++ map line_code_range (filter (is_root_line l.first l.last (space_of l.space)) (take l.line-index l.line-items))

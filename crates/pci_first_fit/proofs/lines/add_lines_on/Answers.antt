use Rattle.pci_base.specs.Space.{space_of}
use Rattle.pci_first_fit.specs.Lines.{is_on_levels}
use Rattle.pci_first_fit.proofs.Rows.{added_on, forward_more}
use Rattle.pci_first_fit.proofs.lines.add_lines_on.Goals as goal

pub returns-clause-added : goal.returns-clause-added
returns-clause-added g c = λ q bus are same.
    added_on q bus c.args.level (space_of c.args.space) c.args.lines.now c.args.out.now.items c.add_levels.new.out.items are same c.in_ok-add_levels.ensures

pub returns-clause-forward : goal.returns-clause-forward
returns-clause-forward g c = forward_more c.args.lines.now (is_on_levels c.args.level c.args.level (space_of c.args.space)) c.args.out.now.items c.add_levels.new.out.items c.requires.forward c.in_ok-add_levels.ensures

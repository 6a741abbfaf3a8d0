use Rattle.std.proofs.Common.{◌∙◌, sym}
use Rattle.pci_spec.specs.Window.{IoWindow}
use Rattle.pci_plan.proofs.FilledCommand.{or_first, or_second, io_bar_is, opens}
use Rattle.pci_plan.proofs.numbers.Filling.needs_io.Goals as goal

pub returns-then-has_io_bar : goal.returns-then-has_io_bar
returns-then-has_io_bar c of = or_first _ (opens c.args.self.now of IoWindow) _ (c.has_io_bar.ensures ∙ io_bar_is c.args.self.now of) c.if-has_io_bar.true

pub returns-else-has_io_bar : goal.returns-else-has_io_bar
returns-else-has_io_bar c of = or_second _ _ _ (sym (c.has_io_bar.ensures ∙ io_bar_is c.args.self.now of) ∙ c.if-has_io_bar.false) (c.is_open.ensures of)

use Rattle.std.proofs.Common.{◌∙◌, ap, sym, cond, Bool}
use Rattle.std.specs.Option.{is_some}
use Rattle.pci_plan.proofs.FilledCommand.{one_if}
use Rattle.pci_plan.proofs.FilledWindows.{window_there, window_wide, absent_bounds}
use Rattle.pci_plan.proofs.numbers.Filling.bounds.Goals as goal

pub window_bounds-requires-clause-nibble : goal.window_bounds-requires-clause-nibble
window_bounds-requires-clause-nibble c of =
    c.from.ensures ∙ one_if c.wide.result
    ∙ ap (λ (b : Bool). cond b 1 0) (c.wide.ensures ∙ window_wide c.args.self.now of c.in-Some.bridge c.in-Some.is c.args.class c.in-Some-get.window (sym c.get.ensures ∙ c.in-Some-get.is))

pub window_bounds-requires-clause-there : goal.window_bounds-requires-clause-there
window_bounds-requires-clause-there c of =
    sym (window_there c.args.self.now of c.in-Some.bridge c.in-Some.is c.args.class) ∙ ap is_some (sym c.get.ensures ∙ c.in-Some-get.is)

pub returns-in-None : goal.returns-in-None
returns-in-None c of =
    sym (absent_bounds c.args.self.now of c.in-Some.bridge c.in-Some.is c.args.class
    (sym (window_there c.args.self.now of c.in-Some.bridge c.in-Some.is c.args.class) ∙ ap is_some (sym c.get.ensures ∙ c.in-None.is)))

use Rattle.pci_first_fit.specs.Own.{situation_value}
use Rattle.pci_first_fit.proofs.Ranks.{items_by_rank}
use Rattle.pci_first_fit.proofs.own.add_items.Goals as goal

pub returns-clause-exact : goal.returns-clause-exact
returns-clause-exact g c = λ a s f asked.
    items_by_rank a s f (situation_value c.args.situation.now) c.args.«record».now asked

pub returns-in_err-add_bars-clause-exact : goal.returns-in_err-add_bars-clause-exact
returns-in_err-add_bars-clause-exact g c = λ a s f asked.
    items_by_rank a s f (situation_value c.args.situation.now) c.args.«record».now asked

pub returns-in_err-add_window-clause-exact : goal.returns-in_err-add_window-clause-exact
returns-in_err-add_window-clause-exact g c = λ a s f asked.
    items_by_rank a s f (situation_value c.args.situation.now) c.args.«record».now asked

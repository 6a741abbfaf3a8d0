use Rattle.std.proofs.Common.{sym, ◌∙◌}
use Rattle.pci_base.specs.Ranges.{decoded_range_of}
use Rattle.pci_grow.proofs.SpareAround.{around_window, around_nothing}
use Rattle.pci_grow.proofs.ending.what_is_around.Goals as goal

pub returns-in-Some-clause-around : goal.returns-in-Some-clause-around
returns-in-Some-clause-around c = λ q s asked w class window facts.
    around_window q s c.args.board.now asked w window c.args.facts.now facts (decoded_range_of c.args.window)
    (sym c.is_root.ensures ∙ c.if-is_root.false) c.in-Some.bridge (c.in-Some.ensures.over q s asked)

pub returns-in-None-clause-around : goal.returns-in-None-clause-around
returns-in-None-clause-around c = λ q s asked w class window facts.
    around_nothing q s c.args.board.now asked w window c.args.facts.now facts (decoded_range_of c.args.window)
    (sym c.is_root.ensures ∙ c.if-is_root.false) (c.in-None.ensures.over q s asked)

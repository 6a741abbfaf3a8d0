use Rattle.std.proofs.Common.{◌∙◌, rules, tests, ◌==◌, not}
use Rattle.std.proofs.lemmas.Iterator.{YieldsList-from_slice}
use Rattle.std.proofs.lemmas.Iterator.Search.{position_from_yields_List}
use Rattle.pci_picture.proofs.Positions.{position_or_end}
use Rattle.pci_picture.proofs.reading.indent.Goals as goal

pub returns-clause-value : goal.returns-clause-value
returns-clause-value c =
    c.unwrap_or.ensures
    ∙ position_or_end (λ b. not (b == 32)) c.args.line.now c.position.result
    (position_from_yields_List (λ b. not (b == 32)) c.position.new.self _ c.position.result c.position.ensures.ran
    (YieldsList-from_slice c.args.line.now c.iter.ensures.rest) (λ x b q k. search (rules, tests)))

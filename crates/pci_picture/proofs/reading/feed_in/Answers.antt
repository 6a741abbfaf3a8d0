use Rattle.std.proofs.Common.{◌∙◌, rules, tests}
use Rattle.std.proofs.lemmas.Iterator.{YieldsList-from_slice}
use Rattle.std.proofs.lemmas.Iterator.Search.{position_from_yields_List}
use Rattle.pci_picture.specs.Lines.{is_feed}
use Rattle.pci_picture.proofs.Positions.{position_or_end}
use Rattle.pci_picture.proofs.reading.feed_in.Goals as goal

pub returns-clause-value : goal.returns-clause-value
returns-clause-value c =
    c.unwrap_or.ensures
    ∙ position_or_end is_feed c.args.bytes.now c.position.result
    (position_from_yields_List is_feed c.position.new.self _ c.position.result c.position.ensures.ran
    (YieldsList-from_slice c.args.bytes.now c.iter.ensures.rest) (λ x b q k. search (rules, tests)))

use Rattle.std.proofs.Common.{◌∙◌, rules, tests}
use Rattle.std.proofs.lemmas.Iterator.{YieldsList-from_slice}
use Rattle.std.proofs.lemmas.Iterator.Search.{position_from_yields_List}
use Rattle.pci_picture.specs.declared.plan.Member.{Member}
use Rattle.pci_picture.proofs.Positions.{position_or_end}
use Rattle.pci_picture.proofs.plan.lost_from.Goals as goal

pub returns : goal.returns
returns c =
    c.unwrap_or.ensures
    ∙ position_or_end (λ (member : Member). member.is_lost) c.args.members.now c.position.result
    (position_from_yields_List (λ (member : Member). member.is_lost) c.position.new.self _ c.position.result c.position.ensures.ran
    (YieldsList-from_slice c.args.members.now c.iter.ensures.rest) (λ x b q k. search (rules, tests)))

use Rattle.std.proofs.Common.{sym, ◌∙◌}
use Rattle.std.proofs.lemmas.Bool.{both_ways}
use Rattle.pci_base.specs.Space.{space_of}
use Rattle.pci_claims.proofs.Parts.{met_part, part_for}
use Rattle.pci_claims.proofs.sent.part_of.Goals as goal

pub returns-then-is_for : goal.returns-then-is_for
returns-then-is_for c = met_part c.args.range (space_of c.args.space) c.args.root c.whole.result c.meet.result (sym c.is_for.ensures ∙ c.if-is_for.true) c.whole.ensures.exact c.meet.ensures

pub returns-else-is_for : goal.returns-else-is_for
returns-else-is_for c a h = both_ways _ (sym c.is_for.ensures ∙ c.if-is_for.false) (part_for c.args.range (space_of c.args.space) c.args.root a h)

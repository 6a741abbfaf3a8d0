use Rattle.std.proofs.Common.{sym, ◌∙◌}
use Rattle.std.proofs.lemmas.Bool.{iff_false}
use Rattle.pci_base.specs.Space.{space_of}
use Rattle.pci_claims.proofs.BusClaiming.{none_listed, none_on}
use Rattle.pci_claims.proofs.bus_claims.answering.Goals as goal

pub returns-then-not-has_part : goal.returns-then-not-has_part
returns-then-not-has_part c r here = iff_false c.has_part.ensures c.if-not-has_part.true here.1

pub returns-in_default : goal.returns-in_default
returns-in_default c r here = none_listed c.args.records.now (space_of c.args.space) c.args.slot c.in_default.ensures r here.0

pub returns-then-is_bridge_on : goal.returns-then-is_bridge_on
returns-then-is_bridge_on c =
    ((c.in-Some.ensures.0, c.in-Some.ensures.1, sym c.is_bridge_on.ensures ∙ c.if-is_bridge_on.true), c.has_part.ensures.0 c.if-not-has_part.false)

pub returns-else-is_bridge_on : goal.returns-else-is_bridge_on
returns-else-is_bridge_on c r here =
    none_on c.args.records.now (space_of c.args.space) c.args.slot c.in-Some.bridge.now c.requires c.in-Some.ensures.0 c.in-Some.ensures.1
    (sym c.is_bridge_on.ensures ∙ c.if-is_bridge_on.false) r here.0

use Rattle.std.proofs.Common.{sym, ◌∙◌}
use Rattle.std.proofs.lemmas.Result.{IfOk-weaker}
use Rattle.pci_base.specs.Space.{space_of}
use Rattle.pci_claims.specs.Values.{code_given_value}
use Rattle.pci_claims.proofs.Bridging.{part_on, part_off}
use Rattle.pci_claims.proofs.passed.claimed_by_part.Goals as goal

pub gathered-requires : goal.gathered-requires
gathered-requires g c = c.in_ok-pieces_of.ensures.lawful

pub returns-in_ok-pieces_of : goal.returns-in_ok-pieces_of
returns-in_ok-pieces_of g c =
    IfOk-weaker c.gathered.result _ _
    (λ v is. part_on c.args.part (code_given_value c.args.given.now) (space_of c.args.space) c.args.function.now c.bridges_with-entries.result.now c.in_ok-pieces_of.field-0.items v.items
    c.bridges_with-entries.ensures (sym c.is_bridge_on.ensures ∙ c.if-is_bridge_on.true) c.in_ok-pieces_of.ensures is)
    c.gathered.ensures

pub returns-else-is_bridge_on : goal.returns-else-is_bridge_on
returns-else-is_bridge_on g c =
    part_off c.args.part (code_given_value c.args.given.now) (space_of c.args.space) c.args.function.now c.new.result.items (sym c.is_bridge_on.ensures ∙ c.if-is_bridge_on.false) c.new.ensures.items

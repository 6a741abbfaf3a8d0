use Rattle.std.proofs.Common.{refl, sym, ◌∙◌}
use Rattle.std.proofs.lemmas.Result.{IfOk-weaker}
use Rattle.pci_base.specs.Space.{space_of}
use Rattle.pci_claims.specs.Values.{code_given_value}
use Rattle.pci_map.proofs.TakenRanges.{nothing_in, taken_is}
use Rattle.pci_map.proofs.addresses.taken_in.Goals as goal

pub gathered-requires : goal.gathered-requires
gathered-requires g c = c.in_ok-taken.ensures.lawful

pub returns-then-not-is_bridge_on : goal.returns-then-not-is_bridge_on
returns-then-not-is_bridge_on g c =
    nothing_in (code_given_value c.args.given.now) (space_of c.args.space) c.args.function.now c.new.result.items c.new.ensures.items (sym c.is_bridge_on.ensures ∙ c.if-not-is_bridge_on.true)

pub returns : goal.returns
returns g c =
    IfOk-weaker c.gathered.result _ _
    (λ v is. taken_is (code_given_value c.args.given.now) (space_of c.args.space) c.args.function.now c.args.given.now.unclaimed.now c.in_ok-taken.taken.items v.items refl
    (sym c.is_bridge_on.ensures ∙ c.if-not-is_bridge_on.false) c.in_ok-taken.ensures is)
    c.gathered.ensures

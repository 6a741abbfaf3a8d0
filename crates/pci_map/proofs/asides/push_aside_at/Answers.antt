use Rattle.std.proofs.Common.{arith}
use Rattle.std.proofs.lemmas.Result.{on_ok_weaker}
use Rattle.pci_claims.specs.Values.{code_given_value}
use Rattle.pci_map.proofs.AsideTexts.{both_spaces_aside}
use Rattle.pci_map.proofs.asides.push_aside_at.Goals as goal

pub returns : goal.returns
returns g c =
    on_ok_weaker c.push_aside_in-2.result
    (λ last told t s above ways io memory. both_spaces_aside told (code_given_value c.args.routes.now.given) t.roots s above.tree.one c.args.function.now.slot c.args.register (omega (arith, c.ranges.register.fits)) c.args.asides.now.outside _ c.push_aside_in-2.new.asides.outside
    c.args.asides.now.unreached _ c.push_aside_in-2.new.asides.unreached
    (c.in_ok-push_aside_in.ensures told t s above ways io) (last told t s above ways memory))
    c.push_aside_in-2.ensures

use Rattle.std.proofs.Common.{ap, ◌∙◌}
use Rattle.std.proofs.lemmas.Result.{IfOk-weaker}
use Rattle.pci_base.specs.Space.{space_of}
use Rattle.pci_claims.specs.Values.{code_given_value, told_value}
use Rattle.pci_claims.specs.Gaps.{gaps}
use Rattle.pci_claims.proofs.Unclaiming.{unclaimed_runs}
use Rattle.pci_claims.proofs.taking.unclaimed_on.Goals as goal

pub gathered-requires : goal.gathered-requires
gathered-requires g c = c.in_ok-claimed_on.ensures.lawful

pub returns : goal.returns
returns g c =
    IfOk-weaker c.free_runs.result _ _
    (λ v is s tree. unclaimed_runs (told_value c.args.board.now.told) (code_given_value c.args.board.now.given) s c.args.bus (space_of c.args.space) c.in_ok-claimed_on.field-0.items
    c.in_ok-claimed.claimed.items c.whole.result v.items (c.in_ok-claimed_on.ensures.exact s tree) c.in_ok-claimed.ensures c.whole.ensures.exact
    (is ∙ ap (gaps c.whole.result 0) c.deref.ensures.value))
    c.free_runs.ensures

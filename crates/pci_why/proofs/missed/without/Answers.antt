use Rattle.std.proofs.Common.{List, subst}
use Rattle.std.proofs.lemmas.Result.{IfOk-weaker}
use Rattle.pci_base.specs.declared.range.Range.{Range}
use Rattle.pci_claims.specs.Gathered.{IsCommon}
use Rattle.pci_why.proofs.Gaps.{without_is}
use Rattle.pci_why.proofs.missed.without.Goals as goal

pub returns : goal.returns
returns g c =
    IfOk-weaker c.common.result _ _
    (λ v common. without_is c.args.addresses.now c.args.ranges.now c.in_ok-left.left.items v.items c.bounds.result (c.bounds.ensures c.requires.first) c.in_ok-left.ensures
    (subst (λ (l : List Range). IsCommon c.args.addresses.now l v.items) c.deref.ensures.value common))
    c.common.ensures

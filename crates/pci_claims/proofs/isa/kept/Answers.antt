use Rattle.std.proofs.Common.{rules, List, length, ◌-◌, ◌<◌, arith, subst}
use Rattle.std.proofs.lemmas.Result.{IfOk-weaker}
use Rattle.pci_base.specs.declared.range.Range.{Range}
use Rattle.pci_claims.specs.Gathered.{IsCommon}
use Rattle.pci_claims.proofs.Cutting.{kept_of}
use Rattle.pci_claims.proofs.isa.kept.Goals as goal

pub returns : goal.returns
returns g c =
    let rs : List Range = c.args.ranges.now in
    let some : 0 < length rs = search rules in
    IfOk-weaker c.common.result _ _
    (λ v is. kept_of rs c.in_ok-ports.ports.items v.items (length rs - 1) _ c.requires (omega (arith, some)) c.in_ok-ports.ensures (subst (λ (xs : List Range). IsCommon rs xs v.items) c.deref.ensures.value is))
    c.common.ensures

use Rattle.std.proofs.Common.{subst, sym}
use Rattle.std.proofs.lemmas.Result.{IfOk-weaker}
use Rattle.pci_tree.specs.Ranges.{IsCanonical}
use Rattle.pci_claims.specs.Values.{code_given_value}
use Rattle.pci_claims.specs.Gathered.{IsCommon}
use Rattle.pci_claims.proofs.Bridging.{let_on}
use Rattle.pci_claims.proofs.passed.passed_on.Goals as goal

pub common-requires-clause-second : goal.common-requires-clause-second
common-requires-clause-second g c = subst (λ xs. IsCanonical xs) (sym c.deref.ensures.value) c.in_ok-here.ensures.canonical

pub returns : goal.returns
returns g c =
    IfOk-weaker c.common.result _ _
    (λ v is. let_on (code_given_value c.args.given.now) c.args.through c.args.function.now c.args.above.now c.in_ok-here.here.items v.items c.in_ok-here.ensures
    (subst (λ xs. IsCommon c.args.above.now xs v.items) c.deref.ensures.value is))
    c.common.ensures

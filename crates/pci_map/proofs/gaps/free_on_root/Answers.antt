use Rattle.std.specs.List.{All}
use Rattle.std.proofs.Common.{◌≤◌, subst, sym, ◌∙◌, ap, List, ◌≡◌}
use Rattle.std.proofs.lemmas.Result.{IfOk-weaker}
use Rattle.pci_base.specs.Space.{space_of}
use Rattle.pci_base.specs.declared.range.Range.{Range}
use Rattle.pci_claims.specs.Values.{code_given_value}
use Rattle.pci_claims.specs.Gathered.{IsGathered, IsCommon}
use Rattle.pci_claims.specs.Gaps.{gaps}
use Rattle.pci_map.proofs.Frees.{gaps_have, free_on}
use Rattle.pci_map.proofs.gaps.free_on_root.Goals as goal

pub gathered-requires : goal.gathered-requires
gathered-requires g c = subst (λ (xs : List Range). All (λ r. r.first ≤ r.last) xs) (sym c.in_ok-free_runs.ensures) (gaps_have c.whole.result 0 c.deref.result.now)

pub returns : goal.returns
returns g c =
    IfOk-weaker c.common.result _ _
    (λ v is told s sorted. (
    let claimed : List Range = c.in_ok-claimed.claimed.items in
    let unclaimed : List Range = c.in_ok-unclaimed.unclaimed.items in
    let sent : List Range = c.in_ok-sent.sent.items in
    let runs : c.in_ok-free_runs.field-0.items ≡ gaps c.whole.result 0 claimed = c.in_ok-free_runs.ensures ∙ ap (gaps c.whole.result 0) c.deref.ensures.value in
    free_on told (code_given_value c.args.given.now) s c.args.root (space_of c.args.space) claimed (c.in_ok-claimed.ensures told s c.args.root sorted) c.whole.result sent unclaimed v.items c.whole.ensures.exact
    (sym c.is_said.ensures ∙ c.if-not-is_said.false) c.in_ok-sent.ensures
    (subst (λ (xs : List Range). IsGathered xs unclaimed) runs c.in_ok-unclaimed.ensures)
    (subst (λ (xs : List Range). IsCommon xs unclaimed v.items) c.deref-2.ensures.value (subst (λ (xs : List Range). IsCommon c.deref-2.result.now xs v.items) c.deref-3.ensures.value is))))
    c.common.ensures

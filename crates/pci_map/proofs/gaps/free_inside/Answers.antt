use Rattle.std.specs.List.{All}
use Rattle.std.proofs.Common.{◌≡◌, ◌≤◌, subst, sym, ◌∙◌, ap, List}
use Rattle.std.proofs.lemmas.Result.{IfOk-weaker}
use Rattle.pci_base.specs.Space.{space_of}
use Rattle.pci_base.specs.declared.range.Range.{Range}
use Rattle.pci_tree.specs.Ranges.{IsCanonical}
use Rattle.pci_claims.specs.Found.{range_at}
use Rattle.pci_claims.specs.Gathered.{IsGathered}
use Rattle.pci_claims.specs.Isa.{AreLeftByIsa}
use Rattle.pci_claims.specs.Values.{code_given_value}
use Rattle.pci_claims.specs.Gaps.{gaps}
use Rattle.pci_map.proofs.Frees.{gaps_have, free_of_whole, free_of_cut}
use Rattle.pci_map.proofs.gaps.free_inside.Goals as goal

pub gathered-requires : goal.gathered-requires
gathered-requires g c = subst (λ (xs : List Range). All (λ r. r.first ≤ r.last) xs) (sym c.in_ok-runs.ensures) (gaps_have (range_at c.args.window.now) 0 c.deref.result.now)

pub kept-requires : goal.kept-requires
kept-requires g c = subst IsCanonical (sym c.deref-then-is_cut.ensures.value) c.in_ok-joined.ensures.canonical

pub returns-then-is_cut : goal.returns-then-is_cut
returns-then-is_cut g c =
    IfOk-weaker c.kept.result _ _
    (λ v is told s bus sorted. (
    let w = c.args.window.now in
    let claimed : List Range = c.in_ok-claimed.claimed.items in
    let runs : c.in_ok-runs.runs.items ≡ gaps (range_at w) 0 claimed = c.in_ok-runs.ensures ∙ ap (gaps (range_at w) 0) c.deref.ensures.value in
    free_of_cut told (code_given_value c.args.given.now) s bus (space_of c.args.space) w claimed (c.in_ok-claimed.ensures told s bus sorted) c.in_ok-joined.joined.items v.items (sym c.is_cut.ensures ∙ c.if-is_cut.true)
    (subst (λ (xs : List Range). IsGathered xs c.in_ok-joined.joined.items) runs c.in_ok-joined.ensures)
    (subst (λ (xs : List Range). AreLeftByIsa xs v.items) c.deref-then-is_cut.ensures.value is)))
    c.kept.ensures

pub returns : goal.returns
returns g c = λ told s bus sorted.
    let w = c.args.window.now in
    let claimed : List Range = c.in_ok-claimed.claimed.items in
    free_of_whole told (code_given_value c.args.given.now) s bus (space_of c.args.space) w claimed (c.in_ok-claimed.ensures told s bus sorted) c.in_ok-runs.runs.items (sym c.is_cut.ensures ∙ c.if-is_cut.false)
    (c.in_ok-runs.ensures ∙ ap (gaps (range_at w) 0) c.deref.ensures.value)

use Rattle.std.proofs.Common.{sym, ◌∙◌, subst}
use Rattle.std.specs.Prelude.{MatchOption}
use Rattle.pci_claims.specs.Found.{NoneClaims}
use Rattle.pci_map.specs.Ways.{IsJudged}
use Rattle.pci_map.proofs.Firsts.{none_taken}
use Rattle.pci_map.proofs.left.holding.Goals as goal

pub returns-then-takes-clause-first : goal.returns-then-takes-clause-first
returns-then-takes-clause-first c = λ given t s spot tree judged.
    none_taken given s tree.one t.roots spot c.args.address c.in-Some.judged
    (subst (λ o. MatchOption o (NoneClaims s spot.slot spot.register spot.space) (λ w. IsJudged given t.roots s spot w)) c.in-Some.is judged)
    (sym c.takes.ensures ∙ c.if-takes.true)

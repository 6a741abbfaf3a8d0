use Rattle.std.proofs.Common.{List, subst, sym, ◌∙◌}
use Rattle.std.specs.Prelude.{MatchOption, ℕ}
use Rattle.pci_base.specs.declared.range.Range.{Range}
use Rattle.pci_tree.specs.Ranges.{Covers}
use Rattle.pci_claims.specs.Claim.{IsLeastCommon}
use Rattle.pci_claims.proofs.Claiming.{odds_answer}
use Rattle.pci_claims.proofs.claim.least_at_odds.Goals as goal

pub returns : goal.returns
returns g c =
    odds_answer c.args.first.now c.args.second.now (sym c.may_both_claim.ensures ∙ c.if-may_both_claim.false) c.least_common.result
    (subst (λ (xs : List Range). MatchOption c.least_common.result ((a : ℕ) → Covers c.args.first.now.pieces a → Covers xs a → ⊥) (λ a. IsLeastCommon c.args.first.now.pieces xs a)) c.pieces-2.ensures.value
    (subst (λ (xs : List Range). MatchOption c.least_common.result ((a : ℕ) → Covers xs a → Covers c.pieces-2.result.now a → ⊥) (λ a. IsLeastCommon xs c.pieces-2.result.now a)) c.pieces.ensures.value c.least_common.ensures))

use Rattle.std.proofs.Common.{ℕ, subst}
use Rattle.std.specs.Prelude.{MatchOption}
use Rattle.pci_base.specs.Space.{space_of}
use Rattle.pci_tree.specs.Ranges.{Holds, Covers, IsLeastOutside}
use Rattle.pci_claims.specs.Values.{code_given_value}
use Rattle.pci_claims.proofs.Outsides.{unsent_of}
use Rattle.pci_claims.proofs.outside.least_unsent.Goals as goal

pub returns : goal.returns
returns g c =
    unsent_of (code_given_value c.args.given.now) (space_of c.args.space) c.args.root c.in_ok-sent.sent.items c.args.range c.least_outside.result c.in_ok-sent.ensures
    (subst (λ xs. MatchOption c.least_outside.result ((a : ℕ) → Holds c.args.range a → Covers xs a) (λ a. IsLeastOutside c.args.range xs a)) c.deref.ensures.value c.least_outside.ensures)

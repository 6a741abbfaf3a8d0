use Rattle.std.proofs.Common.{◌==◌, length, not, subst, sym, ap}
use Rattle.std.proofs.lemmas.Bool.{both_ways}
use Rattle.std.specs.Prelude.{IsTrue}
use Rattle.pci_base.specs.Space.{space_of}
use Rattle.pci_claims.specs.Values.{code_given_value}
use Rattle.pci_faults.specs.Stopped.{HasCut}
use Rattle.pci_faults.proofs.Cuts.{first_cut}
use Rattle.pci_faults.proofs.first_unreached.are_any_cut.Goals as goal

pub returns-in-Io-clause-cut : goal.returns-in-Io-clause-cut
returns-in-Io-clause-cut c = λ some.
    let any : IsTrue (not (length c.args.given.now.isa.now == 0)) = subst (λ b. IsTrue (not b)) c.is_empty.ensures some in
    subst (λ space. HasCut (code_given_value c.args.given.now) (space_of space)) (sym c.in-Io.is)
    (first_cut (code_given_value c.args.given.now) (λ none. both_ways _ (ap (λ n. not (n == 0)) none) any))

use Rattle.std.proofs.Common.{subst, Option}
use Rattle.std.specs.Prelude.{MatchOption}
use Rattle.pci_base.specs.Space.{space_of}
use Rattle.pci_tree.specs.declared.region.Region.{Region}
use Rattle.pci_claims.specs.Found.{NoneClaims, IsFoundIn}
use Rattle.pci_claims.specs.Values.{code_given_value, told_value}
use Rattle.pci_why.proofs.Namings.{none_of_own, own_is_named}
use Rattle.pci_why.proofs.named.own_named.Goals as goal

pub returns-in_default-clause-exact : goal.returns-in_default-clause-exact
returns-in_default-clause-exact g c = λ s a bus tree claims.
    none_of_own (told_value c.args.judged.now.told.now) (code_given_value c.args.judged.now.given.now) s c.args.slot c.args.reg (space_of c.args.space) c.requires.low c.requires.no_control c.requires.no_command
    (subst (λ (o : Option Region). MatchOption o (NoneClaims s c.args.slot c.args.reg (space_of c.args.space)) (λ q. IsFoundIn s c.args.slot c.args.reg (space_of c.args.space) q)) c.in_default.is
    (c.in_ok-region.ensures.found s tree.records))
    a bus claims

pub returns-clause-exact : goal.returns-clause-exact
returns-clause-exact g c = λ s a bus tree claims.
    own_is_named (told_value c.args.judged.now.told.now) (code_given_value c.args.judged.now.given.now) s c.args.slot c.args.reg (space_of c.args.space) c.in-Some.region c.in_ok-addresses.addresses.items c.requires.low
    (subst (λ (o : Option Region). MatchOption o (NoneClaims s c.args.slot c.args.reg (space_of c.args.space)) (λ q. IsFoundIn s c.args.slot c.args.reg (space_of c.args.space) q)) c.in-Some.is
    (c.in_ok-region.ensures.found s tree.records))
    tree.system c.in_ok-addresses.ensures

use Rattle.std.proofs.Common.{sym, subst}
use Rattle.std.specs.Prelude.{IfOk, MatchOption}
use Rattle.pci_spec.specs.Fault.{named_region}
use Rattle.pci_base.specs.Space.{space_of}
use Rattle.pci_claims.specs.Values.{code_given_value, told_value}
use Rattle.pci_why.specs.Named.{IsNamedInEach, NoneNamed}
use Rattle.pci_why.proofs.named.region_named.Goals as goal

pub returns-then-reg-eq-BRIDGE_CONTROL-clause-exact : goal.returns-then-reg-eq-BRIDGE_CONTROL-clause-exact
returns-then-reg-eq-BRIDGE_CONTROL-clause-exact g c =
    subst (λ reg. IfOk c.legacy_named.result (λ o. MatchOption o (NoneNamed (told_value c.args.judged.now.told.now) (code_given_value c.args.judged.now.given.now) c.args.judged.now.outline.now c.args.name.slot reg (space_of c.args.name.space))
    (λ n. IsNamedInEach (told_value c.args.judged.now.told.now) (code_given_value c.args.judged.now.given.now) c.args.judged.now.outline.now (named_region c.args.name.slot reg) (space_of c.args.name.space) n.shown n.addresses.items)))
    (sym c.if-reg-eq-BRIDGE_CONTROL.true) c.legacy_named.ensures.exact

pub returns-then-reg-eq-COMMAND-clause-exact : goal.returns-then-reg-eq-COMMAND-clause-exact
returns-then-reg-eq-COMMAND-clause-exact g c =
    subst (λ reg. IfOk c.palette_named.result (λ o. MatchOption o (NoneNamed (told_value c.args.judged.now.told.now) (code_given_value c.args.judged.now.given.now) c.args.judged.now.outline.now c.args.name.slot reg (space_of c.args.name.space))
    (λ n. IsNamedInEach (told_value c.args.judged.now.told.now) (code_given_value c.args.judged.now.given.now) c.args.judged.now.outline.now (named_region c.args.name.slot reg) (space_of c.args.name.space) n.shown n.addresses.items)))
    (sym c.if-reg-eq-COMMAND.true) c.palette_named.ensures.exact

use Rattle.std.proofs.Common.{ap, refl}
use Rattle.pci_spec.specs.Fault.{named_region}
use Rattle.judge_spec.specs.Told.{ToldRange}
use Rattle.pci_base.specs.Space.{space_of}
use Rattle.pci_claims.specs.Values.{code_given_value, told_value}
use Rattle.pci_why.specs.declared.named.Shown.TheVariants.{OfLine}
use Rattle.pci_why.proofs.Namings.{none_of_told, told_is_named, told_lawful}
use Rattle.pci_why.proofs.Gaps.{one_told}
use Rattle.pci_why.proofs.named.told_named.Goals as goal

pub returns-in_default-clause-exact : goal.returns-in_default-clause-exact
returns-in_default-clause-exact g c = λ s a bus tree claims.
    none_of_told (told_value c.args.judged.now.told.now) (code_given_value c.args.judged.now.given.now) s c.args.name.slot c.args.name.register (space_of c.args.name.space) c.requires.high c.in_default.ensures a bus claims

pub returns-clause-some : goal.returns-clause-some
returns-clause-some g c = told_lawful (told_value c.args.judged.now.told.now) (named_region c.args.name.slot c.args.name.register) c.in-Some.range.now c.requires.told c.in-Some.ensures.0

pub returns-clause-exact : goal.returns-clause-exact
returns-clause-exact g c = λ s a bus tree claims.
    told_is_named (told_value c.args.judged.now.told.now) (code_given_value c.args.judged.now.given.now) s c.args.name.slot c.args.name.register (space_of c.args.name.space) c.in-Some.range.now (OfLine c.args.name.register c.in-Some.range) c.push.new.self.items
    c.requires.high c.in-Some.ensures.0 c.in-Some.ensures.1
    (one_told c.new-addresses.result.items c.push.new.self.items c.range.inside.first c.range.inside.last c.in-Some.range.now c.new-addresses.ensures.items c.in_ok-push.ensures.items
    (ap (λ (x : ToldRange). x.first) c.range.view_is) (ap (λ (x : ToldRange). x.last) c.range.view_is)) a bus claims (λ word. refl) refl

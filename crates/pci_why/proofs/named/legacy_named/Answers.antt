use Rattle.std.proofs.Common.{List, sym, ap, ◌∙◌, subst}
use Rattle.std.specs.Prelude.{◌==◌}
use Rattle.pci_spec.specs.Decoded.{HasRecords, Record}
use Rattle.pci_base.specs.Space.{space_of}
use Rattle.pci_claims.specs.Values.{code_given_value, told_value}
use Rattle.pci_why.proofs.Namings.{none_without_record, none_of_none, legacy_is_named, empty_is, some_covered}
use Rattle.pci_why.proofs.named.legacy_named.Goals as goal

pub returns-in_default-clause-exact : goal.returns-in_default-clause-exact
returns-in_default-clause-exact g c = λ s a bus tree claims.
    none_without_record (told_value c.args.judged.now.told.now) (code_given_value c.args.judged.now.given.now) s c.records.result.now c.args.slot (space_of c.args.space) (subst (λ (rs : List Record). HasRecords s rs) (sym c.records.ensures.value) tree.records)
    c.in_default.ensures a bus claims

pub returns-then-is_empty-clause-exact : goal.returns-then-is_empty-clause-exact
returns-then-is_empty-clause-exact g c = λ s a bus tree claims.
    none_of_none (told_value c.args.judged.now.told.now) (code_given_value c.args.judged.now.given.now) s c.records.result.now c.in-Some.function.now c.args.slot (space_of c.args.space) c.in_ok-addresses.addresses.items
    (subst (λ (rs : List Record). HasRecords s rs) (sym c.records.ensures.value) tree.records) c.records.ensures.rising c.in-Some.ensures.0 c.in-Some.ensures.1 c.in_ok-addresses.ensures
    (empty_is c.in_ok-addresses.addresses.items (ap (λ n. n == 0) (sym c.in_ok-addresses.addresses.ok.0) ∙ sym c.is_empty.ensures ∙ c.if-is_empty.true)) a bus claims

pub returns-clause-exact : goal.returns-clause-exact
returns-clause-exact g c = λ s a bus tree claims.
    let some = some_covered c.in_ok-addresses.addresses.items c.in_ok-addresses.ensures.canonical (ap (λ n. n == 0) (sym c.in_ok-addresses.addresses.ok.0) ∙ sym c.is_empty.ensures ∙ c.if-is_empty.false) in
    legacy_is_named (told_value c.args.judged.now.told.now) (code_given_value c.args.judged.now.given.now) s c.records.result.now c.in-Some.function.now c.args.slot (space_of c.args.space) c.in_ok-addresses.addresses.items
    (subst (λ (rs : List Record). HasRecords s rs) (sym c.records.ensures.value) tree.records) c.records.ensures.rising c.in-Some.ensures.0 c.in-Some.ensures.1 c.in_ok-addresses.ensures
    c.is_narrow-is_narrow.result c.is_narrow-is_narrow.ensures some.0 some.1

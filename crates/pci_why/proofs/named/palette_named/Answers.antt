use Rattle.std.proofs.Common.{rules, ◌≡◌, List, sym, ap, ◌∙◌, subst}
use Rattle.std.specs.Prelude.{◌==◌}
use Rattle.pci_spec.specs.Decoded.{HasRecords, Record}
use Rattle.pci_spec.specs.Fault.{named_region}
use Rattle.pci_base.specs.declared.space.Space.TheVariants.{Mem}
use Rattle.pci_base.specs.Space.{space_of}
use Rattle.pci_claims.specs.Values.{code_given_value, told_value}
use Rattle.pci_why.specs.declared.named.Shown.TheVariants.{Palette}
use Rattle.pci_why.specs.Named.{IsNamedIn}
use Rattle.pci_why.proofs.Namings.{IsNone, none_of_memory, no_palette_record, none_of_palette, palette_is_named, empty_is, some_covered, space_of_memory, space_of_io}
use Rattle.pci_why.proofs.named.palette_named.Goals as goal

pub returns-then-eq-clause-exact : goal.returns-then-eq-clause-exact
returns-then-eq-clause-exact g c = λ s a bus tree claims.
    let memory : c.args.space ≡ Mem = search rules in
    subst (λ sp. IsNone (told_value c.args.judged.now.told.now) (code_given_value c.args.judged.now.given.now) s c.args.slot 0x04 sp) (sym (space_of_memory c.args.space memory))
    (none_of_memory (told_value c.args.judged.now.told.now) (code_given_value c.args.judged.now.given.now) s c.args.slot) a bus claims

pub returns-in_default-clause-exact : goal.returns-in_default-clause-exact
returns-in_default-clause-exact g c = λ s a bus tree claims.
    no_palette_record (told_value c.args.judged.now.told.now) (code_given_value c.args.judged.now.given.now) s c.args.slot c.records.result.now (space_of c.args.space)
    (subst (λ (rs : List Record). HasRecords s rs) (sym c.records.ensures.value) tree.records) c.in_default.ensures a bus claims

pub returns-then-is_empty-clause-exact : goal.returns-then-is_empty-clause-exact
returns-then-is_empty-clause-exact g c = λ s a bus tree claims.
    let other : c.args.space ≡ Mem → ⊥ = λ memory. search (rules, memory) in
    subst (λ sp. IsNone (told_value c.args.judged.now.told.now) (code_given_value c.args.judged.now.given.now) s c.args.slot 0x04 sp) (sym (space_of_io c.args.space other))
    (none_of_palette (told_value c.args.judged.now.told.now) (code_given_value c.args.judged.now.given.now) s c.args.slot c.records.result.now c.in-Some.function.now c.in_ok-addresses.addresses.items
    (subst (λ (rs : List Record). HasRecords s rs) (sym c.records.ensures.value) tree.records) c.records.ensures.rising c.in-Some.ensures.0 c.in-Some.ensures.1 c.in_ok-addresses.ensures
    (empty_is c.in_ok-addresses.addresses.items (ap (λ n. n == 0) (sym c.in_ok-addresses.addresses.ok.0) ∙ sym c.is_empty.ensures ∙ c.if-is_empty.true))) a bus claims

pub returns-clause-exact : goal.returns-clause-exact
returns-clause-exact g c = λ s a bus tree claims.
    let other : c.args.space ≡ Mem → ⊥ = λ memory. search (rules, memory) in
    let some = some_covered c.in_ok-addresses.addresses.items c.in_ok-addresses.ensures.canonical (ap (λ n. n == 0) (sym c.in_ok-addresses.addresses.ok.0) ∙ sym c.is_empty.ensures ∙ c.if-is_empty.false) in
    subst (λ sp. IsNamedIn (told_value c.args.judged.now.told.now) (code_given_value c.args.judged.now.given.now) s (named_region c.args.slot 0x04) sp (Palette c.args.slot c.is_narrow-is_narrow.result) c.in_ok-addresses.addresses.items) (sym (space_of_io c.args.space other))
    (palette_is_named (told_value c.args.judged.now.told.now) (code_given_value c.args.judged.now.given.now) s c.args.slot c.records.result.now c.in-Some.function.now c.in_ok-addresses.addresses.items
    (subst (λ (rs : List Record). HasRecords s rs) (sym c.records.ensures.value) tree.records) c.records.ensures.rising c.in-Some.ensures.0 c.in-Some.ensures.1 c.in_ok-addresses.ensures
    c.is_narrow-is_narrow.result c.is_narrow-is_narrow.ensures some.0 some.1)

use Rattle.std.proofs.Common.{◌≡◌, true, false, refl, sym, ◌∙◌, ap, Option, None, Some}
use Rattle.std.specs.Option.{is_some, option_map}
use Rattle.std.proofs.lemmas.Bool.{both_ways}
use Rattle.settle_spec.specs.Writes.{fixed_without}
use Rattle.pci_place.specs.Above.{system_in}
use Rattle.pci_settle.specs.declared.lack.SettleFault.{SettleFault}
use Rattle.pci_settle.specs.Bounded.{or_other}
use Rattle.pci_settle.specs.Fixed.{fixed_part}
use Rattle.pci_settle.proofs.bounds.first_without.Goals as goal

there_is : (o other : Option SettleFault) → is_some o ≡ true → o ≡ or_other o other
there_is None other is = absurd (both_ways false refl is)
there_is (Some fault) other is = refl

there_is_none : (o other : Option SettleFault) → is_some o ≡ false → other ≡ or_other o other
there_is_none None other is = refl
there_is_none (Some fault) other is = absurd (both_ways true is refl)

pub returns-then-is_some : goal.returns-then-is_some
returns-then-is_some g c = λ q keep asked bounds table.
    let s = system_in c.args.admitted.now in
    let other = option_map fixed_part (fixed_without keep.stays q s) in
    let cut = c.first_cut-cut.ensures q keep asked.roots_are bounds.told table in
    there_is c.first_cut-cut.result other (sym c.is_some.ensures ∙ c.if-is_some.true) ∙ ap (λ o. or_other o other) cut

pub returns : goal.returns
returns g c = λ q keep asked bounds table.
    let s = system_in c.args.admitted.now in
    let other = option_map fixed_part (fixed_without keep.stays q s) in
    let cut = c.first_cut-cut.ensures q keep asked.roots_are bounds.told table in
    c.fixed_without.ensures q keep.stays asked bounds.fixed table
    ∙ there_is_none c.first_cut-cut.result other (sym c.is_some.ensures ∙ c.if-is_some.false) ∙ ap (λ o. or_other o other) cut

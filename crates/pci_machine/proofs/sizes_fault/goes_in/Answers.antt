use Rattle.std.proofs.Common.{◌≡◌, ℕ, ap, sym, subst, ◌∙◌, get_or}
use Rattle.std.specs.Prelude.{◌↔◌, IsTrue}
use Rattle.std.proofs.lemmas.Bool.{eq-eqb, eqb-true}
use Rattle.pci_spec.specs.Form.{Cell, Fixed, Takes}
use Rattle.pci_spec.specs.SizesStops.{cell_at}
use Rattle.pci_machine.specs.declared.sizes_fault.TheConstants.{GREATEST}
use Rattle.pci_machine.proofs.SizesPlaces.{cell_is, cell_of, fixed_is}
use Rattle.pci_machine.proofs.sizes_fault.goes_in.Goals as goal

pub returns-then-greatest-eq102 : goal.returns-then-greatest-eq102
returns-then-greatest-eq102 c =
    subst (λ (t : Cell). IsTrue c.is_digit.result ↔ Takes t c.args.byte) (sym (cell_is c.args.place c.requires ∙ ap cell_of c.if-greatest-eq102.true)) c.is_digit.ensures

pub returns-then-greatest-eq55 : goal.returns-then-greatest-eq55
returns-then-greatest-eq55 c =
    subst (λ (t : Cell). IsTrue c.is_digit-then-greatest-eq55.result ↔ Takes t c.args.byte) (sym (cell_is c.args.place c.requires ∙ ap cell_of c.if-greatest-eq55.true)) c.is_digit-then-greatest-eq55.ensures

pub returns-then-greatest-eq49 : goal.returns-then-greatest-eq49
returns-then-greatest-eq49 c =
    subst (λ (t : Cell). IsTrue c.is_digit-then-greatest-eq49.result ↔ Takes t c.args.byte) (sym (cell_is c.args.place c.requires ∙ ap cell_of c.if-greatest-eq49.true)) c.is_digit-then-greatest-eq49.ensures

pub returns : goal.returns
returns c =
    let greatest : ℕ = get_or GREATEST c.args.place 0 in
    let cell : cell_at c.args.place ≡ Fixed greatest = cell_is c.args.place c.requires ∙ fixed_is greatest c.if-greatest-eq102.false c.if-greatest-eq55.false c.if-greatest-eq49.false in (
      (λ same. subst (λ (t : Cell). Takes t c.args.byte) (sym cell) (eqb-true c.args.byte greatest same)),
      (λ takes. eq-eqb c.args.byte greatest (subst (λ (t : Cell). Takes t c.args.byte) cell takes)),
    )

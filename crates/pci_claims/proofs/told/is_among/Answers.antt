use Rattle.std.proofs.Common.{◌∙◌, eqb, sym, arith}
use Rattle.std.proofs.lemmas.Bool.{eqb-true, eq-eqb}
use Rattle.pci_claims.proofs.Awake.{among_by_number}
use Rattle.pci_claims.proofs.told.is_among.Goals as goal

pub returns : goal.returns
returns c =
    among_by_number c.args.slots.now c.args.slot c.index-slots-index.result c.first_not_below-index.result (eqb c.number.result c.number-2.result) c.requires c.first_not_below-index.ensures.before c.first_not_below-index.ensures.after
    (let bound = c.first_not_below-index.ensures.bound in let other = c.if-index-slots.false in omega (arith, bound, other)) c.index-slots-index.is c.number.ensures.slot c.number-2.ensures.slot
    (λ same. sym c.number.ensures.number ∙ eqb-true c.number.result c.number-2.result same ∙ c.number-2.ensures.number, λ same. eq-eqb c.number.result c.number-2.result (c.number.ensures.number ∙ same ∙ sym c.number-2.ensures.number))

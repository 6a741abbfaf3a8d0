use Rattle.std.proofs.Common.{cond, [], sym, subst, ◌∙◌, refl}
use Rattle.pci_base.specs.Ranges.{decoded_range_of}
use Rattle.pci_base.specs.Space.{space_of}
use Rattle.pci_grow.specs.OffLines.{pieces, row_pieces, IsAmongAlso}
use Rattle.pci_grow.proofs.NearestOf.{also_none}
use Rattle.pci_grow.proofs.among.Among.beside_line.Goals as goal

pub returns-then-keeps_off : goal.returns-then-keeps_off
returns-then-keeps_off c = λ w same.
    subst (λ x. IsAmongAlso x c.args.self c.beside.result (row_pieces c.args.told.now c.args.slot c.args.region.now.level (space_of c.args.region.now.space) x c.args.line.now)) (sym same)
    (subst (λ b. IsAmongAlso (decoded_range_of c.args.self.window) c.args.self c.beside.result (cond b (pieces (decoded_range_of c.args.self.window) (decoded_range_of c.args.line.now.range)) []))
    (sym (sym c.keeps_off.ensures ∙ c.if-keeps_off.true)) c.beside.ensures)

pub returns : goal.returns
returns c = λ w same.
    subst (λ x. IsAmongAlso x c.args.self c.args.self (row_pieces c.args.told.now c.args.slot c.args.region.now.level (space_of c.args.region.now.space) x c.args.line.now)) (sym same)
    (subst (λ b. IsAmongAlso (decoded_range_of c.args.self.window) c.args.self c.args.self (cond b (pieces (decoded_range_of c.args.self.window) (decoded_range_of c.args.line.now.range)) []))
    (sym (sym c.keeps_off.ensures ∙ c.if-keeps_off.false)) (also_none (decoded_range_of c.args.self.window) c.args.self c.args.self refl))

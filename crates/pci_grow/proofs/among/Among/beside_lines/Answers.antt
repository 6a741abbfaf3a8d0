use Rattle.std.proofs.Common.{◌<◌, length, refl, sym, ap, subst, ◌∙◌}
use Rattle.std.proofs.lemmas.List.{take_all}
use Rattle.pci_base.specs.Ranges.{decoded_range_of}
use Rattle.pci_base.specs.Space.{space_of}
use Rattle.pci_first_fit.specs.declared.lines.Line.{Line}
use Rattle.pci_grow.specs.OffLines.{row_pieces, rows_beside, IsAmongAlso}
use Rattle.pci_grow.proofs.NearestOf.{also_none, also_more}
use Rattle.pci_grow.proofs.RowSlices.{rows_same}
use Rattle.pci_grow.proofs.among.Among.beside_lines.Goals as goal

pub loop-line-init : goal.loop-line-init
loop-line-init c = also_none _ _ _ refl

pub beside_line-among-requires : goal.beside_line-among-requires
beside_line-among-requires c =
    subst (λ (x : Line). x.index < length c.args.told.now) (sym c.line-item.is)
    (c.on_level-line-items.ensures.ranges c.args.told.now c.requires.ranges c.loop-line.line-index c.line-item.result c.loop-line-test.true)

pub loop-line-preserved : goal.loop-line-preserved
loop-line-preserved c =
    let f = row_pieces c.args.told.now c.args.slot c.args.region.now.level (space_of c.args.region.now.space) (decoded_range_of c.args.self.window) in
    also_more f c.args.self c.loop-line.among c.beside_line-among.result
    c.on_level-line-items.result.now c.loop-line.line-index c.loop-line-test.true c.line-item.result c.loop-line.invariant
    (subst (λ x. IsAmongAlso (decoded_range_of c.args.self.window) c.loop-line.among c.beside_line-among.result (f x)) c.line-item.is
    (c.beside_line-among.ensures (decoded_range_of c.args.self.window) (sym (ap decoded_range_of c.loop-line.invariant.window))))

pub returns : goal.returns
returns c =
    subst (IsAmongAlso (decoded_range_of c.args.self.window) c.args.self c.loop-line.among)
    (ap (rows_beside c.args.told.now c.args.slot c.args.region.now.level (space_of c.args.region.now.space) (decoded_range_of c.args.self.window)) (take_all c.loop-line.line-index c.on_level-line-items.result.now c.loop-line-test.false)
    ∙ rows_same c.args.told.now c.args.slot c.args.region.now.level (space_of c.args.region.now.space) (decoded_range_of c.args.self.window) c.on_level-line-items.result.now c.args.lines.now c.on_level-line-items.ensures.same)
    c.loop-line.invariant

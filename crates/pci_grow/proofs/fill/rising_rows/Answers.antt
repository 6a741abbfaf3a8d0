use Rattle.std.proofs.Common.{◌+◌, ◌<◌, ◌∙◌, map, length, arith, subst, sym}
use Rattle.std.proofs.lemmas.List.{length-map}
use Rattle.pci_grow.specs.LastPlaces.{LastsRise}
use Rattle.pci_grow.proofs.Rooms.{row_of}
use Rattle.pci_grow.proofs.Flags.{AreFlagsTo, flags_next}
use Rattle.pci_grow.proofs.fill.rising_rows.Goals as goal

pub loop-row-preserved : goal.loop-row-preserved
loop-row-preserved g c =
    let rows = map (λ v. v.items) c.args.rows.now in
    let within : c.loop-row.row-index < length rows =
    (let long = length-map c.args.rows.now (λ v. v.items) in let low = c.loop-row-test.true in omega (arith, long, low)) in
    let to_row = c.as_slice.ensures.value ∙ row_of c.args.rows.now c.loop-row.row-index c.row-item.result within c.row-item.is in
    subst (λ xs. AreFlagsTo rows xs (c.loop-row.row-index + 1)) (sym c.in_ok-push.ensures.items)
    (flags_next rows c.loop-row.flags.items c.loop-row.row-index c.lasts_rise.result c.loop-row.invariant (λ is. subst LastsRise to_row (c.lasts_rise.ensures is)))

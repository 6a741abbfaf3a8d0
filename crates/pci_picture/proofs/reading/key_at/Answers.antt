use Rattle.std.proofs.Common.{arith, sym, ◌∙◌}
use Rattle.pci_picture.specs.Lines.{words_in_line}
use Rattle.pci_picture.proofs.Keys.{behind_slot, key_found, no_place_no_key}
use Rattle.pci_picture.proofs.reading.key_at.Goals as goal

pub returns-in_err-place : goal.returns-in_err-place
returns-in_err-place c =
    let behind = behind_slot c.args.line.now c.args.index c.saturating_add.result c.word.result.now c.word-2.result.now (omega arith) c.word.ensures (sym c.in_ok-slot.ensures.some)
    c.saturating_add.ensures c.word-2.ensures in
    c.from_residual-in_err-place.ensures
    ∙ sym (no_place_no_key (words_in_line c.args.line.now) c.args.index c.word.result.now c.word-2.result.now c.word.ensures behind (sym c.in_ok-slot.ensures.some) (sym c.in_err-place.ensures.some))

pub returns : goal.returns
returns c =
    let behind = behind_slot c.args.line.now c.args.index c.saturating_add.result c.word.result.now c.word-2.result.now (omega arith) c.word.ensures (sym c.in_ok-slot.ensures.some)
    c.saturating_add.ensures c.word-2.ensures in
    sym (key_found (words_in_line c.args.line.now) c.args.index c.word.result.now c.word-2.result.now c.in_ok-slot.slot _ c.region_key.result c.word.ensures behind
    (sym c.in_ok-slot.ensures.some) (sym c.in_ok-place.ensures.some) c.in_ok-slot.ensures.value c.in_ok-place.ensures.number c.region_key.ensures.key)

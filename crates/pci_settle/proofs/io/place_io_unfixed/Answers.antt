use Rattle.std.proofs.Common.{◌∙◌, ◌&&◌, List, length, sym, ap}
use Rattle.std.specs.Bool.{◌==◌}
use Rattle.std.proofs.lemmas.Bool.{false≢true, and_parts}
use Rattle.std.proofs.lemmas.Result.{err_from_is_err_and}
use Rattle.judge_spec.specs.Told.{ToldRange}
use Rattle.pci_base.specs.declared.slot.Slot.{Slot}
use Rattle.pci_settle.proofs.IoFirst.{empty_if}
use Rattle.pci_settle.proofs.io.place_io_unfixed.Goals as goal

pub returns-then-not-is_free-clause-room : goal.returns-then-not-is_free-clause-room
returns-then-not-is_free-clause-room g c = λ none untold.
    absurd (false≢true (sym c.if-not-is_free.true ∙ c.is_free.ensures ∙ ap (λ (xs : List Slot). length xs == 0 && length c.args.lists.now.told.ranges.now == 0) none
    ∙ ap (λ (xs : List ToldRange). length xs == 0) untold))

pub returns-in_err-place_io-clause-fault : goal.returns-in_err-place_io-clause-fault
returns-in_err-place_io-clause-fault g c =
    let p = err_from_is_err_and c.from_residual.result c.from_residual.ensures.1 in
    let both = and_parts (length c.args.rules.now.fixed.now == 0) (length c.args.lists.now.told.ranges.now == 0) (sym c.is_free.ensures ∙ c.if-not-is_free.false) in
    rw (p.1, p.2) ((empty_if c.args.rules.now.fixed.now both.0, empty_if c.args.lists.now.told.ranges.now both.1), c.in_err-place_io.ensures.fault)

pub returns-clause-room : goal.returns-clause-room
returns-clause-room g c = λ none untold. c.in_ok-place_io.ensures.room

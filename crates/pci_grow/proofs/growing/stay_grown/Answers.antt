use Rattle.std.proofs.Common.{sym, ◌∙◌, subst}
use Rattle.settle_spec.specs.Growth.{takes_growth}
use Rattle.settle_spec.specs.Kept.{is_kept}
use Rattle.pci_kept.specs.Holding.{AreNoted}
use Rattle.pci_grow.proofs.Grows.{takes_only, kept_only, marks_noted, all_noted, grown_left}
use Rattle.pci_grow.proofs.growing.stay_grown.Goals as goal

pub returns-clause-stays : goal.returns-clause-stays
returns-clause-stays g c = λ q s board parts holding coming.
    let marked = subst (AreNoted s (takes_growth q s)) (sym (c.as_mut_slice-marks.ensures.value ∙ c.in_ok-marks.ensures)) (marks_noted q s board.system board.nested c.args.coming.now coming) in
    let grown = c.stay_all.ensures q s (takes_growth q s) board parts (takes_only q s board.system board.nested) marked in
    c.stay_all-2.ensures q s (is_kept q s) board parts (kept_only q s board.system board.nested)
    (all_noted q s board.system board.nested c.args.table.now c.stay_all.new.table c.keep_marked.new.table holding grown c.keep_marked.ensures)

pub returns-clause-grown : goal.returns-clause-grown
returns-clause-grown g c = λ q s board parts coming.
    let marked = subst (AreNoted s (takes_growth q s)) (sym (c.as_mut_slice-marks.ensures.value ∙ c.in_ok-marks.ensures)) (marks_noted q s board.system board.nested c.args.coming.now coming) in
    let grown = c.stay_all.ensures q s (takes_growth q s) board parts (takes_only q s board.system board.nested) marked in
    grown_left q s board.system board.nested c.args.coming.now c.leave_marked.new.table c.stay_all.new.table coming grown c.leave_marked.ensures

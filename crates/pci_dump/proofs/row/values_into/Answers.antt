use Rattle.std.proofs.Common.{◌∙◌, ℕ, List, sym, subst}
use Rattle.std.proofs.lemmas.Simd.{put_chunk_whole}
use Rattle.pci_dump.specs.Value.{AreValues}
use Rattle.pci_dump.proofs.SixteenLanes.{thirds_0, thirds_1, thirds_2, spaces_there, highs_there, lows_there, values_there}
use Rattle.pci_dump.proofs.row.values_into.Goals as goal

pub returns-then-not-are_zero-clause-no : goal.returns-then-not-are_zero-clause-no
returns-then-not-are_zero-clause-no c = λ no v each.
    let cells = c.args.cells.now in
    let spaces = c.non_spaces.ensures.zero.1 (spaces_there cells _ v each (thirds_0 cells c.requires.cells)) in
    let high = c.digits_of.ensures.zero.1 (highs_there cells _ v each (thirds_1 cells c.requires.cells)) in
    let low = c.digits_of-2.ensures.zero.1 (lows_there cells _ v each (thirds_2 cells c.requires.cells)) in
    c.are_zero.ensures.no c.if-not-are_zero.true (c.either_of.ensures.zero.1 (spaces, c.either_of-not_digits.ensures.zero.1 (high, low)))

pub returns-clause-yes : goal.returns-clause-yes
returns-clause-yes c = λ yes.
    let cells = c.args.cells.now in
    let s = thirds_0 cells c.requires.cells in
    let h = thirds_1 cells c.requires.cells in
    let l = thirds_2 cells c.requires.cells in
    let all = c.either_of.ensures.zero.0 (c.are_zero.ensures.yes c.if-not-are_zero.false) in
    let digits = c.either_of-not_digits.ensures.zero.0 all.1 in
    subst (λ (v : List ℕ). AreValues cells v 16) (sym (put_chunk_whole c.args.values.now c.bytes_of.result (c.requires.values ∙ sym c.bytes_of.ensures.long)))
    (values_there cells _ _ _ c.digits_of.result.0 c.digits_of-2.result.0 c.bytes_of.result s h l (c.non_spaces.ensures.zero.0 all.0) (c.digits_of.ensures.zero.0 digits.0)
    (c.digits_of-2.ensures.zero.0 digits.1) c.digits_of.ensures.long c.digits_of-2.ensures.long c.digits_of.ensures.each c.digits_of-2.ensures.each c.bytes_of.ensures.each)

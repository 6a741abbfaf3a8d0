use Rattle.std.proofs.Common.{refl, ap, List, ℕ, ◌++◌, drop, length}
use Rattle.pci_dump.proofs.Lines.{part_refused, part_taken, sample_line}
use Rattle.pci_dump.proofs.rows.part_of_row.Goals as goal

pub returns-then-row_into : goal.returns-then-row_into
returns-then-row_into c =
    let read = c.row_into.ensures.yes c.if-row_into.true in
    (refl, part_taken _ _ _ _ c.digit_of.result c.requires.within c.requires.short (ap (λ (t : List ℕ). t ++ drop (length c.args.part.now) (sample_line c.digit_of.result)) c.copy_from_slice.ensures.after) (c.row_into.ensures.long, read.0, read.1))

pub returns-else-row_into : goal.returns-else-row_into
returns-else-row_into c = (
  refl,
  part_refused _ _ _ c.digit_of.result c.requires.within c.requires.short c.digit_of.ensures (ap (λ (t : List ℕ). t ++ drop (length c.args.part.now) (sample_line c.digit_of.result)) c.copy_from_slice.ensures.after)
      (c.row_into.ensures.no c.if-row_into.false),
)

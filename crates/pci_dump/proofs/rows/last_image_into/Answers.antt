use Rattle.std.proofs.Common.{arith, ◌∙◌, ℕ, [], ◌∷◌, ap, drop, subst}
use Rattle.pci_dump.proofs.Lines.{rows_start, row_more, small_more, part_stops, line_stops, blank_ends, blank_stops, blank_there, at_end, none_left, first_left, whole_image}
use Rattle.pci_dump.specs.Value.{AreSmall}
use Rattle.pci_dump.proofs.rows.last_image_into.Goals as goal

pub loop-row-init : goal.loop-row-init
loop-row-init c = record { long = c.told-image; small = (λ k. omega arith); so_far = rows_start c.args.bytes.now [] }

pub returns-then-rest-lt-ROW_LEN-clause-err : goal.returns-then-rest-lt-ROW_LEN-clause-err
returns-then-rest-lt-ROW_LEN-clause-err c = part_stops _ _ _ _ _ (omega arith) c.loop-row.invariant.long c.loop-row.invariant.small c.loop-row.invariant.so_far c.part_of_row.ensures

pub returns-then-not-read_row-clause-err : goal.returns-then-not-read_row-clause-err
returns-then-not-read_row-clause-err c = (
  omega arith,
  line_stops _ _ _ c.split_at.result.0.now c.split_at.result.1.now _ (omega arith) c.loop-row.invariant.long c.loop-row.invariant.small c.loop-row.invariant.so_far c.split_at.ensures.by_index.0 c.split_at.ensures.front_len
      (c.read_row.ensures.no c.if-not-read_row.true),
)

pub loop-row-preserved : goal.loop-row-preserved
loop-row-preserved c =
    let read = c.read_row.ensures.yes c.if-not-read_row.false in
    record {
      long = c.read_row.array_long;
      small = small_more _ _ _ _ c.loop-row.invariant.small read.small read.written;
      so_far = row_more _ _ _ _ _ _ _ _ (omega arith) c.loop-row.invariant.long read.long c.loop-row.invariant.so_far c.split_at.ensures.by_index.0 read.text read.written;
    }

pub returns-in-None-clause-err : goal.returns-in-None-clause-err
returns-in-None-clause-err c =
    let all = at_end _ 16 _ _ _ (omega arith) c.loop-row.invariant.small c.loop-row.invariant.so_far in
    blank_ends _ _ _ c.loop-row.invariant.long all.0 all.1 (none_left _ c.in-None.ensures.value)

pub returns-in-Some-eq10-clause-ok : goal.returns-in-Some-eq10-clause-ok
returns-in-Some-eq10-clause-ok c =
    let all = at_end _ 16 _ _ _ (omega arith) c.loop-row.invariant.small c.loop-row.invariant.so_far in
    let first = first_left _ _ c.in-Some-eq10.ensures.value in
    blank_there _ _ _ c.loop-row.invariant.long all.0 all.1 (first ∙ ap (λ (x : ℕ). x ∷ drop 1 c.loop-row.rest.now) c.in-Some-eq10.field-0-test)

pub returns-in-Some-clause-err : goal.returns-in-Some-clause-err
returns-in-Some-clause-err c =
    let all = at_end _ 16 _ _ _ (omega arith) c.loop-row.invariant.small c.loop-row.invariant.so_far in
    blank_stops _ _ _ _ c.loop-row.invariant.long all.0 all.1 (first_left _ _ c.in-Some.ensures.value) c.in-Some.field-0-test.1

pub returns-in-Some-eq10-clause-image : goal.returns-in-Some-eq10-clause-image
returns-in-Some-eq10-clause-image c =
    let all = at_end _ 16 _ _ _ (omega arith) c.loop-row.invariant.small c.loop-row.invariant.so_far in
    (c.loop-row.invariant.long, subst AreSmall (whole_image _ c.loop-row.invariant.long) all.0)

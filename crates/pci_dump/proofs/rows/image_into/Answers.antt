use Rattle.std.proofs.Common.{arith, ap, ◌≡◌, ◌∙◌, ◌*◌, ◌+◌, ◌-◌, ◌<◌, ◌++◌, ◌∷◌, [], ℕ, List, get_or, take, drop, subst}
use Rattle.pci_spec.specs.Form.{rows_text}
use Rattle.std.specs.List.{slice_range}
use Rattle.pci_dump.specs.Value.{AreSmall}
use Rattle.pci_dump.proofs.Lines.{rows_start, row_more, small_more, line_cut, line_long, line_stops, blank_at, blank_there, blank_stops, at_end, whole_image}
use Rattle.pci_dump.proofs.Tails.{zeros_kept, zeros_last, last_there, zeroed}
use Rattle.pci_dump.proofs.rows.image_into.Goals as goal

pub loop-row-init : goal.loop-row-init
loop-row-init c = record { long = c.last_zeros_into-zeros.array_long; small = (λ k. omega arith); so_far = rows_start c.args.bytes.now []; zeros = c.last_zeros_into-zeros.ensures.image }

pub returns-then-not-read_row-clause-err : goal.returns-then-not-read_row-clause-err
returns-then-not-read_row-clause-err c =
    let bytes = c.args.bytes.now in
    let row = c.loop-row.row in
    let from = c.from-at.result in
    let before = c.loop-row-test.true in
    let most = c.last_zeros_into-zeros.ensures.within in
    let high : row < 16 = omega (arith, before, most) in
    let enough = c.if-bytes-lt-LINES_LEN.false in (
      high,
      line_stops bytes c.loop-row.image (drop (52 * row) bytes) (slice_range bytes (52 * from) (52 * from + 52)) (drop (52 * (row + 1)) bytes) row high c.loop-row.invariant.long c.loop-row.invariant.small c.loop-row.invariant.so_far
          (line_cut bytes row from c.from-at.ensures) (line_long bytes row from enough high c.from-at.ensures) (c.read_row.ensures.no c.if-not-read_row.true),
    )

pub loop-row-preserved : goal.loop-row-preserved
loop-row-preserved c =
    let bytes = c.args.bytes.now in
    let row = c.loop-row.row in
    let from = c.from-at.result in
    let before = c.loop-row-test.true in
    let most = c.last_zeros_into-zeros.ensures.within in
    let high : row < 16 = omega (arith, before, most) in
    let read = c.read_row.ensures.yes c.if-not-read_row.false in
    record {
      long = c.read_row.array_long;
      small = small_more _ _ _ _ c.loop-row.invariant.small read.small read.written;
      so_far = row_more bytes c.loop-row.image c.read_row.new.image read.values (drop (52 * row) bytes) (slice_range bytes (52 * from) (52 * from + 52)) (drop (52 * (row + 1)) bytes) row high c.loop-row.invariant.long read.long c.loop-row.invariant.so_far
          (line_cut bytes row from c.from-at.ensures) read.text read.written;
      zeros = λ below. zeros_kept row c.last_zeros_into-zeros.result _ c.loop-row.image c.read_row.new.image before read.kept (c.loop-row.invariant.zeros below);
    }

pub returns-then-zeros-lt16-clause-ok : goal.returns-then-zeros-lt16-clause-ok
returns-then-zeros-lt16-clause-ok c =
    let zeros = c.last_zeros_into-zeros.result in
    let image = c.loop-row.image in
    let below = c.if-zeros-lt16.true in
    let all = at_end _ zeros _ image _ (omega arith) c.loop-row.invariant.small c.loop-row.invariant.so_far in
    last_there zeros c.args.bytes.now image image (drop (52 * c.loop-row.row) c.args.bytes.now) below c.loop-row.invariant.long c.loop-row.invariant.long all.0 all.1 (c.last_zeros_into-zeros.ensures.zeros below)
    (zeros_last zeros (16 * (16 - zeros)) image (c.loop-row.invariant.zeros below))

pub returns-then-zeros-lt16-clause-image : goal.returns-then-zeros-lt16-clause-image
returns-then-zeros-lt16-clause-image c =
    let zeros = c.last_zeros_into-zeros.result in
    let image = c.loop-row.image in
    let below = c.if-zeros-lt16.true in
    let all = at_end _ zeros _ image _ (omega arith) c.loop-row.invariant.small c.loop-row.invariant.so_far in
    (c.loop-row.invariant.long, zeroed zeros image image below c.loop-row.invariant.long all.0 (zeros_last zeros (16 * (16 - zeros)) image (c.loop-row.invariant.zeros below)))

pub returns-then-bytes-ne10-clause-err : goal.returns-then-bytes-ne10-clause-err
returns-then-bytes-ne10-clause-err c =
    let bytes = c.args.bytes.now in
    let most = c.last_zeros_into-zeros.ensures.within in
    let past = c.loop-row-test.false in
    let all = at_end _ 16 bytes c.loop-row.image (drop (52 * c.loop-row.row) bytes) (omega arith) c.loop-row.invariant.small c.loop-row.invariant.so_far in
    let rest = ap (λ (k : ℕ). drop (52 * k) bytes) (let e : c.loop-row.row ≡ 16 = omega arith in e) in
    blank_stops bytes c.loop-row.image (drop (52 * 16) bytes) (get_or bytes 832 0) c.loop-row.invariant.long all.0 (subst (λ (t : List ℕ). bytes ≡ rows_text 0 16 (take (16 * 16) c.loop-row.image) ++ t) rest all.1) (blank_at bytes c.if-bytes-lt-LINES_LEN.false) c.if-bytes-ne10.true

pub returns-clause-ok : goal.returns-clause-ok
returns-clause-ok c =
    let bytes = c.args.bytes.now in
    let all = at_end _ 16 bytes c.loop-row.image (drop (52 * c.loop-row.row) bytes) (omega arith) c.loop-row.invariant.small c.loop-row.invariant.so_far in
    let rest = ap (λ (k : ℕ). drop (52 * k) bytes) (let e : c.loop-row.row ≡ 16 = omega arith in e) in
    blank_there bytes c.loop-row.image (drop (52 * 16) bytes) c.loop-row.invariant.long all.0 (subst (λ (t : List ℕ). bytes ≡ rows_text 0 16 (take (16 * 16) c.loop-row.image) ++ t) rest all.1)
    (blank_at bytes c.if-bytes-lt-LINES_LEN.false ∙ ap (λ (x : ℕ). x ∷ drop 1 (drop (52 * 16) bytes)) c.if-bytes-ne10.false)

pub returns-clause-image : goal.returns-clause-image
returns-clause-image c =
    let all = at_end _ 16 _ c.loop-row.image _ (omega arith) c.loop-row.invariant.small c.loop-row.invariant.so_far in
    (c.loop-row.invariant.long, subst AreSmall (whole_image _ c.loop-row.invariant.long) all.0)

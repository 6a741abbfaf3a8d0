use Rattle.std.proofs.Common.{◌-◌, ◌*◌, ℕ, arith, ap, refl}
use Rattle.pci_dump.proofs.Tails.{zeros_start, zeros_next, zeros_at}
use Rattle.pci_dump.proofs.tail.first_of_last_zeros.Goals as goal

pub loop-count-init : goal.loop-count-init
loop-count-init c = zeros_start c.args.bytes.now c.if-bytes-lt-LINES_LEN.false c.if-bytes-ne10.false

pub loop-count-preserved : goal.loop-count-preserved
loop-count-preserved c =
    let few = c.loop-count-test.true in
    zeros_next c.args.bytes.now c.loop-count.count (15 - c.loop-count.count) (52 * c.from-at.result) (omega (arith, few)) refl (ap (λ (n : ℕ). 52 * n) c.from-at.ensures) c.loop-count.invariant (c.is_zero_row.ensures c.if-not-is_zero_row.false)

pub returns-clause-zeros : goal.returns-clause-zeros
returns-clause-zeros c = λ below.
    let past = c.loop-count-test.false in
    let end = c.loop-count.auto.count-end in
    zeros_at c.args.bytes.now (16 - c.loop-count.count) 4 c.loop-count.count 12 c.loop-count.invariant (omega (arith, past, end)) (omega (arith, past, end))

use Rattle.std.proofs.Common.{arith, ap, sym, ◌∙◌, ◌≢◌, ◌+◌, ◌*◌, subst}
use Rattle.judge_spec.specs.ToldForm.{digits_of}
use Rattle.pci_dump.specs.ToldPlaces.{field_of}
use Rattle.pci_dump.proofs.ToldDigits.{digit_none, digit_some}
use Rattle.pci_dump.proofs.ToldAddresses.{AreDigitsTaken, begin_with, one_taken, within_small}
use Rattle.pci_dump.proofs.told_line.Line.take_more_digits.Goals as goal
use Rattle.pci_dump.proofs.told_line.Line.take_more_digits.Goals.{then-loop-read-test+else-count-bytes, else-loop-read-test, then-loop-read-test+then-count-bytes+in_default}

pub overflow_mul-number : goal.overflow_mul-number
overflow_mul-number c =
    let small = within_small c.args.self.now (field_of c.args.field) c.args.read c.loop-read.read c.loop-read.number c.loop-read.count c.args.bytes.now c.loop-read.invariant in
    omega (arith, small)

pub overflow_add-number : goal.overflow_add-number
overflow_add-number c =
    let small = within_small c.args.self.now (field_of c.args.field) c.args.read c.loop-read.read c.loop-read.number c.loop-read.count c.args.bytes.now c.loop-read.invariant in
    let digit = c.in-Some.ensures.some.0 in
    let same = c.from.ensures in
    omega (arith, small, digit, same)

pub loop-read-preserved : goal.loop-read-preserved
loop-read-preserved c =
    let less = c.loop-read-test.true in
    let some = c.if-count-bytes.true in
    let small = c.in-Some.ensures.some.0 in
    let most = c.digits_of-most.ensures in
    let same = most ∙ ap (digits_of (field_of c.args.field)) (ap (λ b. b.range.space) c.self-inside.view_is ∙ ap (λ b. b.range.space) c.self.view_is) in
    let more : c.loop-read.read + 1 ≢ digits_of (field_of c.args.field) c.args.self.now.range.space = λ e. (let no : ⊥ = omega (arith, less, same, e) in no) in
    subst (λ n. AreDigitsTaken c.args.self.now (field_of c.args.field) c.args.read (c.loop-read.read + 1) (16 * c.loop-read.number + n) (c.loop-read.count + 1) c.args.bytes.now) (sym c.from.ensures)
    (one_taken c.args.self.now (field_of c.args.field) c.args.read c.loop-read.read c.loop-read.number c.in-Some.digit c.loop-read.count c.args.bytes.now c.requires.address more (omega (arith, some))
    (digit_some _ c.in-Some.digit (omega (arith, small)) c.in-Some.ensures.some.1) (omega (arith, small)) c.loop-read.invariant)

pub returns-clause-count : goal.returns-clause-count
returns-clause-count c =
    let most = c.digits_of-most.ensures in
    let same = most ∙ ap (digits_of (field_of c.args.field)) (ap (λ b. b.range.space) c.self-inside.view_is ∙ ap (λ b. b.range.space) c.self.view_is) in
    begin_with c.args.self.now (field_of c.args.field) c.args.read c.loop-read.read c.loop-read.number c.loop-read.count c.args.bytes.now c.requires.address c.requires.place c.loop-read.invariant
    (λ less more. elim c.loop-read-test.branch [
      | then-loop-read-test+else-count-bytes w ↦ absurd (let end = w.if-count-bytes.false in let no : ⊥ = omega (arith, less, end) in no)
      | else-loop-read-test w ↦ absurd (let over = w.loop-read-test.false in let no : ⊥ = omega (arith, more, over, same) in no)
      | then-loop-read-test+then-count-bytes+in_default w ↦ digit_none _ w.digit_value.result w.in_default.is w.digit_value.ensures.found
    ])

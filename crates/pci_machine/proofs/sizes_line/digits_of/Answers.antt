use Rattle.std.proofs.Common.{arith, sym, ◌∙◌, ap}
use Rattle.pci_spec.specs.Text.{hex_digit}
use Rattle.pci_machine.proofs.SizesLines.{spelled_small, spelled_more, digit_at}
use Rattle.pci_machine.proofs.sizes_line.digits_of.Goals as goal

pub returns-in-None-clause-none : goal.returns-in-None-clause-none
returns-in-None-clause-none c = λ f. let d = digit_at c.args.digits.now c.loop-place.place (omega arith) f in absurd (let e = c.in-None.ensures.found d.0 d.1 d.2 in cc)

pub overflow_mul-number : goal.overflow_mul-number
overflow_mul-number c = let small = spelled_small c.args.digits.now c.loop-place.place c.loop-place.number (omega arith) c.loop-place.invariant in omega (arith, small)

pub overflow_add-number : goal.overflow_add-number
overflow_add-number c =
    let small = spelled_small c.args.digits.now c.loop-place.place c.loop-place.number (omega arith) c.loop-place.invariant in
    let digit = c.in-Some.ensures.some in
    let from = c.from.ensures in
    omega (arith, small, digit.0, from)

pub loop-place-preserved : goal.loop-place-preserved
loop-place-preserved c =
    let from = c.from.ensures in
    let digit = c.in-Some.ensures.some in
    spelled_more c.args.digits.now c.loop-place.place c.loop-place.number c.from.result (omega arith) c.loop-place.invariant (omega (arith, digit.0, from), digit.1 ∙ ap hex_digit (sym from))

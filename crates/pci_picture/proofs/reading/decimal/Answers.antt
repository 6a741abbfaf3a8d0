use Rattle.std.proofs.Common.{Some, sym, ap, ◌∙◌, arith}
use Rattle.pci_picture.proofs.DecimalDigits.{digit_bound, digit_fits, value_kept, all_kept}
use Rattle.pci_picture.proofs.reading.decimal.Goals as goal

pub overflow_mul-number : goal.overflow_mul-number
overflow_mul-number c =
    let low = digit_fits c.loop-digit.number c.in_ok-value.value c.loop-digit.digit-index c.loop-digit.invariant.bound c.in_ok-value.ensures.small (omega (arith, c.requires)) in
    omega (arith, low)

pub overflow_add-number : goal.overflow_add-number
overflow_add-number c =
    let low = digit_fits c.loop-digit.number c.in_ok-value.value c.loop-digit.digit-index c.loop-digit.invariant.bound c.in_ok-value.ensures.small (omega (arith, c.requires)) in
    omega (arith, low)

pub loop-digit-preserved : goal.loop-digit-preserved
loop-digit-preserved c =
    let digits = c.args.digits.now in
    let i = c.loop-digit.digit-index in
    let read = sym c.decimal_digit.ensures.exact ∙ c.in_ok-value.was ∙ ap Some (sym c.from.ensures) in
    record {
      value = value_kept digits i c.loop-digit.number c.from.result _ (omega arith) read c.loop-digit.invariant.value;
      bound = digit_bound c.loop-digit.number c.from.result i c.loop-digit.invariant.bound (omega (arith, c.in_ok-value.ensures.small, c.from.ensures));
      all = all_kept digits i c.from.result _ (omega arith) read c.loop-digit.invariant.all;
    }

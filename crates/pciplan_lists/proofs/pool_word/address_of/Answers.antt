use Rattle.std.proofs.Common.{◌≡◌, length, sym, ap, arith}
use Rattle.std.proofs.lemmas.Bool.{eqb-true}
use Rattle.std.proofs.lemmas.Option.{none-some}
use Rattle.pciplan_lists.proofs.PoolWords.{below_most, length_address, other_byte}
use Rattle.pciplan_lists.proofs.pool_word.address_of.Goals as goal
use Rattle.pciplan_lists.proofs.pool_word.address_of.Goals.{then-is_empty-via-then-is_empty, then-is_empty-via-else-is_empty+then-bytes-gt-DIGITS_MAX}

pub overflow_mul-address : goal.overflow_mul-address
overflow_mul-address c =
    let small = below_most c.loop-byte.byte-index c.loop-byte.address (omega arith) c.loop-byte.invariant.below in
    omega (arith, small)

pub overflow_add-address : goal.overflow_add-address
overflow_add-address c =
    let small = below_most c.loop-byte.byte-index c.loop-byte.address (omega arith) c.loop-byte.invariant.below in
    omega (arith, small)

pub overflow_cast-result : goal.overflow_cast-result
overflow_cast-result c =
    let small = below_most c.loop-byte.byte-index c.loop-byte.address (omega arith) c.loop-byte.invariant.below in
    omega (arith, small)

pub returns-then-is_empty : goal.returns-then-is_empty
returns-then-is_empty c = λ address is.
    let len = length_address c.args.word.now address is in
    elim c.then-is_empty.branch [
      | then-is_empty-via-then-is_empty w ↦
          let none : length c.as_bytes-bytes.result.now ≡ 0 = eqb-true _ 0 (sym w.if-is_empty.ensures) in
          omega (arith, len, is.some, none, ap length c.as_bytes-bytes.ensures.value)
      | then-is_empty-via-else-is_empty+then-bytes-gt-DIGITS_MAX w ↦ omega (arith, len, is.few)
    ]

pub returns-in_err-digit_value : goal.returns-in_err-digit_value
returns-in_err-digit_value c =
    rw c.from_residual.ensures (other_byte c.args.word.now c.as_bytes-bytes.result.now c.loop-byte.byte-index c.as_bytes-bytes.ensures.value (omega arith)
    (λ d small e. none-some d (c.in_err-digit_value.ensures.found d small (sym e))))

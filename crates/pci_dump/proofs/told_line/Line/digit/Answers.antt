use Rattle.std.proofs.Common.{arith, ap}
use Rattle.pci_dump.proofs.ToldDigits.{small_number}
use Rattle.pci_dump.proofs.told_line.Line.digit.Goals as goal

pub overflow_mul-number : goal.overflow_mul-number
overflow_mul-number c =
    let small = small_number _ _ _ _ c.requires.fits in
    let a = ap (λ b. b.number) c.self.view_is in
    let b = ap (λ b. b.number) c.self-inside.view_is in
    omega (arith, small, a, b)

pub overflow_add-number : goal.overflow_add-number
overflow_add-number c =
    let small = small_number _ _ _ _ c.requires.fits in
    let a = ap (λ b. b.number) c.self.view_is in
    let b = ap (λ b. b.number) c.self-inside.view_is in
    let digit = c.requires.digit in
    let same = c.from.ensures in
    omega (arith, small, a, b, digit, same)

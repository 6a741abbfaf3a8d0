use Rattle.std.proofs.Common.{Some, ap, arith}
use Rattle.pci_here.proofs.Names.{domain_small, domain_same}
use Rattle.pci_here.proofs.place.domain_of_word.Goals as goal

pub returns-in_err-address_of-clause-only : goal.returns-in_err-address_of-clause-only
returns-in_err-address_of-clause-only c = λ domain is. absurd (c.in_err-address_of.ensures domain is.number)

pub overflow_cast-result : goal.overflow_cast-result
overflow_cast-result c =
    let small = domain_small c.args.word.now c.in_ok-address_of.field-0 c.in_ok-address_of.ensures (omega (arith, c.if-word-gt-DIGITS_MAX.false)) in
    omega (arith, small)

pub returns-clause-only : goal.returns-clause-only
returns-clause-only c = λ domain is. ap Some (domain_same c.args.word.now c.in_ok-address_of.field-0 domain c.in_ok-address_of.ensures is)

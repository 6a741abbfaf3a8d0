use Rattle.std.proofs.Common.{SomeIff, ◌<◌, ◌^◌, subst, arith}
use Rattle.pci_first_fit.proofs.Raised.{raised_even, raised_up}
use Rattle.pci_first_fit.proofs.spot.raised.Goals as goal

pub returns-then-over-eq0 : goal.returns-then-over-eq0
returns-then-over-eq0 c =
    let is = raised_even c.args.alignment c.args.from c.requires.some c.if-over-eq0.true in
    let low = c.ranges.from.fits in
    (omega (arith, is, low), is)

pub returns-else-over-eq0 : goal.returns-else-over-eq0
returns-else-over-eq0 c =
    subst (λ n. SomeIff c.checked_add.result (n < 2 ^ 64) n) (raised_up c.args.alignment c.args.from c.requires.some c.if-over-eq0.false) c.checked_add.ensures

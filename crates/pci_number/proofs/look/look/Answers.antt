use Rattle.std.proofs.Common.{arith, sym, ◌∙◌, ap, subst}
use Rattle.std.specs.Bool.{◌==◌}
use Rattle.std.proofs.lemmas.Bool.{eq-eqb, ne_eqb}
use Rattle.pci_number.specs.Access.{IsByteRead}
use Rattle.pci_number.proofs.Looks.{not_looked, none_first, none_later, there_first, there_later}
use Rattle.pci_number.proofs.look.look.Goals as goal

pub returns-then-not-more-clause-looked : goal.returns-then-not-more-clause-looked
returns-then-not-more-clause-looked g c = λ v high last device rest is seen low past has.
    not_looked v high last c.args.slot device c.args.more rest (g.P.BoardPort.board c.args.port.now) is seen low past has
    (ap (λ n. n == 0) (sym c.fun-first.ensures.number) ∙ ne_eqb c.fun-first.result 0 c.if-not-first.true) c.if-not-more.true

pub returns-then-first-clause-looked : goal.returns-then-first-clause-looked
returns-then-first-clause-looked g c = λ v high last device rest is seen low past has.
    none_first v high last c.args.slot device c.args.more rest (g.P.BoardPort.board c.args.port.now) is seen low past has
    c.in_ok-low.low c.in_ok-high.high c.in_ok-low.ensures.value (subst (λ b. IsByteRead b c.args.slot 1 c.in_ok-high.high) c.in_ok-low.ensures.same c.in_ok-high.ensures.value)
    (omega (arith, c.from.ensures, c.from-2.ensures, c.if-vendor.true)) (ap (λ n. n == 0) (sym c.fun-first.ensures.number) ∙ eq-eqb c.fun-first.result 0 c.if-first.true)

pub returns-else-first-clause-looked : goal.returns-else-first-clause-looked
returns-else-first-clause-looked g c = λ v high last device rest is seen low past has.
    none_later v high last c.args.slot device c.args.more rest (g.P.BoardPort.board c.args.port.now) is seen low past has
    c.in_ok-low.low c.in_ok-high.high c.in_ok-low.ensures.value (subst (λ b. IsByteRead b c.args.slot 1 c.in_ok-high.high) c.in_ok-low.ensures.same c.in_ok-high.ensures.value)
    (omega (arith, c.from.ensures, c.from-2.ensures, c.if-vendor.true))

pub returns-then-first-2-clause-looked : goal.returns-then-first-2-clause-looked
returns-then-first-2-clause-looked g c = λ v high last device rest is seen low past has.
    let low_high = c.in_ok-low.ensures.same in
    there_first v high last c.args.slot device c.args.more rest (g.P.BoardPort.board c.args.port.now) is seen low past has
    c.in_ok-low.low c.in_ok-high.high c.in_ok-header.header c.in_ok-low.ensures.value (subst (λ b. IsByteRead b c.args.slot 1 c.in_ok-high.high) low_high c.in_ok-high.ensures.value)
    (λ none. c.if-vendor.false (omega (arith, c.from.ensures, c.from-2.ensures, none)))
    (subst (λ b. IsByteRead b c.args.slot 14 c.in_ok-header.header) (c.in_ok-high.ensures.same ∙ low_high) c.in_ok-header.ensures.value)
    (ap (λ n. n == 0) (sym c.fun-first.ensures.number) ∙ eq-eqb c.fun-first.result 0 c.if-first-2.true)

pub returns-else-first-2-clause-looked : goal.returns-else-first-2-clause-looked
returns-else-first-2-clause-looked g c = λ v high last device rest is seen low past has.
    let low_high = c.in_ok-low.ensures.same in
    there_later v high last c.args.slot device c.args.more rest (g.P.BoardPort.board c.args.port.now) is seen low past has
    c.in_ok-low.low c.in_ok-high.high c.in_ok-header.header c.in_ok-low.ensures.value (subst (λ b. IsByteRead b c.args.slot 1 c.in_ok-high.high) low_high c.in_ok-high.ensures.value)
    (λ none. c.if-vendor.false (omega (arith, c.from.ensures, c.from-2.ensures, none)))
    (subst (λ b. IsByteRead b c.args.slot 14 c.in_ok-header.header) (c.in_ok-high.ensures.same ∙ low_high) c.in_ok-header.ensures.value)
    (ap (λ n. n == 0) (sym c.fun-first.ensures.number) ∙ ne_eqb c.fun-first.result 0 c.if-first-2.false)

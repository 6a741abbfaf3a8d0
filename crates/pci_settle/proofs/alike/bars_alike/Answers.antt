use Rattle.std.proofs.Common.{◌∙◌, ◌&&◌, ◌+◌, ap, subst, ◌<◌}
use Rattle.std.proofs.lemmas.Bool.{not-false}
use Rattle.pci_settle.proofs.AlikeParts.{alike_from, next_bar}
use Rattle.pci_settle.proofs.alike.bars_alike.Goals as goal

pub loop-n-preserved : goal.loop-n-preserved
loop-n-preserved c =
    let one = c.args.one.now in
    let other = c.args.other.now in
    c.loop-n.invariant ∙ next_bar one other c.loop-n.n c.args.count (subst (λ end. c.loop-n.n < end) c.from-n-end.ensures c.loop-n-test.true)
    ∙ ap (λ b. b && alike_from one other (c.loop-n.n + 1) c.args.count) (not-false _ c.if-one-n.false)

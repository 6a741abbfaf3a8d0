use Rattle.std.proofs.Common.{◌∙◌, sym}
use Rattle.std.proofs.lemmas.Bool.{eqb-true}
use Rattle.pci_settle_places.proofs.Stretching.{split_is, stretches_more, stretches_all}
use Rattle.pci_settle_places.proofs.stretch.stretches.Goals as goal

pub loop-rest-preserved : goal.loop-rest-preserved
loop-rest-preserved g c =
    stretches_more c.args.lines.now c.loop-rest.rest.now c.split_at.result.0.now c.split_at.result.1.now c.loop-rest.all.items c.push.new.self.items c.stretch_of.result c.loop-rest.invariant
    (split_is c.min.result c.loop-rest.rest.now c.split_at.result.0.now c.split_at.result.1.now c.split_at.ensures.front c.split_at.ensures.back)
    c.in_ok-push.ensures.items c.stretch_of.ensures.rows c.stretch_of.ensures.covered

pub returns : goal.returns
returns g c =
    stretches_all c.args.lines.now c.loop-rest.rest.now c.loop-rest.all.items (eqb-true _ _ (sym c.is_empty.ensures ∙ c.loop-rest-test.false)) c.loop-rest.invariant

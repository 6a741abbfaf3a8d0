use Rattle.std.proofs.lemmas.Result.{IfOk-weaker}
use Rattle.pci_base.specs.Space.{space_of, kind_in}
use Rattle.pci_claims.specs.Values.{code_given_value, told_value}
use Rattle.pci_why.proofs.Roomy.{ready_kept}
use Rattle.pci_why.proofs.fits.fit_by.Goals as goal

pub returns-clause-kept : goal.returns-clause-kept
returns-clause-kept g c =
    IfOk-weaker c.fit_in.result _ _
    (λ o fits. ready_kept (told_value c.args.judged.now.told.now) (code_given_value c.args.judged.now.given.now) c.args.judged.now.outline.now c.args.moving.now.region.slot (kind_in (space_of c.args.moving.now.space) c.args.moving.now.region.prefetch) c.make_ready.new.kept
    c.in_ok-make_ready.ensures)
    c.fit_in.ensures.exact

pub returns-clause-exact : goal.returns-clause-exact
returns-clause-exact g c =
    IfOk-weaker c.fit_in.result _ _
    (λ o fits. fits (told_value c.args.judged.now.told.now) (code_given_value c.args.judged.now.given.now) c.args.judged.now.outline.now c.in_ok-make_ready.ensures)
    c.fit_in.ensures.exact

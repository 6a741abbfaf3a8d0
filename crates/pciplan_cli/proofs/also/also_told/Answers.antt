use Rattle.std.proofs.Common.{◌∙◌, subst}
use Rattle.pciplan_cli.specs.AlsoTexts.{IsAlsoAt}
use Rattle.pciplan_cli.specs.CarriedOut.{texts}
use Rattle.pciplan_cli.proofs.AlsoTexts.{no_path}
use Rattle.pciplan_cli.proofs.also.also_told.Goals as goal

pub returns-clause-said : goal.returns-clause-said
returns-clause-said g c =
    subst (λ path. IsAlsoAt (texts (g.T.Opening.stands c.args.text.now) (g.T.Opening.bytes_at c.args.text.now)) path c.also_at.result) c.also_path.ensures c.also_at.ensures.said

pub returns-clause-unopened : goal.returns-clause-unopened
returns-clause-unopened g c = λ none. c.also_at.ensures.unopened (no_path c.also_path.result (c.also_path.ensures ∙ none))

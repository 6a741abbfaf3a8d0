use Rattle.std.specs.String.{string_bytes}
use Rattle.std.proofs.lemmas.Result.{on_ok_weaker}
use Rattle.pci_spec.specs.Mark.{all_named}
use Rattle.pci_claims.specs.Values.{told_value}
use Rattle.pci_why.proofs.why.push_advice.Goals as goal

pub returns-in-Some-clause-told : goal.returns-in-Some-clause-told
returns-in-Some-clause-told g c = on_ok_weaker c.push_fits.result
    (λ told. (rw c.in-Some.is at c.to_move.ensures) (all_named c.args.judged.now.probe.now) (told_value c.args.judged.now.told.now) c.args.judged.now.outline.now (string_bytes c.args.text.now) (string_bytes c.push_fits.new.text) told)
    c.push_fits.ensures.told

pub returns-in-None-clause-told : goal.returns-in-None-clause-told
returns-in-None-clause-told g c =
    (rw c.in-None.is at c.to_move.ensures) (all_named c.args.judged.now.probe.now) (told_value c.args.judged.now.told.now) c.args.judged.now.outline.now (string_bytes c.args.text.now)

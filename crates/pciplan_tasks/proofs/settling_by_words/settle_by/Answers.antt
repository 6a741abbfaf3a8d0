use Rattle.std.proofs.Common.{sym, ◌∙◌, ap}
use Rattle.pci_spec.specs.Text.{slots_of}
use Rattle.pciplan_tasks.proofs.ByWords.{as_they_are, differ_by}
use Rattle.pciplan_tasks.proofs.settling_by_words.settle_by.Goals as goal

pub returns-then-is_some : goal.returns-then-is_some
returns-then-is_some g c =
    as_they_are c.args.request.now.words c.args.request.now c.args.printed c.args.dump c.args.probe c.settle_pair-then-is_some.result
    (λ same. differ_by c.blocks-2.result.now c.blocks-3.result.now c.first_difference.result (sym c.is_some.ensures ∙ c.if-is_some.true) c.first_difference.ensures.some
    (ap slots_of c.blocks-2.ensures.value ∙ same ∙ sym (ap slots_of c.blocks-3.ensures.value)))
    c.settle_pair-then-is_some.ensures

use Rattle.std.proofs.Common.{◌∙◌, ap}
use Rattle.judge_spec.specs.Windows.{with_number}
use Rattle.settle_spec.specs.Keeping.Registers.{settled_image}
use Rattle.pci_settle_places.proofs.Commands.{command_is}
use Rattle.pci_settle_places.proofs.settled.settled_function.Goals as goal

pub returns : goal.returns
returns c = λ q s keep f shown placed told.
    c.write.ensures
    ∙ ap (λ image. with_number 2 4 c.into.result image) (c.settled_image-settled.ensures q s keep f shown placed)
    ∙ ap (λ n. with_number 2 4 n (settled_image q s keep f)) (c.into.ensures ∙ c.settled_command-command.ensures
    ∙ command_is q s keep f c.args.«record».now c.args.places.now placed.places c.args.above c.args.terms c.args.behind told)

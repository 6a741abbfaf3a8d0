use Rattle.std.proofs.Common.{sym, ◌∙◌}
use Rattle.std.specs.Option.{option_map}
use Rattle.pci_base.specs.Ranges.{decoded_range_of}
use Rattle.pci_grow.proofs.Clear.{first_by_nearest, last_by_nearest, cleared_is}
use Rattle.pci_grow.proofs.room.between.Goals as goal

pub returns-clause-clear : goal.returns-clause-clear
returns-clause-clear c = λ beside below above.
    let w = decoded_range_of c.args.window in
    let r = decoded_range_of c.args.room in
    cleared_is w r beside _ _
    (c.first_free.ensures ∙ sym (first_by_nearest w r beside (option_map decoded_range_of c.args.before) below))
    (c.last_free.ensures ∙ sym (last_by_nearest w r beside (option_map decoded_range_of c.args.behind) above))

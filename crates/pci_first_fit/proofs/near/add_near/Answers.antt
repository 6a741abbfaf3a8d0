use Rattle.std.proofs.Common.{◌++◌, ap, ◌∙◌}
use Rattle.std.specs.List.{filter}
use Rattle.std.proofs.lemmas.List.{take_all}
use Rattle.pci_first_fit.specs.Spots.{is_near}
use Rattle.pci_first_fit.proofs.near.add_near.Goals as goal

pub returns : goal.returns
returns g c =
    c.loop-other.invariant
    ∙ ap (λ xs. c.args.out.now.items ++ filter (is_near c.args.ranges.now) xs) (take_all c.loop-other.other-index c.args.others.now c.loop-other-test.false)

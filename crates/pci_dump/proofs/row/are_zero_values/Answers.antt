use Rattle.std.proofs.Common.{refl}
use Rattle.pci_dump.specs.declared.row.TheConstants.{ZERO_VALUES}
use Rattle.pci_dump.proofs.Tails.{three_same}
use Rattle.pci_dump.proofs.row.are_zero_values.Goals as goal

pub returns : goal.returns
returns c = λ e.
    let all = c.either_of-2.ensures.zero.0 (c.are_zero.ensures.yes e) in
    let rest = c.either_of.ensures.zero.0 all.1 in
    three_same c.args.values.now ZERO_VALUES c.requires refl (c.difference-first.ensures.same all.0) (c.difference-second.ensures.same rest.0) (c.difference-third.ensures.same rest.1)

use Rattle.std.proofs.Common.{refl}
use Rattle.pci_dump.specs.declared.row.TheConstants.{ZEROS}
use Rattle.pci_dump.proofs.Tails.{three_same}
use Rattle.pci_dump.proofs.row.are_zeros.Goals as goal

pub returns : goal.returns
returns c = λ e.
    let rest = c.either_of.ensures.zero.0 (c.are_zero.ensures.yes e) in
    three_same c.args.cells.now ZEROS c.requires refl (c.begin_zeros.ensures c.if-not-begin_zeros.false) (c.difference-second.ensures.same rest.0) (c.difference-third.ensures.same rest.1)

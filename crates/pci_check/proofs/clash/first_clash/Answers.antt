use Rattle.pci_check.proofs.Clashing.{first_in_io, first_in_memory}
use Rattle.pci_check.proofs.clash.first_clash.Goals as goal

pub returns-in-Some : goal.returns-in-Some
returns-in-Some g c t reached io memory = first_in_io t c.args.bus c.in-Some.fault ((rw c.in-Some.is at c.clash_in.ensures) t reached io)

pub returns : goal.returns
returns g c t reached io memory =
    first_in_memory t c.args.bus c.clash_in-2.result ((rw c.in_default.is at c.clash_in.ensures) t reached io) (c.clash_in-2.ensures t reached memory)

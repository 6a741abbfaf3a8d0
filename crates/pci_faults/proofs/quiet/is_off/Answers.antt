use Rattle.std.proofs.Common.{arith}
use Rattle.std.proofs.lemmas.Bool.{ltb-true}
use Rattle.pci_faults.proofs.quiet.is_off.Goals as goal

pub returns-in-None : goal.returns-in-None
returns-in-None c off a first last covers = absurd (c.in-None.ensures a first covers)

pub returns-in-Some : goal.returns-in-Some
returns-in-Some c below a first last covers =
    let less = ltb-true _ _ below in
    absurd (c.in-Some.ensures.least a first (omega (arith, less, last)) covers)

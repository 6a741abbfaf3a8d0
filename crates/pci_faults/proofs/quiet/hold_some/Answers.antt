use Rattle.std.proofs.Common.{length, sym, ◌∙◌, subst}
use Rattle.std.proofs.lemmas.Bool.{eqb-true}
use Rattle.pci_base.specs.declared.space.Space.{Space}
use Rattle.pci_base.specs.Space.{space_of}
use Rattle.pci_faults.specs.Quiet.{HoldNothing}
use Rattle.pci_faults.proofs.Quieting.{none_hold, no_memory, not_false}
use Rattle.pci_faults.proofs.quiet.hold_some.Goals as goal

pub returns-in-Io : goal.returns-in-Io
returns-in-Io c off = subst (λ (s : Space). HoldNothing (space_of s) c.args.palette.now) (sym c.in-Io.is)
    (none_hold c.args.palette.now (eqb-true (length c.args.palette.now) 0 (sym c.is_empty.ensures ∙ not_false c.is_empty.result off)))

pub returns-in-Mem : goal.returns-in-Mem
returns-in-Mem c off = subst (λ (s : Space). HoldNothing (space_of s) c.args.palette.now) (sym c.in-Mem.is) (no_memory c.args.palette.now)

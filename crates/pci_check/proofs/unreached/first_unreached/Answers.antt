use Rattle.std.proofs.Common.{subst}
use Rattle.std.proofs.Common.{Option, ℕ}
use Rattle.pci_spec.specs.System.{Io, Memory}
use Rattle.pci_check.specs.Stops.{IsOutsideAnswer}
use Rattle.pci_check.proofs.Homes.{none_outside, found_in_io, found_in_memory}
use Rattle.pci_check.proofs.unreached.first_unreached.Goals as goal

pub returns-in-Neither : goal.returns-in-Neither
returns-in-Neither g c =
    none_outside c.args.outline.now c.args.reached.now c.requires.reached c.requires.nested c.args.bus c.args.io.now c.args.memory.now c.requires.io c.requires.memory
    (subst (λ (o : Option ℕ). IsOutsideAnswer c.args.reached.now Io c.args.bus c.args.io.now o) c.in-Neither.ensures.0 c.first_outside-in_io.ensures)
    (subst (λ (o : Option ℕ). IsOutsideAnswer c.args.reached.now Memory c.args.bus c.args.memory.now o) c.in-Neither.ensures.1 c.first_outside-in_memory.ensures)

pub returns-in-Io : goal.returns-in-Io
returns-in-Io g c =
    found_in_io c.args.outline.now c.args.reached.now c.requires.reached c.requires.nested c.args.bus c.args.io.now c.args.memory.now c.requires.io c.requires.memory
    c.in-Io.k c.index-io-k.result c.first_outside-in_io.result c.first_outside-in_memory.result c.unreached_at.result c.first_outside-in_io.ensures c.first_outside-in_memory.ensures
    c.in-Io.ensures.0 c.in-Io.ensures.1 c.index-io-k.is c.unreached_at.ensures.fault

pub returns-in-Memory : goal.returns-in-Memory
returns-in-Memory g c =
    found_in_memory c.args.outline.now c.args.reached.now c.requires.reached c.requires.nested c.args.bus c.args.io.now c.args.memory.now c.requires.io c.requires.memory
    c.in-Memory.k c.index-memory-k.result c.first_outside-in_io.result c.first_outside-in_memory.result c.unreached_at-in-Memory.result c.first_outside-in_io.ensures c.first_outside-in_memory.ensures
    c.in-Memory.ensures.0 c.in-Memory.ensures.1 c.index-memory-k.is c.unreached_at-in-Memory.ensures.fault

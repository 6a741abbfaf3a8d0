use Rattle.std.proofs.Common.{ap, sym, ◌∙◌, arith}
use Rattle.pci_base.specs.Ranges.{decoded_range_of}
use Rattle.pci_function.specs.declared.record.Record.{Record}
use Rattle.pci_spec.specs.Window.{MemoryWindow}
use Rattle.settle_spec.specs.Parts.{holds_range}
use Rattle.pci_kept.proofs.OverBus.{none_over, memory_over}
use Rattle.pci_kept.proofs.told_line.is_in_memory_window.Goals as goal

pub returns-in_default : goal.returns-in_default
returns-in_default c = λ q s tree.
    sym (ap (holds_range MemoryWindow (decoded_range_of c.args.range)) (none_over q s c.args.records.now tree c.args.bus (omega arith) c.args.over.now c.requires c.in_default.is))

pub returns-in-Some-bridge : goal.returns-in-Some-bridge
returns-in-Some-bridge c = λ q s tree.
    c.is_held.ensures
    ∙ memory_over q s c.args.records.now tree c.args.bus (omega arith) c.args.over.now c.requires c.in-Some.index c.in-Some.is c.index-records-index.result c.index-records-index.is
    c.in-Some-bridge.bridge (ap (λ (r : Record). r.bridge) c.index-records-index.is ∙ c.in-Some-bridge.is) (decoded_range_of c.args.range)

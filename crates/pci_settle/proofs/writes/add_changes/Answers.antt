use Rattle.pci_settle.specs.declared.writes.Span.{Span}
use Rattle.pci_settle.proofs.StagedWrites.{access_at}
use Rattle.pci_settle.proofs.writes.add_changes.Goals as goal

abbrev none : Span
none = record { offset = 0; width = 0 }

pub number-value-requires : goal.number-value-requires
number-value-requires g c = access_at c.args.spans.now c.requires c.loop-span.span-index none c.loop-span-test.true

pub number-requires : goal.number-requires
number-requires g c = access_at c.args.spans.now c.requires c.loop-span.span-index none c.loop-span-test.true

use Rattle.std.proofs.Common.{◌≡◌, ◌++◌, take}
use Rattle.pci_base.specs.WindowKinds.{kind_value}
use Rattle.pci_first_fit.specs.Own.{asked_bar_items}
use Rattle.pci_first_fit.proofs.own.add_bars.Given as goal

abbrev pub invariant-loop-bar : goal.invariant-loop-bar
invariant-loop-bar g l = l.items.items ≡ l.fn.items.items ++ asked_bar_items l.situation.function l.situation.probe.now.0 (kind_value l.situation.class) l.situation.over.now l.situation.terms l.situation.kept.now (take l.bar-index l.bars)

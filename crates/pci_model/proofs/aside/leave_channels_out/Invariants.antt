use Rattle.std.proofs.Common.{◌≡◌, take}
use Rattle.judge_spec.specs.Bytes.{without_bars}
use Rattle.pci_model.proofs.Channels.{left_out}
use Rattle.pci_model.proofs.aside.leave_channels_out.Given as goal

abbrev pub invariant-loop-bar : goal.invariant-loop-bar
invariant-loop-bar l = l.image.0 ≡ without_bars (left_out l.interface (take l.bar-index l.bars)) l.initial.image.0

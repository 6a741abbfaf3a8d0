use Rattle.std.specs.String.{string_bytes}
use Rattle.pci_map.proofs.Indents.{no_indent, many_more}
use Rattle.pci_map.proofs.line.push_steps.Goals as goal

pub loop-init : goal.loop-init
loop-init g c = no_indent (string_bytes c.args.text.now)

pub loop-preserved : goal.loop-preserved
loop-preserved g c = many_more (string_bytes c.args.text.now) (string_bytes c.loop.text) (string_bytes c.push_str.new.self) c.loop.counter c.loop.invariant c.in_ok-push_str.ensures.bytes

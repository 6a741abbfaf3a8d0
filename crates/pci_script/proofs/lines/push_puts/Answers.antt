use Rattle.std.specs.String.{string_bytes}
use Rattle.pci_script.proofs.Scripts.{puts_more}
use Rattle.pci_script.proofs.lines.push_puts.Goals as goal

pub loop-i-preserved : goal.loop-i-preserved
loop-i-preserved g c =
    puts_more c.args.form (string_bytes c.args.text.now) (string_bytes c.loop-i.text) (string_bytes c.push_put.new.text) c.args.writes.now c.loop-i.i c.index-writes-i.result c.loop-i-test.true
    c.index-writes-i.is c.loop-i.invariant c.in_ok-push_put.ensures

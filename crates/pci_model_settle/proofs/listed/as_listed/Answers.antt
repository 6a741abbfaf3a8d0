use Rattle.std.proofs.Common.{◌∙◌, ap, arith}
use Rattle.std.proofs.lemmas.List.{length-set}
use Rattle.pci_plan.specs.Writes.{write_value}
use Rattle.pci_model_settle.specs.Listed.{listed_write}
use Rattle.pci_model_settle.proofs.Puts.{next_made, next_rest}
use Rattle.pci_model_settle.proofs.listed.as_listed.Goals as goal

pub loop-i-preserved : goal.loop-i-preserved
loop-i-preserved c =
    let ws = c.loop-i.writes in
    let ys = c.args.writes.now in
    let i = c.loop-i.i in
    let low = c.loop-i-test.true in
    let long = c.loop-i.invariant.long in
    let w = c.index-writes-i.result in
    record {
      are = next_made write_value (listed_write c.args.dump.now) ws ys i c.listed_write.result w (omega (arith, low, long)) (omega (arith, low, long)) c.loop-i.invariant.are c.loop-i.invariant.rest
          (c.listed_write.ensures ∙ ap (λ x. listed_write c.args.dump.now (write_value x)) c.index-writes-i.is);
      rest = next_rest ws ys i c.listed_write.result c.loop-i.invariant.rest;
      long = length-set ws i c.listed_write.result ∙ long;
    }

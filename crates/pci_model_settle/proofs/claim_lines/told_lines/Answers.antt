use Rattle.std.proofs.Common.{arith}
use Rattle.pci_model_settle.proofs.MergedLines.{told_more}
use Rattle.pci_model_settle.proofs.claim_lines.told_lines.Goals as goal

pub loop-range-preserved : goal.loop-range-preserved
loop-range-preserved g c =
    let count = c.loop-range.invariant.count in
    record {
      count = omega (arith, count);
      same =
          told_more c.args.ranges.now c.loop-range.range-index c.loop-range.number c.range-item.result c.loop-range.out.items c.push.new.self.items c.told_line_of.result (omega arith) c.range-item.is c.loop-range.invariant.same count
          c.told_line_of.ensures c.in_ok-push.ensures.items;
    }

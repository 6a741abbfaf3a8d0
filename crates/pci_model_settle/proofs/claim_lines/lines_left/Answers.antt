use Rattle.std.proofs.Common.{length, arith, ap}
use Rattle.pci_claims.specs.Values.{legacy_value}
use Rattle.pci_model_settle.specs.ClaimLines.{part_lines}
use Rattle.pci_model_settle.proofs.MergedLines.{lines_within}
use Rattle.pci_model_settle.proofs.claim_lines.lines_left.Goals as goal

pub returns-then-left-count : goal.returns-then-left-count
returns-then-left-count c =
    let lines = part_lines c.args.part in
    let most = lines_within lines c.args.bridges.now c.loop-bridge.bridge-index c.bridge-item.result c.loop-bridge-test.true in
    let at = ap (λ b. length (lines (legacy_value b))) c.bridge-item.is in
    let before = c.loop-bridge.invariant in
    let less = c.if-left-count.true in
    let count = c.line_count-count.ensures.value in
    omega (arith, most, at, before, less, count)

use Rattle.std.proofs.Common.{◌≤◌, ◌∙◌, length, sym, ap, arith}
use Rattle.std.proofs.lemmas.List.{take_all}
use Rattle.pci_here.specs.Log.{registers_told, with_line}
use Rattle.pci_here.proofs.Logs.{line_more}
use Rattle.pci_here.proofs.log.Log.of_lines.Goals as goal

pub loop-line-preserved : goal.loop-line-preserved
loop-line-preserved c = λ p.
    c.in_ok-take.ensures p ∙ ap (λ before. with_line p before c.line-item.result) (c.loop-line.invariant p)
    ∙ sym (line_more p c.args.lines.now c.loop-line.line-index c.line-item.result c.loop-line-test.true (sym c.line-item.is))

pub returns : goal.returns
returns c = λ p.
    let all : length c.args.lines.now ≤ c.loop-line.line-index = omega arith in
    c.loop-line.invariant p ∙ ap (λ lines. registers_told lines p) (take_all c.loop-line.line-index c.args.lines.now all)

use Rattle.std.proofs.Common.{sym, ◌∙◌, ap, subst, length, arith}
use Rattle.pci_here.specs.HostRanges.{file_lines}
use Rattle.pci_here.specs.LogLine.{HasTold}
use Rattle.pci_here.specs.Parts.{parts_left}
use Rattle.pci_here.proofs.Logs.{told_none, told_all}
use Rattle.pci_here.proofs.log.lines_told.Goals as goal

pub lines-init : goal.lines-init
lines-init c =
    subst (λ found. HasTold (file_lines c.args.text.now) (file_lines c.args.text.now) found) (sym c.new-told.ensures.items) (told_none (file_lines c.args.text.now))

pub lines-preserved : goal.lines-preserved
lines-preserved c =
    c.in_ok-add_line.ensures (file_lines c.args.text.now) (parts_left 10 c.first_part.result.1)
    (subst (λ l. HasTold (file_lines c.args.text.now) l c.lines.told.items) (ap (parts_left 10) c.in-Some.is ∙ c.first_part.ensures) c.lines.invariant)

pub lines-smaller : goal.lines-smaller
lines-smaller c = omega (arith, ap (λ o. length (parts_left 10 o)) c.in-Some.is, ap length c.first_part.ensures)

pub returns : goal.returns
returns c = told_all (file_lines c.args.text.now) (parts_left 10 c.lines.left) c.lines.told.items (ap (parts_left 10) c.in_default.is) c.lines.invariant

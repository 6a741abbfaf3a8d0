use Rattle.std.proofs.Common.{take, length, sym, ◌∙◌, ap, subst, arith}
use Rattle.pci_spec.specs.Form.{Fits}
use Rattle.pci_spec.specs.SizesForm.{lines_cells}
use Rattle.pci_here.proofs.Resources.{enough_bytes, first_bytes, fits_lines, lines_there}
use Rattle.pci_here.proofs.resource.lines_of.Goals as goal

pub returns-then-bytes-lt-SEVEN_LINES : goal.returns-then-bytes-lt-SEVEN_LINES
returns-then-bytes-lt-SEVEN_LINES c = λ lines are.
    omega (arith, enough_bytes c.args.text.now lines are, ap length c.as_bytes-bytes.ensures.value, c.if-bytes-lt-SEVEN_LINES.true)

pub returns-then-lines_into : goal.returns-then-lines_into
returns-then-lines_into c =
    lines_there c.args.text.now c.as_bytes-bytes.result.now c.lines_into.new.lines c.as_bytes-bytes.ensures.value c.lines_into.ensures.seven
    (c.lines_into.ensures.yes c.if-lines_into.true)

pub returns-else-lines_into : goal.returns-else-lines_into
returns-else-lines_into c = λ lines are.
    c.lines_into.ensures.no c.if-lines_into.false
    (subst (λ t. Fits (lines_cells 7) t) (sym (ap (λ t. take 399 t) c.as_bytes-bytes.ensures.value ∙ first_bytes c.args.text.now lines are))
    (fits_lines lines are.seven are.each))

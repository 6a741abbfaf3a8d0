use Rattle.std.proofs.Common.{arith}
use Rattle.pci_spec.specs.Form.{Fits}
use Rattle.pci_spec.specs.SizesForm.{resource_cells}
use Rattle.pci_machine.proofs.SizesLines.{line_there, line_cells, if_none, no_line_there}
use Rattle.pci_machine.proofs.sizes_line.line_of.Goals as goal
use Rattle.pci_machine.proofs.sizes_line.line_of.Goals.{then-text-ne32-via-then-text-ne32, then-text-ne32-via-else-text-ne32+then-text-ne32-2, then-text-ne32-via-else-text-ne32+else-text-ne32-2+then-text-ne10}

pub returns-then-text-ne32-clause-none : goal.returns-then-text-ne32-clause-none
returns-then-text-ne32-clause-none c = λ f.
    let p = line_cells c.args.text.now f in
    elim c.then-text-ne32.branch [
      | then-text-ne32-via-then-text-ne32 w ↦ w.if-text-ne32.true p.space
      | then-text-ne32-via-else-text-ne32+then-text-ne32-2 w ↦ w.if-text-ne32-2.true p.next_space
      | then-text-ne32-via-else-text-ne32+else-text-ne32-2+then-text-ne10 w ↦ w.if-text-ne10.true p.end
    ]

pub returns-in_err-number_of-2-clause-none : goal.returns-in_err-number_of-2-clause-none
returns-in_err-number_of-2-clause-none c = if_none c.from_residual-in_err-number_of-2.result (Fits resource_cells c.args.text.now → ⊥) (λ f. c.in_err-number_of-2.ensures.none (line_cells c.args.text.now f).last)

pub returns-in_err-number_of-3-clause-none : goal.returns-in_err-number_of-3-clause-none
returns-in_err-number_of-3-clause-none c = if_none c.from_residual-in_err-number_of-3.result (Fits resource_cells c.args.text.now → ⊥) (λ f. c.in_err-number_of-3.ensures.none (line_cells c.args.text.now f).flags)

pub returns-clause-some : goal.returns-clause-some
returns-clause-some c = (
  record { first = omega arith; last = omega arith; flags = omega arith },
  line_there c.args.text.now _ (omega (arith, c.requires)) c.if-text-ne32.false c.if-text-ne32-2.false c.if-text-ne10.false c.in_ok-number_of.ensures.some c.in_ok-number_of-2.ensures.some c.in_ok-number_of-3.ensures.some,
)

pub returns-then-eq-clause-some : goal.returns-then-eq-clause-some
returns-then-eq-clause-some c = (record { first = omega arith; last = omega arith; flags = omega arith }, no_line_there c.args.text.now c.as_slice.result.now c.if-eq.ensures c.as_slice.ensures)

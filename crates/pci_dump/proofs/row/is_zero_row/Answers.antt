use Rattle.std.proofs.Common.{◌∙◌, arith, ap, ℕ, get_or}
use Rattle.pci_dump.specs.declared.row.TheConstants.{HEADS}
use Rattle.pci_dump.proofs.Values.{head_read, zero_row}
use Rattle.pci_dump.proofs.row.is_zero_row.Goals as goal

pub returns-then-head_of-from : goal.returns-then-head_of-from
returns-then-head_of-from c = λ yes.
    let line = c.args.line.now in
    let head = head_read c.args.row (get_or line 0 0) (get_or line 1 0) (get_or line 2 0) (get_or line 3 0) c.head_of.result c.requires.row (let fits = c.type_inv.line 0 in omega (arith, fits)) (let fits = c.type_inv.line 1 in omega (arith, fits))
    (let fits = c.type_inv.line 2 in omega (arith, fits)) (let fits = c.type_inv.line 3 in omega (arith, fits)) c.head_of.ensures (c.if-head_of-from.true ∙ ap (λ (k : ℕ). get_or HEADS k 0) c.from.ensures) in
    zero_row c.args.row line c.requires.line c.requires.row head (c.are_zero_values.ensures yes)

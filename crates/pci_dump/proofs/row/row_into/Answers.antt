use Rattle.std.proofs.Common.{◌∙◌, arith, sym, ap, subst, ℕ, List, length, get_or}
use Rattle.std.specs.List.{slice_range}
use Rattle.pci_dump.specs.declared.row.TheConstants.{HEADS}
use Rattle.pci_dump.specs.Value.{AreValues}
use Rattle.pci_dump.proofs.Values.{whole_row, no_row, row_places, zeros_there, head_read, head_there}
use Rattle.pci_dump.proofs.row.row_into.Goals as goal
use Rattle.pci_dump.proofs.row.row_into.Goals.{then-head_of-from-via-then-head_of-from, then-head_of-from-via-else-head_of-from+then-line-ne10}

pub returns-then-head_of-from-clause-no : goal.returns-then-head_of-from-clause-no
returns-then-head_of-from-clause-no c = λ no f.
    let line = c.args.line.now in
    let p = row_places c.args.row line c.requires.row f in
    elim c.then-head_of-from.branch [
      | then-head_of-from-via-then-head_of-from w ↦
          w.if-head_of-from.true
          (head_there c.args.row (get_or line 0 0) (get_or line 1 0) (get_or line 2 0) (get_or line 3 0) c.head_of.result c.requires.row c.head_of.ensures (record { first = p.first; second = p.second; third = p.third; fourth = p.fourth })
          ∙ sym (ap (λ (k : ℕ). get_or HEADS k 0) c.from.ensures))
      | then-head_of-from-via-else-head_of-from+then-line-ne10 w ↦ w.if-line-ne10.true p.last
    ]

pub returns-then-are_zeros-clause-yes : goal.returns-then-are_zeros-clause-yes
returns-then-are_zeros-clause-yes c = λ yes.
    let line = c.args.line.now in
    let h = head_read c.args.row (get_or line 0 0) (get_or line 1 0) (get_or line 2 0) (get_or line 3 0) c.head_of.result c.requires.row (let fits = c.type_inv.line 0 in omega (arith, fits)) (let fits = c.type_inv.line 1 in omega (arith, fits))
    (let fits = c.type_inv.line 2 in omega (arith, fits)) (let fits = c.type_inv.line 3 in omega (arith, fits)) c.head_of.ensures (c.if-head_of-from.false ∙ ap (λ (k : ℕ). get_or HEADS k 0) c.from.ensures) in
    whole_row c.args.row line c.put_zeros.new.values c.requires.line c.requires.row h.first h.second h.third c.if-line-ne10.false
    (ap length c.put_zeros.ensures) (subst (λ (v : List ℕ). AreValues (slice_range line 3 51) v 16) (sym c.put_zeros.ensures) (zeros_there _ (c.are_zeros.ensures c.if-are_zeros.true)))

pub returns-clause-yes : goal.returns-clause-yes
returns-clause-yes c = λ yes.
    let line = c.args.line.now in
    let h = head_read c.args.row (get_or line 0 0) (get_or line 1 0) (get_or line 2 0) (get_or line 3 0) c.head_of.result c.requires.row (let fits = c.type_inv.line 0 in omega (arith, fits)) (let fits = c.type_inv.line 1 in omega (arith, fits))
    (let fits = c.type_inv.line 2 in omega (arith, fits)) (let fits = c.type_inv.line 3 in omega (arith, fits)) c.head_of.ensures (c.if-head_of-from.false ∙ ap (λ (k : ℕ). get_or HEADS k 0) c.from.ensures) in
    whole_row c.args.row line c.values_into.new.values c.requires.line c.requires.row h.first h.second h.third c.if-line-ne10.false
    c.values_into.ensures.long (c.values_into.ensures.yes yes)

pub returns-clause-no : goal.returns-clause-no
returns-clause-no c = λ no. no_row _ _ c.requires.row (c.values_into.ensures.no no)

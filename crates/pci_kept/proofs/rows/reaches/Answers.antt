use Rattle.std.proofs.Common.{◌≡◌, ◌<◌, ◌+◌, ◌-◌, ◌∷◌, [], sym, ◌∙◌, inl, inr, arith, length, get_or, subst, ap}
use Rattle.std.proofs.lemmas.List.{length-append, get_or_default}
use Rattle.pci_kept.specs.declared.rows.Row.{Row}
use Rattle.pci_kept.specs.Rows.{IsRowReach}
use Rattle.pci_kept.proofs.KeepingOff.{no_row, first_of_key, with_row, for_all, for_each, reaches_more}
use Rattle.pci_kept.proofs.rows.reaches.Goals as goal
use Rattle.pci_kept.proofs.rows.reaches.Goals.{then-index-gt0+then-rows-index, else-index-gt0, else-index-gt0-via-then-index-gt0+else-rows-index, else-index-gt0-via-else-index-gt0}

pub loop-index-preserved : goal.loop-index-preserved
loop-index-preserved g c =
    let rows = c.args.rows.now in
    let old = c.loop-index.reaches.items in
    let k = c.loop-index.index in
    let within : k < length rows = omega (arith, c.loop-index-test.true) in
    let row : Row = get_or rows k no_row in
    let row_is : get_or rows k row ≡ row = get_or_default rows k row no_row within in
    let size = c.loop-index.invariant.size in
    record {
      size = ap length c.in_ok-push.ensures.items ∙ length-append old (c.if-index-gt0.reach ∷ []) ∙ ap (λ n. n + 1) size;
      each = λ order. reaches_more rows old k c.if-index-gt0.reach size (c.loop-index.invariant.each order)
          (elim c.if-index-gt0.branch [
            | then-index-gt0+then-rows-index w ↦
                let some = w.if-index-gt0.true in
                subst (IsRowReach rows k) (sym (w.reach-is ∙ w.with-reach.ensures))
                (with_row rows order k within row row_is some (for_each rows (k - 1) row.key no_row (omega (arith, within)) w.if-rows-index.true) w.index.result.now (subst (IsRowReach rows (k - 1)) (sym w.index.ensures) (c.loop-index.invariant.each order (k - 1) w.index.result.now (omega (arith, some)))))
            | else-index-gt0 w ↦ subst (IsRowReach rows k) (sym (w.reach-is ∙ w.of-reach.ensures)) (first_of_key rows order k within row row_is (elim w.else-index-gt0.branch [
              | else-index-gt0-via-then-index-gt0+else-rows-index v ↦ inr (for_all rows (k - 1) row.key no_row (omega (arith, within)) v.if-rows-index.false)
              | else-index-gt0-via-else-index-gt0 v ↦ inl (let none = v.if-index-gt0.false in omega (arith, none))
            ]))
          ])
          c.push.new.self.items c.in_ok-push.ensures.items;
    }

use Rattle.std.proofs.Common.{◌<◌, ◌-◌, sym, ◌∙◌, inl, inr, arith, length}
use Rattle.pci_kept.proofs.KeepingOff.{none, by_reach, for_all, for_each}
use Rattle.pci_kept.proofs.rows.keep_off.Goals as goal
use Rattle.pci_kept.proofs.rows.keep_off.Goals.{then-count-eq0-via-then-count-eq0, then-count-eq0-via-else-count-eq0+then-rows-count}

pub returns-then-count-eq0 : goal.returns-then-count-eq0
returns-then-count-eq0 c =
    let rows = c.args.rows.now.rows.now in
    let count = c.rows_up_to-count.result in
    sym (none rows c.requires.order c.args.key c.args.owner c.args.range count c.rows_up_to-count.ensures.bound c.rows_up_to-count.ensures.before c.rows_up_to-count.ensures.after
    (elim c.then-count-eq0.branch [
      | then-count-eq0-via-then-count-eq0 w ↦ inl w.if-count-eq0.true
      | then-count-eq0-via-else-count-eq0+then-rows-count w ↦ inr (for_all rows _ c.args.key _ (let bound = c.rows_up_to-count.ensures.bound in let some = w.if-count-eq0.false in omega (arith, bound, some)) w.if-rows-count.true)
    ]))

pub returns : goal.returns
returns c =
    let rows = c.args.rows.now.rows.now in
    let count = c.rows_up_to-count.result in
    let bound = c.rows_up_to-count.ensures.bound in
    let none = c.if-count-eq0.false in
    let some : 0 < count = omega (arith, none) in
    let within : count - 1 < length rows = omega (arith, some, bound) in
    c.is_up_to.ensures
    ∙ by_reach rows c.requires.order c.args.key c.args.owner c.args.range count c.rows_up_to-count.ensures.bound c.rows_up_to-count.ensures.before c.rows_up_to-count.ensures.after
    some (for_each rows (count - 1) c.args.key _ within c.if-rows-count.false) _ (c.requires.reach.each (count - 1) _ within)

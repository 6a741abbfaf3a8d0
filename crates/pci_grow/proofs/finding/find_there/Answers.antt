use Rattle.std.proofs.Common.{◌≡◌, ◌+◌, ◌-◌, arith, subst}
use Rattle.pci_grow.specs.There.{tables_of}
use Rattle.pci_grow.specs.Telling.{setting_value}
use Rattle.pci_grow.proofs.Rowing.{IsDownTo, down_first, some_row, down_more, down_end}
use Rattle.pci_grow.proofs.finding.find_there.Goals as goal

pub loop-done-init : goal.loop-done-init
loop-done-init g c = down_first (setting_value c.args.setting.now) (tables_of c.args.there.now)

pub find_in_row-requires-clause-behind : goal.find_in_row-requires-clause-behind
find_in_row-requires-clause-behind g c =
    let left = c.loop-done-test.true in
    some_row (setting_value c.args.setting.now) (513 - c.loop-done.done) (514 - c.loop-done.done) (tables_of c.args.there.now) (tables_of c.loop-done.there) (omega (arith, left)) c.loop-done.invariant c.requires.begun

pub loop-done-preserved : goal.loop-done-preserved
loop-done-preserved g c =
    let left = c.loop-done-test.true in
    let p = setting_value c.args.setting.now in
    let next : 513 - c.loop-done.done ≡ 514 - (c.loop-done.done + 1) = omega (arith, left) in
    subst (λ n. IsDownTo p n (tables_of c.args.there.now) (tables_of c.find_in_row.new.there)) next
    (down_more p (513 - c.loop-done.done) (514 - c.loop-done.done) (tables_of c.args.there.now) (tables_of c.loop-done.there) (tables_of c.find_in_row.new.there) (omega (arith, left)) c.loop-done.invariant c.in_ok-find_in_row.ensures)

pub returns : goal.returns
returns g c =
    let past = c.loop-done-test.false in
    down_end (setting_value c.args.setting.now) (514 - c.loop-done.done) (tables_of c.args.there.now) (tables_of c.loop-done.there) (omega (arith, past)) c.loop-done.invariant

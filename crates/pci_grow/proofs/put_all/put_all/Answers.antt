use Rattle.std.proofs.Common.{◌≡◌, ◌+◌, ◌-◌, ◌<◌, length, get_or, arith, refl, subst}
use Rattle.std.proofs.lemmas.List.{get_or_default}
use Rattle.pci_base.specs.WindowKinds.{kind_value}
use Rattle.pci_grow.proofs.Putting.{ArePutFrom, no_item, put_none, put_more}
use Rattle.pci_grow.proofs.put_all.put_all.Goals as goal

pub loop-done-init : goal.loop-done-init
loop-done-init c = put_none (kind_value c.args.class) c.args.items.now c.args.places.now c.requires.count c.args.table.now (length c.args.items.now - 0) (omega arith)

pub loop-done-preserved : goal.loop-done-preserved
loop-done-preserved c =
    let items = c.args.items.now in
    let firsts = c.args.places.now in
    let table = c.loop-done.table in
    let n = length items - 1 - c.loop-done.done in
    let left = c.loop-done-test.true in
    let inside : n < length items = omega (arith, left) in
    let one = get_or items n no_item in
    let before : length items - c.loop-done.done ≡ n + 1 = omega (arith, left) in
    let after : n ≡ length items - (c.loop-done.done + 1) = omega arith in
    subst (ArePutFrom (kind_value c.args.class) items firsts c.args.table.now c.put.new.table) after
    (put_more (kind_value c.args.class) items firsts c.requires.count c.args.table.now table n (subst (ArePutFrom (kind_value c.args.class) items firsts c.args.table.now table) before c.loop-done.invariant) inside one
    (get_or_default items n one no_item inside) (c.requires.functions n no_item inside) (get_or firsts n 0) refl c.put.new.table c.put.ensures.count c.put.ensures.place c.put.ensures.others)

pub returns : goal.returns
returns c =
    let done = c.loop-done-test.false in
    let none : length c.args.items.now - c.loop-done.done ≡ 0 = omega (arith, done) in
    let all = subst (ArePutFrom (kind_value c.args.class) c.args.items.now c.args.places.now c.args.table.now c.loop-done.table) none c.loop-done.invariant in
    record { count = all.size; put = λ s system same parts. all.each s system same parts }

use Rattle.std.proofs.Common.{◌≡◌, ◌+◌, ◌-◌, ◌<◌, ◌∙◌, length, get_or, arith, refl, ap, subst}
use Rattle.std.proofs.lemmas.List.{get_or_default}
use Rattle.pci_settle_places.specs.Places.{place_range_in}
use Rattle.pci_settle_places.proofs.Notes.{AreNoted, noted_none, noted_more}
use Rattle.pci_settle_places.proofs.Wanted.{no_candidate}
use Rattle.pci_settle_places.proofs.places.note.Goals as goal

pub loop-done-init : goal.loop-done-init
loop-done-init c = noted_none c.args.candidates.now c.args.firsts.now c.requires.count c.args.table.now (length c.args.candidates.now - 0) (omega arith)

pub loop-done-preserved : goal.loop-done-preserved
loop-done-preserved c =
    let candidates = c.args.candidates.now in
    let firsts = c.args.firsts.now in
    let table = c.loop-done.table in
    let n = length candidates - 1 - c.loop-done.done in
    let left = c.loop-done-test.true in
    let inside : n < length candidates = omega (arith, left) in
    let one = get_or candidates n no_candidate in
    let before : length candidates - c.loop-done.done ≡ n + 1 = omega (arith, left) in
    let after : n ≡ length candidates - (c.loop-done.done + 1) = omega arith in
    let low = c.requires.functions n no_candidate inside in
    let size = c.loop-done.invariant.size in
    let here : one.item.function < length table = omega (arith, low, size) in
    subst (AreNoted candidates firsts c.args.table.now _) after
    (noted_more candidates firsts c.requires.count c.args.table.now table n (subst (AreNoted candidates firsts c.args.table.now table) before c.loop-done.invariant) inside one
    (get_or_default candidates n one no_candidate inside) low (get_or firsts n 0) refl c.set.new.self _ refl _ refl
    (λ s. c.set.ensures.set)
    (λ s d other differ. c.set.ensures.others other differ ∙ ap (λ e. place_range_in e other) (get_or_default table one.item.function _ d here)))

pub returns : goal.returns
returns c =
    let done = c.loop-done-test.false in
    let none : length c.args.candidates.now - c.loop-done.done ≡ 0 = omega (arith, done) in
    let all = subst (AreNoted c.args.candidates.now c.args.firsts.now c.args.table.now c.loop-done.table) none c.loop-done.invariant in
    record { noted = λ s system same parts. all.each s system same parts }

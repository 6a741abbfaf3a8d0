use Rattle.std.proofs.Common.{[], ◌∷◌, ◌++◌, map, take, arith, sym, ◌∙◌, ap}
use Rattle.std.proofs.lemmas.List.{take_more, get_or-map, length-map}
use Rattle.pci_first_fit.specs.Tables.{untold}
use Rattle.pci_grow.specs.Marks.{marks_of}
use Rattle.pci_grow.proofs.marks.marks.Goals as goal

pub loop-ranges-preserved : goal.loop-ranges-preserved
loop-ranges-preserved g c =
    let table = c.args.table.now in
    let n = c.loop-ranges.ranges-index in
    let long = length-map table marks_of in
    c.in_ok-push.ensures.items
    ∙ ap (λ ys. ys ++ c.marks_of.result ∷ []) c.loop-ranges.invariant
    ∙ ap (λ e. take n (map marks_of table) ++ e ∷ []) (c.marks_of.ensures ∙ sym (get_or-map marks_of table n untold (marks_of untold) c.loop-ranges-test.true))
    ∙ sym (take_more (map marks_of table) n (marks_of untold) (omega (arith, long, c.loop-ranges-test.true)))

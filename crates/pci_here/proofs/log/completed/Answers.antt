use Rattle.std.proofs.Common.{◌≡◌, ◌∷◌, [], ◌∙◌, length, rules, arith}
use Rattle.pci_here.proofs.Logs.{completed_is, one_chosen}
use Rattle.pci_here.proofs.log.completed.Goals as goal

pub returns : goal.returns
returns c =
    let lines : length c.args.lines ≡ 7 = search rules in
    let told : length c.args.told ≡ 7 = search rules in
    let at0 = one_chosen c.args.lines c.args.told lines told 0 c.index-lines-0.result c.index-told-0.result c.chosen.result (omega arith) c.chosen.ensures in
    let at1 = one_chosen c.args.lines c.args.told lines told 1 c.index-lines-1.result c.index-told-1.result c.chosen-2.result (omega arith) c.chosen-2.ensures in
    let at2 = one_chosen c.args.lines c.args.told lines told 2 c.index-lines-2.result c.index-told-2.result c.chosen-3.result (omega arith) c.chosen-3.ensures in
    let at3 = one_chosen c.args.lines c.args.told lines told 3 c.index-lines-3.result c.index-told-3.result c.chosen-4.result (omega arith) c.chosen-4.ensures in
    let at4 = one_chosen c.args.lines c.args.told lines told 4 c.index-lines-4.result c.index-told-4.result c.chosen-5.result (omega arith) c.chosen-5.ensures in
    let at5 = one_chosen c.args.lines c.args.told lines told 5 c.index-lines-5.result c.index-told-5.result c.chosen-6.result (omega arith) c.chosen-6.ensures in
    let at6 = one_chosen c.args.lines c.args.told lines told 6 c.index-lines-6.result c.index-told-6.result c.chosen-7.result (omega arith) c.chosen-7.ensures in
    (λ i. at0 i ∷ at1 i ∷ at2 i ∷ at3 i ∷ at4 i ∷ at5 i ∷ at6 i ∷ []) ∙ completed_is c.args.lines c.args.told lines told

use Rattle.std.proofs.Common.{◌≡◌, ◌+◌, ◌++◌, ◌∷◌, [], List, sym, subst, arith, take, get_or}
use Rattle.std.specs.List.{All}
use Rattle.std.proofs.lemmas.List.{take_all, take_more}
use Rattle.std.proofs.lemmas.List.Elements.{All-push}
use Rattle.pci_spec.specs.Resource.{ResourceLine}
use Rattle.pci_spec.specs.SizesText.{IsResourceLine}
use Rattle.pci_machine.proofs.sizes.are_lines.Goals as goal

pub loop-line-preserved : goal.loop-line-preserved
loop-line-preserved c =
    let lines = c.args.lines.now in
    let k = c.loop-line.line-index in
    let long = c.type_inv.lines in
    let within = c.loop-line-test.true in
    let more : take (k + 1) lines ≡ take k lines ++ get_or lines k c.line-item.result ∷ [] = take_more lines k c.line-item.result (omega (arith, long, within)) in
    subst (λ (ls : List ResourceLine). All IsResourceLine ls) (sym more) (All-push IsResourceLine (take k lines) (get_or lines k c.line-item.result) c.loop-line.invariant c.is_line.ensures)

pub returns-clause-each : goal.returns-clause-each
returns-clause-each c =
    let done = c.loop-line-test.false in
    let long = c.told-lines in
    subst (λ (ls : List ResourceLine). All IsResourceLine ls) (take_all c.loop-line.line-index c.args.lines.now (omega (arith, done, long))) c.loop-line.invariant

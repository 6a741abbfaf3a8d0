use Rattle.std.proofs.Common.{◌≡◌, ◌&&◌, None, false, get_or, ltb, not, arith, ap, sym, ◌∙◌}
use Rattle.std.specs.Option.{is_none}
use Rattle.std.proofs.lemmas.Bool.{le-ltb, lt-ltb}
use Rattle.pci_picture.proofs.RootRows.{none_told, root_tested}
use Rattle.pci_picture.proofs.tree.is_root.Goals as goal
use Rattle.pci_picture.proofs.tree.is_root.Goals.{then-begin-end, else-begin-end}

pub returns-then-is_none : goal.returns-then-is_none
returns-then-is_none g c are before marked =
    let begin = c.on_bus-begin.result.0 in
    let end = c.on_bus-begin.result.1 in
    let no_bus = is_none (get_or c.args.above.now c.args.bus None) in
    let is : c.if-begin-end.value ≡ (ltb begin end && no_bus) = elim c.if-begin-end.branch [
      | then-begin-end w ↦ w.value-is ∙ none_told (get_or c.args.above.now c.args.bus None) w.is_none.result w.is_none.ensures ∙ sym (ap (λ b. b && no_bus) (lt-ltb begin end w.if-begin-end.true))
      | else-begin-end w ↦ w.value-is ∙ le-ltb begin end w.if-begin-end.false ∙ sym (ap (λ b. b && no_bus) (le-ltb begin end w.if-begin-end.false))
    ] in
    sym (ap (λ b. b && not (get_or c.args.drawn.now c.args.bus false)) (sym is ∙ c.if-is_none.true))
    ∙ root_tested c.args.board.now.functions.items begin end c.args.bus c.args.above.now c.args.drawn.now before (omega arith) c.on_bus-begin.ensures are marked

pub returns-else-is_none : goal.returns-else-is_none
returns-else-is_none g c are before marked =
    let begin = c.on_bus-begin.result.0 in
    let end = c.on_bus-begin.result.1 in
    let no_bus = is_none (get_or c.args.above.now c.args.bus None) in
    let is : c.if-begin-end.value ≡ (ltb begin end && no_bus) = elim c.if-begin-end.branch [
      | then-begin-end w ↦ w.value-is ∙ none_told (get_or c.args.above.now c.args.bus None) w.is_none.result w.is_none.ensures ∙ sym (ap (λ b. b && no_bus) (lt-ltb begin end w.if-begin-end.true))
      | else-begin-end w ↦ w.value-is ∙ le-ltb begin end w.if-begin-end.false ∙ sym (ap (λ b. b && no_bus) (le-ltb begin end w.if-begin-end.false))
    ] in
    c.if-is_none.false ∙ sym (ap (λ b. b && not (get_or c.args.drawn.now c.args.bus false)) (sym is ∙ c.if-is_none.false))
    ∙ root_tested c.args.board.now.functions.items begin end c.args.bus c.args.above.now c.args.drawn.now before (omega arith) c.on_bus-begin.ensures are marked

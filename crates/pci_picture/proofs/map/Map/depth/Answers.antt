use Rattle.std.proofs.Common.{cond, get_or, length, map, max, take, ap, arith, sym, ◌∙◌}
use Rattle.std.proofs.lemmas.List.{take_all}
use Rattle.std.specs.Option.{is_some}
use Rattle.pci_picture.specs.Columns.{deepest}
use Rattle.pci_picture.specs.Maps.{headed_line}
use Rattle.pci_picture.proofs.Columns.{deepest_more, max_other, some_in_section}
use Rattle.pci_picture.proofs.map.Map.depth.Goals as goal
use Rattle.pci_picture.proofs.map.Map.depth.Goals.{then-is_some, else-is_some}

pub loop-line-preserved : goal.loop-line-preserved
loop-line-preserved g c =
    let lines = c.args.self.now.lines.items in
    let i = c.loop-line.line-index in
    let line = c.line-item.result in
    let front = deepest (map headed_line (take i lines)) in
    let more =
    deepest_more lines i line (omega (arith, c.loop-line-test.true, ap length c.deref-line-items.ensures.value))
    (c.line-item.is ∙ ap (λ l. get_or l i line) c.deref-line-items.ensures.value) in
    elim c.if-is_some.branch [
      | then-is_some w ↦
          w.depth-is ∙ w.max-depth.ensures ∙ ap (λ d. max line.region.depth d) c.loop-line.invariant ∙ max_other line.region.depth front
          ∙ ap (λ b. cond b (max front line.region.depth) front) (sym w.if-is_some.true ∙ c.is_some.ensures ∙ some_in_section line.section)
          ∙ sym more
      | else-is_some w ↦
          w.depth-is ∙ c.loop-line.invariant
          ∙ ap (λ b. cond b (max front line.region.depth) front) (sym w.if-is_some.false ∙ c.is_some.ensures ∙ some_in_section line.section)
          ∙ sym more
    ]

pub returns : goal.returns
returns g c =
    let lines = c.args.self.now.lines.items in
    c.loop-line.invariant ∙ ap (λ l. deepest (map headed_line l))
    (take_all c.loop-line.line-index lines (omega (arith, c.loop-line-test.false, ap length c.deref-line-items.ensures.value)))

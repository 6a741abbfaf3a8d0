use Rattle.std.proofs.Common.{◌+◌, add-zero, cond, get_or, length, take, ap, arith, refl, sym, ◌∙◌}
use Rattle.std.proofs.lemmas.List.{length-map, take_all}
use Rattle.pci_picture.specs.Counts.{count_of_regions}
use Rattle.pci_picture.specs.Maps.{headed_line, kept_regions}
use Rattle.pci_picture.proofs.Counts.{count_more}
use Rattle.pci_picture.proofs.map.Map.region_count.Goals as goal
use Rattle.pci_picture.proofs.map.Map.region_count.Goals.{then-is_counted, else-is_counted}

pub loop-line-init : goal.loop-line-init
loop-line-init g c = record { low = omega arith; counted = refl }

pub loop-line-preserved : goal.loop-line-preserved
loop-line-preserved g c =
    let lines = c.args.self.now.lines.items in
    let i = c.loop-line.line-index in
    let line = c.line-item.result in
    let front = count_of_regions (take i (kept_regions c.args.self.now)) in
    let more =
    count_more lines i line (omega (arith, c.loop-line-test.true, ap length c.deref-line-items.ensures.value))
    (c.line-item.is ∙ ap (λ l. get_or l i line) c.deref-line-items.ensures.value) in
    elim c.if-is_counted.branch [
      | then-is_counted w ↦ record {
        low = omega (arith, w.count-is, c.loop-line.invariant.low);
        counted =
            w.count-is ∙ ap (λ n. n + 1) c.loop-line.invariant.counted
            ∙ ap (λ b. front + cond b 1 0) (sym w.if-is_counted.true ∙ c.is_counted.ensures) ∙ sym more;
      }
      | else-is_counted w ↦ record {
        low = omega (arith, w.count-is, c.loop-line.invariant.low);
        counted =
            w.count-is ∙ c.loop-line.invariant.counted ∙ sym (add-zero front)
            ∙ ap (λ b. front + cond b 1 0) (sym w.if-is_counted.false ∙ c.is_counted.ensures) ∙ sym more;
      }
    ]

pub returns : goal.returns
returns g c =
    let lines = c.args.self.now.lines.items in
    let long = length-map lines headed_line in
    c.loop-line.invariant.counted ∙ ap count_of_regions
    (take_all c.loop-line.line-index (kept_regions c.args.self.now) (omega (arith, c.loop-line-test.false, ap length c.deref-line-items.ensures.value, long)))

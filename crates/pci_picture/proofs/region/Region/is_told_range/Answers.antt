use Rattle.std.proofs.Common.{◌||◌, ap, sym, ◌∙◌}
use Rattle.std.specs.Prelude.{codes}
use Rattle.pci_picture.specs.Lines.{nth_word, says, words_in_line}
use Rattle.pci_picture.proofs.Said.{part_held, part_told}
use Rattle.pci_picture.proofs.region.Region.is_told_range.Goals as goal

pub returns-then-eq : goal.returns-then-eq
returns-then-eq c =
    let r = c.args.self.now in
    let words = words_in_line r.line.now in
    c.if-eq.true ∙ ap (λ b. b || says (nth_word words 2) (codes "held")) (sym c.if-eq.true ∙ c.eq.ensures ∙ part_told r.part words r.looks)

pub returns-else-eq : goal.returns-else-eq
returns-else-eq c =
    let r = c.args.self.now in
    let words = words_in_line r.line.now in
    c.eq-else-eq.ensures ∙ part_held r.part words r.looks
    ∙ ap (λ b. b || says (nth_word words 2) (codes "held")) (sym c.if-eq.false ∙ c.eq.ensures ∙ part_told r.part words r.looks)

use Rattle.std.proofs.Common.{rules, arith, sym, ap, ◌∙◌, ◌≡◌, ◌==◌, ℕ, drop, length, take}
use Rattle.std.proofs.lemmas.Bool.{both_ways, eqb-true}
use Rattle.std.proofs.lemmas.List.{drop_min, take_min}
use Rattle.pci_picture.proofs.Beside.{placed_beside}
use Rattle.pci_picture.proofs.Looks.{both_looks}
use Rattle.pci_picture.proofs.Sections.{both_places}
use Rattle.pci_picture.proofs.plan.placed_of.Goals as goal
use Rattle.pci_picture.proofs.plan.placed_of.Goals.{then-is_empty, else-is_empty}

pub returns-clause-regions : goal.returns-clause-regions
returns-clause-regions g c = search (rules, both_places)

pub returns-clause-looks : goal.returns-clause-looks
returns-clause-looks g c look =
    both_looks look c.args.regions.now c.split_at.result.0.now c.split_at.result.1.now c.args.index c.new-placed.result.items _ _ c.new-placed.ensures.items
    (c.split_at.ensures.front ∙ ap (λ k. take k c.args.regions.now) c.min.ensures ∙ take_min c.args.index c.args.regions.now)
    (c.split_at.ensures.back ∙ ap (λ k. drop k c.args.regions.now) c.min.ensures ∙ drop_min c.args.index c.args.regions.now)
    (c.in_ok-place.ensures.looks look) (c.in_ok-place-2.ensures.looks look)

pub returns-clause-beside : goal.returns-clause-beside
returns-clause-beside g c =
    placed_beside c.args.site.now c.args.regions.now _ _ c.args.index c.min.result _ _ _ _ _ _ _
    c.min.ensures c.split_at.ensures.front c.split_at.ensures.back c.new-placed.ensures.items
    c.in_ok-place.ensures.widths c.in_ok-place-2.ensures.widths
    (elim c.if-is_empty.branch [
      | then-is_empty w ↦ λ sides.
          let none : length c.split_at.result.1.now ≡ 0 = eqb-true _ 0 (sym c.is_empty.ensures ∙ w.if-is_empty.true) in
          record {
            from = omega (arith, sides.uncut, c.saturating_add-left.ensures);
            upto = omega (arith, sides.uncut, c.saturating_add-left.ensures, c.saturating_add-edge.ensures);
            all = λ is. w.split-is;
            less = λ some. absurd (omega (arith, none, some));
            behind = omega (arith, sides.uncut, w.split-is, c.saturating_add-left.ensures, c.saturating_add-edge.ensures, c.saturating_add-beside.ensures);
          }
      | else-is_empty w ↦ λ sides.
          record {
            from = omega (arith, sides.uncut, c.saturating_add-left.ensures);
            upto = omega (arith, sides.uncut, c.saturating_add-left.ensures, c.saturating_add-edge.ensures);
            all = λ is. absurd (both_ways _ w.if-is_empty.false (c.is_empty.ensures ∙ ap (λ (n : ℕ). n == 0) is));
            less = λ some. omega (arith, sides.wide, sides.uncut, w.split-is, w.saturating_sub-split.ensures, c.saturating_add-left.ensures, c.saturating_add-edge.ensures);
            behind = omega (arith, sides.wide, sides.uncut, w.split-is, w.saturating_sub-split.ensures, c.saturating_add-left.ensures, c.saturating_add-edge.ensures, c.saturating_add-beside.ensures);
          }
    ])

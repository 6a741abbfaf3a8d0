use Rattle.std.proofs.Common.{◌≡◌, ◌≤◌, ◌-◌, ◌*◌, ◌/◌, ◌==◌, if◌then◌else◌, min, arith, refl, sym, ap, ◌∙◌}
use Rattle.std.proofs.lemmas.Bool.{eq-eqb, ne_eqb}
use Rattle.pci_picture.specs.Columns.{width_of_lost}
use Rattle.pci_picture.specs.Maps.{kept_regions}
use Rattle.pci_picture.proofs.Beside.{columns_of_none, columns_of_some, has_columns, has_room}
use Rattle.pci_picture.proofs.picture.first_site.Goals.{then-behind-eq0, else-behind-eq0, then-has_lost, else-has_lost}
use Rattle.pci_picture.proofs.picture.first_site.Goals as goal

pub returns : goal.returns
returns g c =
    let column = c.if-behind-eq0.column in
    let behind = c.saturating_sub-behind.result in
    let few : column * behind ≤ 1260 = elim c.if-behind-eq0.branch [
      | then-behind-eq0 w ↦ columns_of_none column behind (omega (arith, w.if-behind-eq0.true))
      | else-behind-eq0 w ↦ columns_of_some column behind w.if-behind-eq0.false (w.column-is ∙ w.min-column.ensures)
    ] in
    let low : c.if-has_lost.lost ≤ 240 = elim c.if-has_lost.branch [
      | then-has_lost w ↦ omega (arith, w.lost-is)
      | else-has_lost w ↦ omega (arith, w.lost-is)
    ] in
    let lost_is : c.if-has_lost.lost ≡ width_of_lost (kept_regions c.args.map.now) = elim c.if-has_lost.branch [
      | then-has_lost w ↦ w.lost-is ∙ ap (λ b. if b then 240 else 0) (sym w.if-has_lost.true ∙ c.has_lost.ensures)
      | else-has_lost w ↦ w.lost-is ∙ ap (λ b. if b then 240 else 0) (sym w.if-has_lost.false ∙ c.has_lost.ensures)
    ] in
    let column_is : column ≡ (if behind == 0 then 126 else min 126 (1260 / behind)) = elim c.if-behind-eq0.branch [
      | then-behind-eq0 w ↦ w.column-is ∙ ap (λ b. if b then 126 else min 126 (1260 / behind)) (sym (eq-eqb behind 0 w.if-behind-eq0.true))
      | else-behind-eq0 w ↦
          w.column-is ∙ w.min-column.ensures
          ∙ ap (λ b. if b then 126 else min 126 (1260 / behind)) (sym (ne_eqb behind 0 w.if-behind-eq0.false))
    ] in
    record {
      room = has_room _ (column * behind) c.if-has_lost.lost c.saturating_mul.result refl few low c.saturating_mul.ensures c.saturating_add.ensures;
      y = refl;
      columns = has_columns (kept_regions c.args.map.now) _ behind c.if-has_lost.lost c.saturating_mul.result refl (c.saturating_sub-behind.ensures ∙ ap (λ n. n - 1) c.depth.ensures) lost_is column_is few low c.saturating_mul.ensures c.saturating_add.ensures;
    }

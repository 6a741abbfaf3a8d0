use Rattle.std.proofs.Common.{◌+◌, min, ℕ, ap, codes, refl, subst, ◌∙◌}
use Rattle.std.specs.String.{string_bytes}
use Rattle.std.proofs.lemmas.Result.{on_ok_weaker}
use Rattle.pci_picture.specs.Boxes.{titled, titled_line}
use Rattle.pci_picture.specs.Canvases.{AddsBoxOf}
use Rattle.pci_picture.specs.BoardLooks.{look_read}
use Rattle.pci_picture.specs.Roots.{listed_functions}
use Rattle.pci_picture.specs.Spots.{spot_at}
use Rattle.pci_picture.proofs.Boxes.{keeps_box, one_box}
use Rattle.pci_picture.proofs.BoxWords.{off_written}
use Rattle.pci_picture.proofs.picture.draw_off_row.Goals as goal

pub returns-clause-adds : goal.returns-clause-adds
returns-clause-adds g c =
    let region = c.args.region.now in
    let said = (look_read c.args.board.now).said region.line.now in
    let box =
    one_box (titled c.saturating_add-x.result c.args.site.now.y c.args.site.now.width 13 (codes "off") c.as_slice-lines.result.now) (codes "off") said
    region.line.now c.args.canvas.now c.add_box.new.self
    (ap titled_line c.as_slice-lines.ensures.value ∙ c.in_ok-title.ensures.line) refl
    (c.as_slice-lines.ensures.value ∙ c.in_ok-title.ensures.said)
    c.in_ok-add_box.ensures.adds in
    on_ok_weaker c.add_cut.result
    (λ kept. keeps_box (codes "off") said region.line.now _ c.args.site.now.y c.args.site.now.width 13 _ _ _
    (subst (λ (x : ℕ). AddsBoxOf (codes "off") said region.line.now x c.args.site.now.y c.args.site.now.width 13 c.args.canvas.now c.add_box.new.self)
    c.saturating_add-x.ensures box) kept)
    c.add_cut.ensures.adds

pub returns-clause-words : goal.returns-clause-words
returns-clause-words g c =
    let line = c.args.region.now.line.now in
    let functions = listed_functions c.args.board.now.functions.items in
    on_ok_weaker c.add_cut.result
    (λ writes title.
    let spot = spot_at (min (c.args.site.now.x + 132) 18446744073709551615) c.args.site.now.y c.args.site.now.width 13 (codes "off") title line in
    off_written functions spot c.saturating_add.result c.saturating_add-2.result c.in_ok-words.words.bytes.items (string_bytes c.args.canvas.now.words)
    (string_bytes c.add_box.new.self.words) (string_bytes c.add_cut.new.self.words)
    (c.saturating_add.ensures ∙ ap (λ x. min (x + 5) 18446744073709551615) c.saturating_add-x.ensures) c.saturating_add-2.ensures c.in_ok-words.ensures
    c.in_ok-add_box.ensures.writes writes)
    c.add_cut.ensures.writes

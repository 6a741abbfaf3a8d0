use Rattle.std.proofs.Common.{◌||◌, true, ap, rules, sym, tests, ◌∙◌}
use Rattle.std.specs.List.{list_any}
use Rattle.std.proofs.lemmas.Iterator.{YieldsList-from_slice}
use Rattle.std.proofs.lemmas.Iterator.Search.{any_from_yields_List}
use Rattle.pci_picture.specs.Lines.{is_told_line}
use Rattle.pci_picture.specs.declared.map.Line.{Line}
use Rattle.pci_picture.specs.declared.region.Region.{Region}
use Rattle.pci_picture.proofs.Columns.{told_lines}
use Rattle.pci_picture.proofs.map.Map.has_told.Goals as goal

pub returns-then-any : goal.returns-then-any
returns-then-any g c =
    let lines = c.args.self.now.lines.items in
    let off = c.args.self.now.off.items in
    let test = λ (line : Line). is_told_line line.region.line.now in
    let first =
    any_from_yields_List test c.any.new.self _ c.any.result c.any.ensures.ran (YieldsList-from_slice c.deref.result.now c.iter.ensures.rest) (λ x b q k. search (rules, tests))
    ∙ ap (list_any test) c.deref.ensures.value in
    c.if-any.true ∙ ap (λ b. b || list_any (λ (region : Region). is_told_line region.line.now) off) (sym c.if-any.true ∙ first) ∙ told_lines lines off

pub returns-else-any : goal.returns-else-any
returns-else-any g c =
    let lines = c.args.self.now.lines.items in
    let off = c.args.self.now.off.items in
    let test = λ (line : Line). is_told_line line.region.line.now in
    let other = λ (region : Region). is_told_line region.line.now in
    let first =
    any_from_yields_List test c.any.new.self _ c.any.result c.any.ensures.ran (YieldsList-from_slice c.deref.result.now c.iter.ensures.rest) (λ x b q k. search (rules, tests))
    ∙ ap (list_any test) c.deref.ensures.value in
    any_from_yields_List other c.any-else-any.new.self _ c.any-else-any.result c.any-else-any.ensures.ran
    (YieldsList-from_slice c.deref-else-any.result.now c.iter-else-any.ensures.rest) (λ x b q k. search (rules, tests))
    ∙ ap (list_any other) c.deref-else-any.ensures.value
    ∙ ap (λ b. b || list_any other off) (sym c.if-any.false ∙ first) ∙ told_lines lines off

use Rattle.std.proofs.Common.{ap, get_or, rules, sym, tests, ◌∙◌}
use Rattle.std.specs.List.{list_any}
use Rattle.std.specs.Option.{is_none}
use Rattle.std.proofs.lemmas.Iterator.{YieldsList-from_slice}
use Rattle.std.proofs.lemmas.Iterator.Search.{any_from_yields_List}
use Rattle.pci_picture.specs.Headings.{Headed, is_lost}
use Rattle.pci_picture.specs.Maps.{headed_line}
use Rattle.pci_picture.specs.declared.map.Line.{Line}
use Rattle.pci_picture.proofs.Columns.{none_lost}
use Rattle.pci_picture.proofs.Marks.{any_alike, any_of_map}
use Rattle.pci_picture.proofs.map.Map.has_lost.Goals as goal

pub returns : goal.returns
returns g c =
    let lines = c.args.self.now.lines.items in
    let test = λ (line : Line). is_none line.section in
    any_from_yields_List test c.any.new.self _ c.any.result c.any.ensures.ran (YieldsList-from_slice c.deref.result.now c.iter.ensures.rest) (λ x b q k. search (rules, tests))
    ∙ ap (list_any test) c.deref.ensures.value
    ∙ any_alike test (λ (line : Line). is_lost (headed_line line).heading) lines (λ k d inside. none_lost (get_or lines k d).section)
    ∙ sym (any_of_map (λ (region : Headed). is_lost region.heading) headed_line lines)

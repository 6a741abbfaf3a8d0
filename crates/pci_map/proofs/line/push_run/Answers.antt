use Rattle.std.proofs.Common.{◌++◌, ◌∙◌, sym, subst, ap, codes, IsAscii}
use Rattle.std.proofs.lemmas.Result.{on_ok_weaker}
use Rattle.std.specs.String.{string_bytes}
use Rattle.pci_spec.specs.Listing.{range_text}
use Rattle.pci_spec.specs.Why.{amount_text, address_count}
use Rattle.pci_base.specs.Ranges.{decoded_range_of}
use Rattle.pci_base.specs.Space.{space_of}
use Rattle.pci_map.proofs.Asciis.{none_ascii, behind_ascii, extent_ascii, free_ascii}
use Rattle.pci_map.proofs.LineTexts.{line_pushed}
use Rattle.pci_map.proofs.line.push_run.Goals as goal

pub push_cells-requires : goal.push_cells-requires
push_cells-requires g c =
    let r = decoded_range_of c.args.range in
    let none = subst IsAscii (sym c.new-cells.ensures) none_ascii in
    let extent = behind_ascii _ _ _ none (extent_ascii _ (space_of c.args.space) r (amount_text (address_count r)) c.put_extent.ensures.ascii) c.put_extent.ensures.text in
    behind_ascii _ _ _ extent free_ascii c.put.ensures.text

pub returns : goal.returns
returns g c =
    let r = decoded_range_of c.args.range in
    on_ok_weaker c.push_cells.result
    (λ pushed. line_pushed (string_bytes c.args.text.now) (string_bytes c.push_steps.new.text) c.new-cells.result.items c.put.new.cells.items (string_bytes c.push_cells.new.text)
    (range_text (space_of c.args.space) r) (amount_text (address_count r)) (codes " free\n") c.args.depth
    c.in_ok-push_steps.ensures c.new-cells.ensures
    (c.put.ensures.text ∙ ap (λ t. t ++ codes " free\n") c.put_extent.ensures.text)
    pushed)
    c.push_cells.ensures

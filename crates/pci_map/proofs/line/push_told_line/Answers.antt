use Rattle.std.proofs.Common.{◌≡◌, ◌++◌, ◌∷◌, ◌∙◌, ◌%◌, ap, sym, subst, IsAscii}
use Rattle.std.proofs.lemmas.Result.{on_ok_weaker}
use Rattle.std.specs.String.{string_bytes}
use Rattle.pci_spec.specs.Text.{slot_text}
use Rattle.pci_spec.specs.Listing.{range_text}
use Rattle.pci_spec.specs.Why.{amount_text, address_count}
use Rattle.judge_spec.specs.ToldLine.{register_text}
use Rattle.judge_spec.specs.ToldRegion.{told_extent}
use Rattle.judge_spec.specs.MapText.{indent, told_part_name}
use Rattle.pci_base.specs.Ranges.{decoded_range_of}
use Rattle.pci_base.specs.Space.{space_of}
use Rattle.pci_map.specs.Seats.{told_region_value}
use Rattle.pci_map.proofs.Asciis.{none_ascii, behind_ascii, extent_ascii, told_ascii, ending_ascii, space_ascii, end_ascii}
use Rattle.pci_map.proofs.LineTexts.{line_pushed, told_cells}
use Rattle.pci_map.proofs.line.push_told_line.Goals as goal

pub push_cells-requires : goal.push_cells-requires
push_cells-requires g c =
    let x = told_region_value c.args.line.now in
    let r = decoded_range_of c.range.result in
    let none = subst IsAscii (sym c.new-cells.ensures) none_ascii in
    let extent = behind_ascii _ _ _ none (extent_ascii _ (space_of c.space.result) r (amount_text (address_count r)) c.put_extent.ensures.ascii) c.put_extent.ensures.text in
    let space = behind_ascii _ _ _ extent space_ascii c.push.ensures.items in
    let name = behind_ascii _ _ _ space (told_ascii x) c.put_told_name.ensures.text in
    let space-2 = behind_ascii _ _ _ name space_ascii c.push-2.ensures.items in
    let slot = behind_ascii _ _ _ space-2 c.put_slot.ensures.ascii c.put_slot.ensures.text in
    let space-3 = behind_ascii _ _ _ slot space_ascii c.push-3.ensures.items in
    let register = behind_ascii _ _ _ space-3 c.put_number.ensures.ascii c.put_number.ensures.text in
    let ending = behind_ascii _ _ _ register (ending_ascii x.told.name c.args.line.now.name_is_ascii) c.put_range_name.ensures.text in
    behind_ascii _ _ _ ending end_ascii c.push-4.ensures.items

pub returns : goal.returns
returns g c =
    let x = told_region_value c.args.line.now in
    let r = told_extent x.told in
    let extent : indent (c.args.depth % 32) ++ (range_text (space_of c.space.result) (decoded_range_of c.range.result) ++ (32 ∷ amount_text (address_count (decoded_range_of c.range.result))))
    ≡ indent (c.args.depth % 32) ++ (range_text x.told.space r ++ (32 ∷ amount_text (address_count r))) = λ i. indent (c.args.depth % 32) ++ (range_text (c.space.ensures i) (decoded_range_of (c.range.ensures i)) ++ (32 ∷ amount_text (address_count (decoded_range_of (c.range.ensures i))))) in
    on_ok_weaker c.push_cells.result
    (λ pushed. line_pushed (string_bytes c.args.text.now) (string_bytes c.push_steps.new.text) c.new-cells.result.items c.push-4.new.self.items (string_bytes c.push_cells.new.text)
    (range_text x.told.space r) (amount_text (address_count r)) _ c.args.depth
    c.in_ok-push_steps.ensures c.new-cells.ensures
    (told_cells _ _ _ _ _ _ _ _ _ _ (told_part_name x) (slot_text x.told.slot) (register_text x.register) x.told.name
    (c.put_extent.ensures.text ∙ ap (λ t. c.new-cells.result.items ++ t) extent) c.push.ensures.items c.put_told_name.ensures.text c.push-2.ensures.items
    (c.put_slot.ensures.text ∙ ap (λ slot. c.push-2.new.self.items ++ slot_text slot) c.slot.ensures) c.push-3.ensures.items c.put_number.ensures.text c.put_range_name.ensures.text c.push-4.ensures.items)
    pushed)
    c.push_cells.ensures

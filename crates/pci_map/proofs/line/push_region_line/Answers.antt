use Rattle.std.proofs.Common.{sym, subst, IsAscii}
use Rattle.std.proofs.lemmas.Result.{on_ok_weaker}
use Rattle.std.specs.String.{string_bytes}
use Rattle.pci_spec.specs.Text.{slot_text, hex_byte}
use Rattle.pci_spec.specs.Listing.{range_text}
use Rattle.pci_spec.specs.Why.{amount_text, address_count}
use Rattle.judge_spec.specs.MapText.{part_name}
use Rattle.pci_base.specs.Space.{space_of}
use Rattle.pci_map.specs.Values.{region_part, value_of}
use Rattle.pci_map.proofs.Asciis.{none_ascii, behind_ascii, extent_ascii, name_ascii, isa_ascii, space_ascii, end_ascii}
use Rattle.pci_map.proofs.LineTexts.{line_pushed, region_cells}
use Rattle.pci_map.proofs.line.push_region_line.Goals as goal

pub push_cells-requires : goal.push_cells-requires
push_cells-requires g c =
    let q = value_of (space_of c.args.space) c.args.region.now in
    let none = subst IsAscii (sym c.new-cells.ensures) none_ascii in
    let extent = behind_ascii _ _ _ none (extent_ascii _ (space_of c.args.space) q.range (amount_text (address_count q.range)) c.put_extent.ensures.ascii) c.put_extent.ensures.text in
    let space = behind_ascii _ _ _ extent space_ascii c.push.ensures.items in
    let name = behind_ascii _ _ _ space (name_ascii (region_part c.args.region.now) c.args.region.now.prefetch) c.put_name.ensures.text in
    let space-2 = behind_ascii _ _ _ name space_ascii c.push-2.ensures.items in
    let slot = behind_ascii _ _ _ space-2 c.put_slot.ensures.ascii c.put_slot.ensures.text in
    let space-3 = behind_ascii _ _ _ slot space_ascii c.push-3.ensures.items in
    let register = behind_ascii _ _ _ space-3 c.put_byte.ensures.ascii c.put_byte.ensures.text in
    let isa = behind_ascii _ _ _ register (isa_ascii c.args.cut) c.put_isa.ensures.text in
    behind_ascii _ _ _ isa end_ascii c.push-4.ensures.items

pub returns : goal.returns
returns g c =
    let q = value_of (space_of c.args.space) c.args.region.now in
    on_ok_weaker c.push_cells.result
    (λ pushed. line_pushed (string_bytes c.args.text.now) (string_bytes c.push_steps.new.text) c.new-cells.result.items c.push-4.new.self.items (string_bytes c.push_cells.new.text)
    (range_text q.space q.range) (amount_text (address_count q.range)) _ c.args.depth
    c.in_ok-push_steps.ensures c.new-cells.ensures
    (region_cells _ _ _ _ _ _ _ _ _ _ (part_name q.part q.prefetchable) (slot_text q.slot) (hex_byte q.register) c.args.cut
    c.put_extent.ensures.text c.push.ensures.items c.put_name.ensures.text c.push-2.ensures.items c.put_slot.ensures.text c.push-3.ensures.items c.put_byte.ensures.text c.put_isa.ensures.text c.push-4.ensures.items)
    pushed)
    c.push_cells.ensures

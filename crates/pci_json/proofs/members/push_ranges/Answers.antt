use Rattle.std.proofs.Common.{rules, ap, map}
use Rattle.pci_json.specs.Members.{with_items, range_object}
use Rattle.pci_json.proofs.Steps.{no_parts, step_item, items_done}
use Rattle.pci_json.specs.Lines.{parts_of_text}
use Rattle.pci_json.proofs.members.push_ranges.Goals as goal

pub loop-rest-preserved : goal.loop-rest-preserved
loop-rest-preserved g c = record {
  text = search rules;
  written = step_item c.loop-rest.out c.push_range_object.new.out (with_items c.args.out.now (map range_object (parts_of_text c.args.end c.args.text.now))) (map range_object (parts_of_text c.args.end c.loop-rest.rest.now)) (range_object c.cut.result.0.now) (map range_object (parts_of_text c.args.end c.cut.result.1.now)) (ap (map range_object) c.cut.ensures.parts) c.in_ok-push_range_object.ensures c.loop-rest.invariant.written;
}

pub returns : goal.returns
returns g c = items_done c.loop-rest.out (with_items c.args.out.now (map range_object (parts_of_text c.args.end c.args.text.now))) (map range_object (parts_of_text c.args.end c.loop-rest.rest.now)) (ap (map range_object) (no_parts c.args.end c.loop-rest.rest.now c.is_empty.result c.is_empty.ensures c.loop-rest-test.false)) c.loop-rest.invariant.written

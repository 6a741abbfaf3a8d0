use Rattle.std.proofs.Common.{rules, ap}
use Rattle.pci_json.specs.Lines.{lines_of_text}
use Rattle.pci_json.specs.Members.{with_items}
use Rattle.pci_json.proofs.Steps.{no_parts, step_items, items_done}
use Rattle.pci_json.specs.Documents.{bus_objects, root_of}
use Rattle.pci_json.proofs.map.push_roots.Goals as goal

pub loop-rest-preserved : goal.loop-rest-preserved
loop-rest-preserved g c = record {
  text = search rules;
  written = step_items c.loop-rest.out c.push_root.new.out (with_items c.args.out.now (bus_objects (lines_of_text c.args.text.now))) (bus_objects (lines_of_text c.loop-rest.rest.now)) (root_of c.cut.result.0.now (lines_of_text c.cut.result.1.now)) (bus_objects (lines_of_text c.cut.result.1.now)) (ap (bus_objects) c.cut.ensures.parts) c.in_ok-push_root.ensures c.loop-rest.invariant.written;
}

pub returns : goal.returns
returns g c = items_done c.loop-rest.out (with_items c.args.out.now (bus_objects (lines_of_text c.args.text.now))) (bus_objects (lines_of_text c.loop-rest.rest.now)) (ap (bus_objects) (no_parts 10 c.loop-rest.rest.now c.is_empty.result c.is_empty.ensures c.loop-rest-test.false)) c.loop-rest.invariant.written

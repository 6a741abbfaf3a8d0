use Rattle.std.proofs.Common.{rules, ap}
use Rattle.pci_json.specs.Lines.{lines_of_text}
use Rattle.pci_json.specs.Members.{with_items}
use Rattle.pci_json.proofs.Steps.{no_parts, step_item, items_done}
use Rattle.pci_json.specs.Documents.{writes_of, write_object}
use Rattle.pci_json.proofs.document.push_writes.Goals as goal

pub loop-rest-preserved : goal.loop-rest-preserved
loop-rest-preserved g c = record {
  text = search rules;
  written = step_item c.loop-rest.out c.push_write_object.new.out (with_items c.args.out.now (writes_of (lines_of_text c.args.text.now))) (writes_of (lines_of_text c.loop-rest.rest.now)) (write_object c.cut.result.0.now) (writes_of (lines_of_text c.cut.result.1.now)) (ap (writes_of) c.cut.ensures.parts) c.in_ok-push_write_object.ensures c.loop-rest.invariant.written;
}

pub returns : goal.returns
returns g c = items_done c.loop-rest.out (with_items c.args.out.now (writes_of (lines_of_text c.args.text.now))) (writes_of (lines_of_text c.loop-rest.rest.now)) (ap (writes_of) (no_parts 10 c.loop-rest.rest.now c.is_empty.result c.is_empty.ensures c.loop-rest-test.false)) c.loop-rest.invariant.written

use Rattle.std.proofs.Common.{rules, ap}
use Rattle.pci_json.specs.Lines.{lines_of_text}
use Rattle.pci_json.specs.Members.{with_items}
use Rattle.pci_json.proofs.Steps.{no_parts, step_items, items_done}
use Rattle.pci_json.specs.Documents.{faults_of, fault_on_line}
use Rattle.pci_json.proofs.document.push_faults.Goals as goal

pub loop-rest-preserved : goal.loop-rest-preserved
loop-rest-preserved g c = record {
  text = search rules;
  written = step_items c.loop-rest.out c.push_fault_of.new.out (with_items c.args.out.now (faults_of (lines_of_text c.args.text.now))) (faults_of (lines_of_text c.loop-rest.rest.now)) (fault_on_line c.cut.result.0.now (lines_of_text c.cut.result.1.now)) (faults_of (lines_of_text c.cut.result.1.now)) (ap (faults_of) c.cut.ensures.parts) c.in_ok-push_fault_of.ensures c.loop-rest.invariant.written;
}

pub returns : goal.returns
returns g c = items_done c.loop-rest.out (with_items c.args.out.now (faults_of (lines_of_text c.args.text.now))) (faults_of (lines_of_text c.loop-rest.rest.now)) (ap (faults_of) (no_parts 10 c.loop-rest.rest.now c.is_empty.result c.is_empty.ensures c.loop-rest-test.false)) c.loop-rest.invariant.written

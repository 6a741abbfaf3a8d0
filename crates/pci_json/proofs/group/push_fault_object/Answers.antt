use Rattle.std.proofs.Common.{◌++◌}
use Rattle.std.proofs.lemmas.Result.{on_ok_weaker}
use Rattle.pci_json.specs.Lines.{lines_of_text}
use Rattle.pci_json.specs.Groups.{inner_of, why_member}
use Rattle.pci_json.specs.Faults.{fault_members}
use Rattle.pci_json.proofs.Tokens.{object_value, two_members}
use Rattle.pci_json.proofs.group.push_fault_object.Goals as goal

pub returns : goal.returns
returns g c = on_ok_weaker c.end_object.result (λ e. object_value c.args.out.now c.begin_object.new.self c.push_why.new.out c.end_object.new.self (fault_members c.args.line.now ++ why_member (inner_of (lines_of_text c.args.text.now))) c.in_ok-begin_object.ensures (two_members c.begin_object.new.self c.push_fault.new.out c.push_why.new.out (fault_members c.args.line.now) (why_member (inner_of (lines_of_text c.args.text.now))) c.in_ok-push_fault.ensures c.in_ok-push_why.ensures) e) c.end_object.ensures

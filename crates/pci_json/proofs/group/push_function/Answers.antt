use Rattle.std.proofs.lemmas.Result.{on_ok_weaker}
use Rattle.pci_json.specs.Lines.{lines_of_text}
use Rattle.pci_json.specs.Groups.{inner_of, function_members}
use Rattle.pci_json.proofs.Tokens.{object_value}
use Rattle.pci_json.proofs.group.push_function.Goals as goal

pub returns : goal.returns
returns g c = on_ok_weaker c.end_object.result (λ e. object_value c.args.out.now c.begin_object.new.self c.push_function_members.new.out c.end_object.new.self (function_members c.args.line.now (inner_of (lines_of_text c.args.text.now))) c.in_ok-begin_object.ensures c.in_ok-push_function_members.ensures e) c.end_object.ensures

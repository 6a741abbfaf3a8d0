use Rattle.std.proofs.Common.{◌∷◌, [], ◌++◌, ◌∙◌, codes, ap}
use Rattle.std.proofs.lemmas.Result.{on_ok_weaker}
use Rattle.json.specs.Json.{string}
use Rattle.pci_json.specs.Members.{with_members, json_count}
use Rattle.pci_json.proofs.Tokens.{object_value, two_members}
use Rattle.pci_json.specs.Documents.{answer_members, command_name}
use Rattle.pci_json.proofs.document.push_document.Goals as goal

pub returns : goal.returns
returns g c = on_ok_weaker c.end_object.result (λ e. object_value c.args.out.now c.begin_object.new.self c.push_answer.new.out c.end_object.new.self ((codes "form", json_count 1) ∷ (codes "command", string (command_name c.args.command)) ∷ (codes "status", json_count c.args.status) ∷ (answer_members c.args.command c.args.text.now)) c.in_ok-begin_object.ensures (two_members c.begin_object.new.self c.number.new.self c.push_answer.new.out ((codes "form", json_count 1) ∷ []) (((codes "command", string (command_name c.args.command)) ∷ []) ++ (((codes "status", json_count c.args.status) ∷ []) ++ (answer_members c.args.command c.args.text.now))) c.in_ok-number.ensures (two_members c.number.new.self c.text.new.self c.push_answer.new.out ((codes "command", string (command_name c.args.command)) ∷ []) (((codes "status", json_count c.args.status) ∷ []) ++ (answer_members c.args.command c.args.text.now)) (c.in_ok-text.ensures ∙ ap (λ s. with_members c.number.new.self ((codes "command", string s) ∷ [])) c.command_name.ensures) (two_members c.text.new.self c.push_status.new.out c.push_answer.new.out ((codes "status", json_count c.args.status) ∷ []) (answer_members c.args.command c.args.text.now) c.in_ok-push_status.ensures c.in_ok-push_answer.ensures))) e) c.end_object.ensures

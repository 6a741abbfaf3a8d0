use Rattle.std.proofs.Common.{◌∙◌, codes, sym, ap}
use Rattle.std.proofs.lemmas.Result.{on_ok_weaker}
use Rattle.pci_json.specs.Lines.{lines_of_text}
use Rattle.pci_json.specs.Members.{with_members, object_of}
use Rattle.pci_json.specs.Groups.{inner_of, why_members}
use Rattle.pci_json.proofs.Tokens.{object_value, named_value}
use Rattle.pci_json.proofs.Choices.{why_one}
use Rattle.pci_json.proofs.group.push_why.Goals as goal

pub returns : goal.returns
returns g c = on_ok_weaker c.end_object.result (λ e. named_value c.args.out.now c.key.new.self c.end_object.new.self (codes "why") (object_of (why_members (inner_of (lines_of_text c.args.text.now)))) c.in_ok-key.ensures (object_value c.key.new.self c.begin_object.new.self c.push_why_members.new.out c.end_object.new.self (why_members (inner_of (lines_of_text c.args.text.now))) c.in_ok-begin_object.ensures c.in_ok-push_why_members.ensures e) ∙ ap (with_members c.args.out.now) (sym (why_one (inner_of (lines_of_text c.args.text.now)) (sym c.begins_inner.ensures ∙ c.if-not-begins_inner.false)))) c.end_object.ensures

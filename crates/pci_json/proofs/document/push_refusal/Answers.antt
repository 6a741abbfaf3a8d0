use Rattle.std.proofs.Common.{◌++◌, ◌∙◌, codes, ap}
use Rattle.std.proofs.lemmas.Result.{on_ok_weaker}
use Rattle.pci_json.specs.Lines.{lines_of_text, behind_words}
use Rattle.pci_json.specs.Members.{with_members, object_of}
use Rattle.pci_json.specs.Groups.{inner_of}
use Rattle.pci_json.specs.Faults.{fault_members}
use Rattle.pci_json.proofs.Tokens.{object_value, named_value, two_members}
use Rattle.pci_json.specs.Documents.{room_member, first_line, behind_line}
use Rattle.pci_json.proofs.document.push_refusal.Goals as goal

pub returns : goal.returns
returns g c = on_ok_weaker c.end_object.result (λ e. named_value c.args.out.now c.key.new.self c.end_object.new.self (codes "fault") (object_of ((fault_members (behind_words 1 (first_line c.args.text.now))) ++ (room_member (inner_of (lines_of_text (behind_line c.args.text.now)))))) c.in_ok-key.ensures (object_value c.key.new.self c.begin_object.new.self c.push_room.new.out c.end_object.new.self ((fault_members (behind_words 1 (first_line c.args.text.now))) ++ (room_member (inner_of (lines_of_text (behind_line c.args.text.now))))) c.in_ok-begin_object.ensures (two_members c.begin_object.new.self c.push_fault.new.out c.push_room.new.out (fault_members (behind_words 1 (first_line c.args.text.now))) (room_member (inner_of (lines_of_text (behind_line c.args.text.now)))) (c.in_ok-push_fault.ensures ∙ ap (λ l. with_members c.begin_object.new.self (fault_members l)) (c.behind.ensures ∙ ap (behind_words 1) c.cut_first.ensures.first)) (c.in_ok-push_room.ensures ∙ ap (λ l. with_members c.push_fault.new.out (room_member (inner_of (lines_of_text l)))) c.cut_first.ensures.behind)) e)) c.end_object.ensures

use Rattle.std.proofs.Common.{◌∷◌, [], codes}
use Rattle.std.proofs.lemmas.Result.{on_ok_weaker}
use Rattle.pci_json.specs.Lines.{lines_of_text}
use Rattle.pci_json.specs.Members.{array_of}
use Rattle.pci_json.proofs.Tokens.{array_value, named_value, two_members}
use Rattle.pci_json.specs.Documents.{faults_of, off_member}
use Rattle.pci_json.proofs.document.push_fault_list.Goals as goal

pub returns : goal.returns
returns g c = on_ok_weaker c.push_off_member.result (λ e. (two_members c.args.out.now c.end_array.new.self c.push_off_member.new.out ((codes "faults", array_of (faults_of (lines_of_text c.args.text.now))) ∷ []) (off_member (lines_of_text c.args.text.now)) (named_value c.args.out.now c.key.new.self c.end_array.new.self (codes "faults") (array_of (faults_of (lines_of_text c.args.text.now))) c.in_ok-key.ensures (array_value c.key.new.self c.begin_array.new.self c.push_faults.new.out c.end_array.new.self (faults_of (lines_of_text c.args.text.now)) c.in_ok-begin_array.ensures c.in_ok-push_faults.ensures c.in_ok-end_array.ensures)) e)) c.push_off_member.ensures

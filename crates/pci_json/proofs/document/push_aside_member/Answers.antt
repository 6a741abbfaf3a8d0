use Rattle.std.proofs.lemmas.Result.{on_ok_weaker}
use Rattle.pci_json.specs.Lines.{lines_of_text}
use Rattle.pci_json.specs.Members.{array_of}
use Rattle.pci_json.proofs.Tokens.{array_value, named_value}
use Rattle.pci_json.specs.Documents.{aside_of}
use Rattle.pci_json.proofs.document.push_aside_member.Goals as goal

pub returns : goal.returns
returns g c = on_ok_weaker c.end_array.result (λ e. named_value c.args.out.now c.key.new.self c.end_array.new.self c.args.name.now (array_of (aside_of c.args.name.now (lines_of_text c.args.text.now))) c.in_ok-key.ensures (array_value c.key.new.self c.begin_array.new.self c.push_aside.new.out c.end_array.new.self (aside_of c.args.name.now (lines_of_text c.args.text.now)) c.in_ok-begin_array.ensures c.in_ok-push_aside.ensures e)) c.end_array.ensures

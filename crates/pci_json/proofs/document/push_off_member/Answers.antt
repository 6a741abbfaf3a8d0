use Rattle.std.proofs.Common.{◌∷◌, [], ◌∙◌, Bool, codes, sym, ap, if◌then◌else◌}
use Rattle.std.proofs.lemmas.Result.{on_ok_weaker}
use Rattle.pci_json.specs.Lines.{lines_of_text}
use Rattle.pci_json.specs.Members.{with_members, array_of}
use Rattle.pci_json.proofs.Tokens.{array_value, named_value}
use Rattle.pci_json.specs.Documents.{offs_of}
use Rattle.pci_json.proofs.document.push_off_member.Goals as goal

pub returns : goal.returns
returns g c = on_ok_weaker c.end_array.result (λ e. named_value c.args.out.now c.key.new.self c.end_array.new.self (codes "off") (array_of (offs_of (lines_of_text c.args.text.now))) c.in_ok-key.ensures (array_value c.key.new.self c.begin_array.new.self c.push_offs.new.out c.end_array.new.self (offs_of (lines_of_text c.args.text.now)) c.in_ok-begin_array.ensures c.in_ok-push_offs.ensures e) ∙ ap (with_members c.args.out.now) (ap (λ (b : Bool). if b then (codes "off", array_of (offs_of (lines_of_text c.args.text.now))) ∷ [] else []) (sym (sym c.has_off.ensures ∙ c.if-not-has_off.false)))) c.end_array.ensures

use Rattle.std.proofs.Common.{◌∙◌, ap}
use Rattle.std.proofs.lemmas.Result.{on_ok_weaker}
use Rattle.pci_json.specs.Lines.{content_of}
use Rattle.pci_json.specs.Members.{with_members}
use Rattle.pci_json.specs.Listings.{write_members}
use Rattle.pci_json.proofs.Tokens.{object_value}
use Rattle.pci_json.proofs.document.push_write_object.Goals as goal

pub returns : goal.returns
returns g c = on_ok_weaker c.end_object.result (λ e. object_value c.args.out.now c.begin_object.new.self c.push_write.new.out c.end_object.new.self (write_members (content_of c.args.line.now)) c.in_ok-begin_object.ensures (c.in_ok-push_write.ensures ∙ ap (λ l. with_members c.begin_object.new.self (write_members l)) c.content.ensures) e) c.end_object.ensures

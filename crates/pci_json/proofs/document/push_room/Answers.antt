use Rattle.std.proofs.Common.{◌∷◌, [], ◌∙◌, codes, sym, ap}
use Rattle.std.proofs.lemmas.Result.{on_ok_weaker}
use Rattle.json.specs.Json.{string}
use Rattle.pci_json.specs.Lines.{content_of}
use Rattle.pci_json.specs.Members.{with_members, object_of}
use Rattle.pci_json.proofs.Tokens.{object_value, named_value}
use Rattle.pci_json.specs.Documents.{first_line}
use Rattle.pci_json.proofs.Choices.{room_one}
use Rattle.pci_json.proofs.document.push_room.Goals as goal

pub returns : goal.returns
returns g c = on_ok_weaker c.end_object.result (λ e. named_value c.args.out.now c.key.new.self c.end_object.new.self (codes "why") (object_of ((codes "text", string (content_of (first_line c.args.text.now))) ∷ [])) c.in_ok-key.ensures (object_value c.key.new.self c.begin_object.new.self c.text.new.self c.end_object.new.self ((codes "text", string (content_of (first_line c.args.text.now))) ∷ []) c.in_ok-begin_object.ensures (c.in_ok-text.ensures ∙ ap (λ s. with_members c.begin_object.new.self ((codes "text", string s) ∷ [])) (c.content.ensures ∙ ap content_of c.cut_first.ensures.first)) e) ∙ ap (with_members c.args.out.now) (sym (room_one c.args.text.now (sym c.begins_inner.ensures ∙ c.if-not-begins_inner.false)))) c.end_object.ensures

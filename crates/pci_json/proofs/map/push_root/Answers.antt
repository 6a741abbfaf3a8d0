use Rattle.std.proofs.Common.{◌∷◌, [], ◌∙◌, Bool, sym, ap, if◌then◌else◌}
use Rattle.std.proofs.lemmas.Result.{on_ok_weaker}
use Rattle.pci_json.specs.Lines.{lines_of_text, content_of}
use Rattle.pci_json.specs.Members.{with_members, with_items, object_of}
use Rattle.pci_json.proofs.Tokens.{object_value}
use Rattle.pci_json.specs.Documents.{place_objects}
use Rattle.pci_json.specs.Listings.{root_members}
use Rattle.pci_json.proofs.map.push_root.Goals as goal

pub returns : goal.returns
returns g c = on_ok_weaker c.end_object.result (λ e. object_value c.args.out.now c.begin_object.new.self c.push_root_members.new.out c.end_object.new.self (root_members (content_of c.args.line.now) (place_objects 1 (lines_of_text c.args.text.now))) c.in_ok-begin_object.ensures (c.in_ok-push_root_members.ensures ∙ ap (λ l. with_members c.begin_object.new.self (root_members l (place_objects 1 (lines_of_text c.args.text.now)))) c.content.ensures) e ∙ ap (with_items c.args.out.now) (ap (λ (b : Bool). if b then object_of (root_members (content_of c.args.line.now) (place_objects 1 (lines_of_text c.args.text.now))) ∷ [] else []) (sym (sym c.is_heading.ensures ∙ c.if-not-is_heading.false)))) c.end_object.ensures

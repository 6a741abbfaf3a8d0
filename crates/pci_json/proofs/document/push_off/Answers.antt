use Rattle.std.proofs.Common.{◌∷◌, [], ◌∙◌, Bool, sym, ap, if◌then◌else◌}
use Rattle.std.proofs.lemmas.Result.{on_ok_weaker}
use Rattle.pci_json.specs.Lines.{content_of}
use Rattle.pci_json.specs.Members.{with_members, with_items, object_of}
use Rattle.pci_json.proofs.Tokens.{object_value}
use Rattle.pci_json.specs.Reasons.{region_members}
use Rattle.pci_json.proofs.document.push_off.Goals as goal

pub returns : goal.returns
returns g c = on_ok_weaker c.end_object.result (λ e. object_value c.args.out.now c.begin_object.new.self c.push_region.new.out c.end_object.new.self (region_members 1 (content_of c.args.line.now)) c.in_ok-begin_object.ensures (c.in_ok-push_region.ensures ∙ ap (λ l. with_members c.begin_object.new.self (region_members 1 l)) c.content.ensures) e ∙ ap (with_items c.args.out.now) (ap (λ (b : Bool). if b then object_of (region_members 1 (content_of c.args.line.now)) ∷ [] else []) (sym (sym c.is_heading.ensures ∙ c.if-not-is_heading.false)))) c.end_object.ensures

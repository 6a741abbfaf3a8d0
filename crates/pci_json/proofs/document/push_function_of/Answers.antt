use Rattle.std.proofs.Common.{◌∷◌, [], ◌∙◌, Bool, sym, ap, if◌then◌else◌}
use Rattle.std.proofs.lemmas.Result.{on_ok_weaker}
use Rattle.pci_json.specs.Lines.{lines_of_text, content_of}
use Rattle.pci_json.specs.Members.{with_items}
use Rattle.pci_json.specs.Groups.{function_object}
use Rattle.pci_json.proofs.document.push_function_of.Goals as goal

pub returns : goal.returns
returns g c = on_ok_weaker c.push_function.result (λ e. e ∙ ap (λ l. with_items c.args.out.now (function_object l (lines_of_text c.args.text.now) ∷ [])) c.content.ensures ∙ ap (with_items c.args.out.now) (ap (λ (b : Bool). if b then [] else function_object (content_of c.args.line.now) (lines_of_text c.args.text.now) ∷ []) (sym (sym c.is_inner.ensures ∙ c.if-is_inner.false)))) c.push_function.ensures

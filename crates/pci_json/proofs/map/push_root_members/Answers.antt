use Rattle.std.proofs.Common.{◌∷◌, [], ◌++◌, ◌∙◌, codes, ap}
use Rattle.std.proofs.lemmas.Result.{on_ok_weaker}
use Rattle.json.specs.Json.{string}
use Rattle.pci_json.specs.Lines.{lines_of_text, word}
use Rattle.pci_json.specs.Members.{with_members, array_of}
use Rattle.pci_json.proofs.Tokens.{array_value, named_value, two_members}
use Rattle.pci_json.specs.Documents.{place_objects}
use Rattle.pci_json.proofs.map.push_root_members.Goals as goal

pub returns : goal.returns
returns g c = on_ok_weaker c.end_array.result (λ e. (two_members c.args.out.now c.text.new.self c.end_array.new.self ((codes "bus", string (word 1 c.args.line.now)) ∷ []) (((codes "space", string (word 2 c.args.line.now)) ∷ []) ++ ((codes "regions", array_of (place_objects 1 (lines_of_text c.args.text.now))) ∷ [])) (c.in_ok-text.ensures ∙ ap (λ s. with_members c.args.out.now ((codes "bus", string s) ∷ [])) c.word.ensures) (two_members c.text.new.self c.text-2.new.self c.end_array.new.self ((codes "space", string (word 2 c.args.line.now)) ∷ []) ((codes "regions", array_of (place_objects 1 (lines_of_text c.args.text.now))) ∷ []) (c.in_ok-text-2.ensures ∙ ap (λ s. with_members c.text.new.self ((codes "space", string s) ∷ [])) c.word-2.ensures) (named_value c.text-2.new.self c.key.new.self c.end_array.new.self (codes "regions") (array_of (place_objects 1 (lines_of_text c.args.text.now))) c.in_ok-key.ensures (array_value c.key.new.self c.begin_array.new.self c.push_places.new.out c.end_array.new.self (place_objects 1 (lines_of_text c.args.text.now)) c.in_ok-begin_array.ensures c.in_ok-push_places.ensures.written e))))) c.end_array.ensures

use Rattle.std.proofs.Common.{◌∷◌, [], ◌++◌, codes}
use Rattle.std.proofs.lemmas.Result.{on_ok_weaker}
use Rattle.pci_json.specs.Lines.{lines_of_text}
use Rattle.pci_json.specs.Members.{array_of}
use Rattle.pci_json.proofs.Tokens.{array_value, named_value, two_members}
use Rattle.pci_json.specs.Documents.{bus_objects, aside_of}
use Rattle.pci_json.proofs.document.push_map.Goals as goal

pub returns : goal.returns
returns g c = on_ok_weaker c.push_aside_member-3.result (λ e. (two_members c.args.out.now c.end_array.new.self c.push_aside_member-3.new.out ((codes "buses", array_of (bus_objects (lines_of_text c.args.text.now))) ∷ []) (((codes "outside", array_of (aside_of (codes "outside") (lines_of_text c.args.text.now))) ∷ []) ++ (((codes "unreached", array_of (aside_of (codes "unreached") (lines_of_text c.args.text.now))) ∷ []) ++ ((codes "off", array_of (aside_of (codes "off") (lines_of_text c.args.text.now))) ∷ []))) (named_value c.args.out.now c.key.new.self c.end_array.new.self (codes "buses") (array_of (bus_objects (lines_of_text c.args.text.now))) c.in_ok-key.ensures (array_value c.key.new.self c.begin_array.new.self c.push_roots.new.out c.end_array.new.self (bus_objects (lines_of_text c.args.text.now)) c.in_ok-begin_array.ensures c.in_ok-push_roots.ensures c.in_ok-end_array.ensures)) (two_members c.end_array.new.self c.push_aside_member.new.out c.push_aside_member-3.new.out ((codes "outside", array_of (aside_of (codes "outside") (lines_of_text c.args.text.now))) ∷ []) (((codes "unreached", array_of (aside_of (codes "unreached") (lines_of_text c.args.text.now))) ∷ []) ++ ((codes "off", array_of (aside_of (codes "off") (lines_of_text c.args.text.now))) ∷ [])) c.in_ok-push_aside_member.ensures (two_members c.push_aside_member.new.out c.push_aside_member-2.new.out c.push_aside_member-3.new.out ((codes "unreached", array_of (aside_of (codes "unreached") (lines_of_text c.args.text.now))) ∷ []) ((codes "off", array_of (aside_of (codes "off") (lines_of_text c.args.text.now))) ∷ []) c.in_ok-push_aside_member-2.ensures e)))) c.push_aside_member-3.ensures

use Rattle.std.proofs.Common.{◌∙◌, ℕ, List, ◌∷◌, [], ◌++◌, codes, ap}
use Rattle.std.proofs.lemmas.Result.{on_ok_weaker}
use Rattle.json.specs.Json.{Json, string}
use Rattle.pci_json.specs.Faults.{space_and_address}
use Rattle.pci_json.specs.Lines.{word}
use Rattle.pci_json.specs.Members.{with_members, slot_register_members}
use Rattle.pci_json.proofs.Tokens.{two_members}
use Rattle.pci_json.proofs.faults.push_unreached.Goals as goal

pub returns : goal.returns
returns g c =
    let line = c.args.line.now in
    let region = c.push_slot_and_register.new.out in
    let address = c.push_space_and_address.new.out in
    let bridge : List (List ℕ × Json) = (codes "bridge", string (word 7 line)) ∷ [] in
    on_ok_weaker c.text.result
    (λ e. two_members c.args.out.now region c.text.new.self (slot_register_members 2 line) (space_and_address 4 line ++ bridge) c.in_ok-push_slot_and_register.ensures
    (two_members region address c.text.new.self (space_and_address 4 line) bridge c.in_ok-push_space_and_address.ensures
    (e ∙ ap (λ (w : List ℕ). with_members address ((codes "bridge", string w) ∷ [])) c.word.ensures)))
    c.text.ensures

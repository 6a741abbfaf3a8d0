use Rattle.std.proofs.Common.{◌∙◌, ◌+◌, ℕ, List, ◌∷◌, [], ◌++◌, codes, ap}
use Rattle.std.proofs.lemmas.Result.{on_ok_weaker}
use Rattle.json.specs.Json.{Json, string}
use Rattle.pci_json.specs.Lines.{word}
use Rattle.pci_json.specs.Members.{with_members, slot_register_members}
use Rattle.pci_json.proofs.Tokens.{two_members}
use Rattle.pci_json.proofs.reasons.push_part.Goals as goal

pub returns : goal.returns
returns g c =
    let line = c.args.line.now in
    let n = c.args.n in
    let region = c.push_slot_and_register.new.out in
    let part : List (List ℕ × Json) = (codes "part", string (word (n + 2) line)) ∷ [] in
    let space : List (List ℕ × Json) = (codes "space", string (word (n + 3) line)) ∷ [] in
    on_ok_weaker c.text-2.result
    (λ e. two_members c.args.out.now region c.text-2.new.self (slot_register_members n line) (part ++ space) c.in_ok-push_slot_and_register.ensures
    (two_members region c.text.new.self c.text-2.new.self part space
    (c.in_ok-text.ensures ∙ ap (λ (w : List ℕ). with_members region ((codes "part", string w) ∷ [])) c.word.ensures)
    (e ∙ ap (λ (w : List ℕ). with_members c.text.new.self ((codes "space", string w) ∷ [])) c.word-2.ensures)))
    c.text-2.ensures

use Rattle.std.proofs.Common.{◌≡◌, ℕ, List, [], ◌∷◌, codes, ap₂, ◌∙◌}
use Rattle.std.proofs.lemmas.Result.{on_ok_weaker}
use Rattle.json.specs.Json.{string}
use Rattle.json.specs.Token.{Token}
use Rattle.pci_json.specs.Faults.{fault_number_in_line, named_members}
use Rattle.pci_json.specs.Lines.{word}
use Rattle.pci_json.specs.Members.{json_count, with_members}
use Rattle.pci_json.proofs.faults.push_fault.Goals as goal

pub returns : goal.returns
returns g c =
    let line : List ℕ = c.args.line.now in
    let number : c.value-number.result ≡ fault_number_in_line line = cc (c.word.ensures, c.value-number.ensures) in
    let three : c.text-2.new.self ≡ with_members c.args.out.now ((codes "number", json_count (fault_number_in_line line)) ∷ (codes "name", string (word 1 line)) ∷ (codes "text", string line) ∷ [])
    = cc (number, c.in_ok-number.ensures, c.word-2.ensures, c.in_ok-text.ensures, c.in_ok-text-2.ensures) in
    on_ok_weaker c.push_named.result (λ e. e ∙ ap₂ (λ (t : List Token) (n : ℕ). with_members t (named_members n line)) three number) c.push_named.ensures

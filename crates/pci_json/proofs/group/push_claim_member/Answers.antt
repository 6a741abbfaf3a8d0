use Rattle.std.proofs.Common.{◌≡◌, ◌∷◌, [], ◌++◌, ap, ◌∙◌}
use Rattle.std.proofs.lemmas.Result.{on_ok_weaker}
use Rattle.json.specs.Token.{Token}
use Rattle.pci_json.specs.Lines.{word}
use Rattle.pci_json.specs.Members.{object_of, with_members}
use Rattle.pci_json.proofs.Tokens.{object_written, member_written}
use Rattle.pci_json.specs.Reasons.{claim_members}
use Rattle.pci_json.proofs.group.push_claim_member.Goals as goal

pub returns : goal.returns
returns g c =
    let out = c.args.out.now in
    let name = word 0 c.args.line.now in
    let members = claim_members c.args.line.now in
    let key : c.key.new.self ≡ out ++ Token.key name ∷ [] = cc (c.word.ensures, c.in_ok-key.ensures) in
    let inside = c.in_ok-push_claim.ensures ∙ ap (λ t. with_members t members) (c.in_ok-begin_object.ensures ∙ ap (λ t. t ++ Token.begin_object ∷ []) key) in
    on_ok_weaker c.end_object.result
    (λ e. e ∙ ap (λ t. t ++ Token.end_object ∷ []) inside ∙ object_written (out ++ Token.key name ∷ []) members ∙ member_written out name (object_of members))
    c.end_object.ensures

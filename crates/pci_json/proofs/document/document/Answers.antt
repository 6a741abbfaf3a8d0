use Rattle.std.proofs.Common.{◌≡◌, ◌∷◌, [], ◌++◌, ◌∙◌, ap}
use Rattle.std.proofs.Common.{List}
use Rattle.json.specs.Token.{Token}
use Rattle.json.specs.Tree.{json_tokens}
use Rattle.json.specs.Print.{print}
use Rattle.pci_json.specs.Documents.{document_of}
use Rattle.pci_json.proofs.ReadBack.{read_back}
use Rattle.pci_json.proofs.document.document.Goals as goal

made : (a b w : List Token) → a ≡ [] → b ≡ a ++ w → b ≡ w
made a b w none wrote = wrote ∙ ap (λ t. t ++ w) none

pub returns-clause-text : goal.returns-clause-text
returns-clause-text g c =
    c.in_ok-finish.ensures.text
    ∙ ap (λ t. print t ++ 10 ∷ []) (made c.new-out.result c.push_document.new.out (json_tokens (document_of c.args.command c.args.status c.args.text.now)) c.new-out.ensures c.in_ok-push_document.ensures)

pub returns-clause-reads_back : goal.returns-clause-reads_back
returns-clause-reads_back g c =
    read_back (document_of c.args.command c.args.status c.args.text.now) c.push_document.new.out (made c.new-out.result c.push_document.new.out (json_tokens (document_of c.args.command c.args.status c.args.text.now)) c.new-out.ensures c.in_ok-push_document.ensures)
    c.finish.ensures.reads_back

use Rattle.std.proofs.Common.{◌++◌, ◌∷◌, [], ap, ◌∙◌}
use Rattle.pci_tree.proofs.Reaching.{whole_of}
use Rattle.pci_claims.proofs.sent.all_of.Goals as goal

pub returns : goal.returns
returns g c = whole_of _ c.whole.result _ (c.in_ok-push.ensures.items ∙ ap (λ xs. xs ++ c.whole.result ∷ []) c.new-out.ensures.items) c.whole.ensures.lawful c.whole.ensures.exact

use Rattle.std.proofs.lemmas.Result.{on_ok_weaker}
use Rattle.std.specs.String.{string_bytes}
use Rattle.pci_claims.specs.Values.{code_given_value, told_value}
use Rattle.pci_map.proofs.Roots.{told_no_root, told_root, its_root, root_if, root_not}
use Rattle.pci_map.proofs.buses.push_bus.Goals as goal

pub returns-then-not-has : goal.returns-then-not-has
returns-then-not-has g c = λ s of.
    told_no_root (told_value c.args.mapped.now.told) (code_given_value c.args.mapped.now.given) c.args.mapped.now.outline.now.roots s c.args.bus (string_bytes c.args.text.now)
    (root_not c.args.mapped.now.outline.now.roots _ c.args.bus c.has.result c.roots.ensures c.has.ensures c.if-not-has.true)

pub returns : goal.returns
returns g c =
    on_ok_weaker c.push_space-2.result
    (λ last s of. told_root (told_value c.args.mapped.now.told) (code_given_value c.args.mapped.now.given) c.args.mapped.now.outline.now.roots s c.args.bus (string_bytes c.args.text.now) _ (string_bytes c.push_space-2.new.text)
    (root_if c.args.mapped.now.outline.now.roots _ c.args.bus c.has.result c.roots.ensures c.has.ensures c.if-not-has.false)
    (c.in_ok-push_space.ensures s of (its_root c.args.mapped.now.outline.now.roots _ c.args.bus c.has.result c.roots.ensures c.has.ensures c.if-not-has.false))
    (last s of (its_root c.args.mapped.now.outline.now.roots _ c.args.bus c.has.result c.roots.ensures c.has.ensures c.if-not-has.false)))
    c.push_space-2.ensures

use Rattle.std.proofs.Common.{refl, sym, ◌∙◌}
use Rattle.pci_claims.specs.Values.{code_given_value}
use Rattle.pci_tree.proofs.Lifting.{same_slot_of}
use Rattle.pci_map.proofs.TakerLists.{no_bridge, not_given, taker_is}
use Rattle.pci_map.proofs.takers.taker_of.Goals as goal

pub returns-in_default : goal.returns-in_default
returns-in_default g c = λ s tree f listed same. no_bridge (code_given_value c.args.given.now) c.args.function.now f same c.in_default.is

pub returns-then-not-is_taking : goal.returns-then-not-is_taking
returns-then-not-is_taking g c = λ s tree f listed same. not_given (code_given_value c.args.given.now) c.args.function.now f same (sym c.is_taking.ensures ∙ c.if-not-is_taking.true)

pub returns : goal.returns
returns g c = λ s tree f listed same.
    taker_is c.args.outline.now.roots s c.args.function.now f c.in-Some.bridge _ same c.in-Some.is refl refl
    (c.root_over-root.ensures s tree.records f listed (sym (same_slot_of c.args.function.now f same)))

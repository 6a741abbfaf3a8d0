use Rattle.std.proofs.Common.{List, ◌++◌, ap, ◌∙◌, refl}
use Rattle.pci_base.specs.declared.range.Range.{Range}
use Rattle.pci_base.specs.Space.{space_of}
use Rattle.pci_claims.specs.Values.{code_given_value}
use Rattle.pci_claims.proofs.Bridging.{else_of}
use Rattle.pci_claims.proofs.passed.passed_else.Goals as goal

pub returns : goal.returns
returns g c =
    else_of (code_given_value c.args.given.now) c.args.slot (space_of c.args.space) c.args.given.now.legacy.now c.args.given.now.unclaimed.now c.in_ok-ranges.ranges.items c.in_ok-taken.taken.items _
    refl refl c.in_ok-ranges.ensures c.in_ok-taken.ensures
    (c.in_ok-extend_from_slice.ensures.items ∙ ap (λ (xs : List Range). c.in_ok-ranges.ranges.items ++ xs) c.deref.ensures.value)

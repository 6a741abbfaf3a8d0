use Rattle.std.proofs.Common.{subst}
use Rattle.std.specs.String.{string_bytes}
use Rattle.pci_base.specs.Space.{space_of}
use Rattle.pci_claims.specs.Values.{code_given_value, told_value}
use Rattle.pci_map.specs.Buses.{AreTakingsTold}
use Rattle.pci_map.proofs.buses.taken_text.Goals as goal

pub returns : goal.returns
returns g c = λ s of is_root.
    let mapped = c.args.walk.now.mapped.now in
    subst (λ text. AreTakingsTold record { told = told_value mapped.told; given = code_given_value mapped.given; roots = mapped.outline.now.roots; system = s; space = space_of c.args.walk.now.space } c.args.root mapped.takers.now text (string_bytes c.push_takings.new.text))
    c.new-text.ensures.bytes (c.in_ok-push_takings.ensures s of is_root)

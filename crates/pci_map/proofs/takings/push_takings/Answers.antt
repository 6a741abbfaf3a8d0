use Rattle.std.proofs.Common.{◌≡◌, ap, subst, sym}
use Rattle.std.specs.String.{string_bytes}
use Rattle.std.proofs.lemmas.List.{take_all}
use Rattle.pci_base.specs.Space.{space_of}
use Rattle.pci_claims.specs.Values.{code_given_value, told_value}
use Rattle.pci_map.specs.declared.takers.Taker.{Taker}
use Rattle.pci_map.specs.Buses.{AreTakingsTold}
use Rattle.pci_map.proofs.TakingLines.{no_takings, listed, one_taking, its_root, none_taking}
use Rattle.pci_map.proofs.takings.push_takings.Goals as goal
use Rattle.pci_map.proofs.takings.push_takings.Goals.{then-taker-root+in_ok-push_taking, else-taker-root}

pub loop-taker-init : goal.loop-taker-init
loop-taker-init g c = λ s of is_root.
    let mapped = c.args.walk.now.mapped.now in
    no_takings (told_value mapped.told) (code_given_value mapped.given) mapped.outline.now.roots s (space_of c.args.walk.now.space) c.args.root (string_bytes c.args.text.now)

pub loop-taker-preserved : goal.loop-taker-preserved
loop-taker-preserved g c = λ s of is_root.
    let mapped = c.args.walk.now.mapped.now in
    let told = told_value mapped.told in
    let given = code_given_value mapped.given in
    let roots = mapped.outline.now.roots in
    let space = space_of c.args.walk.now.space in
    let k = c.loop-taker.taker-index in
    let taker : Taker = c.taker-item.result in
    let was = c.loop-taker.invariant s of is_root in elim c.if-taker-root.branch [
      | then-taker-root+in_ok-push_taking w ↦
          let same : taker.root ≡ c.args.root = w.if-taker-root.true in
          subst (λ text. AreTakingsTold record { told = told; given = given; roots = roots; system = s; space = space } c.args.root _ (string_bytes c.args.text.now) text) (sym (ap string_bytes w.text-is))
          (one_taking told given roots s space c.args.root mapped.takers.now of.takers_are k taker c.loop-taker-test.true c.taker-item.is (string_bytes c.args.text.now) (string_bytes c.loop-taker.text) (string_bytes w.push_taking.new.text) was
          (w.in_ok-push_taking.ensures s c.args.root of (listed told given roots s space c.args.root mapped.takers.now of.takers_are k taker c.loop-taker-test.true c.taker-item.is)
          (its_root told given roots s space c.args.root mapped.takers.now of.takers_are k taker c.loop-taker-test.true c.taker-item.is same)))
      | else-taker-root w ↦
          none_taking told given roots s space c.args.root mapped.takers.now of.takers_are k taker c.loop-taker-test.true c.taker-item.is (string_bytes c.args.text.now) (string_bytes c.loop-taker.text) _ is_root
          w.if-taker-root.false (ap string_bytes w.text-is) was
    ]

pub returns : goal.returns
returns g c = λ s of is_root.
    let mapped = c.args.walk.now.mapped.now in
    subst (λ takers. AreTakingsTold record { told = told_value mapped.told; given = code_given_value mapped.given; roots = mapped.outline.now.roots; system = s; space = space_of c.args.walk.now.space } c.args.root takers (string_bytes c.args.text.now) (string_bytes c.loop-taker.text))
    (take_all c.loop-taker.taker-index mapped.takers.now c.loop-taker-test.false) (c.loop-taker.invariant s of is_root)

use Rattle.std.proofs.Common.{◌≡◌, inl, inr, arith, ◌∙◌, ap, subst, get_or}
use Rattle.std.proofs.lemmas.Bool.{cases_lt}
use Rattle.std.proofs.lemmas.List.{get_or_default}
use Rattle.pci_spec.specs.Text.{Block}
use Rattle.pci_plan.specs.Comparing.{ShowsAll}
use Rattle.pci_plan.proofs.compare.compare.Goals as goal

pub loop-block-preserved : goal.loop-block-preserved
loop-block-preserved g c =
    let blocks = c.args.blocks.now in
    let i = c.loop-block.block-index in
    let b = c.block-item.result in
    let before = c.loop-block.invariant.same in
    record {
      same = c.in_ok-compare_function.ensures.same ∙ before;
      counted = c.in_ok-compare_function.ensures.counted ∙ c.loop-block.invariant.counted;
      shown = λ k d less. elim (cases_lt k i) [
        | inl earlier ↦ c.loop-block.invariant.shown k d earlier
        | inr last ↦
            let at : i ≡ k = omega (arith, less, last) in
            let one : b ≡ get_or blocks k d = c.block-item.is ∙ get_or_default blocks i b d c.loop-block-test.true ∙ ap (λ n. get_or blocks n d) at in
            subst (λ (x : Block). ShowsAll (g.P.ConfigPort.targets c.args.port.now) x.slot x.image) one
            (subst (λ ts. ShowsAll ts b.slot b.image) before
            (subst (λ (x : Block). ShowsAll (g.P.ConfigPort.targets c.loop-block.port) x.slot x.image) c.block.view_is c.in_ok-compare_function.ensures.shown))
      ];
    }

pub returns-clause-started : goal.returns-clause-started
returns-clause-started g c = λ b listed.
    let blocks = c.args.blocks.now in
    let k = listed.0 in
    subst (λ (x : Block). ShowsAll (g.P.ConfigPort.targets c.args.port.now) x.slot x.image) listed.2
    (c.loop-block.invariant.shown k b (let out = c.loop-block-test.false in let less = listed.1 in omega (arith, out, less)))

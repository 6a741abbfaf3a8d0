use Rattle.std.proofs.Common.{refl, subst, false, true, ◌≡◌}
use Rattle.std.specs.List.{All, Any}
use Rattle.std.proofs.lemmas.Bool.{both_ways}
use Rattle.std.proofs.lemmas.List.{take_all}
use Rattle.std.proofs.lemmas.List.Elements.{All-contains}
use Rattle.pci_image.specs.declared.bar.Bar.{Bar}
use Rattle.pci_why.specs.Wide.{IsWideAt}
use Rattle.pci_why.proofs.WideBars.{bar_more}
use Rattle.pci_why.proofs.wide.has_wide_bar.Goals as goal

pub loop-bar-preserved : goal.loop-bar-preserved
loop-bar-preserved c =
    bar_more c.args.bars.now c.loop-bar.bar-index c.args.reg _ c.loop-bar-test.true c.loop-bar.invariant
    (λ register kind. both_ways _ c.if-is_wide_at.false (c.is_wide_at.ensures.1 (register, kind)))

pub returns : goal.returns
returns c =
    let none = subst (All (λ (b : Bar). IsWideAt c.args.reg b → ⊥)) (take_all c.loop-bar.bar-index c.args.bars.now c.loop-bar-test.false) c.loop-bar.invariant in (
      (λ (h : false ≡ true). absurd (both_ways false refl h)),
      (λ (h : Any (IsWideAt c.args.reg) c.args.bars.now). absurd (All-contains (λ (b : Bar). IsWideAt c.args.reg b → ⊥) c.args.bars.now h.1 none (h.0, h.2, h.3) h.4)),
    )

use Rattle.std.proofs.Common.{List, ◌≡◌, true, false, subst, sym, ◌∙◌}
use Rattle.std.proofs.lemmas.Result.{IfOk-weaker}
use Rattle.pci_spec.specs.System.{Space}
use Rattle.pci_base.specs.declared.range.Range.{Range}
use Rattle.pci_base.specs.WindowKinds.{kind_value}
use Rattle.pci_tree.specs.Ranges.{IsCanonical}
use Rattle.pci_claims.specs.Values.{code_given_value}
use Rattle.pci_claims.specs.Isa.{cuts, AreLeftByIsa}
use Rattle.pci_claims.proofs.Cutting.{windows_cut, windows_whole}
use Rattle.pci_claims.proofs.passed.passed_by_windows.Goals as goal

pub kept-requires : goal.kept-requires
kept-requires g c = subst (λ (xs : List Range). IsCanonical xs) (sym c.deref.ensures.value) c.in_ok-windows.ensures.canonical

pub returns-then-cuts : goal.returns-then-cuts
returns-then-cuts g c =
    IfOk-weaker c.kept.result _ _
    (λ v is. windows_cut (code_given_value c.args.given.now) (kind_value c.args.kind) c.args.function.now c.in_ok-windows.windows.items c.in_ok-windows.ensures.canonical c.in_ok-windows.ensures.exact v.items
    (subst (λ (sp : Space). cuts (code_given_value c.args.given.now) sp c.args.function.now.slot ≡ true) c.of.ensures (sym c.cuts.ensures ∙ c.if-cuts.true))
    (subst (λ (xs : List Range). AreLeftByIsa xs v.items) c.deref.ensures.value is))
    c.kept.ensures

pub returns-else-cuts : goal.returns-else-cuts
returns-else-cuts g c =
    windows_whole (code_given_value c.args.given.now) (kind_value c.args.kind) c.args.function.now c.in_ok-windows.windows.items c.in_ok-windows.ensures.canonical c.in_ok-windows.ensures.exact
    (subst (λ (sp : Space). cuts (code_given_value c.args.given.now) sp c.args.function.now.slot ≡ false) c.of.ensures (sym c.cuts.ensures ∙ c.if-cuts.false))

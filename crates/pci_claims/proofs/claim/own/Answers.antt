use Rattle.std.proofs.Common.{List, subst, sym, ◌∙◌}
use Rattle.std.proofs.lemmas.Result.{IfOk-weaker}
use Rattle.pci_base.specs.Space.{space_of}
use Rattle.pci_base.specs.declared.range.Range.{Range}
use Rattle.pci_tree.specs.Ranges.{IsCanonical}
use Rattle.pci_claims.specs.Values.{code_given_value}
use Rattle.pci_claims.specs.Isa.{AreLeftByIsa}
use Rattle.pci_claims.proofs.Cutting.{region_cut, region_whole}
use Rattle.pci_claims.proofs.claim.own.Goals as goal

pub kept-requires : goal.kept-requires
kept-requires g c = subst (λ (xs : List Range). IsCanonical xs) (sym c.deref.ensures.value) c.in_ok-whole.ensures.canonical

pub returns-then-is_cut : goal.returns-then-is_cut
returns-then-is_cut g c =
    IfOk-weaker c.kept.result _ _
    (λ v is. region_cut (code_given_value c.args.given.now) (space_of c.args.space) c.args.region.now c.in_ok-whole.whole.items c.in_ok-whole.ensures.canonical c.in_ok-whole.ensures.exact v.items
    (sym c.is_cut.ensures ∙ c.if-is_cut.true) (subst (λ (xs : List Range). AreLeftByIsa xs v.items) c.deref.ensures.value is))
    c.kept.ensures

pub returns-else-is_cut : goal.returns-else-is_cut
returns-else-is_cut g c =
    region_whole (code_given_value c.args.given.now) (space_of c.args.space) c.args.region.now c.in_ok-whole.whole.items c.in_ok-whole.ensures.canonical c.in_ok-whole.ensures.exact
    (sym c.is_cut.ensures ∙ c.if-is_cut.false)

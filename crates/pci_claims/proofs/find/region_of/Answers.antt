use Rattle.std.proofs.Common.{◌≡◌, ◌≤◌, List, ◌∙◌, sym, subst, ap, ◌++◌}
use Rattle.std.specs.List.{All, Contains}
use Rattle.std.proofs.lemmas.List.{take_all}
use Rattle.std.proofs.lemmas.List.Elements.{All-contains, All-more}
use Rattle.std.proofs.lemmas.Bool.{both_ways}
use Rattle.pci_base.specs.Space.{space_of}
use Rattle.pci_tree.specs.declared.region.Region.{Region}
use Rattle.pci_tree.specs.Regions.{regions_of}
use Rattle.pci_claims.proofs.find.region_of.Goals as goal

pub loop-region-preserved : goal.loop-region-preserved
loop-region-preserved g c =
    All-more (λ (q : Region). q.reg ≡ c.args.reg → q.first ≤ q.last → ⊥) c.deref-region-items.result.now c.loop-region.region-index c.region-item.result c.loop-region-test.true
    c.loop-region.invariant (subst (λ (q : Region). q.reg ≡ c.args.reg → q.first ≤ q.last → ⊥) c.region-item.is (λ at some. both_ways _ c.if-is_at.false (c.is_at.ensures.1 (at, some))))

pub returns : goal.returns
returns g c = λ q here.
    let all : List Region = c.deref-region-items.result.now in
    let whole = take_all c.loop-region.region-index all c.loop-region-test.false in
    let same : all ≡ regions_of c.args.function.now (space_of c.args.space) =
    c.deref-region-items.ensures.value ∙ c.in_ok-add_regions.ensures ∙ ap (λ xs. xs ++ regions_of c.args.function.now (space_of c.args.space)) c.new-regions.ensures.items in
    All-contains (λ (x : Region). x.reg ≡ c.args.reg → x.first ≤ x.last → ⊥) all q
    (subst (All (λ (x : Region). x.reg ≡ c.args.reg → x.first ≤ x.last → ⊥)) whole c.loop-region.invariant)
    (subst (λ xs. Contains xs q) (sym same) here.has) here.register here.some

use Rattle.std.proofs.Common.{subst, refl, sym}
use Rattle.std.specs.Prelude.{MatchBool}
use Rattle.std.proofs.lemmas.List.{take_all}
use Rattle.std.proofs.lemmas.List.Elements.{Contains-get_or}
use Rattle.std.specs.List.{Contains}
use Rattle.pci_base.specs.Space.{space_of}
use Rattle.judge_spec.specs.Regions.{Own}
use Rattle.pci_tree.specs.declared.region.Region.{Region}
use Rattle.pci_map.specs.Values.{value_of}
use Rattle.pci_map.specs.Asides.{IsRegionAside, HasNoAside}
use Rattle.pci_map.proofs.AsideTexts.{none_before, none_yet}
use Rattle.pci_map.proofs.asides.has_aside.Goals as goal

pub loop-region-init : goal.loop-region-init
loop-region-init g c = λ told given t s above ways found. none_before told given t.roots s (space_of c.args.space) c.args.regions.now

pub loop-region-preserved : goal.loop-region-preserved
loop-region-preserved g c = λ told given t s above ways found.
    let q : Region = c.region-item.result in
    let space = space_of c.args.space in
    let here : Contains c.args.regions.now q = subst (Contains c.args.regions.now) (sym c.region-item.is) (Contains-get_or c.args.regions.now c.loop-region.region-index q c.loop-region-test.true) in
    none_yet told given t.roots s space c.args.regions.now c.loop-region.region-index q c.loop-region-test.true (sym c.region-item.is) (c.loop-region.invariant told given t s above ways found)
    (subst (λ b. MatchBool b (IsRegionAside told given t.roots s (Own (value_of space q))) (IsRegionAside told given t.roots s (Own (value_of space q)) → ⊥)) c.if-is_aside.false (c.is_aside.ensures told given t s above ways (found.found q.reg q (here, refl))))

pub returns-then-is_aside : goal.returns-then-is_aside
returns-then-is_aside g c = λ told given t s above ways found.
    let q : Region = c.region-item.result in
    let space = space_of c.args.space in
    let here : Contains c.args.regions.now q = subst (Contains c.args.regions.now) (sym c.region-item.is) (Contains-get_or c.args.regions.now c.loop-region.region-index q c.loop-region-test.true) in (
      q,
      here,
      subst (λ b. MatchBool b (IsRegionAside told given t.roots s (Own (value_of space q))) (IsRegionAside told given t.roots s (Own (value_of space q)) → ⊥)) c.if-is_aside.true (c.is_aside.ensures told given t s above ways (found.found q.reg q (here, refl))),
    )

pub returns : goal.returns
returns g c = λ told given t s above ways found.
    subst (HasNoAside told given t.roots s (space_of c.args.space)) (take_all c.loop-region.region-index c.args.regions.now c.loop-region-test.false) (c.loop-region.invariant told given t s above ways found)

use Rattle.std.proofs.Common.{sym, subst, ◌∙◌, IfSome}
use Rattle.pci_grow.specs.Arounds.{IsSearch}
use Rattle.pci_grow.proofs.Each.{at_some, each_none, each_next, each_ends, each_all}
use Rattle.pci_grow.proofs.around.places_around.Goals as goal

pub loop-index-init : goal.loop-index-init
loop-index-init g c = record {
  each = each_none _ _ _ _ _ c.requires.listed c.requires.count;
  search = tt;
}

pub returns-in_default-clause-placing : goal.returns-in_default-clause-placing
returns-in_default-clause-placing g c = λ values behind are off.
    each_ends _ _ _ _ _ _ _ c.loop-index.invariant.each c.loop-index-test.true _
    (λ held is. sym c.in_default.is ∙ c.in_ok-place.ensures.place held is)
    values behind are off

pub loop-index-preserved : goal.loop-index-preserved
loop-index-preserved g c = record {
  each = each_next _ _ _ _ _ _ _ c.loop-index.invariant.each c.loop-index-test.true _ c.requires.items c.in-Some.at
      (λ held is. sym c.in-Some.is ∙ c.in_ok-place.ensures.place held is)
      _ c.take_one.ensures.listed
      (at_some _ _ c.in-Some.at c.in-Some.is c.in_ok-place.ensures.taken);
  search = subst (λ o. IfSome o (λ _. IfSome c.take_one.new.last (IsSearch c.args.ground.now.around c.take_one.new.taken.items))) c.in-Some.is c.in_ok-place.ensures.search;
}

pub returns-clause-placing : goal.returns-clause-placing
returns-clause-placing g c = each_all _ _ _ _ _ _ _ c.loop-index.invariant.each c.loop-index-test.false

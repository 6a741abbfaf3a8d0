use Rattle.std.proofs.Common.{◌≡◌, [], arith, ap, length, subst, sym, refl}
use Rattle.std.proofs.lemmas.List.Elements.{All-nil, All-cons, All-append}
use Rattle.pci_first_fit.specs.Tables.{untold, AreUntold}
use Rattle.pci_first_fit.proofs.table.nothing_told.Goals as goal

pub loop-init : goal.loop-init
loop-init g c = record {
  count = ap length c.new-table.ensures.items;
  none = subst AreUntold (sym c.new-table.ensures.items) (All-nil (λ ranges. ranges ≡ untold));
}

pub loop-preserved : goal.loop-preserved
loop-preserved g c = record {
  count = grind (arith, c.loop.invariant.count, c.in_ok-push.ensures.items);
  none = subst AreUntold (sym c.in_ok-push.ensures.items)
      (All-append (λ ranges. ranges ≡ untold) _ _ c.loop.invariant.none (All-cons (λ ranges. ranges ≡ untold) untold [] refl (All-nil (λ ranges. ranges ≡ untold))));
}

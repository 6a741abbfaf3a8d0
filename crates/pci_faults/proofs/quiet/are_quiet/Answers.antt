use Rattle.std.proofs.Common.{◌<◌, length, subst, sym, ◌∙◌}
use Rattle.std.specs.List.{All, AllPairs}
use Rattle.std.proofs.lemmas.Bool.{eqb-true}
use Rattle.std.proofs.lemmas.Result.{IfOk-weaker}
use Rattle.pci_base.specs.Space.{space_of}
use Rattle.pci_tree.specs.declared.region.Region.{Region}
use Rattle.pci_faults.specs.Quiet.{IsOffLegacy}
use Rattle.pci_claims.proofs.Gathering.{some_of}
use Rattle.pci_faults.proofs.Quieting.{quiet_alone, quiet_with}
use Rattle.pci_faults.proofs.quiet.are_quiet.Goals as goal

pub returns-then-is_empty : goal.returns-then-is_empty
returns-then-is_empty g c quiet =
    quiet_alone (space_of c.args.space) c.args.regions.items c.sort.new.regions.items c.sort.ensures
    (subst (AllPairs (λ (p q : Region). p.last < q.first)) c.deref.ensures.value (c.are_apart.ensures c.if-not-are_apart.false))
    c.args.legacy.now (eqb-true _ _ (sym c.is_empty.ensures ∙ c.if-is_empty.true))

pub returns : goal.returns
returns g c = IfOk-weaker c.are_off.result _ _
    (λ off is holds. quiet_with (space_of c.args.space) c.args.regions.items c.sort.new.regions.items c.sort.ensures
    (subst (AllPairs (λ (p q : Region). p.last < q.first)) c.deref.ensures.value (c.are_apart.ensures c.if-not-are_apart.false))
    c.args.legacy.now c.index-legacy-0.result c.if-legacy-gt1.false
    (0, some_of (length c.args.legacy.now) c.is_empty.result c.is_empty.ensures c.if-is_empty.false, sym c.index-legacy-0.is)
    (subst (All (IsOffLegacy (space_of c.args.space) c.index-legacy-0.result)) c.deref-2.ensures.value (is holds))) c.are_off.ensures

use Rattle.std.proofs.Common.{◌∙◌, List, ap, subst, sym, arith}
use Rattle.std.specs.List.{Contains}
use Rattle.std.proofs.lemmas.Bool.{iff_false}
use Rattle.std.proofs.lemmas.List.{take_all}
use Rattle.pci_tree.specs.Roots.{buses_of}
use Rattle.judge_spec.specs.Told.{ToldRange}
use Rattle.pci_faults.proofs.Quieting.{NoneOnRoots, none_on_roots_yet, none_on_roots_more}
use Rattle.pci_faults.proofs.quiet.are_roots_untold.Goals as goal

pub loop-range-init : goal.loop-range-init
loop-range-init c = none_on_roots_yet (buses_of c.args.roots.now)

pub loop-range-preserved : goal.loop-range-preserved
loop-range-preserved c =
    none_on_roots_more (buses_of c.args.roots.now) c.args.ranges.now c.loop-range.range-index c.range-item.result (omega arith) c.range-item.is
    (λ root. iff_false c.has.ensures c.if-has.false (subst (Contains (buses_of c.args.roots.now)) (ap (λ (x : ToldRange). x.slot.bus) (sym c.range.view_is) ∙ sym c.bus.ensures) root)) c.loop-range.invariant

pub returns : goal.returns
returns c = λ _. subst (λ (l : List ToldRange). NoneOnRoots (buses_of c.args.roots.now) l) (take_all c.loop-range.range-index c.args.ranges.now (omega arith)) c.loop-range.invariant

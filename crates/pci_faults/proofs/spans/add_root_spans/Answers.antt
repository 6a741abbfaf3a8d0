use Rattle.std.proofs.Common.{◌+◌, ap, subst, sym, arith}
use Rattle.std.proofs.lemmas.Bool.{iff_false}
use Rattle.pci_base.specs.Space.{space_of}
use Rattle.pci_tree.specs.Roots.{buses_of}
use Rattle.pci_faults.specs.Spans.{AreSpansAdded}
use Rattle.pci_faults.proofs.Spanning.{RootBelow, roots_begin, roots_more, roots_less, roots_end, buses_end}
use Rattle.pci_faults.proofs.spans.add_root_spans.Goals.{then-has+in_ok-add_told_spans, else-has}
use Rattle.pci_faults.proofs.spans.add_root_spans.Goals as goal

pub loop-bus-init : goal.loop-bus-init
loop-bus-init g c = roots_begin (buses_of c.args.roots.now) c.args.ranges.now (space_of c.args.space) c.args.out.now.items

pub loop-bus-preserved : goal.loop-bus-preserved
loop-bus-preserved g c =
    let roots = buses_of c.args.roots.now in
    let ranges = c.args.ranges.now in
    let space = space_of c.args.space in
    elim c.if-has.branch [
      | then-has+in_ok-add_told_spans w ↦
          subst (AreSpansAdded (RootBelow roots (c.loop-bus.bus + 1)) ranges space c.args.out.now.items) (sym (ap (λ v. v.items) w.out-is))
          (roots_more roots ranges space c.loop-bus.bus c.args.out.now.items c.loop-bus.out.items w.add_told_spans.new.out.items c.loop-bus.invariant w.in_ok-add_told_spans.ensures)
      | else-has w ↦
          subst (AreSpansAdded (RootBelow roots (c.loop-bus.bus + 1)) ranges space c.args.out.now.items) (sym (ap (λ v. v.items) w.out-is))
          (roots_less roots ranges space c.loop-bus.bus c.args.out.now.items c.loop-bus.out.items (iff_false c.has.ensures w.if-has.false) c.loop-bus.invariant)
    ]

pub returns : goal.returns
returns g c = roots_end (buses_of c.args.roots.now) c.args.ranges.now (space_of c.args.space) c.loop-bus.bus c.args.out.now.items c.loop-bus.out.items
    (buses_end c.args.ranges.now c.loop-bus.bus c.requires (omega arith)) c.loop-bus.invariant

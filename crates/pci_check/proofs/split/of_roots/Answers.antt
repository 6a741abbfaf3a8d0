use Rattle.std.proofs.Common.{◌≡◌, ◌+◌, List, ℕ, subst, sym, ◌∙◌, ap, arith}
use Rattle.std.specs.List.{Contains}
use Rattle.std.proofs.lemmas.Bool.{iff_false}
use Rattle.pci_tree.specs.declared.region.Region.{Region}
use Rattle.pci_base.specs.Space.{space_of}
use Rattle.pci_check.proofs.Splitting.{AreRootsListedBelow, roots_none, roots_skip, roots_more, roots_listed}
use Rattle.pci_check.proofs.split.of_roots.Goals.{then-has+in_ok-regions+in_ok-all, else-has}
use Rattle.pci_check.proofs.split.of_roots.Goals as goal

pub loop-bus-init : goal.loop-bus-init
loop-bus-init g c = subst (λ (items : List Region). AreRootsListedBelow c.args.outline.now (space_of c.args.space) 0 items) (sym c.new-all.ensures.items) (roots_none c.args.outline.now (space_of c.args.space))

pub loop-bus-preserved : goal.loop-bus-preserved
loop-bus-preserved g c = elim c.if-has.branch [
  | then-has+in_ok-regions+in_ok-all w ↦
      subst (λ (items : List Region). AreRootsListedBelow c.args.outline.now (space_of c.args.space) (c.loop-bus.bus + 1) items)
      (sym (ap (λ v. v.items) w.all-is ∙ w.in_ok-all.ensures))
      (roots_more c.args.outline.now (space_of c.args.space) c.loop-bus.bus c.loop-bus.all.items w.in_ok-regions.regions.items
      (subst (λ (roots : List ℕ). Contains roots c.loop-bus.bus) c.requires (c.has.ensures.0 w.if-has.true)) c.loop-bus.invariant
      w.in_ok-regions.ensures)
  | else-has w ↦
      subst (λ (items : List Region). AreRootsListedBelow c.args.outline.now (space_of c.args.space) (c.loop-bus.bus + 1) items)
      (sym (ap (λ v. v.items) w.all-is))
      (roots_skip c.args.outline.now (space_of c.args.space) c.loop-bus.bus c.loop-bus.all.items
      (λ root. iff_false c.has.ensures w.if-has.false (subst (λ (roots : List ℕ). Contains roots c.loop-bus.bus) (sym c.requires) root)) c.loop-bus.invariant)
]

pub returns : goal.returns
returns g c =
    let all : c.loop-bus.bus ≡ 256 = omega arith in
    roots_listed c.args.outline.now (space_of c.args.space) c.loop-bus.all.items
    (subst (λ bus. AreRootsListedBelow c.args.outline.now (space_of c.args.space) bus c.loop-bus.all.items) all c.loop-bus.invariant)

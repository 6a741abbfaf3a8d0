use Rattle.std.proofs.Common.{◌+◌, ◌<◌, ◌≤◌, inl, subst, sym}
use Rattle.pci_tree.specs.Ranges.{Holds}
use Rattle.pci_tree.specs.declared.forwarded.Forwarded.{Forwarded}
use Rattle.pci_tree.specs.Passing.{Passes, IsPassed, IsPush}
use Rattle.pci_tree.proofs.Passing.{below_second, push_two}
use Rattle.pci_tree.proofs.forwarded.add_passed.Goals as goal

pub add_meet-requires-clause-below : goal.add_meet-requires-clause-below
add_meet-requires-clause-below g c a h = inl (c.requires.below a h)

pub add_meet-requires-in-Two-clause-below : goal.add_meet-requires-in-Two-clause-below
add_meet-requires-in-Two-clause-below g c a h = inl (c.requires.below a h)

pub add_meet-requires-in-Two-2-clause-below : goal.add_meet-requires-in-Two-2-clause-below
add_meet-requires-in-Two-2-clause-below g c a h =
    let lawful : (c.in-Two.v.first ≤ c.in-Two.v.last) × (c.in-Two.w.first ≤ c.in-Two.w.last) × (c.in-Two.v.last + 1 < c.in-Two.w.first) =
    subst IsPassed c.in-Two.is c.requires.lawful in
    below_second _ _ c.args.r c.in-Two.v c.in-Two.w a c.requires.below lawful.2 c.in_ok-add_meet-in-Two.ensures h

pub returns-in_ok-add_meet-in-One : goal.returns-in_ok-add_meet-in-One
returns-in_ok-add_meet-in-One g c =
    subst (λ (p : Forwarded). IsPush c.args.out.now.items c.add_meet.new.out.items (λ a. Holds c.args.r a × Passes p a)) (sym c.in-One.is) c.in_ok-add_meet-in-One.ensures

pub returns-in_ok-add_meet-in-Two-2 : goal.returns-in_ok-add_meet-in-Two-2
returns-in_ok-add_meet-in-Two-2 g c =
    subst (λ (p : Forwarded). IsPush c.args.out.now.items c.add_meet-in-Two-2.new.out.items (λ a. Holds c.args.r a × Passes p a)) (sym c.in-Two.is)
    (push_two _ _ _ c.args.r c.in-Two.v c.in-Two.w c.in_ok-add_meet-in-Two.ensures c.in_ok-add_meet-in-Two-2.ensures)

use Rattle.std.proofs.Common.{sym, subst}
use Rattle.pci_first_fit.specs.Lines.{AreForwardRanges, AreAdded}
use Rattle.pci_grow.proofs.Behind.{forward_taken, forward_both, none_forward, taken_alike, taken_covered}
use Rattle.pci_grow.proofs.ground.taken_for.Goals as goal

pub in_order-requires : goal.in_order-requires
in_order-requires g c =
    subst AreForwardRanges (sym c.in_ok-extend_from_slice.ensures.items)
    (forward_both c.add_behind.new.out.items c.args.taken.now (c.in_ok-add_behind.ensures.forward (subst AreForwardRanges (sym c.new-all.ensures.items) none_forward)) (forward_taken c.args.taken.now c.requires.listed))

pub returns-clause-taken : goal.returns-clause-taken
returns-clause-taken g c =
    taken_covered c.args.taken.now c.add_behind.new.out.items c.extend_from_slice.new.self.items c.in_ok-ordered.ordered.items c.in_ok-extend_from_slice.ensures.items c.in_ok-ordered.ensures.only c.in_ok-ordered.ensures.all

pub returns-clause-same : goal.returns-clause-same
returns-clause-same g c = λ held is.
    taken_alike c.args.taken.now c.add_behind.new.out.items c.extend_from_slice.new.self.items c.in_ok-ordered.ordered.items c.in_ok-extend_from_slice.ensures.items c.in_ok-ordered.ensures.only c.in_ok-ordered.ensures.all held
    (subst (λ xs. AreAdded xs c.add_behind.new.out.items held) c.new-all.ensures.items (c.in_ok-add_behind.ensures.added held is))

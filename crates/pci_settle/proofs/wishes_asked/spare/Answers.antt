use Rattle.std.proofs.Common.{ap, arith, sym, subst, ◌∙◌, ◌≤◌}
use Rattle.pci_base.specs.WindowKinds.{kind_value}
use Rattle.pci_first_fit.specs.Slots.{most_wanted, spare_by}
use Rattle.pci_settle.proofs.WishesExtents.{most_of, spare_is}
use Rattle.pci_settle.proofs.wishes_asked.spare.Goals as goal

pub returns-clause-told : goal.returns-clause-told
returns-clause-told c = λ highest.
    let class = kind_value c.args.class in
    let is = c.of_class-wanted.ensures in
    let some = c.if-wanted-eq0.false in
    spare_is class c.of_class-wanted.result 0xffff_ffff_ffff_ffff (omega (arith, some)) (subst (λ n. n ≤ most_wanted) (sym is) (most_of c.args.slots.now class))
    c.spare_extent.result c.spare_extent.ensures.around highest
    ∙ ap (λ n. spare_by class n highest) is

use Rattle.std.proofs.Common.{◌+◌, arith, sym, ◌∙◌, subst}
use Rattle.pci_base.specs.Space.{space_of}
use Rattle.pci_kept.proofs.GoingUp.{IsUp, begins, at_root, is_off, goes_up}
use Rattle.pci_kept.proofs.bridges.are_on.Goals as goal

pub loop-up-init : goal.loop-up-init
loop-up-init c = λ q s tree. begins s (space_of c.args.space) c.args.bus

pub returns-in_default : goal.returns-in_default
returns-in_default c = λ q s f tree leads.
    at_root q s c.args.records.now tree c.args.over.now c.requires (space_of c.args.space) c.args.bus c.loop-up.at c.loop-up.up (omega arith) (c.loop-up.invariant q s tree) f leads c.in_default.is

pub returns-then-not-is_on : goal.returns-then-not-is_on
returns-then-not-is_on c = λ q s f tree leads.
    is_off q s c.args.records.now tree c.args.over.now c.requires (space_of c.args.space) c.args.bus c.loop-up.at c.loop-up.up (omega arith) (c.loop-up.invariant q s tree)
    c.in-Some.index c.in-Some.is c.index-records-index.result c.index-records-index.is (sym c.is_on.ensures ∙ c.if-not-is_on.true)

pub loop-up-preserved : goal.loop-up-preserved
loop-up-preserved c = λ q s tree.
    subst (λ n. IsUp s (space_of c.args.space) c.args.bus n (c.loop-up.up + 1)) (sym c.bus-at.ensures)
    (goes_up q s c.args.records.now tree c.args.over.now c.requires (space_of c.args.space) c.args.bus c.loop-up.at c.loop-up.up (omega arith) (c.loop-up.invariant q s tree)
    c.in-Some.index c.in-Some.is c.index-records-index.result c.index-records-index.is (sym c.is_on.ensures ∙ c.if-not-is_on.false))

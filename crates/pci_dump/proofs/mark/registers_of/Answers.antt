use Rattle.std.proofs.Common.{arith, sym, ◌∙◌, drop, subst}
use Rattle.pci_dump.proofs.Marks.{IsSoFar, begun, behind_three, shorter, so_far_more, none_more, all_read, some_left, long_enough}
use Rattle.pci_dump.proofs.mark.registers_of.Goals as goal

pub loop-rest-init : goal.loop-rest-init
loop-rest-init c = subst (λ rs. IsSoFar c.args.text.now rs c.args.text.now 32) (sym c.new-registers.ensures) (begun c.args.text.now c.requires)

pub returns-in-None : goal.returns-in-None
returns-in-None c =
    c.new.ensures
    ∙ none_more c.args.text.now c.loop-rest.registers.items c.loop-rest.rest.now c.loop-rest.separator c.loop-rest.invariant
    (some_left c.loop-rest.rest.now c.is_empty.result c.is_empty.ensures c.loop-rest-test.true) (sym c.register_at.ensures ∙ c.in-None.is)

pub push-requires : goal.push-requires
push-requires c =
    let at = sym c.register_at.ensures ∙ c.in-Some.is in
    let long = long_enough c.loop-rest.separator c.loop-rest.rest.now c.in-Some.register at in
    let room = c.loop-rest.invariant.room in
    (omega arith, omega (arith, long, room))

pub loop-rest-smaller : goal.loop-rest-smaller
loop-rest-smaller c =
    let at = sym c.register_at.ensures ∙ c.in-Some.is in
    shorter c.loop-rest.rest.now (long_enough c.loop-rest.separator c.loop-rest.rest.now c.in-Some.register at)

pub loop-rest-preserved : goal.loop-rest-preserved
loop-rest-preserved c =
    let at = sym c.register_at.ensures ∙ c.in-Some.is in
    let more = so_far_more c.args.text.now c.loop-rest.registers.items c.loop-rest.rest.now c.loop-rest.separator c.in-Some.register c.loop-rest.invariant at in
    subst (λ rest. IsSoFar c.args.text.now c.push.new.self.items rest 44) (sym (behind_three c.loop-rest.rest.now))
    (subst (λ rs. IsSoFar c.args.text.now rs (drop 3 c.loop-rest.rest.now) 44) (sym c.push.ensures.items) more)

pub returns : goal.returns
returns c = all_read c.args.text.now c.loop-rest.registers.items c.loop-rest.rest.now c.loop-rest.separator c.is_empty.result c.is_empty.ensures c.loop-rest-test.false c.loop-rest.invariant

use Rattle.std.proofs.Common.{◌≡◌, ◌≤◌, ℕ, arith, sym, ap, ◌∙◌, Some, length, get_or}
use Rattle.pci_spec.specs.Slot.{slot_number}
use Rattle.pci_machine.proofs.LoneSlots.{ours_alone, theirs_alone, ours_lower, theirs_lower, one_slot, both_end, none_lone}
use Rattle.pci_machine.proofs.lone_slot.lone_slot.Goals as goal

pub returns-then-i-sizes-clause-least : goal.returns-then-i-sizes-clause-least
returns-then-i-sizes-clause-least c =
    let end = c.if-i-sizes.true in
    ap (λ b. Some b.slot) c.ours.view_is
    ∙ sym (ours_alone c.args.dump.now c.args.sizes.now c.requires.dump c.requires.sizes c.loop-i.i c.loop-i.invariant.same c.index-dump-i.result c.loop-i-test.true (omega (arith, end)) c.index-dump-i.is)

pub returns-then-number-clause-least : goal.returns-then-number-clause-least
returns-then-number-clause-least c =
    let ours = ap (λ b. slot_number b.slot) c.ours.view_is in
    let theirs = ap (λ s. slot_number s.slot) c.theirs.view_is in
    ap (λ b. Some b.slot) c.ours.view_is
    ∙ sym (ours_lower c.args.dump.now c.args.sizes.now c.requires.dump c.requires.sizes c.loop-i.i c.loop-i.invariant.same c.index-dump-i.result c.index-sizes-i.result c.loop-i-test.true (omega (arith, c.loop-i.invariant.within, c.if-i-sizes.false)) c.index-dump-i.is c.index-sizes-i.is
    (omega (arith, ours, theirs, c.number.ensures.number, c.number-in-loop-i.ensures.number, c.if-number.true)))

pub returns-then-number-2-clause-least : goal.returns-then-number-2-clause-least
returns-then-number-2-clause-least c =
    let ours = ap (λ b. slot_number b.slot) c.ours.view_is in
    let theirs = ap (λ s. slot_number s.slot) c.theirs.view_is in
    ap (λ s. Some s.slot) c.theirs.view_is
    ∙ sym (theirs_lower c.args.dump.now c.args.sizes.now c.requires.dump c.requires.sizes c.loop-i.i c.loop-i.invariant.same c.index-dump-i.result c.index-sizes-i.result c.loop-i-test.true (omega (arith, c.loop-i.invariant.within, c.if-i-sizes.false)) c.index-dump-i.is c.index-sizes-i.is
    (omega (arith, ours, theirs, c.number-in-loop-i-2.ensures.number, c.number-in-loop-i-3.ensures.number, c.if-number-2.true)))

pub loop-i-preserved : goal.loop-i-preserved
loop-i-preserved c =
    let ours = ap (λ b. slot_number b.slot) c.ours.view_is in
    let theirs = ap (λ s. slot_number s.slot) c.theirs.view_is in
    record {
      same = one_slot c.args.dump.now c.args.sizes.now c.requires.dump c.requires.sizes c.loop-i.i c.loop-i.invariant.same c.index-dump-i.result c.index-sizes-i.result c.loop-i-test.true (omega (arith, c.loop-i.invariant.within, c.if-i-sizes.false)) c.index-dump-i.is c.index-sizes-i.is
          (omega (arith, ours, theirs, c.number.ensures.number, c.number-in-loop-i.ensures.number, c.number-in-loop-i-2.ensures.number, c.number-in-loop-i-3.ensures.number, c.if-number.false, c.if-number-2.false));
      within = omega (arith, c.loop-i.invariant.within, c.if-i-sizes.false);
    }

pub returns-then-dump-sizes-clause-least : goal.returns-then-dump-sizes-clause-least
returns-then-dump-sizes-clause-least c =
    let s = c.index-sizes-dump.result in
    let done = c.loop-i-test.false in
    let end : length c.args.dump.now ≡ c.loop-i.i = omega (arith, done) in
    let more = c.if-dump-sizes.true in
    ap (λ s. Some s.slot) c.next.view_is
    ∙ sym (theirs_alone c.args.dump.now c.args.sizes.now c.requires.dump c.requires.sizes c.loop-i.i c.loop-i.invariant.same s (omega (arith, end, more)) done (c.index-sizes-dump.is ∙ ap (λ (n : ℕ). get_or c.args.sizes.now n s) end))

pub returns-clause-same : goal.returns-clause-same
returns-clause-same c =
    let done = c.loop-i-test.false in
    let over = c.if-dump-sizes.false in
    let within : c.loop-i.i ≤ length c.args.dump.now = omega arith in
    both_end c.args.dump.now c.args.sizes.now c.requires.dump c.requires.sizes c.loop-i.i c.loop-i.invariant.same done (omega (arith, over, within))

pub returns-clause-least : goal.returns-clause-least
returns-clause-least c = sym (none_lone c.args.dump.now c.args.sizes.now c.requires.dump c.requires.sizes (returns-clause-same c))

use Rattle.std.proofs.Common.{◌≡◌, ◌<◌, ℕ, get_or, arith, sym, ap, subst, ◌∙◌}
use Rattle.pci_spec.specs.Slot.{Slot, IsSlot, slot_number}
use Rattle.pci_spec.specs.Fault.{IsInOne}
use Rattle.pci_tree.proofs.Pairs.{in_left, in_right, in_left_more, in_right_more, none_below_both, none_below_left, none_below_right, same_more}
use Rattle.pci_tree.specs.Pair.{IsNoneBelow}
use Rattle.pci_tree.proofs.pair.first_difference.Goals as goal

pub returns-then-number-clause-some : goal.returns-then-number-clause-some
returns-then-number-clause-some c =
    let ours = ap (λ b. slot_number b.slot) c.ours.view_is in
    let theirs = ap (λ b. slot_number b.slot) c.theirs.view_is in
    subst (λ (s : Slot). IsInOne c.args.dump.now c.args.probe.now s) (sym (ap (λ b. b.slot) c.ours.view_is))
    (in_left c.args.dump.now c.args.probe.now c.index-dump-i.result c.index-probe-i.result c.loop-i.i c.requires.dump c.requires.probe (omega arith) (omega arith) c.index-dump-i.is c.index-probe-i.is
    c.loop-i.invariant (omega (arith, ours, theirs, c.number.ensures.number, c.number-in-loop-i.ensures.number, c.if-number.true)))

pub returns-then-number-2-clause-some : goal.returns-then-number-2-clause-some
returns-then-number-2-clause-some c =
    let ours = ap (λ b. slot_number b.slot) c.ours.view_is in
    let theirs = ap (λ b. slot_number b.slot) c.theirs.view_is in
    subst (λ (s : Slot). IsInOne c.args.dump.now c.args.probe.now s) (sym (ap (λ b. b.slot) c.theirs.view_is))
    (in_right c.args.dump.now c.args.probe.now c.index-dump-i.result c.index-probe-i.result c.loop-i.i c.requires.dump c.requires.probe (omega arith) (omega arith) c.index-dump-i.is c.index-probe-i.is
    c.loop-i.invariant (omega (arith, ours, theirs, c.number-in-loop-i-2.ensures.number, c.number-in-loop-i-3.ensures.number, c.if-number-2.true)))

pub loop-i-preserved : goal.loop-i-preserved
loop-i-preserved c =
    let ours = ap (λ b. slot_number b.slot) c.ours.view_is in
    let theirs = ap (λ b. slot_number b.slot) c.theirs.view_is in
    same_more c.args.dump.now c.args.probe.now c.index-dump-i.result c.index-probe-i.result c.loop-i.i (omega arith) (omega arith) c.index-dump-i.is c.index-probe-i.is
    (subst (λ (s : Slot). IsSlot s) (ap (λ b. b.slot) c.ours.view_is) c.number.ensures.slot) (subst (λ (s : Slot). IsSlot s) (ap (λ b. b.slot) c.theirs.view_is) c.number-in-loop-i.ensures.slot) c.loop-i.invariant
    (omega (arith, ours, theirs, c.number.ensures.number, c.number-in-loop-i.ensures.number, c.number-in-loop-i-2.ensures.number, c.number-in-loop-i-3.ensures.number, c.if-number.false, c.if-number-2.false))

pub returns-then-shared-dump-clause-some : goal.returns-then-shared-dump-clause-some
returns-then-shared-dump-clause-some c =
    subst (λ (s : Slot). IsInOne c.args.dump.now c.args.probe.now s) (sym (ap (λ b. b.slot) c.next.view_is))
    (in_left_more c.args.dump.now c.args.probe.now c.index-dump-shared.result c.loop-i.i c.requires.dump c.requires.probe (omega arith) (omega arith) (c.index-dump-shared.is ∙ ap (λ (n : ℕ). get_or c.args.dump.now n c.index-dump-shared.result) (let e : c.min-shared.result ≡ c.loop-i.i = omega arith in e)) c.loop-i.invariant)

pub returns-then-shared-probe-clause-some : goal.returns-then-shared-probe-clause-some
returns-then-shared-probe-clause-some c =
    subst (λ (s : Slot). IsInOne c.args.dump.now c.args.probe.now s) (sym (ap (λ b. b.slot) c.next-then-shared-probe.view_is))
    (in_right_more c.args.dump.now c.args.probe.now c.index-probe-shared.result c.loop-i.i c.requires.dump c.requires.probe (omega arith) (omega arith) (c.index-probe-shared.is ∙ ap (λ (n : ℕ). get_or c.args.probe.now n c.index-probe-shared.result) (let e : c.min-shared.result ≡ c.loop-i.i = omega arith in e)) c.loop-i.invariant)

pub returns-then-number-clause-least : goal.returns-then-number-clause-least
returns-then-number-clause-least c =
    let ours = ap (λ b. slot_number b.slot) c.ours.view_is in
    let theirs = ap (λ b. slot_number b.slot) c.theirs.view_is in
    let less : slot_number c.index-dump-i.result.slot < slot_number c.index-probe-i.result.slot = omega (arith, ours, theirs, c.number.ensures.number, c.number-in-loop-i.ensures.number, c.if-number.true) in
    subst (λ (s : Slot). IsNoneBelow c.args.dump.now c.args.probe.now s) (sym (ap (λ b. b.slot) c.ours.view_is))
    (none_below_both c.args.dump.now c.args.probe.now c.index-dump-i.result c.index-probe-i.result c.index-dump-i.result.slot c.loop-i.i c.requires.dump c.requires.probe (omega arith) (omega arith)
    c.index-dump-i.is c.index-probe-i.is c.loop-i.invariant (omega arith) (omega (arith, less)))

pub returns-then-number-2-clause-least : goal.returns-then-number-2-clause-least
returns-then-number-2-clause-least c =
    let ours = ap (λ b. slot_number b.slot) c.ours.view_is in
    let theirs = ap (λ b. slot_number b.slot) c.theirs.view_is in
    let less : slot_number c.index-probe-i.result.slot < slot_number c.index-dump-i.result.slot =
    omega (arith, ours, theirs, c.number-in-loop-i-2.ensures.number, c.number-in-loop-i-3.ensures.number, c.if-number-2.true) in
    subst (λ (s : Slot). IsNoneBelow c.args.dump.now c.args.probe.now s) (sym (ap (λ b. b.slot) c.theirs.view_is))
    (none_below_both c.args.dump.now c.args.probe.now c.index-dump-i.result c.index-probe-i.result c.index-probe-i.result.slot c.loop-i.i c.requires.dump c.requires.probe (omega arith) (omega arith)
    c.index-dump-i.is c.index-probe-i.is c.loop-i.invariant (omega (arith, less)) (omega arith))

pub returns-then-shared-dump-clause-least : goal.returns-then-shared-dump-clause-least
returns-then-shared-dump-clause-least c =
    subst (λ (s : Slot). IsNoneBelow c.args.dump.now c.args.probe.now s) (sym (ap (λ b. b.slot) c.next.view_is))
    (none_below_left c.args.dump.now c.args.probe.now c.index-dump-shared.result c.loop-i.i c.requires.dump c.requires.probe (omega arith)
    (c.index-dump-shared.is ∙ ap (λ (n : ℕ). get_or c.args.dump.now n c.index-dump-shared.result) (let e : c.min-shared.result ≡ c.loop-i.i = omega arith in e)) c.loop-i.invariant)

pub returns-then-shared-probe-clause-least : goal.returns-then-shared-probe-clause-least
returns-then-shared-probe-clause-least c =
    subst (λ (s : Slot). IsNoneBelow c.args.dump.now c.args.probe.now s) (sym (ap (λ b. b.slot) c.next-then-shared-probe.view_is))
    (none_below_right c.args.dump.now c.args.probe.now c.index-probe-shared.result c.loop-i.i c.requires.dump c.requires.probe (omega arith)
    (c.index-probe-shared.is ∙ ap (λ (n : ℕ). get_or c.args.probe.now n c.index-probe-shared.result) (let e : c.min-shared.result ≡ c.loop-i.i = omega arith in e)) c.loop-i.invariant)

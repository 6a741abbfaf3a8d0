use Rattle.std.proofs.Common.{◌≡◌, ◌∙◌, ◌+◌, arith, below_more, sym, ap, subst}
use Rattle.std.specs.Prelude.{not}
use Rattle.pci_check.specs.Stops.{AreHomeInEach}
use Rattle.pci_check.proofs.Homes.{all_home}
use Rattle.pci_check.proofs.Clashing.{IsAnswerBelow, answer_more, answer_kept, none_below}
use Rattle.pci_check.proofs.Judges.{answer_on_buses}
use Rattle.pci_check.proofs.judge.first_on_buses.Goals.{then-is_none, else-is_none}
use Rattle.pci_check.proofs.judge.first_on_buses.Goals as goal

pub returns-in-Some : goal.returns-in-Some
returns-in-Some g c = λ s tree. (rw c.in-Some.is at c.first_unreached.ensures) s tree (λ b less space. c.loop-bus.invariant.home b less s tree space)

pub loop-bus-preserved : goal.loop-bus-preserved
loop-bus-preserved g c = record {
  home = below_more (AreHomeInEach c.args.outline.now) c.loop-bus.bus c.loop-bus.invariant.home (rw c.in_default.is at c.first_unreached.ensures);
  clash = elim c.if-is_none.branch [
    | then-is_none w ↦ subst (IsAnswerBelow c.args.outline.now (c.loop-bus.bus + 1)) (sym w.clash-is)
        (answer_more c.args.outline.now c.loop-bus.bus _
        (none_below c.args.outline.now c.loop-bus.bus c.loop-bus.clash (c.is_none.ensures ∙ ap not w.if-is_none.true) c.loop-bus.invariant.clash)
        (w.first_clash-clash.ensures c.args.outline.now c.requires.reached c.in_ok-io.ensures c.in_ok-memory.ensures))
    | else-is_none w ↦ subst (IsAnswerBelow c.args.outline.now (c.loop-bus.bus + 1)) (sym w.clash-is)
        (answer_kept c.args.outline.now c.loop-bus.bus c.loop-bus.clash (c.is_none.ensures ∙ ap not w.if-is_none.false) c.loop-bus.invariant.clash)
  ];
}

pub returns : goal.returns
returns g c =
    let all : c.loop-bus.bus ≡ 256 = omega arith in
    answer_on_buses c.args.outline.now c.requires.nested
    (all_home c.args.outline.now c.args.reached.now c.requires.reached c.requires.nested (λ b less. c.loop-bus.invariant.home b (omega arith)))
    c.loop-bus.clash (subst (λ bus. IsAnswerBelow c.args.outline.now bus c.loop-bus.clash) all c.loop-bus.invariant.clash)

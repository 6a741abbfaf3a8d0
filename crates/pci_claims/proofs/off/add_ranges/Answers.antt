use Rattle.std.proofs.Common.{rules, ◌≡◌, map, arith}
use Rattle.judge_spec.specs.Told.{ToldRange}
use Rattle.pci_claims.specs.Values.{told_value}
use Rattle.pci_claims.specs.Off.{off_value}
use Rattle.pci_claims.proofs.OffParts.{added_none, added_more, added_all, none_behind}
use Rattle.pci_claims.proofs.off.add_ranges.Goals as goal

pub loop-i-init : goal.loop-i-init
loop-i-init g c =
    let told = told_value c.args.told.now in
    record {
      to = c.first_of_slot-i.ensures.bound;
      after = c.first_of_slot-i.ensures.after;
      parts = added_none told c.args.on.now c.args.slot c.first_of_slot-i.result (map off_value c.args.off.now.items) c.first_of_slot-i.ensures.bound c.first_of_slot-i.ensures.before;
      lines = c.requires.lines;
    }

pub loop-i-preserved : goal.loop-i-preserved
loop-i-preserved g c =
    let told = told_value c.args.told.now in
    let i = c.loop-i.i in
    let inside = c.loop-i-test.true in
    let r : ToldRange = c.index-ranges-i.result in
    let here : r.slot ≡ c.args.slot = search rules in
    record {
      to = omega (arith, inside);
      after = λ k d low high. c.loop-i.invariant.after k d (omega (arith, low)) high;
      parts = added_more told c.args.on.now c.args.slot i r (map off_value c.args.off.now.items) (map off_value c.loop-i.off.items) (map off_value c.add_range.new.off.items) inside c.index-ranges-i.is here c.loop-i.invariant.parts c.in_ok-add_range.ensures.parts;
      lines = c.in_ok-add_range.ensures.lines;
    }

pub returns-then-ne-clause-parts : goal.returns-then-ne-clause-parts
returns-then-ne-clause-parts g c =
    let told = told_value c.args.told.now in
    let i = c.loop-i.i in
    added_all told c.args.on.now c.args.slot i (map off_value c.args.off.now.items) (map off_value c.loop-i.off.items) c.loop-i.invariant.to
    (none_behind told c.args.on.now c.args.slot i c.index-ranges-i.result c.requires.told c.first_of_slot-i.ensures.lawful c.loop-i-test.true c.index-ranges-i.is c.loop-i.invariant.after (λ same. search (rules, same)))
    c.loop-i.invariant.parts

pub returns-clause-parts : goal.returns-clause-parts
returns-clause-parts g c =
    let past = c.loop-i-test.false in
    added_all (told_value c.args.told.now) c.args.on.now c.args.slot c.loop-i.i (map off_value c.args.off.now.items) (map off_value c.loop-i.off.items) c.loop-i.invariant.to
    (λ j d from inside same. omega (arith, from, inside, past)) c.loop-i.invariant.parts

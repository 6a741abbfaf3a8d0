use Rattle.std.proofs.Common.{◌≡◌, ◌+◌, ◌<◌, List, length, ap, subst, sym, arith, ◌∙◌}
use Rattle.std.proofs.lemmas.List.Elements.{All-nil, All-push}
use Rattle.pci_faults.specs.declared.shares.Share.{Share}
use Rattle.pci_faults.specs.Shares.{AreWithin}
use Rattle.pci_faults.specs.Clashes.{AreMeetingsBelow}
use Rattle.pci_faults.proofs.Odds.{no_meetings, meeting_none, meeting_more}
use Rattle.pci_faults.proofs.pairs.by_pairs.Goals.{in-Some+in_ok-push, in_default}
use Rattle.pci_faults.proofs.pairs.by_pairs.Goals as goal

pub loop-i-init : goal.loop-i-init
loop-i-init g c = record {
  within = subst (λ (l : List Share). AreWithin (length c.args.claims.now) l) (sym c.new-out.ensures.items) (All-nil _);
  exact = subst (λ (l : List Share). AreMeetingsBelow c.args.among 0 c.args.claims.now l) (sym c.new-out.ensures.items) (no_meetings c.args.among c.args.claims.now);
}

pub loop-i-preserved : goal.loop-i-preserved
loop-i-preserved g c =
    let inside = c.loop-i-test.true in record {
      within = elim c.match-meeting_from.branch [
        | in-Some+in_ok-push w ↦
            let second = w.in-Some.ensures.0 in
            let first = w.in-Some.ensures.1.below in
            subst (λ (l : List Share). AreWithin (length c.args.claims.now) l) (sym (ap (λ v. v.items) w.out-is ∙ w.in_ok-push.ensures.items))
            (All-push (λ (s : Share). (s.first < s.second) × (s.second < length c.args.claims.now)) c.loop-i.out.items w.in-Some.share c.loop-i.invariant.within
            (omega (arith, first, second), omega (arith, second, inside)))
        | in_default w ↦ subst (λ (l : List Share). AreWithin (length c.args.claims.now) l) (sym (ap (λ v. v.items) w.out-is)) c.loop-i.invariant.within
      ];
      exact = elim c.match-meeting_from.branch [
        | in-Some+in_ok-push w ↦
            subst (λ (l : List Share). AreMeetingsBelow c.args.among (c.loop-i.i + 1) c.args.claims.now l) (sym (ap (λ v. v.items) w.out-is ∙ w.in_ok-push.ensures.items))
            (meeting_more c.args.among c.loop-i.i c.args.claims.now c.loop-i.out.items c.loop-i.invariant.exact w.in-Some.share w.in-Some.ensures)
        | in_default w ↦
            subst (λ (l : List Share). AreMeetingsBelow c.args.among (c.loop-i.i + 1) c.args.claims.now l) (sym (ap (λ v. v.items) w.out-is))
            (meeting_none c.args.among c.loop-i.i c.args.claims.now c.loop-i.out.items c.loop-i.invariant.exact w.in_default.ensures)
      ];
    }

pub returns-clause-exact : goal.returns-clause-exact
returns-clause-exact g c =
    let low = c.loop-i-test.false in
    let high = c.loop-i.auto.i-end in
    let all : c.loop-i.i ≡ length c.args.claims.now = omega (arith, low, high) in
    subst (λ n. AreMeetingsBelow c.args.among n c.args.claims.now c.loop-i.out.items) all c.loop-i.invariant.exact

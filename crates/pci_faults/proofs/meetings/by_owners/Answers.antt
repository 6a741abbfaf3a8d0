use Rattle.std.proofs.Common.{◌≡◌, ◌+◌, ◌<◌, List, length, true, false, ap, subst, sym, arith, ◌∙◌}
use Rattle.std.proofs.lemmas.List.Elements.{All-nil, All-push}
use Rattle.pci_faults.specs.declared.shares.Share.{Share}
use Rattle.pci_faults.specs.Shares.{AreWithin}
use Rattle.pci_faults.specs.Clashes.{IsFoundBelow, AreMeetingsBelow}
use Rattle.pci_faults.specs.Owned.{AreClaimsOwned}
use Rattle.pci_faults.proofs.Odds.{no_meetings, meeting_none, meeting_more}
use Rattle.pci_faults.proofs.Owning.{none_owned, none_before, still_before, lone_read}
use Rattle.pci_faults.proofs.meetings.by_owners.Goals.{in-Some+in_ok-push, in_default, then-is_lone+in_ok-add_before, else-is_lone}
use Rattle.pci_faults.proofs.meetings.by_owners.Goals as goal

pub loop-i-init : goal.loop-i-init
loop-i-init g c = record {
  within = omega arith;
  before = λ _. none_before 0 c.args.among c.args.claims.now;
  owned = record { of_plain = none_owned c.args.claims.now false c.new.result c.new.ensures; of_held = none_owned c.args.claims.now true c.new-2.result c.new-2.ensures };
  in_all = omega arith;
  all_owned = none_owned c.args.claims.now false c.new-all.result c.new-all.ensures;
  places = subst (λ (l : List Share). AreWithin (length c.args.claims.now) l) (sym c.new-out.ensures.items) (All-nil _);
  exact = subst (λ (l : List Share). AreMeetingsBelow c.args.among 0 c.args.claims.now l) (sym c.new-out.ensures.items) (no_meetings c.args.among c.args.claims.now);
}

pub loop-i-preserved : goal.loop-i-preserved
loop-i-preserved g c =
    let inside = c.loop-i-test.true in
    let lesser = c.in_ok-added.ensures.0 in
    let low = lesser.within in
    let before = c.loop-i.invariant.in_all in
    let is : IsFoundBelow c.args.among c.loop-i.i c.args.claims.now c.loop-i.i c.if-is_lone.found = elim c.if-is_lone.branch [
      | then-is_lone+in_ok-add_before w ↦ subst (λ o. IsFoundBelow c.args.among c.loop-i.i c.args.claims.now c.loop-i.i o) (sym w.found-is)
          (lone_read c.args.among c.args.claims.now c.in_ok-added.added c.loop-i.i inside lesser (c.is_lone.ensures w.if-is_lone.true) w.add_before.new.owners c.add_lesser.new.owners.plain c.add_lesser.new.owners.held w.in_ok-add_before.ensures
          c.in_ok-added.ensures.1 w.least_of_both-found.result w.least_of_both-found.ensures)
      | else-is_lone w ↦ subst (λ o. IsFoundBelow c.args.among c.loop-i.i c.args.claims.now c.loop-i.i o) (sym w.found-is) w.least_before-found.ensures
    ] in
    record {
      within = omega (arith, low);
      before = λ more. still_before c.in_ok-added.added c.loop-i.i c.args.among c.args.claims.now c.requires more lesser;
      owned = c.in_ok-added.ensures.1;
      in_all = elim c.if-is_lone.branch [
        | then-is_lone+in_ok-add_before w ↦ (let at = w.in_all-is in omega (arith, at))
        | else-is_lone w ↦ (let at = w.in_all-is in omega (arith, at, before))
      ];
      all_owned = elim c.if-is_lone.branch [
        | then-is_lone+in_ok-add_before w ↦
            subst (λ n. AreClaimsOwned false n c.args.claims.now c.if-is_lone.all) (sym w.in_all-is) (subst (λ o. AreClaimsOwned false c.loop-i.i c.args.claims.now o) (sym w.all-is) w.in_ok-add_before.ensures)
        | else-is_lone w ↦
            subst (λ n. AreClaimsOwned false n c.args.claims.now c.if-is_lone.all) (sym w.in_all-is) (subst (λ o. AreClaimsOwned false c.loop-i.in_all c.args.claims.now o) (sym w.all-is) c.loop-i.invariant.all_owned)
      ];
      places = elim c.match-found.branch [
        | in-Some+in_ok-push w ↦
            let of = subst (λ o. IsFoundBelow c.args.among c.loop-i.i c.args.claims.now c.loop-i.i o) w.in-Some.is is in
            let second = of.0 in
            let first = of.1.below in
            subst (λ (l : List Share). AreWithin (length c.args.claims.now) l) (sym (ap (λ v. v.items) w.out-is ∙ w.in_ok-push.ensures.items))
            (All-push (λ (s : Share). (s.first < s.second) × (s.second < length c.args.claims.now)) c.loop-i.out.items w.in-Some.share c.loop-i.invariant.places
            (omega (arith, first, second), omega (arith, second, inside)))
        | in_default w ↦ subst (λ (l : List Share). AreWithin (length c.args.claims.now) l) (sym (ap (λ v. v.items) w.out-is)) c.loop-i.invariant.places
      ];
      exact = elim c.match-found.branch [
        | in-Some+in_ok-push w ↦
            subst (λ (l : List Share). AreMeetingsBelow c.args.among (c.loop-i.i + 1) c.args.claims.now l) (sym (ap (λ v. v.items) w.out-is ∙ w.in_ok-push.ensures.items))
            (meeting_more c.args.among c.loop-i.i c.args.claims.now c.loop-i.out.items c.loop-i.invariant.exact w.in-Some.share (subst (λ o. IsFoundBelow c.args.among c.loop-i.i c.args.claims.now c.loop-i.i o) w.in-Some.is is))
        | in_default w ↦
            subst (λ (l : List Share). AreMeetingsBelow c.args.among (c.loop-i.i + 1) c.args.claims.now l) (sym (ap (λ v. v.items) w.out-is))
            (meeting_none c.args.among c.loop-i.i c.args.claims.now c.loop-i.out.items c.loop-i.invariant.exact (subst (λ o. IsFoundBelow c.args.among c.loop-i.i c.args.claims.now c.loop-i.i o) w.in_default.is is))
      ];
    }

pub returns-clause-exact : goal.returns-clause-exact
returns-clause-exact g c =
    let low = c.loop-i-test.false in
    let high = c.loop-i.auto.i-end in
    let all : c.loop-i.i ≡ length c.args.claims.now = omega (arith, low, high) in
    subst (λ n. AreMeetingsBelow c.args.among n c.args.claims.now c.loop-i.out.items) all c.loop-i.invariant.exact

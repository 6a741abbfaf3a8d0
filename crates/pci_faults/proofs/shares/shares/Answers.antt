use Rattle.std.proofs.Common.{◌+◌, ◌<◌, length, List, subst, sym, ap, ◌∙◌, arith}
use Rattle.std.proofs.lemmas.List.Elements.{All-nil, All-push}
use Rattle.pci_faults.specs.declared.shares.Share.{Share}
use Rattle.pci_faults.specs.Shares.{AreSharesBelow, AreWithin, GroupsRise}
use Rattle.pci_faults.proofs.Sharing.{none_before, still_before, none_owned, no_shares, share_none, share_more}
use Rattle.pci_faults.proofs.shares.shares.Goals.{in-Some+in_ok-push, in_default}
use Rattle.pci_faults.proofs.shares.shares.Goals as goal

pub loop-i-init : goal.loop-i-init
loop-i-init g c = record {
  within = omega arith;
  lesser = λ rise. none_before 0 c.args.among c.args.regions.now;
  owned = none_owned c.args.regions.now c.args.allowed.now c.new-owners.result c.new-owners.ensures;
  places = subst (λ (l : List Share). AreWithin (length c.args.regions.now) l) (sym c.new-out.ensures.items) (All-nil _);
  shares = λ rise. subst (λ (l : List Share). AreSharesBelow 0 c.args.among c.args.regions.now c.args.allowed.now l) (sym c.new-out.ensures.items)
      (no_shares c.args.among c.args.regions.now c.args.allowed.now);
}

pub loop-i-preserved : goal.loop-i-preserved
loop-i-preserved g c =
    let within = c.in_ok-added.ensures.0 in
    let owned = c.in_ok-added.ensures.1 in
    let lesser = λ (rise : GroupsRise c.args.among c.args.regions.now). c.in_ok-added.ensures.2 rise (c.loop-i.invariant.lesser rise) in
    let Below : List Share → Type 0 = λ (l : List Share). AreSharesBelow (c.loop-i.i + 1) c.args.among c.args.regions.now c.args.allowed.now l in
    record {
      within = omega (arith, within);
      lesser = λ rise. still_before c.in_ok-added.added c.loop-i.i c.args.among c.args.regions.now rise (lesser rise);
      owned = owned;
      places = elim c.match-share_at.branch [
        | in-Some+in_ok-push w ↦
            let is = (rw w.in-Some.is at c.share_at.ensures.within) c.in_ok-added.added within owned in
            let second = is.1 in
            subst (λ (l : List Share). AreWithin (length c.args.regions.now) l) (sym (ap (λ v. v.items) w.out-is ∙ w.in_ok-push.ensures.items))
            (All-push (λ (s : Share). (s.first < s.second) × (s.second < length c.args.regions.now)) c.loop-i.out.items w.in-Some.share c.loop-i.invariant.places (is.0, omega (arith, second)))
        | in_default w ↦ subst (λ (l : List Share). AreWithin (length c.args.regions.now) l) (sym (ap (λ v. v.items) w.out-is)) c.loop-i.invariant.places
      ];
      shares = λ rise. elim c.match-share_at.branch [
        | in-Some+in_ok-push w ↦
            let is = (rw w.in-Some.is at c.share_at.ensures.least) c.args.among c.in_ok-added.added (lesser rise) owned in
            subst Below (sym (ap (λ v. v.items) w.out-is ∙ w.in_ok-push.ensures.items))
            (share_more c.loop-i.i c.args.among c.args.regions.now c.args.allowed.now c.loop-i.out.items (c.loop-i.invariant.shares rise) w.in-Some.share is.0 is.1)
        | in_default w ↦
            subst Below (sym (ap (λ v. v.items) w.out-is))
            (share_none c.loop-i.i c.args.among c.args.regions.now c.args.allowed.now c.loop-i.out.items (c.loop-i.invariant.shares rise)
            ((rw w.in_default.is at c.share_at.ensures.least) c.args.among c.in_ok-added.added (lesser rise) owned))
      ];
    }

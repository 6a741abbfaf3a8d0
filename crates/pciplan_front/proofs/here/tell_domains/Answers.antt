use Rattle.std.proofs.Common.{ℕ, ◌+◌, ◌≤◌, sym, subst, inr, take}
use Rattle.std.specs.Io.KnownBytes.{Appends}
use Rattle.pciplan_front.specs.HereTold.{AreDomainsTold}
use Rattle.pciplan_front.proofs.HerePieces.{cut_off, greater_known, told_more}
use Rattle.pciplan_front.proofs.here.tell_domains.Goals as goal

pub returns-in-Err-clause-told : goal.returns-in-Err-clause-told
returns-in-Err-clause-told g c = inr record {
  status_is = c.report.ensures;
  failed = c.in-Err.ensures.failed;
  begun = cut_off (g.M.Machine.shown c.args.each.now.machine.now) c.args.each.now.what c.args.each.now.headed c.args.domains.now
      c.loop-domain.domain-index 0 c.loop-domain.status c.in-Err.ensures.begun.0 (g.O.Sink.taken c.args.out.now)
      (g.O.Sink.taken c.loop-domain.out) (g.O.Sink.taken c.tell_domain.new.out) c.loop-domain-test.true
      c.loop-domain.invariant.told c.in-Err.ensures.begun.1;
}

pub loop-domain-preserved : goal.loop-domain-preserved
loop-domain-preserved g c = record {
  told =
      subst
      (λ (s : ℕ).
      AreDomainsTold (g.M.Machine.shown c.args.each.now.machine.now) c.args.each.now.what c.args.each.now.headed
      (take (c.loop-domain.domain-index + 1) c.args.domains.now) s
      (Appends (g.O.Sink.taken c.args.out.now) (g.O.Sink.taken c.tell_domain.new.out)))
      (sym c.greater-status.ensures)
      (told_more (g.M.Machine.shown c.args.each.now.machine.now) c.args.each.now.what c.args.each.now.headed
      c.args.domains.now c.loop-domain.domain-index 0 c.loop-domain.status c.in-Ok.of_domain
      (g.O.Sink.taken c.args.out.now) (g.O.Sink.taken c.loop-domain.out) (g.O.Sink.taken c.tell_domain.new.out)
      c.loop-domain-test.true c.loop-domain.invariant.told c.in-Ok.ensures.written);
  known =
      subst (λ (s : ℕ). s ≤ 4) (sym c.greater-status.ensures)
      (greater_known c.loop-domain.status c.in-Ok.of_domain c.loop-domain.invariant.known c.in-Ok.ensures.known);
}

use Rattle.std.proofs.Common.{◌≤◌, take}
use Rattle.std.specs.Io.KnownBytes.{Appends}
use Rattle.pciplan_front.specs.HereTold.{AreDomainsTold}
use Rattle.pciplan_front.proofs.here.tell_domains.Given as goal

abbrev pub invariant-loop-domain : goal.invariant-loop-domain
invariant-loop-domain g l = record {
  told : AreDomainsTold (g.M.Machine.shown l.each.machine.now) l.each.what l.each.headed (take l.domain-index l.domains)
      l.status (Appends (g.O.Sink.taken l.initial.out) (g.O.Sink.taken l.out));
  known : l.status ≤ 4;
}

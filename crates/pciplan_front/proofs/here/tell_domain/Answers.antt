use Rattle.std.proofs.Common.{ℕ, List, rules, subst}
use Rattle.std.specs.Io.KnownBytes.{Appends}
use Rattle.pci_dump.specs.Begun.{AppendsBeginning}
use Rattle.pciplan_front.proofs.HerePieces.{heading_begun, printed_begun}
use Rattle.pciplan_front.proofs.here.tell_domain.Goals as goal

pub returns-in_err-write_all-clause-begun : goal.returns-in_err-write_all-clause-begun
returns-in_err-write_all-clause-begun g c =
    let old = g.O.Sink.taken c.args.out.now in
    let new = g.O.Sink.taken c.write_all.new.sink in
    let one = subst (λ (t : List ℕ). AppendsBeginning old new t) c.as_bytes.ensures.value c.in_err-write_all.ensures.begun in
    let begun = heading_begun _ _ _ _ _ _ old new c.in-Ok.ensures.print one in
    search (rules, begun)

pub returns-in_err-send-clause-begun : goal.returns-in_err-send-clause-begun
returns-in_err-send-clause-begun g c =
    let old = g.O.Sink.taken c.args.out.now in
    let mid = g.O.Sink.taken c.write_all.new.sink in
    let new = g.O.Sink.taken c.send.new.out in
    let one = subst (λ (t : List ℕ). Appends old mid t) c.as_bytes.ensures.value c.in_ok-write_all.ensures.ok in
    let begun = printed_begun _ _ _ _ _ _ old mid new c.in-Ok.ensures.print one c.in_err-send.ensures.begun in
    search (rules, begun)

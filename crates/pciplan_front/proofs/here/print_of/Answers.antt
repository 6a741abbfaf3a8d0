use Rattle.std.proofs.Common.{rules}
use Rattle.pciplan_front.proofs.HerePieces.{memory_trouble}
use Rattle.pciplan_front.proofs.here.print_of.Goals as goal

pub returns-in_default-clause-status : goal.returns-in_default-clause-status
returns-in_default-clause-status g c =
    memory_trouble (g.M.Machine.shown c.args.each.now.machine.now) c.args.domain c.report.result (search rules)

pub returns-in-Err-domain_reply-clause-status : goal.returns-in-Err-domain_reply-clause-status
returns-in-Err-domain_reply-clause-status g c =
    memory_trouble (g.M.Machine.shown c.args.each.now.machine.now) c.args.domain c.report-in-Err-domain_reply.result (search rules)

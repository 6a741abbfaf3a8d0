use Rattle.pciplan_tasks.proofs.run.reply_to.Goals as goal

pub returns-in-Check-clause-reply : goal.returns-in-Check-clause-reply
returns-in-Check-clause-reply g c = rw c.in-Check.is c.check_texts.ensures.reply

pub returns-in-Probe-clause-reply : goal.returns-in-Probe-clause-reply
returns-in-Probe-clause-reply g c = rw c.in-Probe.is c.derive_texts.ensures.reply

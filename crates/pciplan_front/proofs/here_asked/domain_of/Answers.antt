use Rattle.std.proofs.Common.{None, refl, rules}
use Rattle.pciplan_front.proofs.HereWords.{no_domain}
use Rattle.pciplan_front.proofs.here_asked.domain_of.Goals as goal

pub returns-in_err-domain_of_word-in-Some : goal.returns-in_err-domain_of_word-in-Some
returns-in_err-domain_of_word-in-Some c =
    let none = no_domain c.in-Some.word None refl c.in_err-domain_of_word-in-Some.ensures.only in
    rw c.in-Some.is (search (rules, none))

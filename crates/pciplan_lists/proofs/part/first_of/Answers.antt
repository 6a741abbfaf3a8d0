use Rattle.std.proofs.Common.{None, Some, arith}
use Rattle.std.proofs.lemmas.Str.Pattern.{split_parts}
use Rattle.pciplan_lists.proofs.part.first_of.Goals as goal

pub returns-in-None-clause-first : goal.returns-in-None-clause-first
returns-in-None-clause-first c = split_parts 44 c.args.list.now None c.in-None.ensures.cases (omega arith)

pub returns-in-Some-clause-first : goal.returns-in-Some-clause-first
returns-in-Some-clause-first c =
    let cut = split_parts 44 c.args.list.now (Some (c.in-Some.first, c.in-Some.more)) c.in-Some.ensures.cases (omega arith) in
    cut.1

use Rattle.judge_spec.proofs.Others.{ide_leaves_others, unnumbered_leaves_others, unnumbered_leaves_numbers, ide_alone, unnumbered_alone}
use Rattle.judge_spec.proofs.words_laws.words_leave_others_alone.Goals as goal

pub returns-clause-ide : goal.returns-clause-ide
returns-clause-ide c = ide_leaves_others

pub returns-clause-unnumbered : goal.returns-clause-unnumbered
returns-clause-unnumbered c = unnumbered_leaves_others

pub returns-clause-numbers : goal.returns-clause-numbers
returns-clause-numbers c = unnumbered_leaves_numbers

pub returns-clause-ide_alone : goal.returns-clause-ide_alone
returns-clause-ide_alone c = ide_alone

pub returns-clause-unnumbered_alone : goal.returns-clause-unnumbered_alone
returns-clause-unnumbered_alone c = unnumbered_alone

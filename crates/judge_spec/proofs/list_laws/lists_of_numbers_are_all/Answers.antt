use Rattle.judge_spec.proofs.Numbers.{all_of_four, told_all_of_four}
use Rattle.judge_spec.proofs.list_laws.lists_of_numbers_are_all.Goals as goal

pub returns : goal.returns
returns c = record { given = all_of_four; told = told_all_of_four }

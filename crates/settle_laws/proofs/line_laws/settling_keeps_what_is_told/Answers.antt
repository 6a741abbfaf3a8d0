use Rattle.settle_laws.proofs.Told.Whole.{result_off_lines, result_off_ranges, result_reaches, result_keeps, always_throughout, quiet_settles}
use Rattle.settle_laws.proofs.line_laws.settling_keeps_what_is_told.Goals as goal

pub returns : goal.returns
returns c = record {
  lines = λ q s writes r x by listed is_told keeps. result_off_lines q s writes by r x listed is_told keeps;
  ranges = λ q s writes r x by is_told stand listed. result_off_ranges q s writes by x is_told stand r listed;
  reaches = λ q s writes x by is_told stand. result_reaches q s writes by x is_told stand;
  keeps = λ q s writes x by is_told stand either. result_keeps q s writes by x is_told stand either;
  always = λ q s writes x b n by is_told always stand above. always_throughout q s writes by x b n is_told always stand above;
  quiet = λ q s quiet fine none. quiet_settles q s quiet fine none;
}

use Rattle.judge_spec.proofs.ToldNumbering.{regions_are_numbered, off_ranges_are_exact, held_are_not_off}
use Rattle.judge_spec.proofs.told_region_laws.told_ranges_have_registers.Goals as goal

pub returns : goal.returns
returns c = record {
  numbered = regions_are_numbered;
  off = off_ranges_are_exact;
  held = held_are_not_off;
}

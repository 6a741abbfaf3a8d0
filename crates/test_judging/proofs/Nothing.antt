-- No told ranges.
use Rattle.std.proofs.Common.{[], arith, lit≤}
use Rattle.judge_spec.specs.Told.{IsTold}

pub nothing_told : IsTold []
nothing_told = record {
  each = λ i d below. absurd (let no : ⊥ = omega (arith, below) in no);
  order = λ i j d le below. absurd (let no : ⊥ = omega (arith, below) in no);
  room = lit≤ tt;
}

use Rattle.judge_spec.proofs.Isa.{isa_leaves_claims, isa_leaves_forwards, isa_leaves_passes, isa_takes_whole}
use Rattle.judge_spec.proofs.given_laws.isa_leaves_others_alone.Goals as goal

pub returns : goal.returns
returns c = record { claims = isa_leaves_claims; forwards = isa_leaves_forwards; passes = isa_leaves_passes; whole = isa_takes_whole }

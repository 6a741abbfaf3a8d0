use Rattle.judge_spec.proofs.Snoop.{forwards_with_neither, passes_with_neither}
use Rattle.judge_spec.proofs.snoop_laws.neither_changes_a_bridge.Goals as goal

pub returns : goal.returns
returns c = record { forwards = forwards_with_neither; passes = passes_with_neither }

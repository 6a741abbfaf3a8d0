use Rattle.judge_spec.proofs.Snoop.{no_palette_without_part, palette_has_no_memory, snoop_leaves_forwards, snoop_passes_nothing}
use Rattle.judge_spec.proofs.snoop_laws.snoop_leaves_others_alone.Goals as goal

pub returns : goal.returns
returns c = record { memory = palette_has_no_memory; claims = no_palette_without_part; forwards = snoop_leaves_forwards; passes = snoop_passes_nothing }

use Rattle.settle_answer_laws.proofs.LeavingOut.{sound_with, sound_without}
use Rattle.settle_answer_laws.proofs.left_out_laws.off_devices_can_be_left_out.Goals as goal

pub returns : goal.returns
returns c = record { without = sound_without; with_them = sound_with }

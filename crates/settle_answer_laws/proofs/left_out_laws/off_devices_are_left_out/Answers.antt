use Rattle.settle_answer_laws.proofs.LeftOutBlocks.{blocks_without_are, left_out_are_off}
use Rattle.settle_answer_laws.proofs.left_out_laws.off_devices_are_left_out.Goals as goal

pub returns : goal.returns
returns c = record { off = left_out_are_off; blocks = blocks_without_are }

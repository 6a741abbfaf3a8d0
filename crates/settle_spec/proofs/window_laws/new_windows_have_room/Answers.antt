use Rattle.settle_spec.proofs.Room.{window_has_room}
use Rattle.settle_spec.proofs.window_laws.new_windows_have_room.Goals as goal

pub returns : goal.returns
returns c = record { room = λ page highest spare items a size pos is can. window_has_room page spare items a size pos is can }

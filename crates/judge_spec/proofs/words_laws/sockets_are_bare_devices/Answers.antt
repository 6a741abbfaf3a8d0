use Rattle.judge_spec.proofs.Sockets.{socket_is_bare, socket_shows_no_state}
use Rattle.judge_spec.proofs.words_laws.sockets_are_bare_devices.Goals as goal

pub returns : goal.returns
returns c = record { bare = socket_is_bare; state = socket_shows_no_state }

-- Laws of room behind slots where nothing is told: they hold of each request.
use Rattle.pci_spec.specs.System.{System}
use Rattle.settle_spec.specs.Lists.{Request}
use Rattle.settle_spec.specs.SpareLaws.{CanAsk, SparesRefuseNothing, SparesSetNoCommand, SparesHaveRoom}
use Rattle.settle_laws.specs.GrowingLaws.{CanBeAsked}
use Rattle.settle_laws.specs.ToldSoundLaws.{IsAdmittedSystem}
use Rattle.settle_laws.proofs.Told.Wished.{told_spares_refuse_nothing, told_spares_set_no_command, told_spares_have_room}

pub admitted_of : (q : Request) (s : System) → CanBeAsked q s → IsAdmittedSystem q s
admitted_of q s may = record { high = may.high; system = may.system; nested = may.nested; profile = may.profile; chains = may.chains }

admitted : (q : Request) (s : System) → CanAsk q s → IsAdmittedSystem q s
admitted q s ask = record { high = ask.high; system = ask.system; nested = ask.nested; profile = ask.profile; chains = ask.chains }

-- The law: what is refused with slots is refused without them, for the same reason.
pub spares_refuse_nothing : SparesRefuseNothing
spares_refuse_nothing q s ask = told_spares_refuse_nothing q s (admitted q s ask)

-- The law: Command is that without slots.
pub spares_set_no_command : SparesSetNoCommand
spares_set_no_command q s f ask listed settled = told_spares_set_no_command q s f (admitted q s ask) listed settled

-- The law: the spare behind a slot is denied, or its window has room for it.
pub spares_have_room : SparesHaveRoom
spares_have_room q s c b e ask listed spare there free settles = told_spares_have_room q s c b e (admitted q s ask) listed spare there free settles

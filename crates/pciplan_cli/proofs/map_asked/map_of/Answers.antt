use Rattle.std.proofs.Common.{refl}
use Rattle.pciplan_cli.proofs.map_asked.map_of.Goals as goal

pub returns : goal.returns
returns c = record { said = c.in_ok-beside.beside; beside = c.in_ok-beside.ensures; is = refl }

use Rattle.std.proofs.Common.{◌∙◌}
use Rattle.pci_spec.specs.System.{space_of}
use Rattle.settle_laws.proofs.Keeping.Claimed.{on_now}
use Rattle.settle_laws.proofs.Keeping.Lives.{serves, serves_over, serves_enabled}
use Rattle.settle_laws.proofs.Keeping.SettledSound.{settled_sound}
use Rattle.settle_laws.proofs.Keeping.Stopping.{stop_sound, writes_settle}
use Rattle.settle_laws.proofs.keeping_laws.settling_is_sound.Goals as goal

pub returns-clause-enabled : goal.returns-clause-enabled
returns-clause-enabled c = λ q s k can f b p x is leads.
    on_now q s k can b leads.0 (space_of f p)
    ∙ serves_enabled q s k can (space_of f p) b leads.0 (serves_over q s k can (space_of f p) f b is.0 (serves q s k can f p is.0 is.1 x is.2) leads)

pub returns-clause-sound : goal.returns-clause-sound
returns-clause-sound c = settled_sound

pub returns-clause-stop : goal.returns-clause-stop
returns-clause-stop c = stop_sound

pub returns-clause-settles : goal.returns-clause-settles
returns-clause-settles c = writes_settle

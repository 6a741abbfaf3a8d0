-- In a sound system in which each part stands nothing is cut off: settling leaves it as it is.
use Rattle.settle_spec.specs.Kept.{as_it_stands}
use Rattle.settle_laws.proofs.NothingSettled.{start_stays}
use Rattle.settle_laws.proofs.Keeping.Unchanged.{not_cut}
use Rattle.settle_laws.specs.Switching.{SoundIsUncut}

-- The law: a sound system is uncut.
pub sound_is_uncut : SoundIsUncut
sound_is_uncut q untold s is sound off = record { left = off; above = not_cut q s (as_it_stands q s) is.system is.nested (start_stays q untold s is.system sound is.stand off) }

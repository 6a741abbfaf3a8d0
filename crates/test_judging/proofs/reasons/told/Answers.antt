use Rattle.std.proofs.Common.{sym, subst}
use Rattle.pci_claims.specs.ToldOn.{AreOnIn}
use Rattle.test_judging.proofs.Nothing.{nothing_told}
use Rattle.test_judging.proofs.reasons.told.Goals as goal

pub loop-named-init : goal.loop-named-init
loop-named-init c = record {
  kept = c.no_rooms-rooms.ensures _ _ _ nothing_told (subst (AreOnIn _ _) (sym c.deref.ensures.value) c.in-Ok.ensures);
}

use Rattle.pci_base.specs.Space.{space_of, kind_in}
use Rattle.pci_claims.specs.Values.{code_given_value, told_value}
use Rattle.pci_why.proofs.Roomy.{still_ready}
use Rattle.std.proofs.Common.{subst, ◌≡◌}
use Rattle.std.specs.Prelude.{MatchOption}
use Rattle.pci_why.specs.Rooms.{RoomValue}
use Rattle.pci_why.proofs.room.make_ready.Goals as goal

pub returns-then-is_on : goal.returns-then-is_on
returns-then-is_on g c =
    still_ready (told_value c.args.judged.now.told.now) (code_given_value c.args.judged.now.given.now) c.args.judged.now.outline.now c.args.moving.now.region.slot (kind_in (space_of c.args.moving.now.space) c.args.moving.now.region.prefetch) c.args.kept.now c.requires.kept
    (subst (λ n. MatchOption c.args.kept.now ⊥ (λ (room : RoomValue). room.bus ≡ n)) c.bus.ensures (c.is_on.ensures.0 c.if-is_on.true))

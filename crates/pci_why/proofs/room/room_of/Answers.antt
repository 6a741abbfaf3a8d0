use Rattle.std.proofs.Common.{List, subst, sym}
use Rattle.pci_spec.specs.Slot.{Slot}
use Rattle.pci_claims.specs.BusClaims.{AreBridgesOf}
use Rattle.pci_base.specs.Space.{space_of}
use Rattle.pci_claims.specs.Values.{code_given_value, told_value}
use Rattle.pci_why.proofs.Roomy.{room_for}
use Rattle.pci_why.proofs.room.room_of.Goals as goal

pub returns-in_default : goal.returns-in_default
returns-in_default g c = rw c.in_default.is at c.in_ok-reach.ensures.exact

pub returns : goal.returns
returns g c =
    room_for (told_value c.args.judged.now.told.now) (code_given_value c.args.judged.now.given.now) c.args.judged.now.outline.now c.args.moving.now.region.slot (space_of c.args.moving.now.space) c.args.moving.now.region.prefetch _ _ c.in-Some.reach.items c.in_ok-claims.claims.items
    c.kind-kind.ensures c.bus-bus.ensures (rw c.in-Some.is at c.in_ok-reach.ensures.exact) c.in_ok-claims.ensures

pub claims_beside-requires : goal.claims_beside-requires
claims_beside-requires g c = record {
  lawful = c.requires.told;
  each_on = c.requires.on;
  all_bridges = subst (λ (slots : List Slot). AreBridgesOf c.args.judged.now.outline.now slots) (sym c.deref.ensures.value) c.in_ok-bridges.ensures;
}

use Rattle.std.proofs.Common.{◌+◌, List, ap, subst, sym, take, ◌∙◌}
use Rattle.pci_base.specs.Space.{space_of}
use Rattle.pci_claims.specs.Claim.{Claimed}
use Rattle.pci_claims.specs.Values.{code_given_value}
use Rattle.pci_claims.specs.BusClaims.{ArePartClaims, AreMoreClaims}
use Rattle.pci_claims.proofs.BusClaiming.{no_part, one_part_more, no_part_more}
use Rattle.pci_claims.proofs.bus_claims.add_part_claims.Goals.{in-Some+in_ok-claim+in_ok-push, in_default}
use Rattle.pci_claims.proofs.bus_claims.add_part_claims.Goals as goal

pub loop-slot-init : goal.loop-slot-init
loop-slot-init g c = no_part (code_given_value c.args.given.now) c.args.part (space_of c.args.arriving.now.space) c.args.bridges.now.records.now c.args.arriving.now.reach.now c.args.claims.now.items

pub loop-slot-preserved : goal.loop-slot-preserved
loop-slot-preserved g c =
    let given = code_given_value c.args.given.now in
    let space = space_of c.args.arriving.now.space in
    let records = c.args.bridges.now.records.now in
    let reach = c.args.arriving.now.reach.now in
    let slots = c.args.bridges.now.slots.now in
    elim c.match-answering.branch [
      | in-Some+in_ok-claim+in_ok-push w ↦
          one_part_more given c.args.part space records reach slots c.loop-slot.slot-index c.slot-item.result c.args.claims.now.items
          c.loop-slot.claims.items c.loop-slot-test.true c.slot-item.is c.loop-slot.invariant w.in-Some.bridge.now w.in_ok-claim.claim c.match-answering.claims.items
          w.in-Some.ensures w.in_ok-claim.ensures (ap (λ v. v.items) w.claims-is ∙ w.in_ok-push.ensures.items)
      | in_default w ↦
          subst (λ (l : List Claimed). AreMoreClaims (ArePartClaims given c.args.part space records reach (take (c.loop-slot.slot-index + 1) slots)) c.args.claims.now.items l) (sym (ap (λ v. v.items) w.claims-is))
          (no_part_more given c.args.part space records reach slots c.loop-slot.slot-index c.slot-item.result c.args.claims.now.items
          c.loop-slot.claims.items c.loop-slot-test.true c.slot-item.is c.loop-slot.invariant w.in_default.ensures)
    ]

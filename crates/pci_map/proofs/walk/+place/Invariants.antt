use Rattle.std.proofs.Common.{◌+◌, ◌-◌, ◌*◌, drop}
use Rattle.std.specs.String.{string_bytes}
use Rattle.pci_spec.specs.System.{System}
use Rattle.pci_base.specs.Space.{space_of}
use Rattle.pci_claims.specs.Values.{code_given_value, told_value}
use Rattle.pci_map.specs.Seats.{AreSeatsOn}
use Rattle.pci_map.specs.Mapped.{IsSystemOf}
use Rattle.pci_map.specs.Walk.{merged}
use Rattle.pci_map.proofs.Joins.{IsPartly}
use Rattle.pci_map.proofs.walk.+place.Given as goal

abbrev pub decreases-push_seat : goal.decreases-push_seat
decreases-push_seat g l = 2 * (256 - l.bus)

abbrev pub decreases-push_place : goal.decreases-push_place
decreases-push_place g l = 2 * (256 - l.place.now.bus) + 1

abbrev pub invariant-push_place-loop-seat : goal.invariant-push_place-loop-seat
invariant-push_place-loop-seat g l =
    (s : System) → IsSystemOf (told_value l.walk.mapped.now.told) (code_given_value l.walk.mapped.now.given) l.walk.mapped.now.outline.now l.walk.mapped.now.above.now s
    → AreSeatsOn (told_value l.walk.mapped.now.told) s l.place.bus (space_of l.walk.space) l.place.regions.items
    → IsPartly record { told = told_value l.walk.mapped.now.told; given = code_given_value l.walk.mapped.now.given; roots = l.walk.mapped.now.outline.now.roots; system = s; space = space_of l.walk.space } l.depth (merged (space_of l.walk.space) l.place.regions.items l.place.runs.items)
    (merged (space_of l.walk.space) (drop l.seat-index l.place.regions.items) l.left) (string_bytes l.initial.text) (string_bytes l.text)

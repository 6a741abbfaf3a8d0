use Rattle.std.proofs.Common.{refl, sym, arith, false, length, subst}
use Rattle.std.proofs.lemmas.Bool.{both_ways}
use Rattle.pci_spec.proofs.Walks.{chain-no_loop}
use Rattle.pci_image.proofs.Walking.{HasPlaces, IsWalk, walk-aligned, walk-twice, walk_on, walk-room, walk-up_to, walk-before, walk-not_before, places-more}
use Rattle.pci_image.proofs.capability.add_places.Goals as goal

pub ends_within-requires : goal.ends_within-requires
ends_within-requires c = walk-aligned c.args.image.now.0 c.loop-place.found.items c.loop-place.place c.loop-place.invariant.walk

pub returns-then-has-clause-fault : goal.returns-then-has-clause-fault
returns-then-has-clause-fault c =
    walk-twice c.args.image.now.0 c.loop-place.found.items c.loop-place.place c.loop-place.met.bits c.loop-place.invariant.walk c.loop-place.invariant.met c.loop-place-test.true
    (sym c.if-has.ensures)

pub returns-then-has-clause-lawful : goal.returns-then-has-clause-lawful
returns-then-has-clause-lawful c = (
  (λ never. absurd (both_ways false refl never)),
  (λ chain. absurd (chain-no_loop c.args.image.now.0 c.loop-place.place chain
      (walk-twice c.args.image.now.0 c.loop-place.found.items c.loop-place.place c.loop-place.met.bits c.loop-place.invariant.walk c.loop-place.invariant.met c.loop-place-test.true
      (sym c.if-has.ensures)))),
)

pub returns-then-place-lt-FIRST_PLACE-clause-first : goal.returns-then-place-lt-FIRST_PLACE-clause-first
returns-then-place-lt-FIRST_PLACE-clause-first c =
    (length c.loop-place.found.items, walk-up_to c.args.image.now.0 c.loop-place.found.items c.loop-place.place c.loop-place.invariant.walk, sym c.loop-place.invariant.walk.here)

pub returns-then-has-clause-first : goal.returns-then-has-clause-first
returns-then-has-clause-first c =
    let before =
    walk-before c.args.image.now.0 c.loop-place.found.items c.loop-place.place c.loop-place.met.bits c.loop-place.invariant.walk c.loop-place.invariant.met (sym c.if-has.ensures)
    in (
      before.0,
      length c.loop-place.found.items,
      before.1,
      walk-up_to c.args.image.now.0 c.loop-place.found.items c.loop-place.place c.loop-place.invariant.walk,
      before.2,
      sym c.loop-place.invariant.walk.here,
      c.if-place-lt-FIRST_PLACE.false,
    )

pub returns-then-not-ends_within-clause-first : goal.returns-then-not-ends_within-clause-first
returns-then-not-ends_within-clause-first c = (
  length c.loop-place.found.items,
  walk-up_to c.args.image.now.0 c.loop-place.found.items c.loop-place.place c.loop-place.invariant.walk,
  sym c.loop-place.invariant.walk.here,
  c.if-place-lt-FIRST_PLACE.false,
  walk-not_before c.args.image.now.0 c.loop-place.found.items c.loop-place.place c.loop-place.met.bits c.loop-place.invariant.walk c.loop-place.invariant.met (sym c.if-has.ensures),
)

pub push-requires : goal.push-requires
push-requires c =
    let room = walk-room c.args.image.now.0 c.loop-place.found.items c.loop-place.place c.loop-place.met.bits c.loop-place.invariant.walk c.loop-place.invariant.met
    c.if-place-lt-FIRST_PLACE.false c.loop-place.auto.place-fits.fits (sym c.if-has.ensures) (c.ends_within.ensures.0 c.if-not-ends_within.false) in
    (omega arith, room)

pub loop-place-smaller : goal.loop-place-smaller
loop-place-smaller c =
    let room = walk-room c.args.image.now.0 c.loop-place.found.items c.loop-place.place c.loop-place.met.bits c.loop-place.invariant.walk c.loop-place.invariant.met
    c.if-place-lt-FIRST_PLACE.false c.loop-place.auto.place-fits.fits (sym c.if-has.ensures) (c.ends_within.ensures.0 c.if-not-ends_within.false) in
    omega (arith, room, c.push.ensures.len)

pub loop-place-preserved : goal.loop-place-preserved
loop-place-preserved c =
    let walk = walk_on c.args.image.now.0 c.loop-place.found.items c.loop-place.place c.pointer_at-place.result c.loop-place.met.bits c.loop-place.invariant.walk
    c.loop-place.invariant.met c.if-place-lt-FIRST_PLACE.false c.loop-place.auto.place-fits.fits (sym c.if-has.ensures) (c.ends_within.ensures.0 c.if-not-ends_within.false)
    c.pointer_at-place.ensures in
    let met = places-more c.loop-place.met.bits c.insert.new.self.bits c.loop-place.place c.loop-place.found.items c.loop-place.invariant.met c.insert.ensures in
    record {
      walk = subst (λ items. IsWalk c.args.image.now.0 items c.pointer_at-place.result) (sym c.push.ensures.items) walk;
      met = subst (HasPlaces c.insert.new.self.bits) (sym c.push.ensures.items) met;
    }

use Rattle.std.proofs.Common.{arith, below_more, refl, false}
use Rattle.std.proofs.lemmas.Bool.{both_ways}
use Rattle.pci_function.proofs.Profiles.{body_within, asleep_from, awake_from}
use Rattle.pci_function.proofs.profile.is_not_in_d0.Goals as goal

pub is_not_in_d0_at-requires : goal.is_not_in_d0_at-requires
is_not_in_d0_at-requires c = body_within c.args.image.now.0 c.args.places.now c.loop-place.place-index _ c.requires (omega arith) refl

pub returns-then-is_not_in_d0_at : goal.returns-then-is_not_in_d0_at
returns-then-is_not_in_d0_at c = (
  λ h. asleep_from c.args.image.now.0 c.args.places.now c.loop-place.place-index _ c.requires (omega arith) refl (c.is_not_in_d0_at.ensures.0 c.if-is_not_in_d0_at.true),
  λ h. refl,
)

pub loop-place-preserved : goal.loop-place-preserved
loop-place-preserved c = below_more _ _ c.loop-place.invariant (λ h. both_ways _ c.if-is_not_in_d0_at.false (c.is_not_in_d0_at.ensures.1 h))

pub returns : goal.returns
returns c = (
  λ h. absurd (both_ways false refl h),
  λ h. absurd (awake_from c.args.image.now.0 c.args.places.now c.requires (λ k within. c.loop-place.invariant k (omega (arith, within))) h),
)

-- Lists of one pool each are no worse than the pools.
use Rattle.std.proofs.Common.{◌≡◌, ◌||◌, ℕ, ◌^◌, ◌<◌, arith, inl, inr, List, [], Bool, true, false, refl, ◌∙◌, ap, subst, None}
use Rattle.std.specs.Bool.{nat_lt}
use Rattle.std.proofs.lemmas.Bool.{le-ltb, ltb-false, or_parts}
use Rattle.pci_spec.proofs.Members.{in_nil, in_cons_cases}
use Rattle.plan_spec.specs.Plan.{Pools, is_backward, are_bad}
use Rattle.settle_spec.specs.Lists.{RootRange, is_bad_list, are_bad_lists, end_above}
use Rattle.settle_laws.specs.PlanLaws.{pool_list, anew_in, CanSettleWherePlanned}
use Rattle.settle_laws.proofs.PlannedRoots.{settles_where_planned}
use Rattle.settle_laws.proofs.SoundKept.{standing_is_sound}

neither : (x y : Bool) → x ≡ false → y ≡ false → (x || y) ≡ false
neither x y no_x no_y = ap (λ b. b || y) no_x ∙ no_y

nothing_more : (b : Bool) → (b || false) ≡ b
nothing_more true = refl
nothing_more false = refl

lists_fine : (roots : List ℕ) (pools : Pools) → are_bad pools ≡ false → are_bad_lists roots (anew_in roots pools).lists ≡ false
lists_fine roots pools good =
    let five = or_parts (is_backward pools.io || is_backward pools.memory || is_backward pools.prefetch || nat_lt 0xffff pools.io.last || nat_lt 0xffff_ffff pools.memory.last) _ good in
    let four = or_parts (is_backward pools.io || is_backward pools.memory || is_backward pools.prefetch || nat_lt 0xffff pools.io.last) (nat_lt 0xffff_ffff pools.memory.last) five.0 in
    let three = or_parts (is_backward pools.io || is_backward pools.memory || is_backward pools.prefetch) (nat_lt 0xffff pools.io.last) four.0 in
    let two = or_parts (is_backward pools.io || is_backward pools.memory) (is_backward pools.prefetch) three.0 in
    let one = or_parts (is_backward pools.io) (is_backward pools.memory) two.0 in
    let io = pool_list pools.io in
    let memory = pool_list pools.memory in
    let prefetch = pool_list pools.prefetch in
    neither (is_bad_list roots io || is_bad_list roots memory || is_bad_list roots prefetch || end_above 0xffff_ffff io) (end_above 0xffff_ffff memory)
    (neither (is_bad_list roots io || is_bad_list roots memory || is_bad_list roots prefetch) (end_above 0xffff_ffff io)
    (neither (is_bad_list roots io || is_bad_list roots memory) (is_bad_list roots prefetch)
    (neither (is_bad_list roots io) (is_bad_list roots memory) (bad_by (is_backward pools.io) one.0) (bad_by (is_backward pools.memory) one.1))
    (bad_by (is_backward pools.prefetch) two.1))
    (nothing_more (nat_lt 0xffff_ffff pools.io.last) ∙ le-ltb 0xffff_ffff pools.io.last (let low = ltb-false 0xffff pools.io.last three.1 in omega (arith, low))))
    (nothing_more (nat_lt 0xffff_ffff pools.memory.last) ∙ four.1)
  where
    bad_by : (b : Bool) → b ≡ false → (((b || false) || false) || false) ≡ false
    bad_by b fine = ap (λ x. ((x || false) || false) || false) fine

pub can_settle_where_planned : CanSettleWherePlanned
can_settle_where_planned roots s pools system nested profile chains rising top can = record {
  lists = lists_fine roots pools can.good;
  high = λ r has. elim (in_cons_cases record { root = None; range = pools.prefetch } [] r has) [
    | inl is ↦ subst (λ (x : RootRange). x.range.last < 2 ^ 64) is top
    | inr none ↦ absurd (in_nil r none)
  ];
  system = system;
  nested = nested;
  profile = profile;
  chains = chains;
  sound = standing_is_sound (anew_in roots pools) s system nested profile;
  room = settles_where_planned roots s pools system nested rising top can;
}

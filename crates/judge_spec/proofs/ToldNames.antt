-- A slot and a register name one told range.
use Rattle.std.proofs.Common.{◌≡◌, get_or, sym, ◌∙◌, ap, subst, arith, Option, None, Some}
use Rattle.std.specs.List.{slice_get}
use Rattle.std.proofs.lemmas.Option.{slice_get_within, get_or_from_slice_get}
use Rattle.pci_spec.specs.Slot.{IsSlot}
use Rattle.pci_spec.specs.Fault.{RegionName}
use Rattle.judge_spec.specs.Told.{ToldRange, IsTold}
use Rattle.judge_spec.specs.ToldClaims.{Told, IsRangeAt}

range_or : ToldRange → Option ToldRange → ToldRange
range_or r None = r
range_or r (Some other) = other

pub one_range : (told : Told) (region : RegionName) (r other : ToldRange) → IsRangeAt told region r → IsRangeAt told region other → r ≡ other
unfolding range_or
one_range told region r other at also =
    let first = at.register in
    let second = also.register in
    let index : at.index ≡ also.index = omega (arith, first, second) in
    let same : Some r ≡ Some other = sym at.at ∙ ap (λ n. slice_get told.ranges n) index ∙ also.at in
    ap (λ o. range_or r o) same

-- its slot is a slot
pub told_slot : (told : Told) (region : RegionName) (r : ToldRange) → IsTold told.ranges → IsRangeAt told region r → IsSlot region.slot
told_slot told region r is_told named =
    let within = slice_get_within told.ranges named.index r named.at in
    let is : get_or told.ranges named.index r ≡ r = get_or_from_slice_get told.ranges named.index r r named.at in
    subst IsSlot named.slot (subst (λ (x : ToldRange). IsSlot x.slot) is (is_told.each named.index r within).line.slot)

-- Told ranges as lines tell them: the register of each, and which are off.
use Rattle.std.proofs.Common.{◌≡◌, ℕ, zero, suc, ◌+◌, List, [], ◌∷◌, Bool, true, refl, ◌∙◌, ap, subst, arith, inl, inr, None, Some}
use Rattle.std.specs.Prelude.{not, IsFalse}
use Rattle.std.specs.List.{Contains, slice_get}
use Rattle.std.proofs.lemmas.Bool.{and_parts, and_from, not-true, not_from_false, both_ways}
use Rattle.pci_spec.specs.Slot.{same_slot}
use Rattle.pci_spec.proofs.Members.{in_nil, in_cons_cases, in_head, in_tail, in_filter_to, in_filter_from}
use Rattle.pci_spec.proofs.SameSlot.{slot_itself, slots_same}
use Rattle.judge_spec.specs.Told.{Mark, Command, Always, Held, ToldRange}
use Rattle.judge_spec.specs.ToldClaims.{is_on_by, is_range_on, is_asleep, is_enabled_at, is_marked_held}
use Rattle.judge_spec.specs.ToldRegion.{ToldRegion, regions_from, told_regions, is_off_at}
use Rattle.judge_spec.specs.ToldRegionLaws.{RegionsAreNumbered, OffRangesAreExact, HeldAreNotOff}

-- the range of an index, with its register
record IsNumbered (first : ℕ) (ranges : List ToldRange) (x : ToldRegion) : Type 0 where
  index : ℕ
  at : slice_get ranges index ≡ Some x.told
  register : first + index ≡ x.register

numbered_in : (first : ℕ) (ranges : List ToldRange) (x : ToldRegion) → Contains (regions_from first ranges) x → IsNumbered first ranges x
numbered_in first [] x has = absurd (in_nil x has)
numbered_in first (r ∷ ranges) x has = elim (in_cons_cases (record { register = first; told = r }) (regions_from (first + 1) ranges) x has) [
  | inl here ↦ (let register : first ≡ x.register = ap (λ (y : ToldRegion). y.register) here in
      record { index = 0; at = ap (λ (y : ToldRegion). Some y.told) here; register = omega (arith, register) })
  | inr later ↦ (let found = numbered_in (first + 1) ranges x later in
      let register = found.register in
      record { index = suc found.index; at = found.at; register = omega (arith, register) })
]

in_numbered : (first : ℕ) (ranges : List ToldRange) (x : ToldRegion) (index : ℕ) → slice_get ranges index ≡ Some x.told → first + index ≡ x.register → Contains (regions_from first ranges) x
in_numbered first [] x index at register = let e : None ≡ Some x.told = at in absurd cc
in_numbered first (r ∷ ranges) x zero at register =
    let e : Some r ≡ Some x.told = at in
    let range : r ≡ x.told = cc in
    let number : first ≡ x.register = omega (arith, register) in
    let here : (record { register = first; told = r }) ≡ x = λ i. record { register = number i; told = range i } in
    subst (λ (y : ToldRegion). Contains (regions_from first (r ∷ ranges)) y) here (in_head (record { register = first; told = r }) (regions_from (first + 1) ranges))
in_numbered first (r ∷ ranges) x (suc index) at register =
    in_tail (record { register = first; told = r }) (regions_from (first + 1) ranges) x (in_numbered (first + 1) ranges x index at (omega (arith, register)))

pub regions_are_numbered : RegionsAreNumbered
regions_are_numbered told x = (
  λ has. let found = numbered_in 256 told.ranges x has in record { index = found.index; at = found.at; slot = refl; register = found.register },
  λ named. in_numbered 256 told.ranges x named.index named.at named.register,
)

-- ---- those that are off

pub off_ranges_are_exact : OffRangesAreExact
off_ranges_are_exact told s slot x = (
  λ has.
      let found = in_filter_to (is_off_at told s slot) (told_regions told) x has in
      let both = and_parts (same_slot x.told.slot slot) (not (is_range_on told s x.told)) found.1 in
      record { named = (regions_are_numbered told x).0 found.0; of_slot = slots_same x.told.slot slot both.0; off = not-true (is_range_on told s x.told) both.1 },
  λ off. in_filter_from (is_off_at told s slot) (told_regions told) x ((regions_are_numbered told x).1 off.named)
      (and_from (same_slot x.told.slot slot) (not (is_range_on told s x.told)) (ap (λ y. same_slot y slot) off.of_slot ∙ slot_itself slot) (not_from_false (is_range_on told s x.told) off.off)),
)

not_held_by : (mark : Mark) (awake enabled : Bool) → IsFalse (is_on_by mark awake enabled) → IsFalse (is_marked_held mark)
not_held_by Command awake enabled off = refl
not_held_by Always awake enabled off = refl
not_held_by Held awake enabled off = absurd (both_ways true off refl)

pub held_are_not_off : HeldAreNotOff
held_are_not_off told s slot x has =
    not_held_by x.told.mark (not (is_asleep told x.told.slot)) (is_enabled_at s x.told.slot x.told.space) ((off_ranges_are_exact told s slot x).0 has).off

-- A reach is no higher than its window may be, and so it ends within 64 bits.
use Rattle.std.proofs.Common.{◌≡◌, ℕ, ◌^◌, ◌<◌, ◌≤◌, inl, inr, List, Bool, true, false, arith, ap, sym, subst, Option, None, Some}
use Rattle.std.specs.Bool.{if◌then◌else◌}
use Rattle.std.specs.List.{Contains}
use Rattle.std.proofs.lemmas.Bool.{cases_Bool}
use Rattle.pci_spec.specs.Window.{WindowKind, IoWindow, MemoryWindow, PrefetchWindow, is_wide_window}
use Rattle.pci_spec.specs.Decoded.{Range as DecodedRange}
use Rattle.pci_spec.specs.System.{System, Function}
use Rattle.settle_spec.specs.Lists.{Request}
use Rattle.settle_spec.specs.Parts.{addresses}
use Rattle.settle_spec.specs.Stands.{is_fixed_part, window_part, stands}
use Rattle.settle_spec.specs.Items.{highest_in}
use Rattle.settle_spec.specs.Reach.{room_around, reach_in, reach_if, reach_within, reach}
use Rattle.settle_spec.proofs.Reaching.{reach_step, reach_in_low}
use Rattle.settle_laws.specs.Reach.{WindowsAreLow}

pub highest_below : (c : WindowKind) (probe : List ℕ) → highest_in c probe < 2 ^ 64
highest_below IoWindow probe = elim (cases_Bool (is_wide_window IoWindow probe)) [
  | inl wide ↦ (let e : highest_in IoWindow probe ≡ 0xffff_ffff = ap (λ x. if x then 0xffff_ffff else 0xffff) wide in omega (arith, e))
  | inr narrow ↦ (let e : highest_in IoWindow probe ≡ 0xffff = ap (λ x. if x then 0xffff_ffff else 0xffff) narrow in omega (arith, e))
]
highest_below MemoryWindow probe = omega arith
highest_below PrefetchWindow probe = elim (cases_Bool (is_wide_window PrefetchWindow probe)) [
  | inl wide ↦ (let e : highest_in PrefetchWindow probe ≡ 0xffff_ffff_ffff_ffff = ap (λ x. if x then 0xffff_ffff_ffff_ffff else 0xffff_ffff) wide in omega (arith, e))
  | inr narrow ↦ (let e : highest_in PrefetchWindow probe ≡ 0xffff_ffff = ap (λ x. if x then 0xffff_ffff_ffff_ffff else 0xffff_ffff) narrow in omega (arith, e))
]

module _ (q : Request) (s : System) (low : WindowsAreLow q s) (c : WindowKind) (f : Function) (listed : Contains s f) (stand : stands q s (window_part c f) ≡ true) where
  own : (addresses (window_part c f)).last ≤ highest_in c f.probe
  own = low c f listed stand

  by_room : (o : Option DecodedRange) → (reach_if q s c f o).last ≤ highest_in c f.probe
  by_room None = own
  by_room (Some room) = by_fixed (is_fixed_part q (window_part c f))
    where
      by_fixed : (fixed : Bool) → (if fixed then addresses (window_part c f) else reach_in q s c f room).last ≤ highest_in c f.probe
      by_fixed true = own
      by_fixed false = reach_in_low q s c f room

  pub reach_low : (reach q s c f).last ≤ highest_in c f.probe
  reach_low = subst (λ (r : DecodedRange). r.last ≤ highest_in c f.probe) (sym (reach_step q s c f)) (by_room (room_around q s c (reach_within q s c 255) f))

  pub reach_below : (reach q s c f).last < 2 ^ 64
  reach_below = let most = reach_low in let top = highest_below c f.probe in omega (arith, most, top)

-- What settling with told ranges comes to is sound as told.
use Rattle.std.proofs.Common.{◌≡◌, ℕ, true, false, not, refl, ap, subst}
use Rattle.std.specs.List.{Contains}
use Rattle.std.proofs.lemmas.Bool.{and_parts, both_ways}
use Rattle.pci_spec.specs.Slot.{Slot}
use Rattle.pci_spec.specs.Decoded.{InRange}
use Rattle.pci_spec.specs.System.{System, Function, IsPassedTo, is_space_on}
use Rattle.plan_spec.specs.Plan.{bridges_above}
use Rattle.plan_spec.proofs.Planning.Kept.{images_of}
use Rattle.judge_spec.specs.Given.{nothing_given}
use Rattle.judge_spec.specs.Told.{Mark, Command, Always, Held}
use Rattle.judge_spec.specs.ToldClaims.{is_asleep, is_enabled_at, is_on_by, is_range_on, is_marked_held}
use Rattle.judge_spec.specs.ToldRegion.{ToldRegion, told_regions}
use Rattle.judge_spec.specs.ToldSound.{IsHome}
use Rattle.judge_spec.proofs.Judging.{same_sound}
use Rattle.judge_spec.proofs.Nothing.{same_passed_to}
use Rattle.settle_spec.specs.Lines.{line_bus, line_range, is_held_line, is_marked_always, is_marked_command}
use Rattle.settle_spec.specs.Lists.{Request}
use Rattle.settle_spec.specs.Stands.{range_stands}
use Rattle.settle_spec.specs.Kept.{Kept}
use Rattle.settle_spec.specs.Keeping.Registers.{settled, settled_function}
use Rattle.settle_laws.specs.Keeping.PlacesLaws.{CanSettle}
use Rattle.settle_laws.specs.ToldSoundLaws.{IsToldOf, IsSoundAsTold, CanSettleTold}
use Rattle.settle_laws.proofs.Keeping.Moves.{moves, new_system, new_nested, new_profile, new_chains}
use Rattle.settle_laws.proofs.Keeping.SettledSound.{settled_sound}
use Rattle.settle_laws.proofs.Told.Held.{passes_then}
use Rattle.settle_laws.proofs.Told.Homes.{home_by}
use Rattle.settle_laws.proofs.Told.Lines.{IsAtSlot, line_at, named_line, at_slot, told_then}
use Rattle.settle_laws.proofs.Told.On.{enabled_by, counts, stands_now, always_enabled, command_enabled}
use Rattle.settle_laws.proofs.Told.Single.{told_single}

module _ (q : Request) (s : System) (k : Kept) (all : CanSettleTold q s k) where
  abbrev can : CanSettle q s k
  can = all.can

  abbrev t : System
  t = settled q s k

  abbrev now : Function → Function
  now f = settled_function q s k f

  -- ---- home

  -- the function at the slot of a told range, and that bridges above are on
  record IsUp (x : ToldRegion) : Type 0 where
    f : Function
    listed : Contains s f
    slot_is : f.slot ≡ x.told.slot
    up : (b : Function) → Contains (bridges_above s f.slot.bus) b → is_space_on (now b) x.told.space ≡ true

  module _ (x : ToldRegion) (told : Contains (told_regions q.told) x) (not_held : is_held_line x ≡ false) (on : is_range_on q.told t x.told ≡ true) (there : IsAtSlot s x.told.slot) where
    stand : range_stands q s x ≡ true
    stand = stands_now q s k all x told not_held (counts q s k all x told on)

    is_up : IsUp x
    is_up = by x.told.mark refl on
      where
        by : (mark : Mark) → x.told.mark ≡ mark → is_on_by mark (not (is_asleep q.told x.told.slot)) (is_enabled_at t x.told.slot x.told.space) ≡ true → IsUp x
        by Command is on =
            let f = enabled_by s now (moves q s k can) x.told.slot x.told.space (and_parts (not (is_asleep q.told x.told.slot)) (is_enabled_at t x.told.slot x.told.space) on).1 in
            record { f = f.f; listed = f.listed; slot_is = f.slot_is; up = command_enabled q s k all x told stand f.f f.listed f.slot_is (ap is_marked_command is) f.on }
        by Always is on =
            record { f = there.f; listed = there.listed; slot_is = there.slot_is; up = always_enabled q s k all x told stand there.f there.listed there.slot_is (ap is_marked_always is) }
        by Held is on = absurd (both_ways (is_held_line x) not_held (ap is_marked_held is))

    home_told : (a : ℕ) → InRange (line_range x) a → IsPassedTo q.roots t x.told.space x.told.prefetchable a (line_bus x)
    home_told a in_range =
        let f = is_up.f in
        let bus_is : f.slot.bus ≡ line_bus x = ap (λ (v : Slot). v.bus) is_up.slot_is in
        subst (IsPassedTo q.roots t x.told.space x.told.prefetchable a) bus_is
        (home_by q.roots s can.system can.nested now (moves q s k can) f is_up.listed x.told.space x.told.prefetchable a
        (λ b above. passes_then q s k can x stand (all.keeps.stays x told stand) b (subst (λ n. Contains (bridges_above s n) b) bus_is above) a in_range (is_up.up b above)))

  told_home : IsHome q.told nothing_given q.roots t
  told_home = record {
    regions = ((same_sound q.roots t (new_system q s k can)).1 (settled_sound q s k can)).home;
    ranges = λ region at r needs.
        let x = line_at region r in
        let claims = needs.claims in
        let home = home_told x (named_line q.told region r needs.named) needs.not_held claims.on (at_slot q s all.told region r needs.named needs.not_held) at.address (claims.holds.1, claims.holds.2) in
        (same_passed_to q.roots t at.space r.prefetchable at.address region.slot.bus).1
        (subst (λ (v : Slot). IsPassedTo q.roots t at.space r.prefetchable at.address v.bus) needs.named.slot
        (subst (λ sp. IsPassedTo q.roots t sp r.prefetchable at.address r.slot.bus) claims.holds.0 home));
  }

  told_still : IsToldOf q t
  told_still = told_then q s (images_of s can.system) now (moves q s k can) all.told

  -- The law: it is sound as told.
  pub told_sound : IsSoundAsTold q t
  told_sound = record {
    single = told_single q s k all;
    home = told_home;
    nested = new_nested q s k can;
    profile = new_profile q s k can;
    chains = new_chains q s k can;
    listed = told_still.listed;
    led_to = told_still.led_to;
  }

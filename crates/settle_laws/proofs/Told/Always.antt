-- A told range that is marked `always` is reached at each stop, whatever the start.
use Rattle.std.proofs.Common.{◌≡◌, ◌∙◌, true, false, not, map, take, refl, sym, ap, subst}
use Rattle.std.specs.List.{Contains}
use Rattle.std.proofs.lemmas.Bool.{both_ways}
use Rattle.pci_spec.specs.Slot.{Slot}
use Rattle.pci_spec.specs.System.{Function, IsPassedTo}
use Rattle.plan_spec.specs.Plan.{bridges_above}
use Rattle.plan_spec.proofs.Planning.Settled.{function_after, system_by_function}
use Rattle.judge_spec.specs.Told.{Mark, Command, Always, Held}
use Rattle.judge_spec.specs.ToldRegion.{told_name}
use Rattle.judge_spec.specs.ToldClaims.{is_asleep, is_enabled_at, is_marked_held, is_on_by}
use Rattle.judge_spec.proofs.ToldNumbering.{regions_are_numbered}
use Rattle.settle_spec.specs.Lines.{line_bus, is_marked_always}
use Rattle.settle_spec.specs.Stands.{is_line_on, range_stands}
use Rattle.settle_spec.specs.Keeping.Writes.{settle_writes}
use Rattle.settle_laws.specs.ToldSoundLaws.{AlwaysIsReached}
use Rattle.settle_laws.proofs.Told.HeldAtStops.{moved_at, always_passes}
use Rattle.settle_laws.proofs.Told.Homes.{home_by}
use Rattle.settle_laws.proofs.Told.Lines.{IsAtSlot, at_slot}
use Rattle.settle_laws.proofs.Told.On.{awake}

-- the mark of a line that is marked so
mark_is : (mark : Mark) → is_marked_always mark ≡ true → mark ≡ Always
mark_is Command is = absurd (both_ways false refl is)
mark_is Always is = refl
mark_is Held is = absurd (both_ways false refl is)

-- The law: it is reached at each stop, as each bridge above passes it then.
pub always_is_reached : AlwaysIsReached
always_is_reached q s k all n x a told always (from, to) =
    subst (λ t. IsPassedTo q.roots t x.told.space x.told.prefetchable a (line_bus x)) (sym (system_by_function s (take n (settle_writes q s k))))
    (subst (IsPassedTo q.roots (map now s) x.told.space x.told.prefetchable a) bus_is
    (home_by q.roots s all.can.system all.can.nested now (λ f listed. moved_at q s k all.can f listed n) there.f there.listed x.told.space x.told.prefetchable a
    (λ b above. always_passes q s k all.can all.keeps x told always stand b (subst (λ m. Contains (bridges_above s m) b) bus_is above) n a from to)))
  where
    now : Function → Function
    now f = function_after f (take n (settle_writes q s k))

    mark : x.told.mark ≡ Always
    mark = mark_is x.told.mark always

    there : IsAtSlot s x.told.slot
    there = at_slot q s all.told (told_name x) x.told ((regions_are_numbered q.told x).0 told) (ap is_marked_held mark)

    bus_is : there.f.slot.bus ≡ line_bus x
    bus_is = ap (λ (v : Slot). v.bus) there.slot_is

    -- it is on, as nobody is asleep, so it stands
    on : is_line_on q s x ≡ true
    on = ap (λ m. is_on_by m (not (is_asleep q.told x.told.slot)) (is_enabled_at s x.told.slot x.told.space)) mark ∙ awake q s k all x.told.slot

    stand : range_stands q s x ≡ true
    stand = all.keeps.reached x told (ap is_marked_held mark) on

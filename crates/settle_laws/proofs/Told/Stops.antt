-- Each stop of settling with told ranges is sound as told.
use Rattle.std.proofs.Common.{◌≡◌, ◌⊎◌, ◌≤◌, ◌<◌, ℕ, inl, inr, true, false, not, map, length, take, refl, sym, ◌∙◌, ap, subst}
use Rattle.std.specs.List.{Contains}
use Rattle.std.proofs.lemmas.Bool.{and_parts, and_from, both_ways}
use Rattle.std.proofs.lemmas.List.{map-id}
use Rattle.std.proofs.lemmas.List.Elements.{All-contains, All-take}
use Rattle.pci_spec.specs.Slot.{Slot, slot_number}
use Rattle.pci_spec.specs.Decoded.{InRange}
use Rattle.pci_spec.specs.System.{System, Function, IsSystem, is_bridge, is_space_on, passes}
use Rattle.pci_spec.specs.Sound as plain
use Rattle.pci_spec.specs.Machine.{system_after}
use Rattle.plan_spec.specs.Plan.{IsMoved, bridges_above}
use Rattle.plan_spec.specs.Planning.Fitting.{FitsAt, IsKept}
use Rattle.plan_spec.proofs.Planning.Whole.{kept}
use Rattle.plan_spec.proofs.Planning.AboveBuses.{IsBridgeAbove, above_to}
use Rattle.plan_spec.proofs.Planning.Fit.{moved_itself}
use Rattle.plan_spec.proofs.Planning.Kept.{images_of}
use Rattle.plan_spec.proofs.Planning.Settled.{function_after, function_moved, system_by_function}
use Rattle.judge_spec.specs.Given.{nothing_given}
use Rattle.judge_spec.specs.Told.{Mark, Command, Always, Held}
use Rattle.judge_spec.specs.ToldClaims.{is_asleep, is_enabled_at, is_on_by, is_range_on, is_marked_held}
use Rattle.judge_spec.specs.ToldFault.{Known}
use Rattle.judge_spec.specs.ToldRegion.{ToldRegion, told_regions}
use Rattle.judge_spec.proofs.Judging.{same_sound, sound_without_faults}
use Rattle.judge_spec.proofs.ToldAdds.{told_only_adds}
use Rattle.judge_spec.proofs.ToldSounding.{told_sound_without_faults}
use Rattle.settle_spec.specs.Lines.{line_bus, line_range, is_held_line, is_marked_command, is_marked_always}
use Rattle.settle_spec.specs.Lists.{Request}
use Rattle.settle_spec.specs.Stands.{is_line_on, range_stands}
use Rattle.settle_spec.specs.Kept.{Kept}
use Rattle.settle_spec.specs.Keeping.Registers.{settled_function}
use Rattle.settle_spec.specs.Keeping.Writes.{closed_function, closings, settle_writes}
use Rattle.settle_laws.specs.Keeping.PlacesLaws.{CanSettle}
use Rattle.settle_laws.specs.ToldSoundLaws.{IsToldOf, IsSoundAsTold, CanSettleTold}
use Rattle.settle_laws.proofs.Held.{above_is_lower}
use Rattle.settle_laws.proofs.Keeping.SettlingStages.{are_stages, closings_same, writes_same}
use Rattle.settle_laws.proofs.Keeping.StillShown.{was_on}
use Rattle.settle_laws.proofs.Keeping.Stopping.{writes_fit, stop_sound}
use Rattle.settle_laws.proofs.StageLeft.{on_before, closing_held_passes, closing_passes, closing_left, on_closed, on_at_end, setting_held_passes, setting_left, on_opened, opening_held_passes, opening_passes, opening_left}
use Rattle.settle_laws.proofs.StageStops.{AreSteps, stop_by}
use Rattle.settle_laws.proofs.Stages.{AreStages, IsHeldBy}
use Rattle.settle_laws.proofs.Told.Held.{held_by}
use Rattle.settle_laws.proofs.Told.Left.{IsToldSafe, told_left}
use Rattle.settle_laws.proofs.Told.Lines.{IsAtSlot, told_then}
use Rattle.settle_laws.proofs.Told.On.{enabled_by, enabled_from, awake, always_left, command_left}
use Rattle.settle_laws.proofs.Told.Sound.{told_sound}

-- what is sound as told is sound without what is told
pub plain_of_told : (q : Request) (s : System) → IsSystem s → IsToldOf q s → IsSoundAsTold q s → plain.IsSound q.roots s
plain_of_told q s system told sound =
    (same_sound q.roots s system).0
    ((sound_without_faults nothing_given q.roots s system).1
    (λ fault is. (told_sound_without_faults q.told nothing_given q.roots s told.lawful system).0 sound (Known fault) (told_only_adds q.told nothing_given q.roots s fault is)))

module _ (q : Request) (s : System) (k : Kept) (all : CanSettleTold q s k) where
  abbrev can : CanSettle q s k
  can = all.can

  abbrev closed : Function → Function
  closed f = closed_function q s k f

  abbrev final : Function → Function
  final f = settled_function q s k f

  abbrev are : AreStages s closed final
  are = are_stages q s k can

  itself : (f : Function) → Contains s f → IsMoved f f
  itself f listed = moved_itself f (images_of s can.system f listed)

  -- ---- a bridge above holds a range all the time

  module _ (x : ToldRegion) (told : Contains (told_regions q.told) x) (b : Function) (a : ℕ) (in_range : InRange (line_range x) a) where
    held_standing : (stand : range_stands q s x ≡ true) → Contains (bridges_above s (line_bus x)) b → is_space_on (closed b) x.told.space ≡ true → IsHeldBy b (closed b) (final b) x.told.prefetchable x.told.space a
    held_standing stand above on = held_by q s k can x stand (all.keeps.stays x told stand) b above a in_range on

    -- one that is marked `always`
    held_always : x.told.mark ≡ Always → IsAtSlot s x.told.slot → Contains (bridges_above s (line_bus x)) b → IsHeldBy b (closed b) (final b) x.told.prefetchable x.told.space a
    held_always mark there above =
        let on : is_line_on q s x ≡ true = ap (λ m. is_on_by m (not (is_asleep q.told x.told.slot)) (is_enabled_at s x.told.slot x.told.space)) mark ∙ awake q s k all x.told.slot in
        let stand = all.keeps.reached x told (ap is_marked_held mark) on in
        let bus_is : there.f.slot.bus ≡ line_bus x = ap (λ (v : Slot). v.bus) there.slot_is in
        held_standing stand above
        (always_left q s k all x told stand there.f there.listed there.slot_is (ap is_marked_always mark) b (subst (λ n. Contains (bridges_above s n) b) (sym bus_is) above))

    -- one that is marked `command`, while its function is on
    held_command : x.told.mark ≡ Command → (f : Function) → Contains s f → f.slot ≡ x.told.slot → is_space_on (closed f) x.told.space ≡ true → Contains (bridges_above s (line_bus x)) b
        → IsHeldBy b (closed b) (final b) x.told.prefetchable x.told.space a
    held_command mark f listed slot_is on above =
        let enabled : is_enabled_at s x.told.slot x.told.space ≡ true =
        subst (λ t. is_enabled_at t x.told.slot x.told.space ≡ true) (map-id s) (enabled_from s (λ f. f) itself x.told.slot x.told.space record { f = f; listed = listed; slot_is = slot_is; on = was_on q s k can f x.told.space listed on }) in
        let line_on : is_line_on q s x ≡ true =
        ap (λ m. is_on_by m (not (is_asleep q.told x.told.slot)) (is_enabled_at s x.told.slot x.told.space)) mark
        ∙ and_from (not (is_asleep q.told x.told.slot)) (is_enabled_at s x.told.slot x.told.space) (awake q s k all x.told.slot) enabled in
        let stand = all.keeps.reached x told (ap is_marked_held mark) line_on in
        let bus_is : f.slot.bus ≡ line_bus x = ap (λ (v : Slot). v.bus) slot_is in
        held_standing stand above (command_left q s k all x told stand f listed slot_is (ap is_marked_command mark) on b (subst (λ n. Contains (bridges_above s n) b) (sym bus_is) above))

  -- ---- a told range that is on, by its mark

  module _ (h : Function → Function) (moved : (f : Function) → Contains s f → IsMoved f (h f)) (w : Function → Function) where
    -- what is asked of a bridge above, by whether the range hangs on Command
    record ArePassing : Type 0 where
      always : (x : ToldRegion) (b : Function) (a : ℕ) → Contains s b → is_bridge b ≡ true → IsHeldBy b (closed b) (final b) x.told.prefetchable x.told.space a → passes x.told.space x.told.prefetchable a (h b) ≡ true
      command : (x : ToldRegion) (f b : Function) (a : ℕ) → Contains s f → Contains s b → is_bridge b ≡ true → slot_number b.slot < slot_number f.slot → is_space_on (h f) x.told.space ≡ true
          → (is_space_on (closed f) x.told.space ≡ true → IsHeldBy b (closed b) (final b) x.told.prefetchable x.told.space a)
          → passes x.told.space x.told.prefetchable a (w b) ≡ true → passes x.told.space x.told.prefetchable a (h b) ≡ true

    still_passes : ArePassing → (x : ToldRegion) (b : Function) (a : ℕ) → Contains (told_regions q.told) x → is_held_line x ≡ false → is_range_on q.told (map h s) x.told ≡ true → IsAtSlot s x.told.slot
        → Contains (bridges_above s (line_bus x)) b → InRange (line_range x) a → passes x.told.space x.told.prefetchable a (w b) ≡ true → passes x.told.space x.told.prefetchable a (h b) ≡ true
    still_passes passing x b a told not_held on there above in_range e = by x.told.mark refl on
      where
        at : IsBridgeAbove s (line_bus x) b
        at = above_to s (line_bus x) b above

        by : (mark : Mark) → x.told.mark ≡ mark → is_on_by mark (not (is_asleep q.told x.told.slot)) (is_enabled_at (map h s) x.told.slot x.told.space) ≡ true → passes x.told.space x.told.prefetchable a (h b) ≡ true
        by Command mark on =
            let f = enabled_by s h moved x.told.slot x.told.space (and_parts (not (is_asleep q.told x.told.slot)) (is_enabled_at (map h s) x.told.slot x.told.space) on).1 in
            let bus_is : f.f.slot.bus ≡ line_bus x = ap (λ (v : Slot). v.bus) f.slot_is in
            let lower = above_is_lower q.roots s can.system can.nested f.f b f.listed (subst (λ n. Contains (bridges_above s n) b) (sym bus_is) above) in
            passing.command x f.f b a f.listed at.listed at.bridge lower f.on (λ on. held_command x told b a in_range mark f.f f.listed f.slot_is on above) e
        by Always mark on = passing.always x b a at.listed at.bridge (held_always x told b a in_range mark there above)
        by Held mark on = absurd (both_ways (is_held_line x) not_held (ap is_marked_held mark))

  -- ---- the stages

  told_steps : AreSteps s closed final (IsToldSafe q)
  told_steps = record {
    closing = λ h moved progress still order safe.
        told_left q s can.system can.nested all.told h (λ f. f) moved itself
        (closing_left q.roots s can.system can.nested closed final are h moved progress still order)
        record {
          on = λ f space listed on. on_before q.roots s can.system can.nested closed final are h moved progress still order f listed space on;
          passed = still_passes h moved (λ f. f) record {
            always = λ x b a in_b bridge by. closing_held_passes q.roots s can.system can.nested closed final are h moved progress still order b x.told.prefetchable x.told.space a in_b bridge by;
            command = λ x f b a in_f in_b bridge lower on by e. closing_passes q.roots s can.system can.nested closed final are h moved progress still order f b x.told.prefetchable x.told.space a in_f in_b bridge lower on by e;
          };
        }
        (subst (IsToldSafe q) (sym (map-id s)) safe);
    setting = λ h moved progress either command_is safe.
        told_left q s can.system can.nested all.told h final moved are.states.final_moved
        (setting_left q.roots s can.system can.nested closed final are h moved progress either command_is)
        record {
          on = λ f space listed on. on_at_end q.roots s can.system can.nested closed final are h moved progress either command_is f listed space on;
          passed = still_passes h moved final record {
            always = λ x b a in_b bridge by. setting_held_passes q.roots s can.system can.nested closed final are h moved progress either command_is b x.told.prefetchable x.told.space a in_b bridge by;
            command = λ x f b a in_f in_b bridge lower on by e.
                setting_held_passes q.roots s can.system can.nested closed final are h moved progress either command_is b x.told.prefetchable x.told.space a in_b bridge
                (by (sym (on_closed q.roots s can.system can.nested closed final are h moved progress either command_is f in_f x.told.space) ∙ on));
          };
        }
        safe;
    opening = λ h moved bytes opens before safe.
        told_left q s can.system can.nested all.told h final moved are.states.final_moved
        (opening_left q.roots s can.system can.nested closed final are h moved bytes opens before)
        record {
          on = λ f space listed on. on_opened q.roots s can.system can.nested closed final are h moved bytes opens before f listed space on;
          passed = still_passes h moved final record {
            always = λ x b a in_b bridge by. opening_held_passes q.roots s can.system can.nested closed final are h moved bytes opens before b x.told.prefetchable x.told.space a in_b by;
            command = λ x f b a in_f in_b bridge lower on by e. opening_passes q.roots s can.system can.nested closed final are h moved bytes opens before f b x.told.prefetchable x.told.space a in_f in_b lower on by e;
          };
        }
        safe;
  }

  -- ---- what is told of a stop

  stop_system : (n : ℕ) → IsSystem (system_after s (take n (settle_writes q s k)))
  stop_system n =
      let keeps : IsKept q.roots s (system_after s (take n (settle_writes q s k))) = kept q.roots s (settle_writes q s k) can.system can.nested can.profile can.chains (writes_fit q s k can) n in
      keeps.system

  told_at : (n : ℕ) → IsToldOf q (system_after s (take n (settle_writes q s k)))
  told_at n =
      let p = take n (settle_writes q s k) in
      let fits = All-take (FitsAt s) n (settle_writes q s k) (writes_fit q s k can) in
      subst (IsToldOf q) (sym (system_by_function s p))
      (told_then q s (images_of s can.system) (λ f. function_after f p)
      (λ f listed. (let is = images_of s can.system f listed in function_moved f is f p (moved_itself f is) (λ x has here. All-contains (FitsAt s) p x fits has f listed here))) all.told)

  safe_of : (t : System) → IsSoundAsTold q t → IsToldSafe q t
  safe_of t sound = record { single = sound.single; ranges = sound.home.ranges }

  -- The law: each stop is sound as told.
  pub told_stops : (n : ℕ) → (length (closings q s k s) ≤ n) ⊎ IsSoundAsTold q s → IsSoundAsTold q (system_after s (take n (settle_writes q s k)))
  told_stops n from =
      let p = take n (settle_writes q s k) in
      let t = system_after s p in
      let sound = stop_sound q s k can n (elim from [ inl past ↦ inl past | inr start ↦ inr (plain_of_told q s can.system all.told start) ]) in
      let given = (same_sound q.roots t (stop_system n)).1 sound in
      let safe : IsToldSafe q t =
      subst (λ ws. IsToldSafe q (system_after s (take n ws))) (sym (writes_same q s k))
      (stop_by s can.system closed final are (IsToldSafe q) told_steps (safe_of (map final s) (told_sound q s k all)) n
      (elim from [ inl past ↦ inl (subst (λ ws. length ws ≤ n) (closings_same q s k s) past) | inr start ↦ inr (safe_of s start) ])) in
      let told_now = told_at n in
      record {
        single = safe.single;
        home = record { regions = given.home; ranges = safe.ranges };
        nested = sound.nested;
        profile = sound.profile;
        chains = sound.chains;
        listed = told_now.listed;
        led_to = told_now.led_to;
      }

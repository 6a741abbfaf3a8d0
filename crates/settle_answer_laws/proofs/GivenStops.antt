-- Where the settled system is sound with what is given and told, so is each stop between the writes that lead to it.
use Rattle.std.proofs.Common.{◌≡◌, ◌⊎◌, ◌≤◌, ◌<◌, ℕ, inl, inr, Bool, true, false, Some, map, not, length, take, refl, sym, ◌∙◌, ap, subst}
use Rattle.std.specs.List.{Contains, list_all}
use Rattle.std.proofs.lemmas.Bool.{and_parts, and_from, both_ways}
use Rattle.std.proofs.lemmas.List.{map-id}
use Rattle.std.proofs.lemmas.List.Elements.{All-contains, All-take}
use Rattle.std.proofs.lemmas.Option.{slice_get-get_or, slice_get_within, get_or_from_slice_get}
use Rattle.pci_spec.specs.Slot.{Slot, slot_number}
use Rattle.pci_spec.specs.Decoded.{InRange}
use Rattle.pci_spec.specs.System.{System, Function, Space, Part, Claims, IsPassedTo, is_bridge, is_prefetchable_part, is_space_on, is_window, passes}
use Rattle.pci_spec.specs.Fault.{Address, RegionName, named_region}
use Rattle.pci_spec.specs.Machine.{system_after}
use Rattle.pci_spec.proofs.BusRanges.{all_gives}
use Rattle.pci_spec.proofs.Members.{in_map_from}
use Rattle.pci_spec.proofs.Nesting.{one_function}
use Rattle.pci_spec.proofs.Ways.{behind_is_on_the_way}
use Rattle.plan_spec.specs.Plan.{IsMoved, bridges_above}
use Rattle.plan_spec.specs.Planning.Fitting.{FitsAt, IsKept}
use Rattle.plan_spec.proofs.Planning.AboveBuses.{IsBridgeAbove, above_to}
use Rattle.plan_spec.proofs.Planning.Fit.{moved_itself}
use Rattle.plan_spec.proofs.Planning.Kept.{images_of}
use Rattle.plan_spec.proofs.Planning.Settled.{function_after, function_moved, system_by_function}
use Rattle.plan_spec.proofs.Planning.Whole.{kept}
use Rattle.judge_spec.specs.Given.{Given}
use Rattle.judge_spec.specs.Told.{ToldRange, Mark, Command, Always, Held}
use Rattle.judge_spec.specs.ToldClaims.{Told, IsRangeAt, is_asleep, is_enabled_at, is_marked_held, is_on_by, told_register}
use Rattle.judge_spec.specs.ToldFault.{HasToBeReached}
use Rattle.judge_spec.specs.ToldRegion.{ToldRegion, told_regions}
use Rattle.judge_spec.specs.ToldSound.{IsSound}
use Rattle.settle_spec.specs.Kept.{Kept}
use Rattle.settle_spec.specs.Lines.{line_bus, line_range, is_marked_always, is_marked_command}
use Rattle.settle_spec.specs.Lists.{Request}
use Rattle.settle_spec.specs.Stands.{is_line_on, range_stands}
use Rattle.settle_spec.specs.Keeping.Registers.{settled, settled_function}
use Rattle.settle_spec.specs.Keeping.Writes.{closed_function, closings, settle_writes}
use Rattle.settle_laws.specs.Keeping.PlacesLaws.{CanSettle}
use Rattle.settle_laws.specs.ToldSoundLaws.{CanSettleTold, IsToldOf}
use Rattle.settle_laws.proofs.Held.{above_is_lower}
use Rattle.settle_laws.proofs.Keeping.SettledSound.{settled_sound}
use Rattle.settle_laws.proofs.Keeping.SettlingStages.{are_stages, closings_same, writes_same}
use Rattle.settle_laws.proofs.Keeping.StillShown.{was_on}
use Rattle.settle_laws.proofs.Keeping.Stopping.{writes_fit}
use Rattle.settle_laws.proofs.Left.{IsLeft, way_before}
use Rattle.settle_laws.proofs.StageLeft.{on_before, closing_held_passes, closing_left, on_closed, on_at_end, setting_held_passes, setting_left, on_opened, opening_held_passes, opening_left}
use Rattle.settle_laws.proofs.StageParts.{on_same}
use Rattle.settle_laws.proofs.StageStops.{AreSteps, stop_by}
use Rattle.settle_laws.proofs.Stages.{AreStages, IsHeldBy}
use Rattle.settle_laws.proofs.Told.Held.{held_by}
use Rattle.settle_laws.proofs.Told.Lines.{IsAtSlot, at_slot, named_line, told_then}
use Rattle.settle_laws.proofs.Told.On.{enabled_by, enabled_from, awake, always_left, command_left}
use Rattle.settle_answer_laws.specs.StopLaws.{AreToldInRequest, HasRange}
use Rattle.settle_answer_laws.proofs.GivenLeft.{IsSafeWith, StillPasses, left_safe, prefetchable_by}

-- a range that settling was told of, as a line tells it
record IsLineOf (told : Told) (r : ToldRange) : Type 0 where
  register : ℕ
  named : IsRangeAt told (named_region r.slot register) r
  listed : Contains (told_regions told) record { register = register; told = r }

line_of : (told : Told) (r : ToldRange) → Contains told.ranges r → IsLineOf told r
line_of told r (index, less, is) =
    let name = named_region r.slot (told_register index) in
    let named : IsRangeAt told name r = record { index = index; at = slice_get-get_or told.ranges index r less ∙ ap (λ v. Some v) is; slot = refl; register = refl } in
    record { register = told_register index; named = named; listed = named_line told name r named }

-- what a slot and a register name is told
named_told : (told : Told) (region : RegionName) (r : ToldRange) → IsRangeAt told region r → Contains told.ranges r
named_told told region r named = (named.index, slice_get_within told.ranges named.index r named.at, get_or_from_slice_get told.ranges named.index r r named.at)

module _ (q : Request) (s : System) (k : Kept) (all : CanSettleTold q s k) where
  abbrev can : CanSettle q s k
  can = all.can

  abbrev closed : Function → Function
  closed f = closed_function q s k f

  abbrev final : Function → Function
  final f = settled_function q s k f

  abbrev are : AreStages s closed final
  are = are_stages q s k can

  itself : (f : Function) → Contains s f → IsMoved f f
  itself f listed = moved_itself f (images_of s can.system f listed)

  final_moved : (f : Function) → Contains s f → IsMoved f (final f)
  final_moved = are.states.final_moved

  lower : (f b : Function) → Contains s f → Contains (bridges_above s f.slot.bus) b → slot_number b.slot < slot_number f.slot
  lower f b listed above = above_is_lower q.roots s can.system can.nested f b listed above

  -- ---- once settled, each bridge above a BAR or ROM passes it

  end_passes : (f b : Function) (p : Part) (space : Space) (a : ℕ) → Contains s f → is_window p ≡ false → Claims (final f) p space a → Contains (bridges_above s f.slot.bus) b
      → passes space (is_prefetchable_part f p) a (final b) ≡ true
  end_passes f b p space a listed plain claim above = by here
    where
      is : IsBridgeAbove s f.slot.bus b
      is = above_to s f.slot.bus b above

      here : IsPassedTo q.roots (map final s) space (is_prefetchable_part f p) a f.slot.bus
      here =
          let sound = settled_sound q s k can in
          subst (λ t. IsPassedTo q.roots (map final s) space t a f.slot.bus) (prefetchable_by (final f) f (final_moved f listed).probe p)
          (subst (λ (v : Slot). IsPassedTo q.roots (map final s) space (is_prefetchable_part (final f) p) a v.bus) (final_moved f listed).slot
          (sound.home (final f) p space a (in_map_from final s f listed) plain claim))

      by : IsPassedTo q.roots (map final s) space (is_prefetchable_part f p) a f.slot.bus → passes space (is_prefetchable_part f p) a (final b) ≡ true
      by (root, starts, bridges, leads, passed) =
          let way = way_before s (images_of s can.system) final final_moved root bridges f.slot.bus leads in
          let on = (behind_is_on_the_way q.roots s can.nested (one_function s can.system) root way.of f.slot.bus starts way.leads b is.listed is.bridge).1 is.behind in
          all_gives (passes space (is_prefetchable_part f p) a) (map final way.of)
          (subst (λ bs. list_all (passes space (is_prefetchable_part f p) a) bs ≡ true) (sym way.is) passed) (final b) (in_map_from final way.of b on)

  -- ---- a bridge above holds a told range all the time

  module _ (x : ToldRegion) (told : Contains (told_regions q.told) x) (b : Function) (a : ℕ) (in_range : InRange (line_range x) a) where
    held_standing : (stand : range_stands q s x ≡ true) → Contains (bridges_above s (line_bus x)) b → is_space_on (closed b) x.told.space ≡ true → IsHeldBy b (closed b) (final b) x.told.prefetchable x.told.space a
    held_standing stand above on = held_by q s k can x stand (all.keeps.stays x told stand) b above a in_range on

    -- one that is marked `always`
    held_always : x.told.mark ≡ Always → IsAtSlot s x.told.slot → Contains (bridges_above s (line_bus x)) b → IsHeldBy b (closed b) (final b) x.told.prefetchable x.told.space a
    held_always mark there above =
        let on : is_line_on q s x ≡ true = ap (λ m. is_on_by m (not (is_asleep q.told x.told.slot)) (is_enabled_at s x.told.slot x.told.space)) mark ∙ awake q s k all x.told.slot in
        let stand = all.keeps.reached x told (ap is_marked_held mark) on in
        let bus_is : there.f.slot.bus ≡ line_bus x = ap (λ (v : Slot). v.bus) there.slot_is in
        held_standing stand above
        (always_left q s k all x told stand there.f there.listed there.slot_is (ap is_marked_always mark) b (subst (λ n. Contains (bridges_above s n) b) (sym bus_is) above))

    -- one that is marked `command`, while its function is on
    held_command : x.told.mark ≡ Command → (f : Function) → Contains s f → f.slot ≡ x.told.slot → is_space_on (closed f) x.told.space ≡ true → Contains (bridges_above s (line_bus x)) b
        → IsHeldBy b (closed b) (final b) x.told.prefetchable x.told.space a
    held_command mark f listed slot_is on above =
        let enabled : is_enabled_at s x.told.slot x.told.space ≡ true =
        subst (λ t. is_enabled_at t x.told.slot x.told.space ≡ true) (map-id s) (enabled_from s (λ f. f) itself x.told.slot x.told.space record { f = f; listed = listed; slot_is = slot_is; on = was_on q s k can f x.told.space listed on }) in
        let line_on : is_line_on q s x ≡ true =
        ap (λ m. is_on_by m (not (is_asleep q.told x.told.slot)) (is_enabled_at s x.told.slot x.told.space)) mark
        ∙ and_from (not (is_asleep q.told x.told.slot)) (is_enabled_at s x.told.slot x.told.space) (awake q s k all x.told.slot) enabled in
        let stand = all.keeps.reached x told (ap is_marked_held mark) line_on in
        let bus_is : f.slot.bus ≡ line_bus x = ap (λ (v : Slot). v.bus) slot_is in
        held_standing stand above (command_left q s k all x told stand f listed slot_is (ap is_marked_command mark) on b (subst (λ n. Contains (bridges_above s n) b) (sym bus_is) above))

  -- ---- a told range that has to be reached, by its mark

  module _ (told : Told) (among : AreToldInRequest q told) (h w : Function → Function) (moved : (f : Function) → Contains s f → IsMoved f (h f)) where
    -- what is asked of a bridge whose kept window holds an address
    record ArePassing : Type 0 where
      always : (b : Function) (prefetchable : Bool) (space : Space) (a : ℕ) → Contains s b → is_bridge b ≡ true → IsHeldBy b (closed b) (final b) prefetchable space a → passes space prefetchable a (h b) ≡ true
      command : (f b : Function) (prefetchable : Bool) (space : Space) (a : ℕ) → Contains s f → Contains s b → is_bridge b ≡ true → slot_number b.slot < slot_number f.slot → is_space_on (h f) space ≡ true
          → (is_space_on (closed f) space ≡ true → IsHeldBy b (closed b) (final b) prefetchable space a) → StillPasses h w space prefetchable a b

    module _ (passing : ArePassing) (r : ToldRange) (is_told : Contains told.ranges r) (there : IsAtSlot s r.slot) (b : Function) (a : ℕ) (above : Contains (bridges_above s r.slot.bus) b) (in_range : (r.first ≤ a) × (a ≤ r.last)) where
      same : HasRange q.told.ranges r
      same = among r is_told

      line : IsLineOf q.told (record r { name = same.name })
      line = line_of q.told (record r { name = same.name }) same.has

      abbrev x : ToldRegion
      x = record { register = line.register; told = record r { name = same.name } }

      at : IsBridgeAbove s r.slot.bus b
      at = above_to s r.slot.bus b above

      by_mark : (mark : Mark) → r.mark ≡ mark → is_marked_held r.mark ≡ false → is_on_by mark (not (is_asleep told r.slot)) (is_enabled_at (map h s) r.slot r.space) ≡ true → StillPasses h w r.space r.prefetchable a b
      by_mark Command mark not_held on =
          let f = enabled_by s h moved r.slot r.space (and_parts (not (is_asleep told r.slot)) (is_enabled_at (map h s) r.slot r.space) on).1 in
          let bus_is : f.f.slot.bus ≡ r.slot.bus = ap (λ (v : Slot). v.bus) f.slot_is in
          passing.command f.f b r.prefetchable r.space a f.listed at.listed at.bridge (lower f.f b f.listed (subst (λ n. Contains (bridges_above s n) b) (sym bus_is) above)) f.on
          (λ on. held_command x line.listed b a in_range mark f.f f.listed f.slot_is on above)
      by_mark Always mark not_held on = inr (passing.always b r.prefetchable r.space a at.listed at.bridge (held_always x line.listed b a in_range mark there above))
      by_mark Held mark not_held on = absurd (both_ways (is_marked_held r.mark) not_held (ap is_marked_held mark))

    ranges_pass : ArePassing → (region : RegionName) (at : Address) (r : ToldRange) (b : Function) → HasToBeReached told (map h s) region at r → Contains (bridges_above s region.slot.bus) b
        → StillPasses h w at.space r.prefetchable at.address b
    ranges_pass passing region at r b needs above =
        let named = needs.named in
        let claims = needs.claims in
        let is_told = named_told told region r named in
        let same = among r is_told in
        let line = line_of q.told (record r { name = same.name }) same.has in
        let there = at_slot q s all.told (named_region r.slot line.register) (record r { name = same.name }) line.named needs.not_held in
        subst (λ space. StillPasses h w space r.prefetchable at.address b) claims.holds.0
        (by_mark passing r is_told there b at.address (subst (λ (v : Slot). Contains (bridges_above s v.bus) b) (sym named.slot) above) (claims.holds.1, claims.holds.2) r.mark refl needs.not_held claims.on)

  -- ---- the stages

  module _ (told : Told) (given : Given) (among : AreToldInRequest q told) where
    abbrev Safe : System → Type 0
    Safe = IsSafeWith told given q.roots

    steps : AreSteps s closed final Safe
    steps = record {
      closing = λ h moved progress still order safe.
          left_safe told given q.roots s can.system can.nested h (λ f. f) moved itself
          (closing_left q.roots s can.system can.nested closed final are h moved progress still order)
          record {
            on = λ f space listed on. on_before q.roots s can.system can.nested closed final are h moved progress still order f listed space on;
            passed = λ f b p space a listed plain claim above.
                let at = above_to s f.slot.bus b above in
                elim (order f b listed at.listed (lower f b listed above)) [
                  | inr same ↦ inl same
                  | inl done ↦
                      inr (closing_held_passes q.roots s can.system can.nested closed final are h moved progress still order b (is_prefetchable_part f p) space a at.listed at.bridge
                      (are.held f b p space a listed plain (subst (λ g. Claims g p space a) done claim) above))
                ];
            ranges = ranges_pass told among h (λ f. f) moved record {
              always = λ b prefetchable space a in_b bridge by. closing_held_passes q.roots s can.system can.nested closed final are h moved progress still order b prefetchable space a in_b bridge by;
              command = λ f b prefetchable space a in_f in_b bridge lower on by. elim (order f b in_f in_b lower) [
                | inr same ↦ inl same
                | inl done ↦
                    inr (closing_held_passes q.roots s can.system can.nested closed final are h moved progress still order b prefetchable space a in_b bridge
                    (by (subst (λ g. is_space_on g space ≡ true) done on)))
              ];
            };
          }
          (subst Safe (sym (map-id s)) safe);
      setting = λ h moved progress either command_is safe.
          let left : IsLeft s h final = setting_left q.roots s can.system can.nested closed final are h moved progress either command_is in
          left_safe told given q.roots s can.system can.nested h final moved final_moved left
          record {
            on = λ f space listed on. on_at_end q.roots s can.system can.nested closed final are h moved progress either command_is f listed space on;
            passed = λ f b p space a listed plain claim above. inr (left.passed f b p space a listed plain claim above (end_passes f b p space a listed plain (left.claimed f p space a listed claim) above));
            ranges = ranges_pass told among h final moved record {
              always = λ b prefetchable space a in_b bridge by. setting_held_passes q.roots s can.system can.nested closed final are h moved progress either command_is b prefetchable space a in_b bridge by;
              command = λ f b prefetchable space a in_f in_b bridge lower on by.
                  inr (setting_held_passes q.roots s can.system can.nested closed final are h moved progress either command_is b prefetchable space a in_b bridge
                  (by (sym (on_closed q.roots s can.system can.nested closed final are h moved progress either command_is f in_f space) ∙ on)));
            };
          }
          safe;
      opening = λ h moved bytes opens before safe.
          let left : IsLeft s h final = opening_left q.roots s can.system can.nested closed final are h moved bytes opens before in
          left_safe told given q.roots s can.system can.nested h final moved final_moved left
          record {
            on = λ f space listed on. on_opened q.roots s can.system can.nested closed final are h moved bytes opens before f listed space on;
            passed = λ f b p space a listed plain claim above. inr (left.passed f b p space a listed plain claim above (end_passes f b p space a listed plain (left.claimed f p space a listed claim) above));
            ranges = ranges_pass told among h final moved record {
              always = λ b prefetchable space a in_b bridge by. opening_held_passes q.roots s can.system can.nested closed final are h moved bytes opens before b prefetchable space a in_b by;
              command = λ f b prefetchable space a in_f in_b bridge lower on by. elim (before f b in_f in_b lower) [
                | inl done ↦ inl done
                | inr waits ↦
                    inr (opening_held_passes q.roots s can.system can.nested closed final are h moved bytes opens before b prefetchable space a in_b
                    (by (sym (on_same (closed f) (h f) waits space) ∙ on)))
              ];
            };
          }
          safe;
    }

    -- ---- what is told of a stop

    -- the range that settling was told of
    abbrev same_as : (r : ToldRange) → Contains told.ranges r → ToldRange
    same_as r has = record r { name = (among r has).name }

    told_at : (n : ℕ) → IsToldOf q (system_after s (take n (settle_writes q s k)))
    told_at n =
        let p = take n (settle_writes q s k) in
        let fits = All-take (FitsAt s) n (settle_writes q s k) (writes_fit q s k can) in
        subst (IsToldOf q) (sym (system_by_function s p))
        (told_then q s (images_of s can.system) (λ f. function_after f p)
        (λ f listed. (let is = images_of s can.system f listed in function_moved f is f p (moved_itself f is) (λ x has here. All-contains (FitsAt s) p x fits has f listed here))) all.told)

    safe_of : (t : System) → IsSound told given q.roots t → Safe t
    safe_of t sound = record { single = sound.single; home = sound.home }

    -- The law: each stop is sound with what is given and told.
    pub given_stops : (n : ℕ) → IsSound told given q.roots (settled q s k) → (length (closings q s k s) ≤ n) ⊎ IsSound told given q.roots s → IsSound told given q.roots (system_after s (take n (settle_writes q s k)))
    given_stops n end from =
        let t = system_after s (take n (settle_writes q s k)) in
        let safe : Safe t =
        subst (λ ws. Safe (system_after s (take n ws))) (sym (writes_same q s k))
        (stop_by s can.system closed final are Safe steps (safe_of (settled q s k) end) n
        (elim from [ inl past ↦ inl (subst (λ ws. length ws ≤ n) (closings_same q s k s) past) | inr start ↦ inr (safe_of s start) ])) in
        let keeps : IsKept q.roots s t = kept q.roots s (settle_writes q s k) can.system can.nested can.profile can.chains (writes_fit q s k can) n in
        let told_now = told_at n in
        record {
          single = safe.single;
          home = safe.home;
          nested = keeps.nested;
          profile = keeps.profile;
          chains = keeps.chains;
          listed = λ slot none. told_now.listed slot record { r = same_as none.r none.is_told; is_told = (among none.r none.is_told).has; not_held = none.not_held; of_slot = none.of_slot; not_listed = none.not_listed };
          led_to = λ slot orphan. told_now.led_to slot record { r = same_as orphan.r orphan.is_told; is_told = (among orphan.r orphan.is_told).has; held = orphan.held; of_slot = orphan.of_slot; not_led_to = orphan.not_led_to };
        }

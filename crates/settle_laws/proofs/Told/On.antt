-- Which told ranges are on as a system is settled, and that the bridges above them are on.
use Rattle.std.proofs.Common.{◌≡◌, ◌&&◌, ◌||◌, suc, inl, inr, Bool, true, false, map, not, arith, refl, sym, ◌∙◌, ap, subst}
use Rattle.std.specs.List.{Contains, list_any}
use Rattle.std.proofs.lemmas.Bool.{and_parts, and_from, both_ways, not_from_false, or_cases, or_left, or_right}
use Rattle.pci_spec.specs.Slot.{Slot, same_slot}
use Rattle.pci_spec.specs.System.{System, Function, Space, Io, Memory, is_space_on}
use Rattle.pci_spec.proofs.Members.{in_map_to, in_map_from, IsMade}
use Rattle.pci_spec.proofs.SameSlot.{slot_itself, slots_same}
use Rattle.plan_spec.specs.Plan.{IsMoved, bridges_above}
use Rattle.plan_spec.proofs.Planning.AboveBuses.{above_to}
use Rattle.plan_spec.proofs.Planning.Behind.{Passes, any_gives, any_from}
use Rattle.judge_spec.specs.Told.{ToldRange, Mark, Command, Always, Held}
use Rattle.judge_spec.specs.ToldClaims.{Told, is_asleep, is_enabled_at, is_on_by, is_range_on}
use Rattle.judge_spec.specs.ToldRegion.{ToldRegion, told_regions}
use Rattle.settle_spec.specs.Lines.{line_bus, is_held_line, is_marked_command, is_marked_always, is_command_line, is_always_line}
use Rattle.settle_spec.specs.Lists.{Request}
use Rattle.settle_spec.specs.LiveLaws.{is_live, has_live_behind}
use Rattle.settle_spec.specs.Parts.{has_left, are_same_space}
use Rattle.settle_spec.specs.Registers.{is_answered_by, has_own}
use Rattle.settle_spec.specs.Stands.{is_line_on, range_stands}
use Rattle.settle_spec.specs.Kept.{Kept}
use Rattle.settle_spec.specs.Keeping.Registers.{got_place, is_enabled_in, settled, settled_function}
use Rattle.settle_spec.specs.Keeping.Writes.{closed_function}
use Rattle.settle_spec.proofs.Live.{live_by_bus}
use Rattle.settle_laws.specs.Keeping.PlacesLaws.{CanSettle}
use Rattle.settle_laws.specs.ToldSoundLaws.{CanSettleTold}
use Rattle.settle_laws.proofs.Held.{same_itself}
use Rattle.settle_laws.proofs.Keeping.Claimed.{on_now}
use Rattle.settle_laws.proofs.Keeping.Commands.{IsLeftOn, left_by}
use Rattle.settle_laws.proofs.Keeping.Held.{unshut_above, on_above}
use Rattle.settle_laws.proofs.Keeping.Lives.{live_above}
use Rattle.settle_laws.proofs.Keeping.StillShown.{on_is, left_of}
use Rattle.settle_laws.proofs.Told.Reached.{range_unleft, always_on}
use Rattle.settle_laws.proofs.Unleft.{has_plain, unleft}

-- ---- where functions are changed one by one

module _ (s : System) (h : Function → Function) (moved : (f : Function) → Contains s f → IsMoved f (h f)) where
  -- the function at a slot has a space enabled then
  pub record IsEnabledBy (slot : Slot) (space : Space) : Type 0 where
    pub f : Function
    pub listed : Contains s f
    pub slot_is : f.slot ≡ slot
    pub on : is_space_on (h f) space ≡ true

  pub enabled_by : (slot : Slot) (space : Space) → is_enabled_at (map h s) slot space ≡ true → IsEnabledBy slot space
  enabled_by slot space is =
      let g : Passes (λ g. same_slot g.slot slot && is_space_on g space) (map h s) = any_gives (λ g. same_slot g.slot slot && is_space_on g space) (map h s) is in
      let made : IsMade h s g.x = in_map_to h s g.x g.listed in
      let f = made.from in
      let parts = and_parts (same_slot g.x.slot slot) (is_space_on g.x space) g.is in
      record {
        f = f;
        listed = made.has;
        slot_is = sym (moved f made.has).slot ∙ ap (λ (x : Function). x.slot) made.is ∙ slots_same g.x.slot slot parts.0;
        on = subst (λ x. is_space_on x space ≡ true) (sym made.is) parts.1;
      }

  pub enabled_from : (slot : Slot) (space : Space) → IsEnabledBy slot space → is_enabled_at (map h s) slot space ≡ true
  enabled_from slot space is =
      let f = is.f in
      any_from (λ g. same_slot g.slot slot && is_space_on g space) (map h s) (h f) (in_map_from h s f is.listed)
      (and_from (same_slot (h f).slot slot) (is_space_on (h f) space) (ap (λ x. same_slot x slot) ((moved f is.listed).slot ∙ is.slot_is) ∙ slot_itself slot) is.on)

-- a range is on where Command enables it no less
more_on : (mark : Mark) (awake one other : Bool) → (one ≡ true → other ≡ true) → is_on_by mark awake one ≡ true → is_on_by mark awake other ≡ true
more_on Command awake one other more on = (let parts = and_parts awake one on in and_from awake other parts.0 (more parts.1))
more_on Always awake one other more on = on
more_on Held awake one other more on = on

module _ (s : System) (h w : Function → Function) (moved_h : (f : Function) → Contains s f → IsMoved f (h f)) (moved_w : (f : Function) → Contains s f → IsMoved f (w f))
    (on : (f : Function) (space : Space) → Contains s f → is_space_on (h f) space ≡ true → is_space_on (w f) space ≡ true) where
  pub range_on_more : (told : Told) (r : ToldRange) → is_range_on told (map h s) r ≡ true → is_range_on told (map w s) r ≡ true
  range_on_more told r is = more_on r.mark (not (is_asleep told r.slot)) (is_enabled_at (map h s) r.slot r.space) (is_enabled_at (map w s) r.slot r.space)
      (λ enabled.
      let by = enabled_by s h moved_h r.slot r.space enabled in
      enabled_from s w moved_w r.slot r.space record { f = by.f; listed = by.listed; slot_is = by.slot_is; on = on by.f r.space by.listed by.on }) is

-- ---- as a system is settled

module _ (q : Request) (s : System) (k : Kept) (all : CanSettleTold q s k) where
  abbrev can : CanSettle q s k
  can = all.can

  abbrev now : Function → Function
  now f = settled_function q s k f

  abbrev closed : Function → Function
  closed f = closed_function q s k f

  pub awake : (slot : Slot) → not (is_asleep q.told slot) ≡ true
  awake slot = ap (λ xs. not (list_any (λ other. same_slot other slot) xs)) all.told.awake

  always_by : (mark : Mark) (slot : Slot) (enabled : Bool) → is_marked_always mark ≡ true → is_on_by mark (not (is_asleep q.told slot)) enabled ≡ true
  always_by Command slot enabled is = absurd (both_ways false refl is)
  always_by Always slot enabled is = awake slot
  always_by Held slot enabled is = absurd (both_ways false refl is)

  module _ (x : ToldRegion) (told : Contains (told_regions q.told) x) where
    abbrev space : Space
    space = x.told.space

    -- a line that is on once settled was on, or stands
    pub counts : is_range_on q.told (settled q s k) x.told ≡ true → (is_line_on q s x || range_stands q s x) ≡ true
    counts on = by x.told.mark refl on
      where
        by : (mark : Mark) → x.told.mark ≡ mark → is_on_by mark (not (is_asleep q.told x.told.slot)) (is_enabled_at (settled q s k) x.told.slot space) ≡ true → (is_line_on q s x || range_stands q s x) ≡ true
        by Command is on =
            or_right (is_line_on q s x) (range_stands q s x)
            (all.keeps.switched x told (ap is_marked_command is) (and_parts (not (is_asleep q.told x.told.slot)) (is_enabled_at (settled q s k) x.told.slot space) on).1)
        by Always is on = or_left (is_line_on q s x) (range_stands q s x) (ap (λ m. is_on_by m (not (is_asleep q.told x.told.slot)) (is_enabled_at s x.told.slot space)) is ∙ on)
        by Held is on = or_left (is_line_on q s x) (range_stands q s x) (ap (λ m. is_on_by m (not (is_asleep q.told x.told.slot)) (is_enabled_at s x.told.slot space)) is ∙ on)

    -- and so a told range stands
    pub stands_now : is_held_line x ≡ false → (is_line_on q s x || range_stands q s x) ≡ true → range_stands q s x ≡ true
    stands_now not_held counted = elim (or_cases (is_line_on q s x) (range_stands q s x) counted) [
      | inl on ↦ all.keeps.reached x told not_held on
      | inr is ↦ is
    ]

    module _ (stand : range_stands q s x ≡ true) (f : Function) (listed : Contains s f) (slot_is : f.slot ≡ x.told.slot) where
      bus_is : line_bus x ≡ f.slot.bus
      bus_is = ap (λ (t : Slot). t.bus) (sym slot_is)

      -- no I/O BAR of a bridge above is left
      unleft_over : (b : Function) → Contains (bridges_above s f.slot.bus) b → not (are_same_space space Io && has_left q s b) ≡ true
      unleft_over b above = by space refl
        where
          by : (sp : Space) → space ≡ sp → not (are_same_space sp Io && has_left q s b) ≡ true
          by Memory is = refl
          by Io is = not_from_false (has_left q s b) (range_unleft q s can.system can.nested f x stand is bus_is b above)

      -- ---- `always`

      module _ (always : is_always_line x ≡ true) (b : Function) (above : Contains (bridges_above s f.slot.bus) b) where
        above_line : Contains (bridges_above s (line_bus x)) b
        above_line = subst (λ n. Contains (bridges_above s n) b) (sym bus_is) above

        was_always : is_space_on b space ≡ true
        was_always = always_on q s can.system can.nested x stand always b above_line

        pub always_enabled : is_space_on (now b) space ≡ true
        always_enabled =
            on_now q s k can b (above_to s f.slot.bus b above).listed space
            ∙ and_from (not (are_same_space space Io && has_left q s b)) (is_space_on b space || got_place q s k space b || has_live_behind s (is_live q s k space) b) (unleft_over b above)
            (or_left (is_space_on b space || got_place q s k space b) (has_live_behind s (is_live q s k space) b) (or_left (is_space_on b space) (got_place q s k space b) was_always))

        pub always_left : is_space_on (closed b) space ≡ true
        always_left =
            on_is q s k can b space (above_to s f.slot.bus b above).listed
            ∙ left_by q s k b space record { unshut = all.keeps.unshut x b told always above_line; unleft = unleft_over b above; was = was_always }

      -- ---- `command`

      module _ (command : is_command_line x ≡ true) where
        own : has_own q s space f ≡ true
        own =
            or_left (list_any (is_answered_by q s space f) (told_regions q.told)) (has_plain q s space f)
            (any_from (is_answered_by q s space f) (told_regions q.told) x told
            (and_from (is_command_line x && same_slot x.told.slot f.slot && are_same_space space x.told.space) (range_stands q s x)
            (and_from (is_command_line x && same_slot x.told.slot f.slot) (are_same_space space x.told.space)
            (and_from (is_command_line x) (same_slot x.told.slot f.slot) command (ap (same_slot x.told.slot) slot_is ∙ slot_itself x.told.slot)) (same_itself space)) stand))

        pub command_enabled : is_space_on (now f) space ≡ true → (b : Function) → Contains (bridges_above s f.slot.bus) b → is_space_on (now b) space ≡ true
        command_enabled on b above =
            let enabled = sym (on_now q s k can f listed space) ∙ on in
            let live : is_live q s k space f ≡ true =
            live_by_bus q s k space can.system can.nested f listed
            ∙ and_from (is_enabled_in q s k space f) (has_own q s space f || has_live_behind s (is_live q s k space) f) enabled (or_left (has_own q s space f) (has_live_behind s (is_live q s k space) f) own) in
            let in_b = (above_to s f.slot.bus b above).listed in
            let live_b = live_above q s k can (suc f.slot.bus) space f b (omega arith) listed live above (λ d has. unleft q s can.system can.nested f d space own has) in
            on_now q s k can b in_b space
            ∙ (and_parts (is_enabled_in q s k space b) (has_own q s space b || has_live_behind s (is_live q s k space) b) (sym (live_by_bus q s k space can.system can.nested b in_b) ∙ live_b)).0

        pub command_left : is_space_on (closed f) space ≡ true → (b : Function) → Contains (bridges_above s f.slot.bus) b → is_space_on (closed b) space ≡ true
        command_left on b above =
            let left : IsLeftOn q s k f space = left_of q s k can f space listed on in
            on_is q s k can b space (above_to s f.slot.bus b above).listed
            ∙ left_by q s k b space record {
              unshut = unshut_above q s k can.system can.nested space f b left.unshut above;
              unleft = unleft q s can.system can.nested f b space own above;
              was = on_above q s k can.system can.nested f b space left.unshut left.was own above;
            }

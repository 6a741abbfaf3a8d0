-- No line keeps a part of the result off, so each part of it stands.
use Rattle.std.proofs.Common.{◌≡◌, ◌⊎◌, ◌≤◌, inl, inr, Bool, true, false, ◌&&◌, ◌||◌, not, refl, sym, ◌∙◌, ap, subst}
use Rattle.std.specs.List.{Contains, list_any}
use Rattle.std.proofs.lemmas.Bool.{and_from, and_parts, both_ways, false_from_ne_true, not-true, not_from_false, or_cases, or_left, or_right}
use Rattle.pci_spec.specs.Slot.{Slot, same_slot}
use Rattle.pci_spec.specs.Rom.{rom_is_on}
use Rattle.pci_spec.specs.System.{System, Function, Space, Io, Memory, Part, Bar, Rom, Window, has_part, is_bridge, is_enabled, is_space_on, space_of, window_space}
use Rattle.pci_spec.specs.Bus.{is_behind, is_root}
use Rattle.pci_spec.proofs.Members.{in_map_from}
use Rattle.pci_spec.proofs.SameSlot.{slots_same}
use Rattle.plan_spec.specs.Plan.{is_open, same_class}
use Rattle.plan_spec.specs.Planning.Layout.{range_of}
use Rattle.plan_spec.proofs.Planning.Behind.{Passes, any_from, any_gives}
use Rattle.judge_spec.specs.Told.{Mark, Command, Always, Held}
use Rattle.judge_spec.specs.ToldClaims.{is_asleep, is_enabled_at, is_on_by}
use Rattle.judge_spec.specs.ToldRegion.{ToldRegion, told_regions}
use Rattle.settle_spec.specs.FirstPlace.{ranges_are_apart}
use Rattle.settle_spec.specs.Kept.{Kept}
use Rattle.settle_spec.specs.Lines.{line_bus, line_range, is_marked_command, is_held_line, is_command_line, is_line_of, can_keep_off, keeps_off, keeps_off_part}
use Rattle.settle_spec.specs.Lists.{Request}
use Rattle.settle_spec.specs.Parts.{FunctionPart, system_parts, addresses, has_left, is_part, lies_within, are_same_space}
use Rattle.settle_spec.specs.Stands.{is_fixed_part, is_part_on, is_line_on, range_class, leads_by, leads_to_range, leads_to_one_on, precedes_off, is_kept_off_by, is_kept_off, range_stands, stands}
use Rattle.settle_spec.specs.ToldLaws.{IsInStandingWindow}
use Rattle.settle_spec.specs.Keeping.Registers.{got_place, settled, settled_function}
use Rattle.settle_spec.specs.LiveLaws.{is_live, has_live_behind}
use Rattle.settle_spec.proofs.Nested.{is_no_root}
use Rattle.settle_spec.proofs.ToldStanding.{ranges_stand_in_place}
use Rattle.settle_laws.proofs.StandingTold.Beside.{apart_back, ranges_off_parts}
use Rattle.settle_laws.specs.Keeping.PlacesLaws.{CanSettle}
use Rattle.settle_laws.proofs.Alike.{behind_alike, space_alike}
use Rattle.settle_laws.proofs.HeaderParts.{header_of}
use Rattle.settle_laws.proofs.Keeping.Again.{settled_alike}
use Rattle.settle_laws.proofs.Keeping.AgainKept.{stand_off}
use Rattle.settle_laws.proofs.Keeping.AgainParts.{IsSettledPart, settled_end, settled_part}
use Rattle.settle_laws.proofs.Keeping.Claimed.{bridge_stays, ends_open, on_now, rom_switch}
use Rattle.settle_laws.proofs.Keeping.Kept.{stays_listed}
use Rattle.settle_laws.proofs.NonePasses.{none_by}
use Rattle.settle_laws.specs.ToldSoundLaws.{KeepsTold}
use Rattle.settle_laws.proofs.Told.OffLines.{ends_off}
use Rattle.settle_laws.proofs.Told.AgainUnleft.{IsReached, no_cause, left_nowhere, part_reached, range_reached}
use Rattle.settle_laws.proofs.Told.AgainWindows.{HasStayed, has_stayed, class_again, within_through}

-- ---- by a mark, whether a range is on

on_by_again : (m : Mark) (awake was now : Bool) → (was ≡ true → now ≡ true) → is_on_by m awake was ≡ true → is_on_by m awake now ≡ true
on_by_again Command awake was now stays on = (let parts = and_parts awake was on in and_from awake now parts.0 (stays parts.1))
on_by_again Always awake was now stays on = on
on_by_again Held awake was now stays on = on

on_by_before : (m : Mark) (awake was now : Bool) → is_on_by m awake now ≡ true → (is_on_by m awake was ≡ true) ⊎ ((is_marked_command m ≡ true) × (now ≡ true))
on_by_before Command awake was now on = inr (refl, (and_parts awake now on).1)
on_by_before Always awake was now on = inl on
on_by_before Held awake was now on = inl on

unleft_space : (space : Space) (left : Bool) → (space ≡ Io → left ≡ false) → not (are_same_space space Io && left) ≡ true
unleft_space Io left none = not_from_false left (none refl)
unleft_space Memory left none = refl

module _ (q : Request) (s : System) (k : Kept) (can : CanSettle q s k) (keeps : KeepsTold q s k) where
  abbrev now : Function → Function
  now f = settled_function q s k f

  abbrev t : System
  t = settled q s k

  -- ---- lines that are on in the result

  -- one that is on was on, or its function is enabled now
  pub on_before : (x : ToldRegion) → is_line_on q t x ≡ true → (is_line_on q s x ≡ true) ⊎ ((is_command_line x ≡ true) × (is_enabled_at t x.told.slot x.told.space ≡ true))
  on_before x on = on_by_before x.told.mark (not (is_asleep q.told x.told.slot)) (is_enabled_at s x.told.slot x.told.space) (is_enabled_at t x.told.slot x.told.space) on

  -- so a told range that is on stood
  pub on_stood : (x : ToldRegion) → Contains (told_regions q.told) x → is_held_line x ≡ false → is_line_on q t x ≡ true → range_stands q s x ≡ true
  on_stood x is_told told on = elim (on_before x on) [
    | inl was ↦ keeps.reached x is_told told was
    | inr (command, enabled) ↦ keeps.switched x is_told command enabled
  ]

  -- a space stays enabled, but I/O where an I/O BAR is left
  pub space_stays : (f : Function) → Contains s f → (space : Space) → (space ≡ Io → has_left q s f ≡ false) → is_space_on f space ≡ true → is_space_on (now f) space ≡ true
  space_stays f listed space unleft on =
      let got = got_place q s k space f in
      let behind = has_live_behind s (is_live q s k space) f in
      on_now q s k can f listed space
      ∙ and_from (not (are_same_space space Io && has_left q s f)) (is_space_on f space || got || behind) (unleft_space space (has_left q s f) unleft)
      (or_left (is_space_on f space || got) behind (or_left (is_space_on f space) got on))

  -- a told range that is on behind a bridge is on again
  pub on_again : (x : ToldRegion) → range_stands q s x ≡ true → is_root q.roots (line_bus x) ≡ false → is_line_on q s x ≡ true → is_line_on q t x ≡ true
  on_again x stand off on = on_by_again x.told.mark (not (is_asleep q.told x.told.slot)) (is_enabled_at s x.told.slot x.told.space) (is_enabled_at t x.told.slot x.told.space) enabled on
    where
      test : Function → Bool
      test f = same_slot f.slot x.told.slot && is_space_on f x.told.space

      enabled : list_any test s ≡ true → list_any test t ≡ true
      enabled was =
          let found : Passes test s = any_gives test s was in
          let f = found.x in
          let parts = and_parts (same_slot f.slot x.told.slot) (is_space_on f x.told.space) found.is in
          let at : line_bus x ≡ f.slot.bus = ap (λ (slot : Slot). slot.bus) (sym (slots_same f.slot x.told.slot parts.0)) in
          any_from test t (now f) (in_map_from now s f found.listed)
          (and_from (same_slot f.slot x.told.slot) (is_space_on (now f) x.told.space) parts.0
          (space_stays f found.listed x.told.space
          (λ io. left_nowhere q s can.system can.nested f (no_cause q s can.system can.nested f.slot.bus (subst (IsReached q s can.system can.nested) at (range_reached q s can.system can.nested x stand io off)))) parts.1))

  -- ---- what comes before lines that are off does so again

  module _ (forward : (x : ToldRegion) → Contains (told_regions q.told) x → x.told.first ≤ x.told.last) where
    module _ (f : Function) (listed : Contains s f) where
      enabled_again : (p : Part) → (space_of f p ≡ Io → has_left q s f ≡ false) → is_enabled f p ≡ true → is_enabled (now f) p ≡ true
      enabled_again (Bar n) unleft on = space_stays f listed (space_of f (Bar n)) unleft on
      enabled_again Rom unleft on =
          let parts = and_parts (is_space_on f Memory) (rom_is_on f.image) on in
          and_from (is_space_on (now f) Memory) (rom_is_on (now f).image) (space_stays f listed Memory unleft parts.0) (rom_switch q s k can f listed ∙ parts.1)
      enabled_again (Window c) unleft on = space_stays f listed (window_space c) unleft on

      module _ (x : ToldRegion) (is_told : Contains (told_regions q.told) x) (stand : range_stands q s x ≡ true) (w : IsInStandingWindow q s x) where
        class_is : range_class q t x ≡ range_class q s x
        class_is = class_again q s k can keeps x is_told (forward x is_told) stand w

        leads_by_again : (p : Part) → has_part f p ≡ true → k.stays record { function = f; part = p } ≡ true → leads_by q s f p x ≡ true → leads_by q t (now f) p x ≡ true
        leads_by_again (Bar n) there stay leads = leads
        leads_by_again Rom there stay leads = leads
        leads_by_again (Window c) there stay leads =
            let two = and_parts (same_class c (range_class q s x) && is_open f c) (lies_within (line_range x) (range_of f (Window c))) leads in
            let class = (and_parts (same_class c (range_class q s x)) (is_open f c) two.0).0 in
            let h : HasStayed q s k can f (Window c) = has_stayed q s k can f (Window c) listed there stay in
            and_from (same_class c (range_class q t x) && is_open (now f) c) (lies_within (line_range x) (range_of (now f) (Window c)))
            (and_from (same_class c (range_class q t x)) (is_open (now f) c) (ap (same_class c) class_is ∙ class) (ends_open q s k can f c listed there h.at h.ends))
            (within_through (line_range x) (range_of f (Window c)) (range_of (now f) (Window c)) two.1 (subst (λ r. lies_within (range_of f (Window c)) r ≡ true) (sym h.shown) h.holds))

    module _ (f : Function) (p : Part) (listed : Contains s f) (there : has_part f p ≡ true) (stay : k.stays record { function = f; part = p } ≡ true) where
      abbrev before : FunctionPart
      before = record { function = f; part = p }

      abbrev after : FunctionPart
      after = record { function = now f; part = p }

      pub stood : stands q s before ≡ true
      stood = can.sound.apart.stands before stay

      pub was_part : Contains (system_parts q s) before
      was_part = stays_listed q s k can f p listed (header_of f p there) stay

      leads_again : (x : ToldRegion) → Contains (told_regions q.told) x → is_line_on q s x ≡ true → leads_to_range q s before x ≡ true → (is_line_on q t x && leads_to_range q t after x) ≡ true
      leads_again x is_told on leads =
          let three = and_parts (not (is_held_line x) && is_bridge f && is_behind f (line_bus x)) (leads_by q s f p x) leads in
          let two = and_parts (not (is_held_line x) && is_bridge f) (is_behind f (line_bus x)) three.0 in
          let one = and_parts (not (is_held_line x)) (is_bridge f) two.0 in
          let stand = keeps.reached x is_told (not-true (is_held_line x) one.0) on in
          let off = false_from_ne_true (is_root q.roots (line_bus x)) (is_no_root q.roots s can.system can.nested f (line_bus x) listed one.1 two.1) in
          let w : IsInStandingWindow q s x = elim (ranges_stand_in_place q s x stand).in_place [ inl root ↦ absurd (both_ways (is_root q.roots (line_bus x)) off root) | inr window ↦ window ] in
          and_from (is_line_on q t x) (leads_to_range q t after x) (on_again x stand off on)
          (and_from (not (is_held_line x) && is_bridge (now f) && is_behind (now f) (line_bus x)) (leads_by q t (now f) p x)
          (and_from (not (is_held_line x) && is_bridge (now f)) (is_behind (now f) (line_bus x))
          (and_from (not (is_held_line x)) (is_bridge (now f)) one.0 (bridge_stays q s k can f listed ∙ one.1))
          (sym (behind_alike f (now f) (settled_alike q s k can f listed) one.1 (line_bus x)) ∙ two.1))
          (leads_by_again f listed x is_told stand w p there stay three.1))

      pub precedes_again : precedes_off q s before ≡ true → precedes_off q t after ≡ true
      precedes_again first = elim (or_cases (leads_to_one_on q s before || is_fixed_part q before) (is_part_on before) first) [
        | inr on ↦
            or_right (leads_to_one_on q t after || is_fixed_part q after) (is_part_on after)
            (enabled_again f listed p (λ io. left_nowhere q s can.system can.nested f (no_cause q s can.system can.nested f.slot.bus (part_reached q s can.system can.nested before was_part io stood))) on)
        | inl either ↦ or_left (leads_to_one_on q t after || is_fixed_part q after) (is_part_on after)
            (elim (or_cases (leads_to_one_on q s before) (is_fixed_part q before) either) [
              | inr held ↦ or_right (leads_to_one_on q t after) (is_fixed_part q after) held
              | inl leads ↦
                  let test = λ (x : ToldRegion). is_line_on q s x && leads_to_range q s before x in
                  let found : Passes test (told_regions q.told) = any_gives test (told_regions q.told) leads in
                  let parts = and_parts (is_line_on q s found.x) (leads_to_range q s before found.x) found.is in
                  or_left (leads_to_one_on q t after) (is_fixed_part q after)
                  (any_from (λ x. is_line_on q t x && leads_to_range q t after x) (told_regions q.told) found.x found.listed (leads_again found.x found.listed parts.0 parts.1))
            ])
      ]

    -- ---- so no line keeps a part off

    not_kept_off_by : (f : Function) (p : Part) → Contains s f → has_part f p ≡ true → is_part q t (now f) p ≡ true → (x : ToldRegion) → Contains (told_regions q.told) x → is_kept_off_by q t record { function = now f; part = p } x ≡ false
    not_kept_off_by f p listed there part x is_told = false_from_ne_true (is_kept_off_by q t after x) (λ is.
        let parts = and_parts (keeps_off_part q x after) (is_line_on q t x || not (precedes_off q t after)) is in
        let h = settled_end q s k can f p listed there part in
        let ends : keeps_off q x f.slot (space_of f p) h.at ≡ true =
        subst (λ r. keeps_off q x f.slot (space_of f p) r ≡ true) h.shown
        (subst (λ sp. keeps_off q x f.slot sp (range_of (now f) p) ≡ true) (sym (space_alike f (now f) (settled_alike q s k can f listed) p)) parts.0) in
        let was = ends_off q s k can forward f p h.at x (listed, there, h.ends) is_told ends in
        elim (or_cases (is_line_on q t x) (not (precedes_off q t after)) parts.1) [
          | inl on ↦ elim (on_before x on) [
            | inl lit ↦ both_ways (is_line_on q s x) was.off lit
            | inr (command, enabled) ↦ apart_and_not was.stays was.stood was.shares (keeps.switched x is_told command enabled)
          ]
          | inr later ↦ both_ways (not (precedes_off q t after)) (ap not (precedes_again f p listed there was.stays was.first)) later
        ])
      where
        before : FunctionPart
        before = record { function = f; part = p }

        after : FunctionPart
        after = record { function = now f; part = p }

        -- a part that stands shares no address with a told range that does
        apart_and_not : k.stays before ≡ true → stands q s before ≡ true → keeps_off_part q x before ≡ true → range_stands q s x ≡ true → ⊥
        apart_and_not stay stand keeps_off range =
            let sides = and_parts (can_keep_off q x f.slot (space_of f p)) (not (ranges_are_apart (line_range x) (addresses before))) keeps_off in
            let line = (and_parts (is_line_of q (space_of f p) f.slot.bus x) _ sides.0).0 in
            both_ways (ranges_are_apart (line_range x) (addresses before)) (not-true (ranges_are_apart (line_range x) (addresses before)) sides.1)
            (apart_back (line_range x) (addresses before) ∙ ranges_off_parts q s before x (was_part f p listed there stay) is_told stand range line)

    pub not_kept_off : (r : FunctionPart) → Contains (system_parts q t) r → is_kept_off q t r ≡ false
    not_kept_off r in_r =
        let is : IsSettledPart q s k can r = settled_part q s k can r in_r in
        subst (λ x. is_kept_off q t x ≡ false) is.is
        (none_by (is_kept_off_by q t record { function = now is.f; part = is.p }) (told_regions q.told) (not_kept_off_by is.f is.p is.listed is.there is.part))

    -- The law: each part of what is settled stands where it is, unless all was placed anew.
    pub all_stand_told : q.anew ≡ false → (r : FunctionPart) → Contains (system_parts q t) r → stands q t r ≡ true
    all_stand_told kept =
        subst (λ (kq : Request). (r : FunctionPart) → Contains (system_parts kq t) r → stands kq t r ≡ true) (λ i. record q { anew = sym kept i }) (stand_off q s k can q.fixed not_kept_off)

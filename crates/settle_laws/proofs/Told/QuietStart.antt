-- A start that is sound as told, in which all stands off lines that don't clash, needs nothing.
use Rattle.std.proofs.Common.{◌≡◌, ◌≢◌, ◌&&◌, ◌||◌, Bool, true, false, not, arith, inl, inr, refl, sym, ◌∙◌, ap, subst}
use Rattle.std.specs.List.{Contains, list_all, list_any}
use Rattle.std.proofs.lemmas.Bool.{and_from, and_parts, both_ways, cases_Bool, false_from_ne_true, not-true, not_from_false, or_cases, or_left, or_right}
use Rattle.pci_spec.specs.Slot.{Slot, same_slot}
use Rattle.pci_spec.specs.Fault.{address_in}
use Rattle.pci_spec.specs.System.{System, Function, Space, is_space_on}
use Rattle.pci_spec.specs.Bus.{is_root}
use Rattle.pci_spec.proofs.BusRanges.{all_from}
use Rattle.pci_spec.proofs.SameSlot.{slot_itself, slots_same}
use Rattle.plan_spec.specs.Plan.{bridges_above}
use Rattle.plan_spec.proofs.Planning.Behind.{Passes, any_from, any_gives}
use Rattle.judge_spec.specs.Told.{Mark, Command, Always, Held}
use Rattle.judge_spec.specs.ToldClaims.{is_asleep, is_enabled_at, is_on_by}
use Rattle.judge_spec.specs.ToldRegion.{ToldRegion, told_regions, told_name}
use Rattle.judge_spec.proofs.Nothing.{same_passed_to}
use Rattle.judge_spec.proofs.ToldNumbering.{regions_are_numbered}
use Rattle.settle_spec.specs.FirstPlace.{ranges_are_apart}
use Rattle.settle_spec.specs.Lines.{line_bus, line_range, is_held_line, is_command_line, is_always_line, is_line_of, is_marked_always, keeps_off_part}
use Rattle.settle_spec.specs.Lists.{Request}
use Rattle.settle_spec.specs.Parts.{FunctionPart, system_parts, addresses, lies_within, bridge_over, are_same_space}
use Rattle.settle_spec.specs.Stands.{window_part, is_in_window, is_line_on, range_class, are_bridges_on, is_range_in_place, is_range_kept_off, range_precedes, range_takes_from, range_stands, stands}
use Rattle.settle_spec.specs.Registers.{is_answered_by, has_own}
use Rattle.settle_spec.specs.Writes.{is_cut_off_in}
use Rattle.settle_spec.proofs.BridgeOver.{over_leads}
use Rattle.settle_spec.proofs.ToldStanding.{ranges_stand_in_place}
use Rattle.settle_laws.specs.StandingTold.Standing.{shares_with_line}
use Rattle.settle_laws.proofs.Standing.{window_listed}
use Rattle.settle_laws.proofs.StandingTold.Beside.{keeps_off_sharing, ranges_stand_beside_all}
use Rattle.settle_laws.proofs.StandingTold.Order.{range_not_itself}
use Rattle.settle_laws.proofs.StandingTold.Passes.{one_line}
use Rattle.settle_laws.proofs.StandingTold.Standing.{RangeTakes, range_stands_is, range_taking}
use Rattle.settle_laws.proofs.StandingTold.Untold.{stand_as_untold}
use Rattle.settle_laws.specs.Told.Ranges.{share_lines}
use Rattle.settle_laws.specs.Told.Starts.{IsQuiet, NeedsNothing}
use Rattle.settle_laws.proofs.Kept.{one_space}
use Rattle.settle_laws.proofs.Told.NothingSettled.{command_on, command_told}
use Rattle.settle_laws.proofs.Told.Uncut.{passed_on, plain_on}
use Rattle.settle_laws.proofs.Unleft.{has_plain}

always_told : (m : Mark) (asleep enabled : Bool) → is_marked_always m ≡ true → asleep ≡ false → is_on_by m (not asleep) enabled ≡ true
always_told Command asleep enabled is awake = absurd (both_ways false refl is)
always_told Always asleep enabled is awake = not_from_false asleep awake
always_told Held asleep enabled is awake = absurd (both_ways false refl is)

module _ (q : Request) (s : System) (quiet : IsQuiet q s) where
  awake : (slot : Slot) → is_asleep q.told slot ≡ false
  awake slot = ap (λ xs. list_any (λ other. same_slot other slot) xs) quiet.awake

  all_parts : (r : FunctionPart) → Contains (system_parts q s) r → stands q s r ≡ true
  all_parts r listed = stand_as_untold q s quiet.system quiet.sound.nested quiet.off (inr quiet.parts) r listed ∙ quiet.parts r listed

  -- ---- bridges above what is told are on

  told_on : (x : ToldRegion) → Contains (told_regions q.told) x → is_held_line x ≡ false → is_line_on q s x ≡ true → (b : Function) → Contains (bridges_above s (line_bus x)) b → is_space_on b x.told.space ≡ true
  told_on x is_told told on b above =
      let space = x.told.space in
      let way = quiet.sound.home.ranges (told_name x) (address_in space x.told.first) x.told record {
        named = (regions_are_numbered q.told x).0 is_told;
        not_held = told;
        claims = record { on = on; holds = (refl, omega arith, quiet.forward x is_told) };
      } in
      passed_on q s quiet.system quiet.sound.nested space x.told.prefetchable x.told.first (line_bus x)
      ((same_passed_to q.roots s space x.told.prefetchable x.told.first (line_bus x)).0 way) b above

  always_on : (x : ToldRegion) → Contains (told_regions q.told) x → is_held_line x ≡ false → is_always_line x ≡ true → are_bridges_on s x.told.space (line_bus x) ≡ true
  always_on x is_told told always = all_from (λ b. is_space_on b x.told.space) (bridges_above s (line_bus x))
      (told_on x is_told told (always_told x.told.mark (is_asleep q.told x.told.slot) (is_enabled_at s x.told.slot x.told.space) always (awake x.told.slot)))

  -- ---- told ranges stand

  module _ (x : ToldRegion) (is_told : Contains (told_regions q.told) x) (told : is_held_line x ≡ false) where
    in_place : is_range_in_place q s (stands q s) x ≡ true
    in_place = elim (quiet.home x is_told told) [
      | inl root ↦ or_left (is_root q.roots (line_bus x)) _ root
      | inr w ↦
          let class = range_class q s x in
          let over = window_part class w.b in
          let leads = over_leads s (line_bus x) w.b w.over in
          let stand = all_parts over (window_listed q s class w.b leads.0 w.opened) in
          let window : is_in_window (stands q s) class (line_range x) (bridge_over s (line_bus x)) ≡ true =
          ap (is_in_window (stands q s) class (line_range x)) w.over ∙ and_from (lies_within (line_range x) (addresses over)) (stands q s over) w.holds stand in
          or_right (is_root q.roots (line_bus x)) _
          (and_from (is_in_window (stands q s) class (line_range x) (bridge_over s (line_bus x))) (not (is_always_line x) || are_bridges_on s x.told.space (line_bus x)) window
          (elim (cases_Bool (is_always_line x)) [
            | inr never ↦ or_left (not (is_always_line x)) (are_bridges_on s x.told.space (line_bus x)) (not_from_false (is_always_line x) never)
            | inl always ↦ or_right (not (is_always_line x)) (are_bridges_on s x.told.space (line_bus x)) (always_on x is_told told always)
          ]))
    ]

    no_part : (r : FunctionPart) → Contains (system_parts q s) r → not (shares_with_line q r x && stands q s r) ≡ true
    no_part r listed = not_from_false (shares_with_line q r x && stands q s r) (false_from_ne_true (shares_with_line q r x && stands q s r) (λ both.
        both_ways (keeps_off_part q x r) (quiet.off r x listed is_told) (keeps_off_sharing q r x told (and_parts (shares_with_line q r x) (stands q s r) both).0)))

    no_range : (test : ToldRegion → Bool) → ((y : ToldRegion) → test y ≡ true → is_held_line y ≡ false) → (y : ToldRegion) → Contains (told_regions q.told) y → not (range_takes_from q s y x && test y) ≡ true
    no_range test never y in_y = not_from_false (range_takes_from q s y x && test y) (false_from_ne_true (range_takes_from q s y x && test y) (λ both.
        let parts = and_parts (range_takes_from q s y x) (test y) both in
        let takes : RangeTakes q s y x = range_taking q s y x parts.0 in
        let differ : y.register ≢ x.register = λ same.
        both_ways (range_precedes q s x x) (range_not_itself q s x) (subst (λ z. range_precedes q s z x ≡ true) (one_line q y x in_y is_told same) takes.before) in
        both_ways (share_lines q y x) (quiet.apart.ranges y x in_y is_told (never y parts.1) told differ)
        (and_from (is_line_of q y.told.space (line_bus y) x) (not (ranges_are_apart (line_range y) (line_range x))) takes.beside takes.shares)))

    pub range_there : range_stands q s x ≡ true
    range_there =
        let one = not (is_held_line x) in
        let place = is_range_in_place q s (stands q s) x in
        let off = not (is_range_kept_off q x) in
        let parts = list_all (λ r. not (shares_with_line q r x && stands q s r)) (system_parts q s) in
        let ranges = list_all (λ y. not (range_takes_from q s y x && range_stands q s y)) (told_regions q.told) in
        range_stands_is q s x is_told
        ∙ ranges_stand_beside_all q s (range_stands q s) x is_told
        ∙ and_from (one && place && off && parts) ranges
        (and_from (one && place && off) parts
        (and_from (one && place) off
        (and_from one place (not_from_false (is_held_line x) told) in_place)
        (not_from_false (is_range_kept_off q x) (quiet.apart.held x is_told told)))
        (all_from (λ r. not (shares_with_line q r x && stands q s r)) (system_parts q s) no_part))
        (all_from (λ y. not (range_takes_from q s y x && range_stands q s y)) (told_regions q.told)
        (no_range (range_stands q s) (λ y stand. (ranges_stand_in_place q s y stand).not_held)))

  pub all_stand : (x : ToldRegion) → Contains (told_regions q.told) x → is_held_line x ≡ false → range_stands q s x ≡ true
  all_stand = range_there

  -- ---- nothing is cut off

  own_on : (space : Space) (f : Function) → Contains s f → has_own q s space f ≡ true → is_space_on f space ≡ true → (b : Function) → Contains (bridges_above s f.slot.bus) b → is_space_on b space ≡ true
  own_on space f listed own on b above = elim (or_cases (list_any (is_answered_by q s space f) (told_regions q.told)) (has_plain q s space f) own) [
    | inr plain ↦
        plain_on q s quiet.system quiet.sound.nested quiet.sound.profile
        (λ g p sp a in_g is_plain claims. (same_passed_to q.roots s sp _ a g.slot.bus).0 (quiet.sound.home.regions g p sp a in_g is_plain claims)) space f listed plain on b above
    | inl answered ↦
        let x : Passes (is_answered_by q s space f) (told_regions q.told) = any_gives (is_answered_by q s space f) (told_regions q.told) answered in
        let three = and_parts (is_command_line x.x && same_slot x.x.told.slot f.slot && are_same_space space x.x.told.space) (range_stands q s x.x) x.is in
        let two = and_parts (is_command_line x.x && same_slot x.x.told.slot f.slot) (are_same_space space x.x.told.space) three.0 in
        let one = and_parts (is_command_line x.x) (same_slot x.x.told.slot f.slot) two.0 in
        let slot : x.x.told.slot ≡ f.slot = slots_same x.x.told.slot f.slot one.1 in
        let at : space ≡ x.x.told.space = one_space space x.x.told.space two.1 in
        let enabled : is_enabled_at s x.x.told.slot x.x.told.space ≡ true =
        any_from (λ g. same_slot g.slot x.x.told.slot && is_space_on g x.x.told.space) s f listed
        (and_from (same_slot f.slot x.x.told.slot) (is_space_on f x.x.told.space) (ap (same_slot f.slot) slot ∙ slot_itself f.slot) (ap (is_space_on f) (sym at) ∙ on)) in
        let lit = command_on x.x.told.mark (is_asleep q.told x.x.told.slot) (is_enabled_at s x.x.told.slot x.x.told.space) one.0 (awake x.x.told.slot) enabled in
        ap (is_space_on b) at ∙ told_on x.x x.listed (command_told x.x.told.mark one.0) lit b (subst (λ (v : Slot). Contains (bridges_above s v.bus) b) (sym slot) above)
  ]

  pub needs_nothing : NeedsNothing q s
  needs_nothing = record {
    system = quiet.system;
    nested = quiet.sound.nested;
    awake = quiet.awake;
    parts = all_parts;
    ranges = λ x is_told told on. all_stand x is_told told;
    unleft = quiet.unleft;
    uncut = λ f space listed. false_from_ne_true (is_cut_off_in q s f space) (λ cut.
        let test = λ (b : Function). not (is_space_on b space) in
        let two = and_parts (is_space_on f space && has_own q s space f) (list_any test (bridges_above s f.slot.bus)) cut in
        let one = and_parts (is_space_on f space) (has_own q s space f) two.0 in
        let b : Passes test (bridges_above s f.slot.bus) = any_gives test (bridges_above s f.slot.bus) two.1 in
        both_ways (is_space_on b.x space) (not-true (is_space_on b.x space) b.is) (own_on space f listed one.1 one.0 b.x b.listed));
  }

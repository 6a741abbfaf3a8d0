-- What is settled with told ranges needs nothing to be settled again, unless all is placed anew.
use Rattle.std.proofs.Common.{◌≡◌, inl, inr, [], map, Bool, true, false, ◌&&◌, not, refl, sym, ◌∙◌, ap, subst}
use Rattle.std.specs.List.{Contains, filter, list_any}
use Rattle.std.proofs.lemmas.Bool.{and_from, and_parts, and_right, both_ways, false_from_ne_true, not-true, or_cases, or_left, or_right}
use Rattle.pci_spec.specs.Slot.{same_slot}
use Rattle.pci_spec.specs.System.{System, Function, IsSystem, Space, Io, is_space_on, is_window}
use Rattle.pci_spec.specs.Bus.{IsNested}
use Rattle.pci_spec.proofs.Members.{in_map_from, in_map_to, IsMade}
use Rattle.pci_spec.proofs.SameSlot.{slots_same}
use Rattle.plan_spec.proofs.Planning.Behind.{Passes, any_from, any_gives}
use Rattle.judge_spec.specs.ToldClaims.{is_enabled_at}
use Rattle.judge_spec.specs.ToldRegion.{told_regions}
use Rattle.settle_spec.specs.Items.{stays}
use Rattle.settle_spec.specs.Kept.{Kept, as_it_stands}
use Rattle.settle_spec.specs.Lines.{is_command_line}
use Rattle.settle_spec.specs.Lists.{Request}
use Rattle.settle_spec.specs.Parts.{FunctionPart, system_parts, function_parts, header_parts, has_left, is_part, are_same_space}
use Rattle.settle_spec.specs.Stands.{part_space, range_stands, stands}
use Rattle.settle_spec.specs.Registers.{is_answered_by, has_own}
use Rattle.settle_spec.specs.Keeping.Registers.{is_enabled_in, settled, settled_function}
use Rattle.settle_laws.specs.Keeping.PlacesLaws.{CanSettle}
use Rattle.settle_laws.specs.StandingTold.Kept.{LinesAreForward}
use Rattle.settle_laws.proofs.Alike.{header_alike, some_alike, space_alike}
use Rattle.settle_laws.proofs.AllStand.{all_stay}
use Rattle.settle_laws.proofs.Kept.{one_space, stays_part}
use Rattle.settle_laws.proofs.Keeping.Again.{all_alike, settled_alike}
use Rattle.settle_laws.proofs.Keeping.Moves.{new_nested, new_system}
use Rattle.settle_laws.proofs.Keeping.Standing.{got_none, image_stays}
use Rattle.settle_laws.proofs.Keeping.Unchanged.{not_cut}
use Rattle.settle_laws.proofs.Told.AgainEnabled.{enabled_again}
use Rattle.settle_laws.specs.ToldSoundLaws.{KeepsTold}
use Rattle.settle_laws.proofs.Told.AgainLines.{all_stand_told}
use Rattle.settle_laws.proofs.Told.RangesStay.{on_stands}
use Rattle.settle_laws.proofs.Told.NothingSettled.{IsStart, begun}
use Rattle.settle_laws.proofs.Told.StartSettled.{settled_as_enabled}
use Rattle.settle_laws.proofs.Keeping.AgainCommand.{left_again}
use Rattle.settle_laws.proofs.Keeping.Claimed.{on_now}
use Rattle.settle_laws.proofs.Keeping.Commands.{enabled_unleft}

module _ (q : Request) (s : System) (k : Kept) (can : CanSettle q s k) (keeps : KeepsTold q s k) (forward : LinesAreForward q)
    (awake : q.told.asleep ≡ []) (kept : q.anew ≡ false) where
  abbrev now : Function → Function
  now f = settled_function q s k f

  abbrev t : System
  t = settled q s k

  pub all_stand_again : (r : FunctionPart) → Contains (system_parts q t) r → stands q t r ≡ true
  all_stand_again = all_stand_told q s k can keeps forward kept

  system_now : IsSystem t
  system_now = new_system q s k can

  nested_now : IsNested q.roots t
  nested_now = new_nested q s k can

  -- ---- what answers and is on has answered before

  own_before : (space : Space) (f : Function) → Contains s f → is_space_on (now f) space ≡ true → has_own q t space (now f) ≡ true → has_own q s space f ≡ true
  own_before space f listed on own = elim (or_cases (list_any (is_answered_by q t space (now f)) (told_regions q.told)) (list_any (plain space) (function_parts q t (now f))) own) [
    | inr parts ↦ or_right (list_any (is_answered_by q s space f) (told_regions q.told)) (list_any (plain space) (function_parts q s f)) (same_parts ∙ parts)
    | inl told ↦
        let found : Passes (is_answered_by q t space (now f)) (told_regions q.told) = any_gives (is_answered_by q t space (now f)) (told_regions q.told) told in
        let x = found.x in
        let three = and_parts (is_command_line x && same_slot x.told.slot f.slot && are_same_space space x.told.space) (range_stands q t x) found.is in
        let two = and_parts (is_command_line x && same_slot x.told.slot f.slot) (are_same_space space x.told.space) three.0 in
        let one = and_parts (is_command_line x) (same_slot x.told.slot f.slot) two.0 in
        let slot : x.told.slot ≡ f.slot = slots_same x.told.slot f.slot one.1 in
        let at : space ≡ x.told.space = one_space space x.told.space two.1 in
        let itself : same_slot f.slot x.told.slot ≡ true = subst (λ sl. same_slot sl x.told.slot ≡ true) slot (subst (λ sl. same_slot x.told.slot sl ≡ true) (sym slot) one.1) in
        let enabled : is_enabled_at t x.told.slot x.told.space ≡ true =
        any_from (λ (g : Function). same_slot g.slot x.told.slot && is_space_on g x.told.space) t (now f) (in_map_from now s f listed)
        (and_from (same_slot f.slot x.told.slot) (is_space_on (now f) x.told.space) itself (subst (λ sp. is_space_on (now f) sp ≡ true) at on)) in
        or_left (list_any (is_answered_by q s space f) (told_regions q.told)) (list_any (plain space) (function_parts q s f))
        (any_from (is_answered_by q s space f) (told_regions q.told) x found.listed
        (and_from (is_command_line x && same_slot x.told.slot f.slot && are_same_space space x.told.space) (range_stands q s x) three.0 (keeps.switched x found.listed one.0 enabled)))
  ]
    where
      plain : Space → FunctionPart → Bool
      plain space r = are_same_space space (part_space r) && not (is_window r.part)

      same_parts : list_any (plain space) (function_parts q s f) ≡ list_any (plain space) (function_parts q t (now f))
      same_parts =
          some_alike q s t (all_alike q s k can) f (now f) (settled_alike q s k can f listed) (plain space) (plain space)
          (λ p window. (and_right (are_same_space space (part_space record { function = f; part = p })) (not (is_window p)) (ap not window), and_right (are_same_space space (part_space record { function = now f; part = p })) (not (is_window p)) (ap not window)))
          (λ p window. ap (λ sp. are_same_space space sp && not (is_window p)) (space_alike f (now f) (settled_alike q s k can f listed) p)) (header_parts f)
          ∙ ap (λ ps. list_any (plain space) (map (λ p. record { function = now f; part = p }) (filter (is_part q t (now f)) ps))) (header_alike f (now f) (settled_alike q s k can f listed))

  -- ---- so the result needs nothing

  abbrev j : Kept
  j = as_it_stands q t

  stay : (r : FunctionPart) → Contains (system_parts q t) r → stays q t r ≡ true
  stay = all_stay q t system_now nested_now all_stand_again

  enabled_now : (space : Space) (g : Function) → Contains t g → is_enabled_in q t j space g ≡ is_space_on g space
  enabled_now space g in_t =
      let f : IsMade now s g = in_map_to now s g in_t in
      subst (λ h. is_enabled_in q t j space h ≡ is_space_on h space) f.is
      (enabled_again q s k can j (got_none q t j system_now nested_now all_stand_again stay (λ r listed. refl) (stays_part q t system_now nested_now) refl) own_before space f.from f.has)

  settled_same : settled q t j ≡ t
  settled_same = settled_as_enabled q t j system_now enabled_now (image_stays q t j system_now nested_now all_stand_again stay (λ r listed. refl) (stays_part q t system_now nested_now) refl)

  left_off : (g : Function) → Contains t g → has_left q t g ≡ true → is_space_on g Io ≡ false
  left_off g in_t left =
      let f : IsMade now s g = in_map_to now s g in_t in
      subst (λ h. is_space_on h Io ≡ false) f.is
      (false_from_ne_true (is_space_on (now f.from) Io) (λ on.
      both_ways (has_left q s f.from) (not-true (has_left q s f.from) (enabled_unleft q s k f.from Io (sym (on_now q s k can f.from f.has Io) ∙ on)))
      (left_again q s k can f.from f.has ∙ ap (has_left q t) f.is ∙ left)))

  -- The law: what is settled needs nothing.
  pub settled_start : IsStart q t
  settled_start = record {
    needs = begun q t record {
      system = system_now;
      nested = nested_now;
      awake = awake;
      parts = all_stand_again;
      ranges = on_stands q s k can keeps forward;
      unleft = left_off;
      uncut = not_cut q t j system_now nested_now settled_same;
    };
    fine = can.lists;
  }

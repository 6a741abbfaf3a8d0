-- Where all lines are `held` there is no told range: nothing leads to one, answers beside BARs and ROMs, or is refused for one.
use Rattle.std.proofs.Common.{◌≡◌, ◌&&◌, ◌||◌, ℕ, zero, suc, inl, inr, List, [], ◌∷◌, cond, Bool, true, false, not, length, refl, ◌∙◌, ap, subst, None, Some}
use Rattle.std.specs.Bool.{IsTrue, if◌then◌else◌}
use Rattle.std.specs.List.{Contains, find, list_all, list_any}
use Rattle.std.proofs.lemmas.Bool.{and_parts, and_right, both_ways, false_from_ne_true, not-true, not_from_true, or_cases, or_from}
use Rattle.pci_spec.specs.System.{System, Function, Space, is_window}
use Rattle.pci_spec.proofs.Members.{in_head, in_nil, in_tail}
use Rattle.plan_spec.specs.Plan.{bridges_above}
use Rattle.judge_spec.specs.Told.{Mark, Command, Always, Held}
use Rattle.judge_spec.specs.ToldClaims.{is_marked_held}
use Rattle.judge_spec.specs.ToldRegion.{ToldRegion, told_regions}
use Rattle.settle_spec.specs.Items.{has_room, has_room_behind, holds_within, stays}
use Rattle.settle_spec.specs.Kept.{Kept}
use Rattle.settle_spec.specs.Lines.{is_marked_always, is_marked_command, is_held_line, is_command_line, is_always_line}
use Rattle.settle_spec.specs.Lists.{Request, are_bad_lists}
use Rattle.settle_spec.specs.Parts.{FunctionPart, system_parts, function_parts, class_in, are_same_space}
use Rattle.settle_spec.specs.Registers.{is_answered_by, has_own}
use Rattle.settle_spec.specs.Stands.{part_space, window_part, leads_to_range, leads_to_told, range_stands, stands_within, stands}
use Rattle.settle_spec.specs.Writes.{BadLists, Settled, fixed_without, fixed_write, or_fixed, or_lack, or_write}
use Rattle.settle_spec.specs.Keeping.Places.{lacking}
use Rattle.settle_spec.specs.Keeping.Writes.{settle_writes, settle_keeping, is_not_reached, does_not_stay, would_be_on, would_be_off, would_be_switched, or_told}
use Rattle.settle_spec.proofs.ToldStanding.{ranges_stand_in_place}
use Rattle.settle_laws.specs.ToldAgainLaws.{AllLinesAreHeld}
use Rattle.settle_laws.proofs.NonePasses.{none_by}
use Rattle.settle_laws.proofs.Untold.{no_regions}

-- where nothing is told it is so
pub held_of : (q : Request) → q.told.ranges ≡ [] → AllLinesAreHeld q
held_of q untold x has = absurd (in_nil x (subst (λ xs. Contains xs x) (no_regions q untold) has))

no_command : (m : Mark) → is_marked_held m ≡ true → is_marked_command m ≡ false
no_command Command held = absurd (both_ways false refl held)
no_command Always held = refl
no_command Held held = refl

no_always : (m : Mark) → is_marked_held m ≡ true → is_marked_always m ≡ false
no_always Command held = refl
no_always Always held = absurd (both_ways false refl held)
no_always Held held = refl

-- a search that finds nothing
none_found : {X : Type 0} (test : X → Bool) (xs : List X) → ((x : X) → Contains xs x → test x ≡ false) → find test xs ≡ None
none_found test [] none = refl
none_found test (x ∷ xs) none = ap (λ b. cond b (Some x) (find test xs)) (none x (in_head x xs)) ∙ none_found test xs (λ y has. none y (in_tail x xs y has))

module _ (q : Request) (s : System) (anew : IsTrue q.anew) (held : AllLinesAreHeld q) where
  none_leads : (r : FunctionPart) → leads_to_told q s r ≡ false
  none_leads r = none_by (leads_to_range q s r) (told_regions q.told) (λ x has. false_from_ne_true (leads_to_range q s r x) (λ leads.
      both_ways (not (is_held_line x)) (not_from_true (is_held_line x) (held x has)) (and_parts _ _ (and_parts _ _ (and_parts _ _ leads).0).0).0))

  pub none_stands : (others : ℕ) (r : FunctionPart) → stands_within q s others r ≡ false
  unfolding stands_within
  none_stands zero r = refl
  none_stands (suc others) r =
      false_from_ne_true (stands_within q s (suc others) r) (λ is.
      elim (or_cases (leads_to_told q s r) (not q.anew) (and_parts _ _ (and_parts _ _ (and_parts _ _ (and_parts _ _ is).0).0).0).1) [
        | inl leads ↦ both_ways (leads_to_told q s r) (none_leads r) leads
        | inr stays ↦ both_ways q.anew (not-true q.anew stays) anew
      ])

  none_holds : (depth : ℕ) (r : FunctionPart) → holds_within q s depth r ≡ false
  unfolding holds_within
  none_holds zero r = none_stands (length (system_parts q s)) r
  none_holds (suc depth) r = ap (λ b. b && has_room q s (holds_within q s depth) r.function r.part) (none_stands (length (system_parts q s)) r)

  pub none_stays : (r : FunctionPart) → stays q s r ≡ false
  none_stays r = ap (λ b. b && list_all (λ f. has_room_behind q s (window_part (class_in q s r.function r.part) f)) (bridges_above s r.function.slot.bus)) (none_holds 256 r)

module _ (q : Request) (held : AllLinesAreHeld q) (s : System) where
  no_range : (x : ToldRegion) → Contains (told_regions q.told) x → range_stands q s x ≡ false
  no_range x has = false_from_ne_true (range_stands q s x) (λ is. both_ways (is_held_line x) (ranges_stand_in_place q s x is).not_held (held x has))

  -- what answers is a BAR or ROM
  pub own_held : (space : Space) (f : Function) → has_own q s space f ≡ list_any (λ r. are_same_space space (part_space r) && not (is_window r.part)) (function_parts q s f)
  own_held space f = ap (λ b. b || list_any (λ r. are_same_space space (part_space r) && not (is_window r.part)) (function_parts q s f))
      (none_by (is_answered_by q s space f) (told_regions q.told) (λ x has. and_right _ (range_stands q s x) (no_range x has)))

  not_off : (x : ToldRegion) → Contains (told_regions q.told) x → is_not_reached q s x ≡ false
  not_off x has = false_from_ne_true (is_not_reached q s x) (λ is. both_ways (not (is_held_line x)) (not_from_true (is_held_line x) (held x has)) (and_parts _ _ (and_parts _ _ is).0).0)

  module _ (k : Kept) where
    not_gone : (x : ToldRegion) → Contains (told_regions q.told) x → does_not_stay q s k x ≡ false
    not_gone x has = false_from_ne_true (does_not_stay q s k x) (λ is. both_ways (range_stands q s x) (no_range x has) (and_parts _ _ is).0)

    not_switched : (x : ToldRegion) → Contains (told_regions q.told) x → would_be_switched q s k x ≡ false
    not_switched x has = or_from (would_be_on q s k x) (would_be_off q s k x)
        (false_from_ne_true (would_be_on q s k x) (λ is. both_ways (is_command_line x) (no_command x.told.mark (held x has)) (and_parts _ _ (and_parts _ _ is).0).0))
        (false_from_ne_true (would_be_off q s k x) (λ is. both_ways (is_always_line x) (no_always x.told.mark (held x has)) (and_parts _ _ is).0))

    -- no told range is refused
    pub settled_held : settle_keeping q s k
        ≡ (if are_bad_lists q.roots q.lists then BadLists
        else or_fixed (fixed_without (stands q s) q s) (or_fixed (fixed_without k.stays q s)
        (or_lack (lacking q s k) (or_write (fixed_write q (settle_writes q s k)) (Settled (settle_writes q s k))))))
    settled_held =
        let regions = told_regions q.told in
        let off = none_found (is_not_reached q s) regions not_off in
        let gone = none_found (does_not_stay q s k) regions not_gone in
        let switched = none_found (would_be_switched q s k) regions not_switched in
        λ i. if are_bad_lists q.roots q.lists then BadLists
        else or_told (off i) (or_fixed (fixed_without (stands q s) q s)
        (or_told (gone i) (or_fixed (fixed_without k.stays q s)
        (or_lack (lacking q s k) (or_write (fixed_write q (settle_writes q s k))
        (or_told (switched i) (Settled (settle_writes q s k))))))))

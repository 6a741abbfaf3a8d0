-- Where every part stands, with all that is told and on, nothing is left on and nothing is cut off, settling writes nothing.
use Rattle.std.proofs.Common.{◌≡◌, ◌&&◌, [], Bool, true, false, if◌then◌else◌, None, not, inl, inr, refl, sym, ◌∙◌, ap, subst}
use Rattle.std.specs.List.{Contains, list_any}
use Rattle.std.proofs.lemmas.Bool.{and_from, and_parts, and_right, both_ways, false_from_ne_true, not-true, not_from_false, or_cases}
use Rattle.pci_spec.specs.Slot.{same_slot}
use Rattle.pci_spec.specs.System.{System, Function, IsSystem, Space, Io, is_space_on}
use Rattle.pci_spec.specs.Bus.{IsNested}
use Rattle.plan_spec.specs.Plan.{bridges_above}
use Rattle.plan_spec.proofs.Planning.AboveBuses.{above_to}
use Rattle.plan_spec.proofs.Planning.Behind.{Passes, any_gives}
use Rattle.judge_spec.specs.Told.{Mark, Command, Always, Held}
use Rattle.judge_spec.specs.ToldClaims.{is_enabled_at, is_asleep, is_on_by, is_marked_held}
use Rattle.judge_spec.specs.ToldRegion.{ToldRegion, told_regions}
use Rattle.settle_spec.specs.Items.{range_stays, stays}
use Rattle.settle_spec.specs.Kept.{Kept, as_it_stands, growing}
use Rattle.settle_spec.specs.Lines.{line_bus, is_held_line, is_command_line, is_always_line, is_marked_command}
use Rattle.settle_spec.specs.Lists.{Request, are_bad_lists}
use Rattle.settle_spec.specs.Parts.{FunctionPart, system_parts, addresses, has_left, is_part}
use Rattle.settle_spec.specs.Stands.{is_fixed_part, is_line_on, range_stands, stands}
use Rattle.settle_spec.specs.Writes.{BadLists, Settled, is_cut_off_in, fixed_without, fixed_write, or_fixed, or_lack, or_write}
use Rattle.settle_spec.specs.Keeping.Registers.{settled, got_place}
use Rattle.settle_spec.specs.Keeping.Writes.{is_shut, settle_writes, settle_keeping, is_not_reached, does_not_stay, would_be_on, would_be_off, would_be_switched, earliest, or_told}
use Rattle.settle_spec.specs.Growing.{or_else, settle_growing}
use Rattle.settle_spec.specs.Sparing.{without_slots, settle_sparing}
use Rattle.settle_spec.proofs.NoSlots.{no_slots_no_spares}
use Rattle.settle_laws.specs.KeptLaws.{WishesNothing}
use Rattle.settle_laws.specs.Told.Starts.{NeedsNothing}
use Rattle.settle_laws.proofs.GrowingKept.{growing_stands}
use Rattle.settle_laws.proofs.Standing.{stands_by_itself}
use Rattle.settle_spec.proofs.Grown.{growth_keeps}
use Rattle.settle_laws.proofs.AllStand.{all_stay}
use Rattle.settle_laws.proofs.GrownAlready.{none_grows}
use Rattle.settle_laws.proofs.Kept.{stays_part}
use Rattle.settle_laws.proofs.NothingSettled.{find_none}
use Rattle.settle_laws.proofs.Keeping.Standing.{none_lacks, got_none, image_stays}
use Rattle.settle_laws.proofs.Keeping.Unchanged.{no_write, not_shut}
use Rattle.settle_laws.proofs.Told.StayingRanges.{range_stays_again}
use Rattle.settle_laws.proofs.Told.StartSettled.{settled_uncut}

pub command_on : (m : Mark) (asleep enabled : Bool) → is_marked_command m ≡ true → asleep ≡ false → enabled ≡ true → is_on_by m (not asleep) enabled ≡ true
command_on Command asleep enabled is awake on = and_from (not asleep) enabled (not_from_false asleep awake) on
command_on Always asleep enabled is awake on = absurd (both_ways false refl is)
command_on Held asleep enabled is awake on = absurd (both_ways false refl is)

pub command_told : (m : Mark) → is_marked_command m ≡ true → is_marked_held m ≡ false
command_told Command is = refl
command_told Always is = refl
command_told Held is = absurd (both_ways false refl is)

-- a start that needs nothing, whoever is asleep: a `command` range stands if Command of its function enables it
pub record IsBegun (q : Request) (t : System) : Type 0 where
  pub system : IsSystem t
  pub nested : IsNested q.roots t
  pub stand : (r : FunctionPart) → Contains (system_parts q t) r → stands q t r ≡ true
  pub ranges : (x : ToldRegion) → Contains (told_regions q.told) x → is_held_line x ≡ false → is_line_on q t x ≡ true → range_stands q t x ≡ true
  pub commands : (x : ToldRegion) → Contains (told_regions q.told) x → is_command_line x ≡ true → is_enabled_at t x.told.slot x.told.space ≡ true → range_stands q t x ≡ true
  pub uncut : (f : Function) (space : Space) → Contains t f → is_cut_off_in q t f space ≡ false
  pub left : (f : Function) → Contains t f → has_left q t f ≡ true → is_space_on f Io ≡ false

-- it needs nothing, and lists aren't refused
pub record IsStart (q : Request) (t : System) : Type 0 where
  pub needs : IsBegun q t
  pub fine : are_bad_lists q.roots q.lists ≡ false

pub begun : (q : Request) (t : System) → NeedsNothing q t → IsBegun q t
begun q t start = record {
  system = start.system;
  nested = start.nested;
  stand = start.parts;
  ranges = start.ranges;
  commands = λ x is_told command enabled.
      let awake : is_asleep q.told x.told.slot ≡ false = ap (λ xs. list_any (λ other. same_slot other x.told.slot) xs) start.awake in
      start.ranges x is_told (command_told x.told.mark command) (command_on x.told.mark (is_asleep q.told x.told.slot) (is_enabled_at t x.told.slot x.told.space) command awake enabled);
  uncut = start.uncut;
  left = start.unleft;
}

module _ (q : Request) (t : System) (start : IsBegun q t) where
  none_without : (test : FunctionPart → Bool) → ((r : FunctionPart) → Contains (system_parts q t) r → test r ≡ true) → fixed_without test q t ≡ None
  none_without test each = find_none (λ r. is_fixed_part q r && not (test r)) (system_parts q t) (λ r listed. and_right (is_fixed_part q r) (not (test r)) (ap not (each r listed)))

  -- beside what stays so
  module _ (k : Kept) (keeps : (r : FunctionPart) → Contains (system_parts q t) r → k.stays r ≡ true) (same : (r : FunctionPart) → Contains (system_parts q t) r → k.range r ≡ addresses r)
      (only : (r : FunctionPart) → Contains t r.function → k.stays r ≡ true → is_part q t r.function r.part ≡ true) (wishless : WishesNothing k) where
    pub as_it_is : settled q t k ≡ t
    as_it_is =
        settled_uncut q t k start.system start.nested start.left start.uncut
        (λ space f listed fine got. absurd (both_ways (got_place q t k space f) (got_none q t k start.system start.nested start.stand keeps same only wishless space f) got))
        (image_stays q t k start.system start.nested start.stand keeps same only wishless)

    pub no_writes : settle_writes q t k ≡ []
    no_writes = no_write q t k start.system start.nested as_it_is

    -- ---- told ranges

    earliest_none : (test : ToldRegion → Bool) → ((x : ToldRegion) → Contains (told_regions q.told) x → test x ≡ false) → earliest q test ≡ None
    earliest_none test none = find_none test (told_regions q.told) none

    all_reached : (x : ToldRegion) → Contains (told_regions q.told) x → is_not_reached q t x ≡ false
    all_reached x is_told = false_from_ne_true (is_not_reached q t x) (λ is.
        let two = and_parts (not (is_held_line x) && is_line_on q t x) (not (range_stands q t x)) is in
        let one = and_parts (not (is_held_line x)) (is_line_on q t x) two.0 in
        both_ways (range_stands q t x) (not-true (range_stands q t x) two.1) (start.ranges x is_told (not-true (is_held_line x) one.0) one.1))

    all_staying : (x : ToldRegion) → Contains (told_regions q.told) x → does_not_stay q t k x ≡ false
    all_staying x is_told = false_from_ne_true (does_not_stay q t k x) (λ is.
        let both = and_parts (range_stands q t x) (not (range_stays q t k.stays x)) is in
        both_ways (range_stays q t k.stays x) (not-true (range_stays q t k.stays x) both.1)
        (range_stays_again q t start.system start.nested start.stand k keeps x both.0))

    never_on : (x : ToldRegion) → Contains (told_regions q.told) x → would_be_on q t k x ≡ false
    never_on x is_told = false_from_ne_true (would_be_on q t k x) (λ is.
        let two = and_parts (is_command_line x && not (range_stands q t x)) (is_enabled_at (settled q t k) x.told.slot x.told.space) is in
        let one = and_parts (is_command_line x) (not (range_stands q t x)) two.0 in
        let enabled = subst (λ u. is_enabled_at u x.told.slot x.told.space ≡ true) as_it_is two.1 in
        both_ways (range_stands q t x) (not-true (range_stands q t x) one.1) (start.commands x is_told one.0 enabled))

    never_off : (x : ToldRegion) → would_be_off q t k x ≡ false
    never_off x = false_from_ne_true (would_be_off q t k x) (λ is.
        let both = and_parts (is_always_line x) (list_any (is_shut q t k x.told.space) (bridges_above t (line_bus x))) is in
        let b : Passes (is_shut q t k x.told.space) (bridges_above t (line_bus x)) = any_gives (is_shut q t k x.told.space) (bridges_above t (line_bus x)) both.1 in
        both_ways (is_shut q t k x.told.space b.x) (not_shut q t k start.system start.nested as_it_is x.told.space b.x (above_to t (line_bus x) b.x b.listed).listed) b.is)

    never_switched : (x : ToldRegion) → Contains (told_regions q.told) x → would_be_switched q t k x ≡ false
    never_switched x is_told = false_from_ne_true (would_be_switched q t k x) (λ is. elim (or_cases (would_be_on q t k x) (would_be_off q t k x) is) [
      | inl on ↦ both_ways (would_be_on q t k x) (never_on x is_told) on
      | inr off ↦ both_ways (would_be_off q t k x) (never_off x) off
    ])

    -- ---- so nothing is refused

    pub nothing_kept : are_bad_lists q.roots q.lists ≡ false → settle_keeping q t k ≡ Settled []
    nothing_kept fine =
        let reached = earliest_none (is_not_reached q t) all_reached in
        let stand = none_without (stands q t) start.stand in
        let stay = earliest_none (does_not_stay q t k) all_staying in
        let fixed = none_without k.stays keeps in
        let room = none_lacks q t k start.system start.nested start.stand keeps same only wishless in
        let writes = no_writes in
        let switched = earliest_none (would_be_switched q t k) never_switched in
        λ i. if fine i then BadLists
        else or_told (reached i) (or_fixed (stand i) (or_told (stay i) (or_fixed (fixed i) (or_lack (room i) (or_write (fixed_write q (writes i)) (or_told (switched i) (Settled (writes i))))))))

  -- ---- as it stands

  keeps_standing : (r : FunctionPart) → Contains (system_parts q t) r → stays q t r ≡ true
  keeps_standing = all_stay q t start.system start.nested start.stand

  pub start_stays : settled q t (as_it_stands q t) ≡ t
  start_stays = as_it_is (as_it_stands q t) keeps_standing (λ r listed. refl) (stays_part q t start.system start.nested) refl

  pub start_unwritten : settle_writes q t (as_it_stands q t) ≡ []
  start_unwritten = no_writes (as_it_stands q t) keeps_standing (λ r listed. refl) (stays_part q t start.system start.nested) refl

  pub start_settles : are_bad_lists q.roots q.lists ≡ false → settle_keeping q t (as_it_stands q t) ≡ Settled []
  start_settles = nothing_kept (as_it_stands q t) keeps_standing (λ r listed. refl) (stays_part q t start.system start.nested) refl

  -- ---- where windows grow

  pub keeps_growing : (r : FunctionPart) → Contains (system_parts q t) r → (growing q t).stays r ≡ true
  keeps_growing r listed = growth_keeps q t r (keeps_standing r listed)

  pub only_growing : (r : FunctionPart) → Contains t r.function → (growing q t).stays r ≡ true → is_part q t r.function r.part ≡ true
  only_growing r listed is = (stands_by_itself q t start.nested).only r listed (growing_stands q t r is)

  pub grown_stays : settled q t (growing q t) ≡ t
  grown_stays = as_it_is (growing q t) keeps_growing (none_grows q t start.system start.nested start.stand) only_growing refl

  pub grown_unwritten : settle_writes q t (growing q t) ≡ []
  grown_unwritten = no_writes (growing q t) keeps_growing (none_grows q t start.system start.nested start.stand) only_growing refl

  pub grown_settles : are_bad_lists q.roots q.lists ≡ false → settle_keeping q t (growing q t) ≡ Settled []
  grown_settles = nothing_kept (growing q t) keeps_growing (none_grows q t start.system start.nested start.stand) only_growing refl

  pub nothing_grows : are_bad_lists q.roots q.lists ≡ false → settle_growing q t ≡ Settled []
  nothing_grows fine =
      ap (λ o. or_else o (settle_keeping q t (as_it_stands q t)))
      (grown_settles fine)

  pub nothing_spared : are_bad_lists q.roots q.lists ≡ false → q.slots ≡ [] → settle_sparing q t ≡ Settled []
  nothing_spared fine none =
      let plain : without_slots q ≡ q = λ i. record q { slots = sym none i } in
      subst (λ (p : Request). settle_sparing p t ≡ settle_growing p t) plain (no_slots_no_spares q t) ∙ nothing_grows fine

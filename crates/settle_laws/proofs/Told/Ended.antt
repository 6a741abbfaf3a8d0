-- What settling that ends with writes says of told ranges: those that are on stand, what stands stays, and none is switched.
use Rattle.std.proofs.Common.{◌≡◌, inl, inr, cond, [], ◌∷◌, subst, List, Bool, true, false, ◌&&◌, not, refl, sym, ◌∙◌, ap, Option, None, Some}
use Rattle.std.specs.Bool.{if◌then◌else◌}
use Rattle.std.specs.List.{Contains, list_any, find}
use Rattle.pci_spec.proofs.Members.{in_nil, in_cons_cases}
use Rattle.std.proofs.lemmas.Bool.{and_from, both_ways, cases_Bool, false≢true, false_from_ne_true, not_from_false, or_parts}
use Rattle.pci_spec.specs.System.{System}
use Rattle.pci_spec.specs.Machine.{Write}
use Rattle.plan_spec.specs.Plan.{bridges_above}
use Rattle.plan_spec.proofs.Planning.Behind.{any_from}
use Rattle.judge_spec.specs.ToldClaims.{is_enabled_at}
use Rattle.judge_spec.specs.ToldRegion.{ToldRegion, told_regions}
use Rattle.settle_spec.specs.Items.{PlacingItem, range_stays}
use Rattle.settle_spec.specs.Kept.{Kept}
use Rattle.settle_spec.specs.Lines.{line_bus, is_held_line, is_command_line, is_always_line}
use Rattle.settle_spec.specs.Lists.{Request, are_bad_lists}
use Rattle.settle_spec.specs.Parts.{FunctionPart}
use Rattle.settle_spec.specs.Stands.{is_line_on, range_stands, stands}
use Rattle.settle_spec.specs.Writes.{Settling, BadLists, Settled, fixed_without, fixed_write, or_fixed, or_lack, or_write}
use Rattle.settle_spec.specs.Keeping.Places.{lacking}
use Rattle.settle_spec.specs.Keeping.Registers.{settled}
use Rattle.settle_spec.specs.Keeping.Writes.{is_shut, settle_writes, settle_keeping, is_not_reached, does_not_stay, would_be_on, would_be_off, would_be_switched, earliest, or_told}
use Rattle.settle_laws.specs.KeptLaws.{IsSoundKept}
use Rattle.settle_laws.specs.Keeping.PlacesLaws.{CanSettle}
use Rattle.settle_laws.specs.ToldSoundLaws.{KeepsTold, IsAdmittedSystem}

-- lists are good, told ranges and what is fixed stand and stay, nothing lacks room, and nothing fixed is written or told switched
pub record IsToldEnd (bad : Bool) (off : Option ToldRegion) (a : Option FunctionPart) (goes : Option ToldRegion) (b : Option FunctionPart) (lack : Option PlacingItem) (w : Option Write) (switched : Option ToldRegion) (own writes : List Write) : Type 0 where
  pub good : bad ≡ false
  pub reached : off ≡ None
  pub stand : a ≡ None
  pub stay : goes ≡ None
  pub fixed_stay : b ≡ None
  pub room : lack ≡ None
  pub unwritten : w ≡ None
  pub unswitched : switched ≡ None
  pub same : own ≡ writes

abbrev is_settled : Settling → Bool
is_settled (Settled writes) = true
is_settled refused = false

abbrev writes_of : Settling → List Write → List Write
writes_of (Settled writes) other = writes
writes_of refused other = other

abbrev ending : Bool → Option ToldRegion → Option FunctionPart → Option ToldRegion → Option FunctionPart → Option PlacingItem → Option Write → Option ToldRegion → List Write → Settling
ending bad off a goes b lack w switched own =
    if bad then BadLists
    else or_told off (or_fixed a (or_told goes (or_fixed b (or_lack lack (or_write w (or_told switched (Settled own)))))))

told_ends : (bad : Bool) (off : Option ToldRegion) (a : Option FunctionPart) (goes : Option ToldRegion) (b : Option FunctionPart) (lack : Option PlacingItem) (w : Option Write) (switched : Option ToldRegion) (own writes : List Write)
    → ending bad off a goes b lack w switched own ≡ Settled writes → IsToldEnd bad off a goes b lack w switched own writes
told_ends true off a goes b lack w switched own writes e = absurd (false≢true (ap is_settled e))
told_ends false (Some x) a goes b lack w switched own writes e = absurd (false≢true (ap is_settled e))
told_ends false None (Some x) goes b lack w switched own writes e = absurd (false≢true (ap is_settled e))
told_ends false None None (Some x) b lack w switched own writes e = absurd (false≢true (ap is_settled e))
told_ends false None None None (Some x) lack w switched own writes e = absurd (false≢true (ap is_settled e))
told_ends false None None None None (Some x) w switched own writes e = absurd (false≢true (ap is_settled e))
told_ends false None None None None None (Some x) switched own writes e = absurd (false≢true (ap is_settled e))
told_ends false None None None None None None (Some x) own writes e = absurd (false≢true (ap is_settled e))
told_ends false None None None None None None None own writes e =
    record { good = refl; reached = refl; stand = refl; stay = refl; fixed_stay = refl; room = refl; unwritten = refl; unswitched = refl; same = ap (λ o. writes_of o own) e }

-- where nothing is found nothing passes
pub not_found : {X : Type 0} (test : X → Bool) (xs : List X) → find test xs ≡ None → (x : X) → Contains xs x → test x ≡ false
not_found test [] e x listed = absurd (in_nil x listed)
not_found test (y ∷ xs) e x listed = elim (cases_Bool (test y)) [
  | inl fine ↦
      let here : Some y ≡ None = sym (ap (λ b. cond b (Some y) (find test xs)) fine) ∙ e in
      let differ : ⊥ = cc in
      absurd differ
  | inr off ↦ elim (in_cons_cases y xs x listed) [
    | inl same ↦ subst (λ z. test z ≡ false) same off
    | inr later ↦ not_found test xs (sym (ap (λ b. cond b (Some y) (find test xs)) off) ∙ e) x later
  ]
]

module _ (q : Request) (s : System) (k : Kept) where
  abbrev pub ToldEnd : List Write → Type 0
  ToldEnd writes =
      IsToldEnd (are_bad_lists q.roots q.lists) (earliest q (is_not_reached q s)) (fixed_without (stands q s) q s) (earliest q (does_not_stay q s k)) (fixed_without k.stays q s) (lacking q s k)
      (fixed_write q (settle_writes q s k)) (earliest q (would_be_switched q s k)) (settle_writes q s k) writes

  pub told_end : (writes : List Write) → settle_keeping q s k ≡ Settled writes → ToldEnd writes
  told_end writes e =
      told_ends (are_bad_lists q.roots q.lists) (earliest q (is_not_reached q s)) (fixed_without (stands q s) q s) (earliest q (does_not_stay q s k)) (fixed_without k.stays q s) (lacking q s k)
      (fixed_write q (settle_writes q s k)) (earliest q (would_be_switched q s k)) (settle_writes q s k) writes e

  -- a Boolean is true where it can't be false
  true_by : (b : Bool) → (b ≡ false → ⊥) → b ≡ true
  true_by b differs = elim (cases_Bool b) [ inl is ↦ is | inr off ↦ absurd (differs off) ]

  -- So told ranges are kept: what is on stands, what stands stays, and none is switched.
  pub keeps_told : (writes : List Write) → settle_keeping q s k ≡ Settled writes → KeepsTold q s k
  keeps_told writes e = record {
    reached = λ x is_told told on. true_by (range_stands q s x) (λ off.
        both_ways (is_not_reached q s x) (not_found (is_not_reached q s) (told_regions q.told) end.reached x is_told)
        (and_from (not_held x && is_line_on q s x) (fails x) (and_from (not_held x) (is_line_on q s x) (not_from_false (is_held_line x) told) on) (not_from_false (range_stands q s x) off)));
    stays = λ x is_told stand. true_by (range_stays q s k.stays x) (λ off.
        both_ways (does_not_stay q s k x) (not_found (does_not_stay q s k) (told_regions q.told) end.stay x is_told)
        (and_from (range_stands q s x) (goes x) stand (not_from_false (range_stays q s k.stays x) off)));
    switched = λ x is_told command on. true_by (range_stands q s x) (λ off.
        both_ways (would_be_on q s k x) (or_parts (would_be_on q s k x) (would_be_off q s k x) (unswitched x is_told)).0
        (and_from (is_command_line x && fails x) (is_enabled_at (settled q s k) x.told.slot x.told.space) (and_from (is_command_line x) (fails x) command (not_from_false (range_stands q s x) off)) on));
    unshut = λ x b is_told always above. false_from_ne_true (is_shut q s k x.told.space b) (λ is.
        both_ways (would_be_off q s k x) (or_parts (would_be_on q s k x) (would_be_off q s k x) (unswitched x is_told)).1
        (and_from (is_always_line x) (list_any (is_shut q s k x.told.space) (bridges_above s (line_bus x))) always (any_from (is_shut q s k x.told.space) (bridges_above s (line_bus x)) b above is)));
  }
    where
      end : ToldEnd writes
      end = told_end writes e

      not_held : ToldRegion → Bool
      not_held x = not (is_held_line x)

      fails : ToldRegion → Bool
      fails x = not (range_stands q s x)

      goes : ToldRegion → Bool
      goes x = not (range_stays q s k.stays x)

      unswitched : (x : ToldRegion) → Contains (told_regions q.told) x → would_be_switched q s k x ≡ false
      unswitched x is_told = not_found (would_be_switched q s k) (told_regions q.told) end.unswitched x is_told

  -- What is kept soundly can be settled so.
  pub can_settle : (writes : List Write) → settle_keeping q s k ≡ Settled writes → IsAdmittedSystem q s → IsSoundKept q s k → CanSettle q s k
  can_settle writes e admitted sound =
      let end : ToldEnd writes = told_end writes e in
      record {
        lists = end.good;
        high = admitted.high;
        system = admitted.system;
        nested = admitted.nested;
        profile = admitted.profile;
        chains = admitted.chains;
        sound = sound;
        room = end.room;
      }

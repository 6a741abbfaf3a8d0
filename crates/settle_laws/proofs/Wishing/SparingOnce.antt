-- Settled again nothing is written, and the same spares are denied, unless all is placed anew and something is fixed.
use Rattle.settle_laws.proofs.Told.Wished.{can_all, told_spares_refuse_no_more}
use Rattle.settle_laws.proofs.Wishing.Refused.{admitted_of}
use Rattle.settle_laws.proofs.Told.OnlyHeld.{held_of}
use Rattle.std.proofs.Common.{◌≡◌, inl, inr, List, [], Bool, true, false, cond, map, refl, sym, ◌∙◌, ap, subst, Option, None, Some}
use Rattle.std.specs.Bool.{if◌then◌else◌}
use Rattle.std.specs.List.{AllZip, Contains}
use Rattle.std.proofs.lemmas.Bool.{and_parts, both_ways, cases_Bool, cond_both}
use Rattle.pci_spec.specs.Machine.{Write}
use Rattle.pci_spec.specs.System.{System, IsSystem, Function, Io, is_space_on}
use Rattle.settle_spec.specs.Lists.{Request, are_bad_lists}
use Rattle.settle_spec.specs.Parts.{FunctionPart, system_parts, has_left}
use Rattle.settle_spec.specs.Stands.{stands}
use Rattle.settle_spec.specs.Items.{PlacingItem, spare_of}
use Rattle.settle_spec.specs.Writes.{Settling, BadLists, Fixed, NoRoom, Settled, fixed_without, fixed_write, or_fixed, or_lack, or_write, NotKept}
use Rattle.settle_spec.specs.Kept.{as_it_stands, growing}
use Rattle.settle_spec.specs.Keeping.Places.{lacking}
use Rattle.settle_spec.specs.Keeping.Writes.{settle_writes, settle_keeping}
use Rattle.settle_spec.specs.Growing.{kept_by, settle_growing, finally_kept}
use Rattle.settle_spec.specs.Wishes.{granted}
use Rattle.settle_spec.specs.Sparing.{without_slots, is_settled, keep_alike, have_spares, placing_request, granted_beside, denied, settle_sparing}
use Rattle.settle_spec.specs.SpareLaws.{kept_sparing, result_sparing}
use Rattle.settle_laws.specs.KeptLaws.{WishesNothing}
use Rattle.settle_laws.specs.GrowingLaws.{CanBeAsked}
use Rattle.settle_laws.specs.SparingLaws.{slot_and_register, is_settled_or_fixed, SparingSettlesOnce, SparingSettlesAgain}
use Rattle.settle_laws.specs.Keeping.PlacesLaws.{CanSettle}
use Rattle.settle_spec.proofs.Anew.{none_stays}
use Rattle.settle_laws.proofs.Alike.{IsAlike}
use Rattle.settle_laws.proofs.AlikePlaces.{none_lacks}
use Rattle.settle_laws.proofs.NothingGrows.{anew_nothing_grows}
use Rattle.settle_laws.proofs.Keeping.Again.{all_alike}
use Rattle.settle_laws.proofs.Keeping.Kept.{none_kept}
use Rattle.settle_laws.proofs.Wishing.Again.{IsSettledSparing, kept_settle_once}
use Rattle.settle_laws.proofs.Wishing.AgainAnew.{anew_wishes_again}
use Rattle.settle_laws.proofs.Wishing.AnewOnce.{anew_wishes_settle_once, anew_result_can_settle}
use Rattle.settle_laws.proofs.Wishing.SameDenied.{kept_deny_alike}
use Rattle.settle_laws.proofs.Wishing.Unfixed.{settled_alike, have_alike}
use Rattle.settle_laws.proofs.Wishing.Sparing.{can_finally, settled_sparing_gives, sparing_is_wished, refused_alone, placing_asked}
use Rattle.settle_laws.proofs.Untold.{settled_untold, untold_forward, no_regions}
use Rattle.settle_laws.proofs.Keeping.AgainKept.{all_stand}
use Rattle.settle_laws.proofs.Keeping.AgainSettled.{all_left_off}
use Rattle.settle_laws.proofs.Keeping.Moves.{new_system}
use Rattle.settle_laws.proofs.Keeping.SettledSound.{settled_sound}
use Rattle.pci_spec.proofs.Members.{in_nil}
use Rattle.pci_spec.specs.Sound.{IsSound}
use Rattle.settle_laws.proofs.Keeping.Unchanged.{not_cut}
use Rattle.settle_laws.proofs.NothingSettled.{start_stays}
use Rattle.settle_laws.proofs.Told.NothingSettled.{IsStart}

finally_wishless : (q : Request) (s : System) → WishesNothing (finally_kept q s)
finally_wishless q s = by (settle_keeping q s (growing q s))
  where
    by : (o : Settling) → WishesNothing (kept_by o (growing q s) (as_it_stands q s))
    by (Settled writes) = refl
    by BadLists = refl
    by (Fixed slot register) = refl
    by (NoRoom class slot register size alignment) = refl
    by (NotKept slot register) = refl

-- where lists are good and nothing lacks room, what is fixed alone is refused
ends_so : (bad : Bool) (a b : Option FunctionPart) (lack : Option PlacingItem) (w : Option Write) (writes : List Write) → bad ≡ false → lack ≡ None
    → is_settled_or_fixed (if bad then BadLists else or_fixed a (or_fixed b (or_lack lack (or_write w (Settled writes))))) ≡ true
ends_so true a b lack w writes fine none = absurd (both_ways true fine refl)
ends_so false a b (Some i) w writes fine none = cc
ends_so false (Some r) b None w writes fine none = refl
ends_so false None (Some r) None w writes fine none = refl
ends_so false None None None (Some x) writes fine none = refl
ends_so false None None None None writes fine none = refl

also_settled : (o : Settling) → is_settled o ≡ true → is_settled_or_fixed o ≡ true
also_settled (Settled writes) is = refl
also_settled BadLists is = absurd (both_ways false refl is)
also_settled (Fixed slot register) is = refl
also_settled (NoRoom class slot register size alignment) is = absurd (both_ways false refl is)
also_settled (NotKept slot register) is = absurd (both_ways false refl is)

-- A sound system in which each part stands is one where nothing is told, if nothing is left on.
untold_start : (q : Request) → q.told.ranges ≡ [] → (t : System) → IsSystem t → IsSound q.roots t → ((r : FunctionPart) → Contains (system_parts q t) r → stands q t r ≡ true)
    → ((f : Function) → Contains t f → has_left q t f ≡ true → is_space_on f Io ≡ false) → are_bad_lists q.roots q.lists ≡ false → IsStart q t
untold_start q untold t system sound stand left fine = record {
  needs = record {
    system = system;
    nested = sound.nested;
    stand = stand;
    ranges = λ x is_told. absurd (in_nil x (subst (λ xs. Contains xs x) (no_regions q untold) is_told));
    commands = λ x is_told. absurd (in_nil x (subst (λ xs. Contains xs x) (no_regions q untold) is_told));
    uncut = not_cut q t (as_it_stands q t) system sound.nested (start_stays q untold t system sound stand left);
    left = left;
  };
  fine = fine;
}

module _ (q : Request) (s : System) (may : CanBeAsked q s) (anew : q.anew ≡ true) (settles : is_settled (settle_sparing q s) ≡ true) where
  abbrev p : Request
  p = placing_request q s

  abbrev w : Request
  w = without_slots q

  abbrev t : System
  t = result_sparing q s

  anew_p : p.anew ≡ true
  anew_p = cond_both (have_spares q s) q w (λ x. x.anew ≡ true) (λ spares. anew) (λ none. anew)

  pairs : AllZip IsAlike s t
  pairs = all_alike p s (kept_sparing q s) (can_all q s (admitted_of q s may) settles).then

  could : CanSettle p s (finally_kept p s)
  could = (can_all q s (admitted_of q s may) settles).before

  stands_so : CanSettle p t (as_it_stands p t)
  stands_so = anew_result_can_settle p q (placing_asked q s may).untold s (finally_kept p s) could anew_p

  asked_then : CanBeAsked p t
  asked_then = record { untold = (placing_asked q s may).untold; high = stands_so.high; system = stands_so.system; nested = stands_so.nested; profile = stands_so.profile; chains = stands_so.chains }

  -- ---- it is settled again, or refused for what is fixed

  could_alone : CanSettle w s (finally_kept w s)
  could_alone = can_finally w s record { untold = may.untold; high = may.high; system = may.system; nested = may.nested; profile = may.profile; chains = may.chains } (settled_sparing_gives q s settles).1

  room_alone : lacking w t (as_it_stands w t) ≡ None
  room_alone = none_lacks w anew s t pairs (finally_kept w s) (as_it_stands w t) (none_kept w (held_of w may.untold) s (finally_kept w s) could_alone anew) (none_stays w t anew may.untold) could_alone.room

  settled_or_fixed : is_settled_or_fixed (settle_growing w t) ≡ true
  settled_or_fixed =
      ap is_settled_or_fixed (anew_nothing_grows w may.untold t anew ∙ settled_untold w may.untold t (as_it_stands w t))
      ∙ ends_so (are_bad_lists w.roots w.lists) (fixed_without (stands w t) w t) (fixed_without (as_it_stands w t).stays w t) (lacking w t (as_it_stands w t)) (fixed_write w (settle_writes w t (as_it_stands w t)))
      (settle_writes w t (as_it_stands w t)) could_alone.lists room_alone

  pub anew_again : is_settled_or_fixed (settle_sparing q t) ≡ true
  anew_again = elim (cases_Bool (is_settled (settle_growing w t))) [
    | inl alone ↦ also_settled (settle_sparing q t) (told_spares_refuse_no_more q t (admitted_of q t asked_so) alone)
    | inr refused ↦ ap is_settled_or_fixed (refused_alone q t refused) ∙ settled_or_fixed
  ]
    where
      asked_so : CanBeAsked q t
      asked_so = cond_both (have_spares q s) q w (λ x. CanBeAsked x t → CanBeAsked q t) (λ spares so. so)
          (λ none so. record { untold = so.untold; high = so.high; system = so.system; nested = so.nested; profile = so.profile; chains = so.chains }) asked_then

  -- ---- where nothing is fixed it is settled again by no write

  module _ (unfixed : q.fixed ≡ []) where
    -- the result is settled without slots, and new windows have spares there as they had
    alone : is_settled (settle_growing w t) ≡ true
    alone = sym (settled_alike w may.untold unfixed anew s t pairs) ∙ (settled_sparing_gives q s settles).1

    alike : have_spares q t ≡ have_spares q s
    alike = sym (have_alike q may.untold unfixed anew s t pairs)

    grows : is_settled (settle_growing p t) ≡ true
    grows = cond_both (have_spares q s) q w (λ x. is_settled (settle_growing x t) ≡ true) first (λ none. alone)
      where
        first : have_spares q s ≡ true → is_settled (settle_growing q t) ≡ true
        first spares = (and_parts (is_settled (settle_growing q t)) (keep_alike q t (finally_kept w t) (finally_kept q t)) (alike ∙ spares)).0

    again : settle_keeping p t (granted p t (spare_of q) (finally_kept p t)).kept ≡ Settled []
    again = anew_wishes_settle_once p q (placing_asked q s may).untold s (finally_kept p s) (finally_kept p t) could anew_p (finally_wishless p s) (finally_wishless p t) (can_finally p t asked_then grows) (settled_sparing_gives q s settles).0

    pub anew_once : settle_sparing q t ≡ Settled []
    anew_once =
        sparing_is_wished q t alone
        ∙ ap (λ x. settle_keeping (cond x q w) t (granted_beside q (cond x q w) t).kept) alike
        ∙ again

    pub anew_deny_alike : map slot_and_register (denied q t) ≡ map slot_and_register (denied q s)
    anew_deny_alike =
        ap (λ x. map slot_and_register (granted_beside q (cond x q w) t).denied) alike
        ∙ (anew_wishes_again p q (placing_asked q s may).untold s (finally_kept p s) (finally_kept p t) could anew_p (finally_wishless p s) (finally_wishless p t) (none_kept p (held_of p (placing_asked q s may).untold) t (finally_kept p t) (can_finally p t asked_then grows) anew_p)).denied

-- ---- where not all is placed anew

untold_sparing : (q : Request) (s : System) → CanBeAsked q s → q.anew ≡ false → is_settled (settle_sparing q s) ≡ true → IsSettledSparing q s
untold_sparing q s may kept settles =
    let p = placing_request q s in
    let j = kept_sparing q s in
    let can = (can_all q s (admitted_of q s may) settles).then in
    let untold = (placing_asked q s may).untold in
    let kept_p : p.anew ≡ false = cond_both (have_spares q s) q (without_slots q) (λ x. x.anew ≡ false) (λ spares. kept) (λ none. kept) in
    record {
      forward = untold_forward q may.untold;
      base = (can_all q s (admitted_of q s may) settles).before;
      can = can;
      start = untold_start p untold (result_sparing q s) (new_system p s j can) (settled_sound p s j can) (all_stand p untold s j can kept_p) (all_left_off p s j can) can.lists;
    }

-- The law: settled again nothing is written, and the same spares are denied.
pub sparing_settles_once : SparingSettlesOnce
sparing_settles_once q s may unfixed settles = elim (cases_Bool q.anew) [
  | inl anew ↦ record { once = anew_once q s may anew settles (unfixed anew); denied = anew_deny_alike q s may anew settles (unfixed anew) }
  | inr kept ↦ (let so = untold_sparing q s may kept settles in record { once = kept_settle_once q s so; denied = kept_deny_alike q s so })
]

-- The law: what is fixed alone is refused then.
pub sparing_settles_again : SparingSettlesAgain
sparing_settles_again q s may settles = elim (cases_Bool q.anew) [
  | inl anew ↦ anew_again q s may anew settles
  | inr kept ↦ ap is_settled_or_fixed (kept_settle_once q s (untold_sparing q s may kept settles))
]

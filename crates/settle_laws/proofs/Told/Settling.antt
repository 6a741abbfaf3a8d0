-- Where settling with told ranges ends in writes, what is told is kept: so the result is sound as told, and each stop.
use Rattle.std.proofs.Common.{◌≡◌, ◌⊎◌, ◌≤◌, ℕ, inl, inr, false, List, length, take, refl, sym, ◌∙◌, ap, subst, None}
use Rattle.std.specs.List.{AllZip, Contains, list_any}
use Rattle.std.proofs.lemmas.Bool.{cond_both}
use Rattle.pci_spec.specs.Slot.{same_slot}
use Rattle.pci_spec.specs.System.{System}
use Rattle.pci_spec.specs.Machine.{Write, system_after}
use Rattle.plan_spec.specs.Plan.{IsMoved}
use Rattle.settle_spec.specs.Lists.{Request, are_bad_lists}
use Rattle.settle_spec.specs.Items.{spare_of}
use Rattle.settle_spec.specs.Writes.{Settling, BadLists, Fixed, NoRoom, Settled, NotKept}
use Rattle.settle_spec.specs.Kept.{Kept, no_wish, as_it_stands, growing}
use Rattle.settle_spec.specs.Keeping.Places.{lacking}
use Rattle.settle_spec.specs.Keeping.Writes.{closings, settle_writes, settle_keeping}
use Rattle.settle_spec.specs.Growing.{or_else, kept_by, finally_kept}
use Rattle.settle_spec.specs.Sparing.{without_slots, have_spares, placing_request, grants, settle_sparing}
use Rattle.settle_spec.specs.Wishes.{granted}
use Rattle.settle_laws.specs.KeptLaws.{IsSoundKept}
use Rattle.settle_laws.specs.GrowingLaws.{closings_by}
use Rattle.settle_laws.specs.Keeping.PlacesLaws.{CanSettle}
use Rattle.settle_laws.specs.ToldSoundLaws.{IsSoundAsTold, IsToldOf, IsAdmittedSystem, CanSettleTold, CanAskTold, SettledCanSettle, SettledStandingIsSound, ToldGrowingIsSound, ToldSparingIsSound, SettlingStandingCanStop, ToldGrowingCanStop, ToldSparingCanStop, FixedIsNotWritten, SettlingMoves}
use Rattle.settle_laws.proofs.SoundKept.{standing_is_sound, growing_is_sound}
use Rattle.settle_laws.proofs.Keeping.Moves.{all_move}
use Rattle.settle_laws.proofs.Keeping.Stopping.{writes_settle}
use Rattle.settle_laws.proofs.Told.Ended.{ToldEnd, told_end, not_found, keeps_told, can_settle}
use Rattle.settle_laws.proofs.Told.Sound.{told_sound}
use Rattle.settle_laws.proofs.Told.Stops.{told_stops}
use Rattle.settle_laws.proofs.Keeping.Wishless.{lacking_same}
use Rattle.settle_laws.proofs.Wishing.Alike.{granted_alike}
use Rattle.settle_laws.proofs.Wishing.Granted.{all_granted}
use Rattle.settle_laws.proofs.Wishing.Sparing.{sparing_gives}

-- ---- where settling ends in writes

module _ (q : Request) (s : System) (k : Kept) (writes : List Write) (ended : settle_keeping q s k ≡ Settled writes) where
  end : ToldEnd q s k writes
  end = told_end q s k writes ended

  -- what is settled beside what is kept soundly can be settled so
  pub settled_can : CanAskTold q s → IsSoundKept q s k → CanSettleTold q s k
  settled_can may sound = record {
    can = can_settle q s k writes ended may.admitted sound;
    told = may.told;
    keeps = keeps_told q s k writes ended;
  }

  module _ (may : CanAskTold q s) (sound : IsSoundKept q s k) where
    abbrev can : CanSettleTold q s k
    can = settled_can may sound

    kept_sound : IsSoundAsTold q (system_after s writes)
    kept_sound = subst (λ ws. IsSoundAsTold q (system_after s ws)) end.same (subst (IsSoundAsTold q) (sym (writes_settle q s k can.can)) (told_sound q s k can))

    kept_stop : (n : ℕ) → (length (closings q s k s) ≤ n) ⊎ IsSoundAsTold q s → IsSoundAsTold q (system_after s (take n writes))
    kept_stop n from = subst (λ ws. IsSoundAsTold q (system_after s (take n ws))) end.same (told_stops q s k can n from)

  kept_moves : CanSettle q s k → AllZip IsMoved s (system_after s writes)
  kept_moves can = subst (λ ws. AllZip IsMoved s (system_after s ws)) end.same (subst (AllZip IsMoved s) (sym (writes_settle q s k can)) (all_move q s k can))

pub settled_can_settle : SettledCanSettle
settled_can_settle q s k writes may sound ended = (settled_can q s k writes ended may sound, (end q s k writes ended).same)

-- ---- as it stands, and where windows grow

module _ (q : Request) (s : System) (may : IsAdmittedSystem q s) where
  plain : IsSoundKept q s (as_it_stands q s)
  plain = standing_is_sound q s may.system may.nested may.profile

  grown : IsSoundKept q s (growing q s)
  grown = growing_is_sound q s may.system may.nested may.profile

pub settled_standing_is_sound : SettledStandingIsSound
settled_standing_is_sound q s writes may ended = kept_sound q s (as_it_stands q s) writes ended may (plain q s may.admitted)

pub settling_standing_can_stop : SettlingStandingCanStop
settling_standing_can_stop q s writes n may ended from = kept_stop q s (as_it_stands q s) writes ended may (plain q s may.admitted) n from

module _ (q : Request) (s : System) (may : CanAskTold q s) (writes : List Write) where
  growing_ends : (o : Settling) → settle_keeping q s (growing q s) ≡ o → or_else o (settle_keeping q s (as_it_stands q s)) ≡ Settled writes
      → (settle_keeping q s (growing q s) ≡ Settled writes) ⊎ (settle_keeping q s (as_it_stands q s) ≡ Settled writes)
  growing_ends (Settled own) is e = inl (is ∙ e)
  growing_ends BadLists is e = inr e
  growing_ends (Fixed slot register) is e = inr e
  growing_ends (NoRoom class slot register size alignment) is e = inr e
  growing_ends (NotKept slot register) is e = inr e

pub settled_growing_is_sound : ToldGrowingIsSound
settled_growing_is_sound q s writes may ended = elim (growing_ends q s may writes (settle_keeping q s (growing q s)) refl ended) [
  | inl is ↦ kept_sound q s (growing q s) writes is may (grown q s may.admitted)
  | inr is ↦ kept_sound q s (as_it_stands q s) writes is may (plain q s may.admitted)
]

pub settling_growing_can_stop : ToldGrowingCanStop
settling_growing_can_stop q s writes n may ended from = by (settle_keeping q s (growing q s)) refl ended from
  where
    by : (o : Settling) → settle_keeping q s (growing q s) ≡ o → or_else o (settle_keeping q s (as_it_stands q s)) ≡ Settled writes
        → (length (closings_by o (closings q s (growing q s) s) (closings q s (as_it_stands q s) s)) ≤ n) ⊎ IsSoundAsTold q s → IsSoundAsTold q (system_after s (take n writes))
    by (Settled own) is e from = kept_stop q s (growing q s) writes (is ∙ e) may (grown q s may.admitted) n from
    by BadLists is e from = kept_stop q s (as_it_stands q s) writes e may (plain q s may.admitted) n from
    by (Fixed slot register) is e from = kept_stop q s (as_it_stands q s) writes e may (plain q s may.admitted) n from
    by (NoRoom class slot register size alignment) is e from = kept_stop q s (as_it_stands q s) writes e may (plain q s may.admitted) n from
    by (NotKept slot register) is e from = kept_stop q s (as_it_stands q s) writes e may (plain q s may.admitted) n from

-- ---- with room behind slots

-- what is kept in the end can be settled without wishes, where it is settled beside them
module _ (q asked : Request) (s : System) (may : IsAdmittedSystem q s) where
  abbrev kept : Kept
  kept = finally_kept q s

  abbrev wished : Kept
  wished = (granted q s (spare_of asked) kept).kept

  finally_sound : IsSoundKept q s kept
  finally_sound = by (settle_keeping q s (growing q s))
    where
      by : (o : Settling) → IsSoundKept q s (kept_by o (growing q s) (as_it_stands q s))
      by (Settled writes) = grown q s may
      by BadLists = plain q s may
      by (Fixed slot register) = plain q s may
      by (NoRoom class slot register size alignment) = plain q s may
      by (NotKept slot register) = plain q s may

  pub lacks_alike : lacking q s wished ≡ lacking q s kept
  lacks_alike = sym (lacking_same q s wished no_wish) ∙ ap (lacking q s) (granted_alike q s (spare_of asked) kept) ∙ lacking_same q s kept no_wish

  -- what is kept can be settled where nothing lacks room
  pub can_kept : are_bad_lists q.roots q.lists ≡ false → lacking q s kept ≡ None → CanSettle q s kept
  can_kept good room = record {
    lists = good;
    high = may.high;
    system = may.system;
    nested = may.nested;
    profile = may.profile;
    chains = may.chains;
    sound = finally_sound;
    room = room;
  }

  pub can_wished : are_bad_lists q.roots q.lists ≡ false → lacking q s kept ≡ None → CanSettle q s wished
  can_wished good room = (all_granted q asked s kept (can_kept good room)).can

  -- what is settled beside wishes can be settled so, with them and without
  pub wishes_can : (writes : List Write) → settle_keeping q s wished ≡ Settled writes → CanSettle q s kept × CanSettle q s wished
  wishes_can writes ended =
      let is = told_end q s wished writes ended in
      let room = sym lacks_alike ∙ is.room in
      (can_kept is.good room, can_wished is.good room)

module _ (q : Request) (s : System) where
  abbrev p : Request
  p = placing_request q s

  abbrev j : Kept
  j = (grants q s).kept

  same_told : (t : System) → IsSoundAsTold p t → IsSoundAsTold q t
  same_told t = cond_both (have_spares q s) q (without_slots q) (λ r. IsSoundAsTold r t → IsSoundAsTold q t) (λ spares sound. sound) (λ none sound. sound)

  told_same : (t : System) → IsSoundAsTold q t → IsSoundAsTold p t
  told_same t = cond_both (have_spares q s) q (without_slots q) (λ r. IsSoundAsTold q t → IsSoundAsTold r t) (λ spares sound. sound) (λ none sound. sound)

  pub placing_admitted : IsAdmittedSystem q s → IsAdmittedSystem p s
  placing_admitted may = cond_both (have_spares q s) q (without_slots q) (λ r. IsAdmittedSystem r s) (λ spares. may)
      (λ none. record { high = may.high; system = may.system; nested = may.nested; profile = may.profile; chains = may.chains })

  placing_told : IsToldOf q s → IsToldOf p s
  placing_told told = cond_both (have_spares q s) q (without_slots q) (λ r. IsToldOf r s) (λ spares. told)
      (λ none. record { lawful = told.lawful; awake = told.awake; listed = told.listed; led_to = told.led_to })

  -- what is settled with room behind slots can be settled so, and could be without
  module _ (may : IsAdmittedSystem q s) (writes : List Write) (ended : settle_sparing q s ≡ Settled writes) where
    pub beside_wishes : settle_keeping p s j ≡ Settled writes
    beside_wishes = (sparing_gives q s writes ended).0

    pub sparing_can : CanSettle p s (finally_kept p s) × CanSettle p s j
    sparing_can = wishes_can p q s (placing_admitted may) writes beside_wishes

  module _ (may : CanAskTold q s) (writes : List Write) (ended : settle_sparing q s ≡ Settled writes) where
    asked : CanAskTold p s
    asked = record { admitted = placing_admitted may.admitted; told = placing_told may.told }

    beside : settle_keeping p s j ≡ Settled writes
    beside = beside_wishes may.admitted writes ended

    wished_sound : IsSoundKept p s j
    wished_sound = (sparing_can may.admitted writes ended).1.sound

    sparing_sound : IsSoundAsTold q (system_after s writes)
    sparing_sound = same_told (system_after s writes) (kept_sound p s j writes beside asked wished_sound)

    sparing_stop : (n : ℕ) → (length (closings p s j s) ≤ n) ⊎ IsSoundAsTold q s → IsSoundAsTold q (system_after s (take n writes))
    sparing_stop n from = same_told (system_after s (take n writes)) (kept_stop p s j writes beside asked wished_sound n (elim from [ inl past ↦ inl past | inr sound ↦ inr (told_same s sound) ]))

pub settled_sparing_is_sound : ToldSparingIsSound
settled_sparing_is_sound q s writes may ended = sparing_sound q s may writes ended

pub settling_sparing_can_stop : ToldSparingCanStop
settling_sparing_can_stop q s writes n may ended from = sparing_stop q s may writes ended n from

pub settling_moves : SettlingMoves
settling_moves q s writes may ended =
    kept_moves (placing_request q s) s (grants q s).kept writes (beside_wishes q s may writes ended) (sparing_can q s may writes ended).1

pub fixed_is_not_written : FixedIsNotWritten
fixed_is_not_written q s writes w ended has =
    let p = placing_request q s in
    let j = (grants q s).kept in
    let is = told_end p s j writes (sparing_gives q s writes ended).0 in
    let fixed : p.fixed ≡ q.fixed = cond_both (have_spares q s) q (without_slots q) (λ r. r.fixed ≡ q.fixed) (λ spares. refl) (λ none. refl) in
    sym (ap (list_any (same_slot w.slot)) fixed)
    ∙ not_found (λ (x : Write). list_any (same_slot x.slot) p.fixed) (settle_writes p s j) is.unwritten w (subst (λ ws. Contains ws w) (sym is.same) has)

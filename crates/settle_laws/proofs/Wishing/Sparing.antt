-- What settling with room behind slots comes to is sound, and its writes can stop.
use Rattle.std.proofs.Common.{◌≡◌, ℕ, ◌≤◌, ◌⊎◌, inl, inr, List, length, take, false, true, cond, refl, sym, ◌∙◌, ap, subst}
use Rattle.std.proofs.lemmas.Bool.{both_ways, cond_both}
use Rattle.pci_spec.specs.System.{System}
use Rattle.pci_spec.specs.Machine.{Write, system_after}
use Rattle.pci_spec.specs.Sound.{IsSound}
use Rattle.settle_spec.specs.Lists.{Request, are_bad_lists}
use Rattle.settle_spec.specs.Stands.{stands}
use Rattle.settle_spec.specs.Items.{spare_of}
use Rattle.settle_spec.specs.Writes.{Settling, BadLists, Fixed, NoRoom, Settled, fixed_without, fixed_write, NotKept}
use Rattle.settle_spec.specs.Kept.{Kept, no_wish, as_it_stands, growing}
use Rattle.settle_spec.specs.Keeping.Places.{lacking}
use Rattle.settle_spec.specs.Keeping.Writes.{closings, settle_writes, settle_keeping}
use Rattle.settle_spec.specs.Growing.{or_else, settle_growing, kept_by, finally_kept}
use Rattle.settle_spec.specs.Wishes.{granted}
use Rattle.settle_spec.specs.Sparing.{without_slots, is_settled, have_spares, placing_request, grants, settle_wished, settle_sparing}
use Rattle.settle_laws.specs.KeptLaws.{IsSoundKept}
use Rattle.settle_laws.specs.GrowingLaws.{CanBeAsked}
use Rattle.settle_laws.specs.SparingLaws.{SettledSparingIsSound, SettlingSparingCanStop}
use Rattle.settle_laws.specs.Keeping.PlacesLaws.{CanSettle}
use Rattle.settle_laws.proofs.SettlingEnds.{IsEnd, ends, kept_sound, kept_stop}
use Rattle.settle_laws.proofs.SoundKept.{growing_is_sound, standing_is_sound}
use Rattle.settle_laws.proofs.Keeping.Wishless.{lacking_same}
use Rattle.settle_laws.proofs.Wishing.Alike.{granted_alike}
use Rattle.settle_laws.proofs.Wishing.Granted.{all_granted}
use Rattle.settle_laws.proofs.Untold.{settled_untold}

-- ---- wishes beside what is kept in the end

module _ (q asked : Request) (s : System) (may : CanBeAsked q s) where
  abbrev k : Kept
  k = finally_kept q s

  abbrev j : Kept
  j = (granted q s (spare_of asked) k).kept

  pub finally_sound : IsSoundKept q s k
  finally_sound = by (settle_keeping q s (growing q s))
    where
      by : (o : Settling) → IsSoundKept q s (kept_by o (growing q s) (as_it_stands q s))
      by (Settled writes) = growing_is_sound q s may.system may.nested may.profile
      by BadLists = standing_is_sound q s may.system may.nested may.profile
      by (Fixed slot register) = standing_is_sound q s may.system may.nested may.profile
      by (NoRoom class slot register size alignment) = standing_is_sound q s may.system may.nested may.profile
      by (NotKept slot register) = standing_is_sound q s may.system may.nested may.profile

  -- what lacks room is the same without wishes
  pub lacks_alike : lacking q s j ≡ lacking q s k
  lacks_alike = sym (lacking_same q s j no_wish) ∙ ap (lacking q s) (granted_alike q s (spare_of asked) k) ∙ lacking_same q s k no_wish

  module _ (writes : List Write) (settled : settle_keeping q s j ≡ Settled writes) where
    end : IsEnd (are_bad_lists q.roots q.lists) (fixed_without (stands q s) q s) (lacking q s j) (fixed_write q (settle_writes q s j)) (settle_writes q s j) writes
    end = ends (are_bad_lists q.roots q.lists) (fixed_without (stands q s) q s) (fixed_without j.stays q s) (lacking q s j) (fixed_write q (settle_writes q s j)) (settle_writes q s j) writes (sym (settled_untold q may.untold s j) ∙ settled)

    pub can_before : CanSettle q s k
    can_before = record {
      lists = end.good;
      high = may.high;
      system = may.system;
      nested = may.nested;
      profile = may.profile;
      chains = may.chains;
      sound = finally_sound;
      room = sym lacks_alike ∙ end.room;
    }

    pub can_granted : CanSettle q s j
    can_granted = (all_granted q asked s k can_before).can

-- ---- where windows grow

-- what is kept in the end settles as growing does, or else as it stands
pub finally_settles : (q : Request) (s : System) → settle_keeping q s (finally_kept q s) ≡ settle_growing q s
finally_settles q s = by (settle_keeping q s (growing q s)) refl
  where
    by : (o : Settling) → settle_keeping q s (growing q s) ≡ o → settle_keeping q s (kept_by o (growing q s) (as_it_stands q s)) ≡ or_else o (settle_keeping q s (as_it_stands q s))
    by (Settled writes) is = is
    by BadLists is = refl
    by (Fixed slot register) is = refl
    by (NoRoom class slot register size alignment) is = refl
    by (NotKept slot register) is = refl

-- what is settled so can be settled beside it
pub can_finally : (q : Request) (s : System) → CanBeAsked q s → is_settled (settle_growing q s) ≡ true → CanSettle q s (finally_kept q s)
can_finally q s may settled = by (settle_growing q s) refl settled
  where
    by : (o : Settling) → settle_growing q s ≡ o → is_settled o ≡ true → CanSettle q s (finally_kept q s)
    by (Settled writes) is settled =
        let k = finally_kept q s in
        let end = ends (are_bad_lists q.roots q.lists) (fixed_without (stands q s) q s) (fixed_without k.stays q s) (lacking q s k) (fixed_write q (settle_writes q s k)) (settle_writes q s k) writes (sym (settled_untold q may.untold s k) ∙ finally_settles q s ∙ is) in
        record { lists = end.good; high = may.high; system = may.system; nested = may.nested; profile = may.profile; chains = may.chains; sound = finally_sound q q s may; room = end.room }
    by BadLists is settled = absurd (both_ways false refl settled)
    by (Fixed slot register) is settled = absurd (both_ways false refl settled)
    by (NoRoom class slot register size alignment) is settled = absurd (both_ways false refl settled)
    by (NotKept slot register) is settled = absurd (both_ways false refl settled)

-- ---- what is settled with slots

-- what is settled so is settled beside wishes, and without slots
sparing_by : (alone wished : Settling) (writes : List Write) → cond (is_settled alone) wished alone ≡ Settled writes → (wished ≡ Settled writes) × (is_settled alone ≡ true)
sparing_by (Settled own) wished writes is = (is, refl)
sparing_by BadLists wished writes is = absurd (both_ways false refl (ap is_settled is))
sparing_by (Fixed slot register) wished writes is = absurd (both_ways false refl (ap is_settled is))
sparing_by (NoRoom class slot register size alignment) wished writes is = absurd (both_ways false refl (ap is_settled is))
sparing_by (NotKept slot register) wished writes is = absurd (both_ways false refl (ap is_settled is))

pub sparing_gives : (q : Request) (s : System) (writes : List Write) → settle_sparing q s ≡ Settled writes → (settle_wished q s ≡ Settled writes) × (is_settled (settle_growing (without_slots q) s) ≡ true)
sparing_gives q s writes is = sparing_by (settle_growing (without_slots q) s) (settle_wished q s) writes is

settled_by : (alone wished : Settling) → is_settled (cond (is_settled alone) wished alone) ≡ true → (is_settled wished ≡ true) × (is_settled alone ≡ true)
settled_by (Settled own) wished is = (is, refl)
settled_by BadLists wished is = absurd (both_ways false refl is)
settled_by (Fixed slot register) wished is = absurd (both_ways false refl is)
settled_by (NoRoom class slot register size alignment) wished is = absurd (both_ways false refl is)
settled_by (NotKept slot register) wished is = absurd (both_ways false refl is)

pub settled_sparing_gives : (q : Request) (s : System) → is_settled (settle_sparing q s) ≡ true → (is_settled (settle_wished q s) ≡ true) × (is_settled (settle_growing (without_slots q) s) ≡ true)
settled_sparing_gives q s is = settled_by (settle_growing (without_slots q) s) (settle_wished q s) is

-- what is settled without slots is settled beside wishes
pub sparing_is_wished : (q : Request) (s : System) → is_settled (settle_growing (without_slots q) s) ≡ true → settle_sparing q s ≡ settle_wished q s
sparing_is_wished q s is = ap (λ x. cond x (settle_wished q s) (settle_growing (without_slots q) s)) is

-- and what is refused without them is refused so
pub refused_alone : (q : Request) (s : System) → is_settled (settle_growing (without_slots q) s) ≡ false → settle_sparing q s ≡ settle_growing (without_slots q) s
refused_alone q s is = ap (λ x. cond x (settle_wished q s) (settle_growing (without_slots q) s)) is

-- ---- the request by which new windows are placed

module _ (q : Request) (s : System) where
  abbrev p : Request
  p = placing_request q s

  pub placing_roots : p.roots ≡ q.roots
  placing_roots = cond_both (have_spares q s) q (without_slots q) (λ r. r.roots ≡ q.roots) (λ spares. refl) (λ none. refl)

  pub placing_asked : CanBeAsked q s → CanBeAsked p s
  placing_asked may = cond_both (have_spares q s) q (without_slots q) (λ r. CanBeAsked r s) (λ spares. may)
      (λ none. record { untold = may.untold; high = may.high; system = may.system; nested = may.nested; profile = may.profile; chains = may.chains })

  abbrev wished : Kept
  wished = (grants q s).kept

  module _ (may : CanBeAsked q s) (writes : List Write) (settled : settle_sparing q s ≡ Settled writes) where
    asked : CanBeAsked p s
    asked = placing_asked may

    beside_wishes : settle_wished q s ≡ Settled writes
    beside_wishes = (sparing_gives q s writes settled).0

    pub can_sparing : CanSettle p s wished
    can_sparing = can_granted p q s asked writes beside_wishes

    ends_sound : IsSound q.roots (system_after s writes)
    ends_sound = subst (λ roots. IsSound roots (system_after s writes)) placing_roots (kept_sound p s asked wished can_sparing.sound writes beside_wishes)

    stops_sound : (n : ℕ) → (length (closings p s wished s) ≤ n) ⊎ IsSound q.roots s → IsSound q.roots (system_after s (take n writes))
    stops_sound n from = subst (λ roots. IsSound roots (system_after s (take n writes))) placing_roots
        (kept_stop p s asked wished can_sparing.sound writes n beside_wishes
        (elim from [ inl closed ↦ inl closed | inr sound ↦ inr (subst (λ roots. IsSound roots s) (sym placing_roots) sound) ]))

pub settled_sparing_is_sound : SettledSparingIsSound
settled_sparing_is_sound q s writes may settled = ends_sound q s may writes settled

pub settling_sparing_can_stop : SettlingSparingCanStop
settling_sparing_can_stop q s writes n may settled from = stops_sound q s may writes settled n from

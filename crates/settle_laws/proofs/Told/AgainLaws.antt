-- What is settled with told ranges is settled again by no write, with windows that grow and without.
use Rattle.std.proofs.lemmas.Bool.{cases_Bool}
use Rattle.settle_laws.proofs.NothingGrows.{held_nothing_grows}
use Rattle.settle_laws.proofs.Keeping.AnewAgain.{anew_again}
use Rattle.std.proofs.Common.{◌≡◌, inl, inr, true, List, [], false, refl, sym, ◌∙◌, subst}
use Rattle.pci_spec.specs.System.{System}
use Rattle.pci_spec.specs.Machine.{Write, system_after}
use Rattle.settle_spec.specs.Growing.{or_else, settle_growing}
use Rattle.settle_spec.specs.Kept.{Kept, as_it_stands, growing}
use Rattle.settle_spec.specs.Lists.{Request}
use Rattle.settle_spec.specs.Writes.{Settling, BadLists, Fixed, NoRoom, Settled, NotKept}
use Rattle.settle_spec.specs.Keeping.Registers.{settled}
use Rattle.settle_spec.specs.Keeping.Writes.{settle_keeping}
use Rattle.settle_laws.specs.KeptLaws.{IsSoundKept}
use Rattle.settle_laws.specs.Keeping.PlacesLaws.{CanSettle}
use Rattle.settle_laws.specs.ToldAgainLaws.{IsSettledAwake, ToldPartsStand, ToldIsSettledAlready, ToldAgainWritesNothing, CanAskAwake, ToldGrowingAgainWritesNothing, AllLinesAreHeld, HeldGrowingAgainWritesNothing}
use Rattle.settle_laws.proofs.Keeping.Stopping.{writes_settle}
use Rattle.settle_laws.proofs.SoundKept.{growing_is_sound, standing_is_sound}
use Rattle.settle_laws.specs.ToldSoundLaws.{KeepsTold}
use Rattle.settle_laws.proofs.Told.Ended.{ToldEnd, keeps_told, told_end, can_settle}
use Rattle.settle_laws.proofs.Told.AgainLines.{all_stand_told}
use Rattle.settle_laws.proofs.Told.AgainSettled.{settled_start}
use Rattle.settle_laws.proofs.Told.NothingSettled.{IsStart, nothing_grows, start_settles, start_stays, start_unwritten}
use Rattle.settle_laws.proofs.AllStand.{all_stay}
use Rattle.settle_laws.proofs.StandingPlaces.{none_lacks}
use Rattle.settle_laws.proofs.Keeping.AgainEnds.{can_kept, ends_kept}
use Rattle.settle_laws.proofs.Told.Forward.{told_forward}

module _ (q : Request) (s : System) (k : Kept) (writes : List Write) (is : IsSettledAwake q s k writes) where
  end : ToldEnd q s k writes
  end = told_end q s k writes is.settles

  keeps : KeepsTold q s k
  keeps = keeps_told q s k writes is.settles

  pub start : IsStart q (settled q s k)
  start = settled_start q s k is.can keeps is.forward is.awake is.kept

  after_is : system_after s writes ≡ settled q s k
  after_is = subst (λ ws. system_after s ws ≡ settled q s k) end.same (writes_settle q s k is.can)

  again_standing : settle_keeping q (system_after s writes) (as_it_stands q (system_after s writes)) ≡ Settled []
  again_standing = subst (λ t. settle_keeping q t (as_it_stands q t) ≡ Settled []) (sym after_is) (start_settles q (settled q s k) start.needs start.fine)

  pub again_growing : settle_growing q (system_after s writes) ≡ Settled []
  again_growing = subst (λ t. settle_growing q t ≡ Settled []) (sym after_is) (nothing_grows q (settled q s k) start.needs start.fine)

pub told_parts_stand : ToldPartsStand
told_parts_stand q s k so kept = all_stand_told q s k so.can (keeps_told q s k so.writes so.settles) so.forward kept

pub told_is_settled_already : ToldIsSettledAlready
told_is_settled_already q s k writes is =
    let t = settled q s k in
    let same = start q s k writes is in
    record {
      can = can_kept q s k is.can (none_lacks q t same.needs.system same.needs.nested same.needs.stand);
      stays = all_stay q t same.needs.system same.needs.nested same.needs.stand;
      ends = ends_kept q s k is.can same.needs.stand;
      same = start_stays q t same.needs;
      unwritten = start_unwritten q t same.needs;
    }

pub told_again_writes_nothing : ToldAgainWritesNothing
told_again_writes_nothing q s k writes is = (again_standing q s k writes is, again_growing q s k writes is)

-- ---- the whole

module _ (q : Request) (s : System) (asked : CanAskAwake q s) (kept : q.anew ≡ false) where
  pub settled_awake : (k : Kept) (writes : List Write) (sound : IsSoundKept q s k) (e : settle_keeping q s k ≡ Settled writes) → IsSettledAwake q s k writes
  settled_awake k writes sound e = record { can = can_settle q s k writes e asked.admitted sound; forward = told_forward q asked.told; awake = asked.awake; kept = kept; settles = e }

  grown : (writes : List Write) → settle_keeping q s (growing q s) ≡ Settled writes → settle_growing q (system_after s writes) ≡ Settled []
  grown writes e = again_growing q s (growing q s) writes (settled_awake (growing q s) writes (growing_is_sound q s asked.admitted.system asked.admitted.nested asked.admitted.profile) e)

  stood : (writes : List Write) → settle_keeping q s (as_it_stands q s) ≡ Settled writes → settle_growing q (system_after s writes) ≡ Settled []
  stood writes e = again_growing q s (as_it_stands q s) writes (settled_awake (as_it_stands q s) writes (standing_is_sound q s asked.admitted.system asked.admitted.nested asked.admitted.profile) e)

  again_nothing : (writes : List Write) → settle_growing q s ≡ Settled writes → settle_growing q (system_after s writes) ≡ Settled []
  again_nothing writes e = by (settle_keeping q s (growing q s)) refl e
    where
      by : (o : Settling) → settle_keeping q s (growing q s) ≡ o → or_else o (settle_keeping q s (as_it_stands q s)) ≡ Settled writes → settle_growing q (system_after s writes) ≡ Settled []
      by (Settled own) is e = grown writes (is ∙ e)
      by BadLists is e = stood writes e
      by (Fixed slot register) is e = stood writes e
      by (NoRoom class slot register size alignment) is e = stood writes e
      by (NotKept slot register) is e = stood writes e

pub told_growing_again_writes_nothing : ToldGrowingAgainWritesNothing
told_growing_again_writes_nothing q s writes asked kept e = again_nothing q s asked kept writes e

-- ---- placed anew beside `held` lines

module _ (q : Request) (s : System) (writes : List Write) (asked : CanAskAwake q s) (held : AllLinesAreHeld q) (anew : q.anew ≡ true) (e : settle_growing q s ≡ Settled writes) where
  abbrev stays_put : Kept
  stays_put = as_it_stands q s

  beside : settle_keeping q s stays_put ≡ Settled writes
  beside = sym (held_nothing_grows q held s anew) ∙ e

  end_anew : ToldEnd q s stays_put writes
  end_anew = told_end q s stays_put writes beside

  can_anew : CanSettle q s stays_put
  can_anew = can_settle q s stays_put writes beside asked.admitted (standing_is_sound q s asked.admitted.system asked.admitted.nested asked.admitted.profile)

  anew_nothing : settle_growing q (system_after s writes) ≡ Settled []
  anew_nothing =
      subst (λ ws. settle_growing q (system_after s ws) ≡ Settled []) end_anew.same
      (subst (λ t. settle_growing q t ≡ Settled []) (sym (writes_settle q s stays_put can_anew))
      (held_nothing_grows q held (settled q s stays_put) anew ∙ anew_again q held s stays_put can_anew anew end_anew.stand end_anew.unwritten refl))

pub held_growing_again_writes_nothing : HeldGrowingAgainWritesNothing
held_growing_again_writes_nothing q s writes asked held e = elim (cases_Bool q.anew) [
  | inl anew ↦ anew_nothing q s writes asked held anew e
  | inr kept ↦ again_nothing q s asked kept writes e
]

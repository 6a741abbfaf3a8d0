-- Where settling ends with writes, lists are good and nothing lacks room; so each stop is sound, with windows that grow and without.
use Rattle.settle_laws.proofs.Told.OnlyHeld.{held_of}
use Rattle.std.proofs.Common.{◌≡◌, ℕ, ◌≤◌, ◌⊎◌, inl, inr, List, [], Option, None, Some, Bool, true, false, sym, ◌∙◌, ap, subst, refl, length, take}
use Rattle.std.specs.Bool.{if◌then◌else◌}
use Rattle.std.proofs.lemmas.Bool.{cases_Bool, false≢true}
use Rattle.std.specs.List.{Contains, count_by}
use Rattle.pci_spec.specs.Slot.{same_slot}
use Rattle.pci_spec.specs.System.{System, Function}
use Rattle.pci_spec.specs.Machine.{Write, system_after}
use Rattle.pci_spec.specs.Sound.{IsSound}
use Rattle.settle_spec.specs.Lists.{Request, are_bad_lists}
use Rattle.settle_spec.specs.Parts.{FunctionPart}
use Rattle.settle_spec.specs.Stands.{stands}
use Rattle.settle_spec.specs.Items.{PlacingItem}
use Rattle.settle_spec.specs.Writes.{Settling, BadLists, Fixed, NoRoom, Settled, fixed_without, fixed_write, or_fixed, or_lack, or_write, NotKept}
use Rattle.settle_spec.specs.Kept.{Kept, as_it_stands, growing}
use Rattle.settle_spec.specs.Keeping.Places.{lacking}
use Rattle.settle_spec.specs.Keeping.Writes.{closings, settle_writes, settle_keeping}
use Rattle.settle_spec.specs.Growing.{or_else, settle_growing}
use Rattle.settle_laws.specs.GrowingLaws.{CanBeAsked, closings_by, growing_closings, SettledGrowingIsSound, SettlingGrowingCanStop, FewGrowingWritesEach, SettlingGrowingAgainWritesNothing}
use Rattle.settle_laws.specs.KeptLaws.{IsSoundKept, WishesNothing}
use Rattle.settle_laws.specs.WriteLaws.{most_settle_writes}
use Rattle.settle_laws.specs.Keeping.PlacesLaws.{CanSettle}
use Rattle.settle_laws.proofs.NothingGrows.{anew_nothing_grows}
use Rattle.settle_laws.proofs.SoundKept.{standing_is_sound, growing_is_sound}
use Rattle.settle_laws.proofs.Keeping.Few.{few_each}
use Rattle.settle_laws.proofs.Keeping.SettledSound.{settled_sound}
use Rattle.settle_laws.proofs.Keeping.Stopping.{stop_sound, writes_settle}
use Rattle.settle_spec.specs.Keeping.Registers.{settled}
use Rattle.settle_laws.proofs.NothingSettled.{nothing_grows}
use Rattle.settle_laws.proofs.Keeping.AgainKept.{all_stand}
use Rattle.settle_laws.proofs.Keeping.AgainSettled.{all_left_off}
use Rattle.settle_laws.proofs.Keeping.AnewAgain.{anew_again}
use Rattle.settle_laws.proofs.Keeping.Moves.{new_system}
use Rattle.settle_laws.proofs.Untold.{settled_untold}

-- ---- how settling ends

abbrev is_settled : Settling → Bool
is_settled (Settled writes) = true
is_settled refused = false

abbrev writes_of : Settling → List Write → List Write
writes_of (Settled writes) other = writes
writes_of refused other = other

-- lists are good, what is fixed stands, nothing lacks room, and these are the writes, none to what is fixed
pub record IsEnd (bad : Bool) (fixed : Option FunctionPart) (lack : Option PlacingItem) (w : Option Write) (own writes : List Write) : Type 0 where
  pub good : bad ≡ false
  pub stand : fixed ≡ None
  pub room : lack ≡ None
  pub unwritten : w ≡ None
  pub same : own ≡ writes

pub ends : (bad : Bool) (a b : Option FunctionPart) (lack : Option PlacingItem) (w : Option Write) (own writes : List Write)
    → (if bad then BadLists else or_fixed a (or_fixed b (or_lack lack (or_write w (Settled own))))) ≡ Settled writes → IsEnd bad a lack w own writes
ends true a b lack w own writes e = absurd (false≢true (ap is_settled e))
ends false (Some r) b lack w own writes e = absurd (false≢true (ap is_settled e))
ends false None (Some r) lack w own writes e = absurd (false≢true (ap is_settled e))
ends false None None (Some i) w own writes e = absurd (false≢true (ap is_settled e))
ends false None None None (Some x) own writes e = absurd (false≢true (ap is_settled e))
ends false None None None None own writes e = record { good = refl; stand = refl; room = refl; unwritten = refl; same = ap (λ o. writes_of o own) e }

-- ---- beside what is kept soundly

module _ (q : Request) (s : System) (asked : CanBeAsked q s) (k : Kept) (sound : IsSoundKept q s k) where
  kept_end : (writes : List Write) → settle_keeping q s k ≡ Settled writes → IsEnd (are_bad_lists q.roots q.lists) (fixed_without (stands q s) q s) (lacking q s k) (fixed_write q (settle_writes q s k)) (settle_writes q s k) writes
  kept_end writes e = ends (are_bad_lists q.roots q.lists) (fixed_without (stands q s) q s) (fixed_without k.stays q s) (lacking q s k) (fixed_write q (settle_writes q s k)) (settle_writes q s k) writes (sym (settled_untold q asked.untold s k) ∙ e)

  kept_can : (writes : List Write) → settle_keeping q s k ≡ Settled writes → CanSettle q s k
  kept_can writes e =
      let end = kept_end writes e in
      record {
        lists = end.good;
        high = asked.high;
        system = asked.system;
        nested = asked.nested;
        profile = asked.profile;
        chains = asked.chains;
        sound = sound;
        room = end.room;
      }

  pub kept_sound : (writes : List Write) → settle_keeping q s k ≡ Settled writes → IsSound q.roots (system_after s writes)
  kept_sound writes e =
      let can = kept_can writes e in
      subst (λ ws. IsSound q.roots (system_after s ws)) (kept_end writes e).same
      (subst (IsSound q.roots) (sym (writes_settle q s k can)) (settled_sound q s k can))

  pub kept_stop : (writes : List Write) (n : ℕ) → settle_keeping q s k ≡ Settled writes → (length (closings q s k s) ≤ n) ⊎ IsSound q.roots s → IsSound q.roots (system_after s (take n writes))
  kept_stop writes n e from =
      subst (λ ws. IsSound q.roots (system_after s (take n ws))) (kept_end writes e).same (stop_sound q s k (kept_can writes e) n from)

  pub kept_few : (writes : List Write) (f : Function) → Contains s f → settle_keeping q s k ≡ Settled writes → count_by (λ w. same_slot w.slot f.slot) writes ≤ most_settle_writes f
  kept_few writes f listed e = subst (λ ws. count_by (λ w. same_slot w.slot f.slot) ws ≤ most_settle_writes f) (kept_end writes e).same (few_each q s k asked.system f listed)

  -- settled again
  kept_again : (writes : List Write) → settle_keeping q s k ≡ Settled writes → q.anew ≡ false → settle_growing q (system_after s writes) ≡ Settled []
  kept_again writes e kept =
      let can = kept_can writes e in
      subst (λ ws. settle_growing q (system_after s ws) ≡ Settled []) (kept_end writes e).same
      (subst (λ t. settle_growing q t ≡ Settled []) (sym (writes_settle q s k can))
      (nothing_grows q asked.untold (settled q s k) (new_system q s k can) (settled_sound q s k can) (all_stand q asked.untold s k can kept) (all_left_off q s k can) can.lists))

  kept_anew : WishesNothing k → (writes : List Write) → settle_keeping q s k ≡ Settled writes → q.anew ≡ true → settle_growing q (system_after s writes) ≡ Settled []
  kept_anew wishless writes e anew =
      let can = kept_can writes e in
      let end = kept_end writes e in
      subst (λ ws. settle_growing q (system_after s ws) ≡ Settled []) end.same
      (subst (λ t. settle_growing q t ≡ Settled []) (sym (writes_settle q s k can))
      (anew_nothing_grows q asked.untold (settled q s k) anew ∙ anew_again q (held_of q asked.untold) s k can anew end.stand end.unwritten wishless))

  kept_nothing : WishesNothing k → (writes : List Write) → settle_keeping q s k ≡ Settled writes → settle_growing q (system_after s writes) ≡ Settled []
  kept_nothing wishless writes e = elim (cases_Bool q.anew) [
    | inl anew ↦ kept_anew wishless writes e anew
    | inr kept ↦ kept_again writes e kept
  ]

-- ---- with windows that grow, or else beside what stays as it stands

module _ (q : Request) (s : System) (asked : CanBeAsked q s) where
  abbrev k : Kept
  k = growing q s

  abbrev j : Kept
  j = as_it_stands q s

  grown : IsSoundKept q s k
  grown = growing_is_sound q s asked.system asked.nested asked.profile

  plain : IsSoundKept q s j
  plain = standing_is_sound q s asked.system asked.nested asked.profile

  pub ends_sound : (writes : List Write) → settle_growing q s ≡ Settled writes → IsSound q.roots (system_after s writes)
  ends_sound writes e = by (settle_keeping q s k) refl e
    where
      by : (o : Settling) → settle_keeping q s k ≡ o → or_else o (settle_keeping q s j) ≡ Settled writes → IsSound q.roots (system_after s writes)
      by (Settled own) is e = kept_sound q s asked k grown writes (is ∙ e)
      by BadLists is e = kept_sound q s asked j plain writes e
      by (Fixed slot register) is e = kept_sound q s asked j plain writes e
      by (NoRoom class slot register size alignment) is e = kept_sound q s asked j plain writes e
      by (NotKept slot register) is e = kept_sound q s asked j plain writes e

  pub stops_sound : (writes : List Write) (n : ℕ) → settle_growing q s ≡ Settled writes → (length (growing_closings q s) ≤ n) ⊎ IsSound q.roots s → IsSound q.roots (system_after s (take n writes))
  stops_sound writes n e from = by (settle_keeping q s k) refl e from
    where
      by : (o : Settling) → settle_keeping q s k ≡ o → or_else o (settle_keeping q s j) ≡ Settled writes → (length (closings_by o (closings q s k s) (closings q s j s)) ≤ n) ⊎ IsSound q.roots s
          → IsSound q.roots (system_after s (take n writes))
      by (Settled own) is e from = kept_stop q s asked k grown writes n (is ∙ e) from
      by BadLists is e from = kept_stop q s asked j plain writes n e from
      by (Fixed slot register) is e from = kept_stop q s asked j plain writes n e from
      by (NoRoom class slot register size alignment) is e from = kept_stop q s asked j plain writes n e from
      by (NotKept slot register) is e from = kept_stop q s asked j plain writes n e from

  pub ends_few : (writes : List Write) → settle_growing q s ≡ Settled writes → (f : Function) → Contains s f → count_by (λ w. same_slot w.slot f.slot) writes ≤ most_settle_writes f
  ends_few writes e f listed = by (settle_keeping q s k) refl e
    where
      by : (o : Settling) → settle_keeping q s k ≡ o → or_else o (settle_keeping q s j) ≡ Settled writes → count_by (λ w. same_slot w.slot f.slot) writes ≤ most_settle_writes f
      by (Settled own) is e = kept_few q s asked k grown writes f listed (is ∙ e)
      by BadLists is e = kept_few q s asked j plain writes f listed e
      by (Fixed slot register) is e = kept_few q s asked j plain writes f listed e
      by (NoRoom class slot register size alignment) is e = kept_few q s asked j plain writes f listed e
      by (NotKept slot register) is e = kept_few q s asked j plain writes f listed e

  pub again_nothing : (writes : List Write) → settle_growing q s ≡ Settled writes → settle_growing q (system_after s writes) ≡ Settled []
  again_nothing writes e = by (settle_keeping q s k) refl e
    where
      by : (o : Settling) → settle_keeping q s k ≡ o → or_else o (settle_keeping q s j) ≡ Settled writes → settle_growing q (system_after s writes) ≡ Settled []
      by (Settled own) is e = kept_nothing q s asked k grown refl writes (is ∙ e)
      by BadLists is e = kept_nothing q s asked j plain refl writes e
      by (Fixed slot register) is e = kept_nothing q s asked j plain refl writes e
      by (NoRoom class slot register size alignment) is e = kept_nothing q s asked j plain refl writes e
      by (NotKept slot register) is e = kept_nothing q s asked j plain refl writes e

pub settled_growing_is_sound : SettledGrowingIsSound
settled_growing_is_sound q s writes asked e = ends_sound q s asked writes e

pub settling_growing_can_stop : SettlingGrowingCanStop
settling_growing_can_stop q s writes n asked e from = stops_sound q s asked writes n e from

pub few_growing_writes_each : FewGrowingWritesEach
few_growing_writes_each q s writes asked e f listed = ends_few q s asked writes e f listed

pub settling_growing_again_writes_nothing : SettlingGrowingAgainWritesNothing
settling_growing_again_writes_nothing q s writes asked e = again_nothing q s asked writes e

-- Settling where windows grow, or else beside what stays as it stands: which of the two it is, and how it ends.
use Rattle.std.proofs.Common.{◌≡◌, ◌⊎◌, inl, inr, List, [], ◌∷◌, Bool, true, false, cond, not, ◌&&◌, Option, None, Some, refl, sym, ◌∙◌, ap, subst}
use Rattle.std.specs.List.{find}
use Rattle.std.specs.Option.{option_map}
use Rattle.std.proofs.lemmas.Bool.{and_parts, and_from, both_ways}
use Rattle.std.proofs.lemmas.Option.{none-some, same_Some}
use Rattle.pci_spec.specs.System.{System}
use Rattle.settle_spec.specs.Lists.{Request, are_bad_lists}
use Rattle.settle_spec.specs.Parts.{FunctionPart, system_parts}
use Rattle.settle_spec.specs.Stands.{is_fixed_part, stands}
use Rattle.judge_spec.specs.ToldRegion.{ToldRegion}
use Rattle.settle_spec.specs.Writes.{Settling, BadLists, Fixed, NoRoom, NotKept, Settled, or_fixed, or_lack, fixed_without}
use Rattle.settle_spec.specs.Kept.{Kept, as_it_stands, growing}
use Rattle.settle_spec.specs.Keeping.Places.{lacking}
use Rattle.settle_spec.specs.Keeping.Writes.{settle_writes, settle_keeping, is_not_reached, does_not_stay, earliest, or_told, or_not_staying, or_written}
use Rattle.settle_spec.specs.Growing.{or_else, settle_growing, kept_by, finally_kept}
use Rattle.settle_spec.specs.Sparing.{is_settled}
use Rattle.settle_laws.proofs.NothingGrows.{growing_is_standing}
use Rattle.settle_laws.proofs.Told.OnlyHeld.{held_of}
use Rattle.settle_laws.proofs.GrowingKept.{growing_stands}
use Rattle.pci_base.specs.declared.memory.Refused.{Refused}
use Rattle.pci_base.specs.declared.memory.Refused.TheVariants as refused
use Rattle.pci_base.specs.WindowKinds.{kind_value}
use Rattle.pci_tree.specs.Admission.{Admission}
use Rattle.pci_place.specs.Above.{system_in}
use Rattle.pci_first_fit.specs.NewWindows.{IsTooLarge}
use Rattle.pci_kept.specs.declared.windows.TooLarge.{TooLarge}
use Rattle.pci_settle.specs.declared.lack.SettleFault.{SettleFault}
use Rattle.pci_settle.specs.declared.lack.SettleFault.TheVariants as fault
use Rattle.pci_settle.specs.Lacks.{is_too_large, IsSettleFaultOf, too_large, no_room, not_kept}
use Rattle.pci_settle.specs.Fixed.{fixed_part}
use Rattle.pci_settle.specs.ToldEndings.{told_fault, first_told}
use Rattle.pci_settle.specs.Bounded.{or_other, kept_fault}
use Rattle.pci_settle.specs.Ended.{Ended, IsEndOfSettling}
use Rattle.pci_settle.specs.Endings.{after_lists, AreFixedKept, AreKeptStaying, IsEndedBy, IsNothingSettled, IsRefusedGrowing, HasLarge, IsNotGrown, kept_after, EndsAfter, IsEndedAfter, HasNoAssumed, EndsWith, IsRefusal}
use Rattle.pci_settle.proofs.Endings.{ends_fine}

-- ---- what is fixed and stays also stands

skip : {X : Type 0} (p : X → Bool) (x : X) (xs : List X) (b : Bool) → p x ≡ b → find p (x ∷ xs) ≡ None → (b ≡ false) × (find p xs ≡ None)
skip p x xs true at none = absurd (none-some x (sym none ∙ ap (λ b. cond b (Some x) (find p xs)) at))
skip p x xs false at none = (refl, sym (ap (λ b. cond b (Some x) (find p xs)) at) ∙ none)

off : (b c : Bool) → (b ≡ true → c ≡ true) → c ≡ false → b ≡ false
off true c gives out = absurd (both_ways c out (gives refl))
off false c gives out = refl

none_fewer : {X : Type 0} (p r : X → Bool) → ((x : X) → r x ≡ true → p x ≡ true) → (xs : List X) → find p xs ≡ None → find r xs ≡ None
none_fewer p r gives [] none = refl
none_fewer p r gives (x ∷ xs) none =
    let first = skip p x xs (p x) refl none in
    let out : r x ≡ false = off (r x) (p x) (gives x) first.0 in
    ap (λ b. cond b (Some x) (find r xs)) out ∙ none_fewer p r gives xs first.1

not_fewer : (b c : Bool) → (b ≡ true → c ≡ true) → not c ≡ true → not b ≡ true
not_fewer true c gives out = sym (ap not (gives refl)) ∙ out
not_fewer false c gives out = refl

module _ (q : Request) (s : System) where
  fixed_stand : (keeps : FunctionPart → Bool) → ((r : FunctionPart) → keeps r ≡ true → stands q s r ≡ true) → fixed_without keeps q s ≡ None → fixed_without (stands q s) q s ≡ None
  fixed_stand keeps standing none =
      none_fewer (λ r. is_fixed_part q r && not (keeps r)) (λ r. is_fixed_part q r && not (stands q s r))
      (λ r is.
      let both = and_parts (is_fixed_part q r) (not (stands q s r)) is in
      and_from (is_fixed_part q r) (not (keeps r)) both.0 (not_fewer (keeps r) (stands q s r) (standing r) both.1))
      (system_parts q s) none

  pub growing_fixed : earliest q (is_not_reached q s) ≡ None → AreKeptStaying q s (growing q s) → AreFixedKept q s (growing q s)
  growing_fixed reached stay = record {
    stand = record { told = reached; fixed = fixed_stand (growing q s).stays (growing_stands q s) stay.fixed };
    stay = stay;
  }

-- ---- what is refused

-- how settling where windows grow ends once all that is to stay does
abbrev grown_rest : Admission → Request → Settling
grown_rest a q =
    or_lack (lacking q (system_in a) (growing q (system_in a))) (or_written q (system_in a) (growing q (system_in a)) (Settled (settle_writes q (system_in a) (growing q (system_in a)))))

refused_after : (o : Option FunctionPart) (x : Settling) → IsNothingSettled x → IsNothingSettled (or_fixed o x)
refused_after None x is = is
refused_after (Some r) x is = tt

refused_told : (o : Option ToldRegion) (x : Settling) → IsNothingSettled x → IsNothingSettled (or_told o x)
refused_told None x is = is
refused_told (Some x) other is = tt

-- something that is told or fixed doesn't stay where windows grow
unstaying_refused : (a : Admission) (q : Request) → IsNothingSettled (or_not_staying q (system_in a) (growing q (system_in a)) (grown_rest a q)) → IsRefusedGrowing a q
unstaying_refused a q is =
    let s = system_in a in
    let staying : Settling = or_not_staying q s (growing q s) (grown_rest a q) in
    refused_told (earliest q (is_not_reached q s)) (or_fixed (fixed_without (stands q s) q s) staying) (refused_after (fixed_without (stands q s) q s) staying is)

pub refused_fixed : (a : Admission) (q : Request) (r : FunctionPart) → fixed_without (growing q (system_in a)).stays q (system_in a) ≡ Some r → IsRefusedGrowing a q
refused_fixed a q r at =
    let s = system_in a in
    let keep = growing q s in
    unstaying_refused a q (refused_told (earliest q (does_not_stay q s keep)) (or_fixed (fixed_without keep.stays q s) (grown_rest a q))
    (subst (λ o. IsNothingSettled (or_fixed o (grown_rest a q))) (sym at) tt))

pub refused_by : (a : Admission) (q : Request) (f : SettleFault) (o : Option FunctionPart) → fixed_without (growing q (system_in a)).stays q (system_in a) ≡ o → Some f ≡ option_map fixed_part o → IsRefusedGrowing a q
refused_by a q f None at e = absurd (none-some f (sym e))
refused_by a q f (Some r) at e = refused_fixed a q r at

not_grown_by : (a : Admission) (q : Request) (f : SettleFault) (o : Option FunctionPart) → Some f ≡ option_map fixed_part o → IsRefusedGrowing a q → IsNotGrown a q (refused.Fault f)
not_grown_by a q f None e is = absurd (none-some f (sym e))
not_grown_by a q fault.BadLists (Some r) e is = absurd (let no : ⊥ = cc in no)
not_grown_by a q (fault.Assumed slot reg) (Some r) e is = absurd (let no : ⊥ = cc in no)
not_grown_by a q (fault.NoRoom lack) (Some r) e is = is
not_grown_by a q (fault.TooLarge class slot) (Some r) e is = absurd (let no : ⊥ = cc in no)
not_grown_by a q (fault.Fixed slot reg) (Some r) e is = is
not_grown_by a q (fault.Told slot line) (Some r) e is = absurd (let no : ⊥ = cc in no)

module _ (a : Admission) (q : Request) where
  abbrev s : System
  s = system_in a

  pub unstaying_grown : (f : SettleFault) → Some f ≡ option_map fixed_part (fixed_without (growing q s).stays q s) → IsNotGrown a q (refused.Fault f)
  unstaying_grown f e =
      not_grown_by a q f (fixed_without (growing q s).stays q s) e (refused_by a q f (fixed_without (growing q s).stays q s) refl e)

  -- a told range that stands doesn't stay, or else a fixed part
  cut_grown_by : (f : SettleFault) (o : Option ToldRegion) → earliest q (does_not_stay q s (growing q s)) ≡ o → Some f ≡ option_map told_fault o → IsNotGrown a q (refused.Fault f)
  cut_grown_by f None at e = absurd (none-some f (sym e))
  cut_grown_by f (Some x) at e = subst (λ y. IsNotGrown a q (refused.Fault y)) (sym (same_Some f (told_fault x) e))
      (unstaying_refused a q (subst (λ o. IsNothingSettled (or_told o (or_fixed (fixed_without (growing q s).stays q s) (grown_rest a q)))) (sym at) tt))

  unkept_grown_by : (f : SettleFault) (o : Option SettleFault) → first_told q (does_not_stay q s (growing q s)) ≡ o
      → Some f ≡ or_other o (option_map fixed_part (fixed_without (growing q s).stays q s)) → IsNotGrown a q (refused.Fault f)
  unkept_grown_by f None at e = unstaying_grown f e
  unkept_grown_by f (Some g) at e = cut_grown_by f (earliest q (does_not_stay q s (growing q s))) refl (e ∙ sym at)

  pub unkept_grown : (f : SettleFault) → Some f ≡ kept_fault q s (growing q s) → IsNotGrown a q (refused.Fault f)
  unkept_grown f e = unkept_grown_by f (first_told q (does_not_stay q s (growing q s))) refl e

  pub not_grown : (e : Refused SettleFault) → IsEndedBy a q (growing q s) e → IsNotGrown a q e
  not_grown refused.Memory is = tt
  not_grown (refused.Fault fault.BadLists) is = absurd is
  not_grown (refused.Fault (fault.Assumed slot reg)) is = absurd is
  not_grown (refused.Fault (fault.NoRoom lack)) is = subst IsNothingSettled (sym is) tt
  not_grown (refused.Fault (fault.TooLarge class slot)) is = is.at
  not_grown (refused.Fault (fault.Fixed slot reg)) is = subst IsNothingSettled (sym is) tt
  not_grown (refused.Fault (fault.Told slot line)) is = subst IsNothingSettled (sym is) tt

  pub large_not_grown : (w : TooLarge) (f : SettleFault) → IsTooLarge q s (kind_value w.class) w.function → IsSettleFaultOf s (too_large w) f → IsNotGrown a q (refused.Fault f)
  large_not_grown w fault.BadLists large of = absurd of
  large_not_grown w (fault.Assumed slot reg) large of = absurd of
  large_not_grown w (fault.NoRoom lack) large of = absurd of
  large_not_grown w (fault.Fixed slot reg) large of = absurd of
  large_not_grown w (fault.Told slot line) large of = absurd of
  large_not_grown w (fault.TooLarge name slot) large of =
      record { function = w.function; is = of.1; large = subst (λ c. IsTooLarge q s (kind_value c) w.function) (sym of.0) large }

  -- ---- which of the two is kept

  module _ (o : Ended) where
    pub ended_growing : IsEndOfSettling q (growing q s) a o → IsEndOfSettling q (kept_after q s) a o
    ended_growing is = subst (λ (k : Kept). IsEndOfSettling q k a o)
        (sym (ap (λ end. kept_by end (growing q s) (as_it_stands q s)) is.ends)) is

    pub ended_anew : q.told.ranges ≡ [] → q.anew ≡ true → IsEndOfSettling q (as_it_stands q s) a o → IsEndOfSettling q (kept_after q s) a o
    ended_anew untold anew is = ended_growing (subst (λ (k : Kept). IsEndOfSettling q k a o) (sym (growing_is_standing q (held_of q untold) s anew)) is)

    refused_kept : (end : Settling) (own other : Kept) → IsNothingSettled end → kept_by end own other ≡ other
    refused_kept (Settled writes) own other is = absurd is
    refused_kept BadLists own other is = refl
    refused_kept (Fixed slot register) own other is = refl
    refused_kept (NotKept slot register) own other is = refl
    refused_kept (NoRoom class slot register size alignment) own other is = refl

    standing_after : IsRefusedGrowing a q → IsEndOfSettling q (as_it_stands q s) a o → IsEndOfSettling q (kept_after q s) a o
    standing_after refused is = subst (λ (k : Kept). IsEndOfSettling q k a o) (sym (refused_kept (after_lists q s (growing q s)) (growing q s) (as_it_stands q s) refused)) is

    pub ended_standing : (f : SettleFault) → IsNotGrown a q (refused.Fault f) → is_too_large f ≡ false → IsEndOfSettling q (as_it_stands q s) a o → IsEndOfSettling q (kept_after q s) a o
    ended_standing fault.BadLists none small is = absurd none
    ended_standing (fault.Assumed slot reg) none small is = absurd none
    ended_standing (fault.NoRoom lack) none small is = standing_after none is
    ended_standing (fault.TooLarge class slot) none small is = absurd (both_ways true small refl)
    ended_standing (fault.Fixed slot reg) none small is = standing_after none is
    ended_standing (fault.Told slot line) none small is = standing_after none is

  anew_refused : q.told.ranges ≡ [] → q.anew ≡ true → (end : Settling) → after_lists q s (as_it_stands q s) ≡ end → IsNothingSettled end → IsRefusedGrowing a q
  anew_refused untold anew end is refused = subst IsNothingSettled (sym (ap (after_lists q s) (growing_is_standing q (held_of q untold) s anew) ∙ is)) refused

  pub after_anew : q.told.ranges ≡ [] → q.anew ≡ true → (e : Refused SettleFault) → IsEndedBy a q (as_it_stands q s) e → IsEndedAfter a q e
  after_anew untold anew refused.Memory is = tt
  after_anew untold anew (refused.Fault fault.BadLists) is = absurd is
  after_anew untold anew (refused.Fault (fault.Assumed slot reg)) is = absurd is
  after_anew untold anew (refused.Fault (fault.NoRoom lack)) is = (is, inl (anew_refused untold anew (no_room lack) is tt))
  after_anew untold anew (refused.Fault (fault.TooLarge class slot)) is = is
  after_anew untold anew (refused.Fault (fault.Fixed slot reg)) is = (is, inl (anew_refused untold anew (Fixed slot reg) is tt))
  after_anew untold anew (refused.Fault (fault.Told slot line)) is = (is, inl (anew_refused untold anew (not_kept slot line) is tt))

  -- ---- with lists that are fine

  module _ (fine : are_bad_lists q.roots q.lists ≡ false) where
    pub growing_ends : settle_growing q s ≡ or_else (after_lists q s (growing q s)) (after_lists q s (as_it_stands q s))
    growing_ends = ap (λ o. or_else o (settle_keeping q s (as_it_stands q s))) (ends_fine q s (growing q s) fine)
        ∙ ap (or_else (after_lists q s (growing q s))) (ends_fine q s (as_it_stands q s) fine)

    same_kept : finally_kept q s ≡ kept_after q s
    same_kept = ap (λ o. kept_by o (growing q s) (as_it_stands q s)) (ends_fine q s (growing q s) fine)

    at_last : (f : Kept → Settling) (own other : Kept) (o : Settling) → f own ≡ o → or_else o (f other) ≡ f (kept_by o own other)
    at_last f own other (Settled writes) e = sym e
    at_last f own other BadLists e = refl
    at_last f own other (Fixed slot register) e = refl
    at_last f own other (NotKept slot register) e = refl
    at_last f own other (NoRoom class slot register size alignment) e = refl

    module _ (o : Ended) (is : IsEndOfSettling q (kept_after q s) a o) where
      pub settles : settle_growing q s ≡ Settled o.writes
      settles = growing_ends ∙ at_last (after_lists q s) (growing q s) (as_it_stands q s) (after_lists q s (growing q s)) refl ∙ is.ends

      pub ended : IsEndOfSettling q (finally_kept q s) a o
      ended = subst (λ (k : Kept). IsEndOfSettling q k a o) (sym same_kept) is

    -- what is refused is refused, or some new window is too large
    or_else_refused : (own other : Settling) → IsNothingSettled own → or_else own other ≡ other
    or_else_refused (Settled writes) other is = absurd is
    or_else_refused BadLists other is = refl
    or_else_refused (Fixed slot register) other is = refl
    or_else_refused (NotKept slot register) other is = refl
    or_else_refused (NoRoom class slot register size alignment) other is = refl

    unsettled_after : (end : Settling) → EndsAfter a q end → is_settled end ≡ false → (is_settled (settle_growing q s) ≡ false) ⊎ HasLarge a q
    unsettled_after end is refused = elim is.1 [
      | inl grown ↦ inl (ap is_settled (growing_ends ∙ or_else_refused (after_lists q s (growing q s)) (after_lists q s (as_it_stands q s)) grown ∙ is.0) ∙ refused)
      | inr large ↦ inr large
    ]

    pub unsettled : (f : SettleFault) → IsEndedAfter a q (refused.Fault f) → (is_settled (settle_growing q s) ≡ false) ⊎ HasLarge a q
    unsettled fault.BadLists is = absurd is
    unsettled (fault.Assumed slot reg) is = absurd is
    unsettled (fault.NoRoom lack) is = unsettled_after (no_room lack) is refl
    unsettled (fault.TooLarge class slot) is = inr record { class = kind_value class; slot = slot; at = is.at }
    unsettled (fault.Fixed slot reg) is = unsettled_after (Fixed slot reg) is refl
    unsettled (fault.Told slot line) is = unsettled_after (not_kept slot line) is refl

    -- and how the refusal is told
    refusal_ends : (end : Settling) → EndsAfter a q end → EndsWith a q end
    refusal_ends end is = elim is.1 [
      | inl grown ↦ inl (growing_ends ∙ or_else_refused (after_lists q s (growing q s)) (after_lists q s (as_it_stands q s)) grown ∙ is.0)
      | inr large ↦ inr (large, ends_fine q s (as_it_stands q s) fine ∙ is.0)
    ]

    pub refusal_of : HasNoAssumed a → (e : Refused SettleFault) → IsEndedAfter a q e → IsRefusal a q e
    refusal_of sized refused.Memory is = tt
    refusal_of sized (refused.Fault fault.BadLists) is = absurd is
    refusal_of sized (refused.Fault (fault.Assumed slot reg)) is = absurd is
    refusal_of sized (refused.Fault (fault.NoRoom lack)) is = (sized, refusal_ends (no_room lack) is)
    refusal_of sized (refused.Fault (fault.TooLarge class slot)) is = (fine, sized, is)
    refusal_of sized (refused.Fault (fault.Fixed slot reg)) is = (sized, refusal_ends (Fixed slot reg) is)
    refusal_of sized (refused.Fault (fault.Told slot line)) is = (sized, refusal_ends (not_kept slot line) is)

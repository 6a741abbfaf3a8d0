-- What a survey has taken, function by function.
use Rattle.std.proofs.Common.{◌≡◌, ℕ, ◌+◌, ◌<◌, ◌≤◌, List, [], ◌∷◌, ◌++◌, map, refl, true, false, inl, inr, arith, sym, ◌∙◌, ap, subst, Option, Some, None}
use Rattle.std.specs.Prelude.{nat_lt}
use Rattle.std.specs.List.{Contains}
use Rattle.std.proofs.lemmas.Bool.{cases_Bool, ltb-true, cases_lt, lt-ltb, both_ways}
use Rattle.std.proofs.lemmas.List.{append_assoc, map_push}
use Rattle.std.proofs.lemmas.List.Elements.{All-push, Contains-push_cases}
use Rattle.pci_spec.specs.Slot.{Slot, IsSlot, slot_number}
use Rattle.pci_spec.specs.Stops.{IsAboveLast}
use Rattle.pci_spec.specs.System.{System, Function}
use Rattle.pci_spec.specs.Fault.{Fault}
use Rattle.pci_spec.specs.Decoded.{record_of}
use Rattle.pci_spec.specs.Decoded as decoded
use Rattle.pci_spec.proofs.Members.{in_nil, in_cons_cases, pairs_append, pairs_cons, pairs_nil}
use Rattle.pci_function.specs.declared.record.Record.{Record}
use Rattle.pci_tree.specs.Regions.{IsLawful}
use Rattle.pci_spec.specs.Order.{phase_of}
use Rattle.pci_function.specs.Profile.{IsClearBefore, IsFirstFault, IsExamined}
use Rattle.std.specs.Option.{is_some, option_map}
use Rattle.pci_tree.specs.declared.roots.Roots.{Roots}
use Rattle.pci_function.specs.declared.fault.Fault.{Fault as FaultOfCode}
use Rattle.pci_tree.specs.Roots.{buses_of}
use Rattle.pci_function.specs.Fault.{fault_of}
use Rattle.pci_function.specs.Values.{record_value}
use Rattle.pci_tree.specs.Survey.{Surveyed, AreKept, IsUpTo, phase_noted, earlier, IsNoted, IsSurveyOf, IsAdded}

-- ---- phases

-- before an earlier phase nothing is wrong either
pub clear_earlier : (m n : ℕ) (f : Function) → n ≤ m → IsClearBefore m f → IsClearBefore n f
clear_earlier m n f le is = record {
  answers = λ lt. is.answers (omega (arith, le, lt));
  registers = λ lt. is.registers (omega (arith, le, lt));
  profile = λ lt. is.profile (omega (arith, le, lt));
}

-- where nothing is wrong with a function by itself, nothing is before any phase
pub clear_everywhere : (n : ℕ) (f : Function) → IsClearBefore 4 f → IsClearBefore n f
clear_everywhere n f is = record {
  answers = λ lt. is.answers (omega arith);
  registers = λ lt. is.registers (omega arith);
  profile = λ lt. is.profile (omega arith);
}

-- a function that is clear before the noted fault's phase is so before that of the earlier of two
clear_of_noted : (o : Option Fault) (e : Fault) (g : Function) → IsClearBefore (phase_noted o) g → IsClearBefore (phase_of (earlier o e)) g
clear_of_noted None e g is = clear_everywhere (phase_of e) g is
clear_of_noted (Some n) e g is = elim (cases_Bool (nat_lt (phase_of e) (phase_of n))) [
  | inl less ↦ rw less (clear_earlier (phase_of n) (phase_of e) g (let lt = ltb-true (phase_of e) (phase_of n) less in omega (arith, lt)) is)
  | inr not_less ↦ rw not_less is
]

clear_of_found : (o : Option Fault) (e : Fault) (f : Function) → IsClearBefore (phase_of e) f → IsClearBefore (phase_of (earlier o e)) f
clear_of_found None e f is = is
clear_of_found (Some n) e f is = elim (cases_Bool (nat_lt (phase_of e) (phase_of n))) [
  | inl less ↦ rw less is
  | inr not_less ↦ rw not_less (clear_earlier (phase_of e) (phase_of n) f (elim (cases_lt (phase_of e) (phase_of n)) [
    | inl lt ↦ absurd (both_ways _ not_less (lt-ltb (phase_of e) (phase_of n) lt))
    | inr le ↦ le
  ]) is)
]

noted_more : (s : System) (f : Function) (e : Fault) → IsNoted s e → IsNoted (s ++ f ∷ []) e
noted_more s f e is = elim is [
  | inl slots ↦ inl slots
  | inr x ↦ inr (record {
    f = x.f;
    before = x.before;
    after = x.after ++ f ∷ [];
    split = ap (λ xs. xs ++ f ∷ []) x.split ∙ append_assoc x.before (x.f ∷ x.after) (f ∷ []);
    here = x.here;
    first = x.first;
    earlier = x.earlier;
  })
]

-- the last function's first fault, where none of its phase was noted before
first_at_last : (s : System) (f : Function) (e : Fault) → IsFirstFault f e → ((g : Function) → Contains s g → IsClearBefore (phase_of e + 1) g) → IsNoted (s ++ f ∷ []) e
first_at_last s f e first clear = inr (record { f = f; before = s; after = []; split = refl; here = first.here; first = first.first; earlier = clear })

noted_earlier : (o : Option Fault) (e : Fault) (s : System) (f : Function) → ((x : Fault) → o ≡ Some x → IsNoted s x)
    → ((g : Function) → Contains s g → IsClearBefore (phase_noted o) g) → IsFirstFault f e → IsNoted (s ++ f ∷ []) (earlier o e)
noted_earlier None e s f there clear first = first_at_last s f e first (λ g has. clear_everywhere (phase_of e + 1) g (clear g has))
noted_earlier (Some n) e s f there clear first = elim (cases_Bool (nat_lt (phase_of e) (phase_of n))) [
  | inl less ↦
      let lt = ltb-true (phase_of e) (phase_of n) less in
      rw less (first_at_last s f e first (λ g has. clear_earlier (phase_of n) (phase_of e + 1) g (omega (arith, lt)) (clear g has)))
  | inr not_less ↦ rw not_less (noted_more s f n (there n refl))
]

some_value : (x y : Fault) → Some x ≡ Some y → x ≡ y
some_value x y e = cc

-- ---- a survey of one function more

module _ (v w : Surveyed) (s : System) (f : Function) (is : IsSurveyOf v s) where
  -- where nothing was found
  unchanged : IsAdded v w f → IsClearBefore 4 f → w.fault ≡ v.fault → IsSurveyOf w (s ++ f ∷ [])
  unchanged added clear same = record {
    clear = λ g has. elim (Contains-push_cases s f g has) [
      | inl left ↦ subst (λ o. IsClearBefore (phase_noted o) g) (sym same) (is.clear g left)
      | inr last ↦ subst (λ h. IsClearBefore (phase_noted w.fault) h) last (clear_everywhere (phase_noted w.fault) f clear)
    ];
    there = λ e noted. noted_more s f e (is.there e (sym same ∙ noted));
    same = λ none. map_push record_of s f ∙ ap (λ rs. rs ++ record_of f ∷ []) (is.same (sym same ∙ none)) ∙ sym (added.appended none);
  }

  -- where a fault was found
  found : (e : Fault) → IsFirstFault f e → w.fault ≡ Some (earlier v.fault e) → IsSurveyOf w (s ++ f ∷ [])
  found e first same = record {
    clear = λ g has. subst (λ o. IsClearBefore (phase_noted o) g) (sym same) (elim (Contains-push_cases s f g has) [
      | inl left ↦ clear_of_noted v.fault e g (is.clear g left)
      | inr last ↦ subst (λ h. IsClearBefore (phase_of (earlier v.fault e)) h) last (clear_of_found v.fault e f first.clear)
    ]);
    there = λ x noted. subst (λ y. IsNoted (s ++ f ∷ []) y) (some_value _ x (sym same ∙ noted)) (noted_earlier v.fault e s f is.there is.clear first);
    same = λ none. absurd (let no : None ≡ Some (earlier v.fault e) = sym none ∙ same in cc);
  }

-- a survey that took one more function is one of the functions with it
pub survey_more : (v w : Surveyed) (s : System) (f : Function) → IsAdded v w f → IsSurveyOf v s → IsSurveyOf w (s ++ f ∷ [])
survey_more v w s f added is = elim added.noted [
  | inl (clear, same) ↦ unchanged v w s f is added clear same
  | inr (e, first, same) ↦ found v w s f is e first same
]

-- ---- how one is added

none_is_not_some : (o : Option Fault) (e : Fault) → o ≡ None → o ≡ Some e → ⊥
none_is_not_some o e none some = cc

-- a record is appended where nothing is noted
pub added_record : (v w : Surveyed) (f : Function) (r : decoded.Record) → v.fault ≡ None → w.fault ≡ v.fault → IsClearBefore 4 f → r ≡ record_of f → w.records ≡ v.records ++ r ∷ []
    → w.roots ≡ v.roots → w.last ≡ Some f.slot → IsAdded v w f
added_record v w f r none same clear is records roots last = record {
  noted = inl (clear, same);
  appended = λ e. records ∙ ap (λ x. v.records ++ x ∷ []) is;
  kept = λ e some. absurd (none_is_not_some w.fault e (same ∙ none) some);
  roots = roots;
  last = last;
}

-- none is where a fault is
pub added_nothing : (v w : Surveyed) (f : Function) (n : Fault) → v.fault ≡ Some n → w.fault ≡ v.fault → IsClearBefore 4 f → w.records ≡ v.records
    → w.roots ≡ v.roots → w.last ≡ Some f.slot → IsAdded v w f
added_nothing v w f n some same clear records roots last = record {
  noted = inl (clear, same);
  appended = λ none. absurd (none_is_not_some w.fault n none (same ∙ some));
  kept = λ e x. records;
  roots = roots;
  last = last;
}

-- a fault that is found is noted, if it is the earlier
pub added_fault : (v w : Surveyed) (f : Function) (e : Fault) → IsFirstFault f e → w.fault ≡ Some (earlier v.fault e) → w.records ≡ v.records
    → w.roots ≡ v.roots → w.last ≡ Some f.slot → IsAdded v w f
added_fault v w f e first some records roots last = record {
  noted = inr (e, first, some);
  appended = λ none. absurd (none_is_not_some w.fault _ none some);
  kept = λ x y. records;
  roots = roots;
  last = last;
}

-- ---- what each survey keeps

up_to_more : (last : Option Slot) (slot s : Slot) → IsAboveLast last slot → IsUpTo last s → slot_number s < slot_number slot
up_to_more None slot s above up = absurd up
up_to_more (Some l) slot s above up = omega (arith, above, up)

-- a later slot leaves the records as they are
pub kept_later : (rs : List Record) (last : Option Slot) (slot : Slot) → AreKept rs last → IsAboveLast last slot → AreKept rs (Some slot)
kept_later rs last slot kept above = record {
  slots = kept.slots;
  rising = kept.rising;
  lawful = kept.lawful;
  below = λ r has. (let lt = up_to_more last slot r.slot above (kept.below r has) in omega (arith, lt));
}

-- and a record with that slot may be appended
pub kept_more : (rs : List Record) (r : Record) (last : Option Slot) (slot : Slot) → AreKept rs last → IsAboveLast last slot → r.slot ≡ slot → IsSlot slot → IsLawful r → AreKept (rs ++ r ∷ []) (Some slot)
kept_more rs r last slot kept above same is lawful = record {
  slots = All-push (λ x. IsSlot x.slot) rs r kept.slots (subst IsSlot (sym same) is);
  rising = pairs_append (λ x y. slot_number x.slot < slot_number y.slot) rs (r ∷ []) kept.rising
      (pairs_cons (λ x y. slot_number x.slot < slot_number y.slot) r [] (λ y has. absurd (in_nil y has)) (pairs_nil (λ x y. slot_number x.slot < slot_number y.slot)))
      (λ x y left right. elim (in_cons_cases r [] y right) [
        | inl here ↦ (let lt = up_to_more last slot x.slot above (kept.below x left) in let e = ap (λ (z : Record). slot_number z.slot) here in let e2 = ap slot_number same in omega (arith, lt, e, e2))
        | inr later ↦ absurd (in_nil y later)
      ]);
  lawful = All-push IsLawful rs r kept.lawful lawful;
  below = λ x has. elim (Contains-push_cases rs r x has) [
    | inl left ↦ (let lt = up_to_more last slot x.slot above (kept.below x left) in omega (arith, lt))
    | inr here ↦ (let e = ap (λ (z : Record). slot_number z.slot) here in let e2 = ap slot_number same in omega (arith, e, e2))
  ];
}

-- ---- the parts of a survey

-- a survey of these parts
abbrev pub survey_of : List Record → Roots → Option FaultOfCode → Option Slot → Surveyed
survey_of rs roots noted last = record { roots = buses_of roots; records = map record_value rs; fault = option_map fault_of noted; last = last }

option_some : (o : Option FaultOfCode) → is_some o ≡ true → (n : FaultOfCode) × (o ≡ Some n)
option_some None is = absurd (both_ways false refl is)
option_some (Some n) is = (n, refl)

option_none : (o : Option FaultOfCode) → is_some o ≡ false → o ≡ None
option_none None is = refl
option_none (Some n) is = absurd (both_ways true is refl)

-- its record is appended
pub append_record : (rs : List Record) (roots : Roots) (noted : Option FaultOfCode) (last : Option Slot) (f : Function) (r : Record) → is_some noted ≡ false → IsExamined f r
    → IsAdded (survey_of rs roots noted last) (survey_of (rs ++ r ∷ []) roots noted (Some f.slot)) f
append_record rs roots noted last f r none is =
    added_record (survey_of rs roots noted last) (survey_of (rs ++ r ∷ []) roots noted (Some f.slot)) f (record_value r) (ap (option_map fault_of) (option_none noted none)) refl is.clear is.decoded.same
    (map_push record_value rs r) refl refl

-- or isn't, where a fault is noted
pub append_nothing : (rs : List Record) (roots : Roots) (noted : Option FaultOfCode) (last : Option Slot) (f : Function) (r : Record) → is_some noted ≡ true → IsExamined f r
    → IsAdded (survey_of rs roots noted last) (survey_of rs roots noted (Some f.slot)) f
append_nothing rs roots noted last f r full is =
    let n = option_some noted full in
    added_nothing (survey_of rs roots noted last) (survey_of rs roots noted (Some f.slot)) f (fault_of n.0) (ap (option_map fault_of) n.1) refl is.clear refl refl refl

-- a fault that is found is noted
pub append_fault : (rs : List Record) (roots : Roots) (noted : Option FaultOfCode) (last : Option Slot) (f : Function) (e now : FaultOfCode) → IsFirstFault f (fault_of e)
    → fault_of now ≡ earlier (option_map fault_of noted) (fault_of e) → IsAdded (survey_of rs roots noted last) (survey_of rs roots (Some now) (Some f.slot)) f
append_fault rs roots noted last f e now first is =
    added_fault (survey_of rs roots noted last) (survey_of rs roots (Some now) (Some f.slot)) f (fault_of e) first (ap Some is) refl refl refl

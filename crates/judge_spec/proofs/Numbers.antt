-- The lists of the four faults of judging make a list of all, with what is given, and with what is told, too.
use Rattle.std.proofs.Common.{◌≡◌, ℕ, ◌<◌, ◌≤◌, inl, inr, List, ◌++◌, true, refl, arith, sym, ◌∙◌, subst, append_assoc}
use Rattle.std.specs.Bool.{IsTrue}
use Rattle.std.specs.List.{AllPairs, Contains}
use Rattle.std.proofs.lemmas.List.Elements.{Contains-append_left, Contains-append_right, Contains-append_cases}
use Rattle.pci_spec.specs.System.{System}
use Rattle.pci_spec.specs.Fault.{Unreached, Clash, Split}
use Rattle.pci_spec.specs.Fault as plain
use Rattle.pci_spec.specs.Order.{precedes}
use Rattle.pci_spec.proofs.Members.{pairs_append}
use Rattle.judge_spec.specs.Given.{Given}
use Rattle.judge_spec.specs.Fault.{Fault, Known, Outside, fault_number}
use Rattle.judge_spec.specs.AllFaults.{IsNamed, judging_key}
use Rattle.judge_spec.specs.Numbered.{AllOfFour}
use Rattle.judge_spec.specs.ToldClaims.{Told}
use Rattle.judge_spec.specs.ToldAllFaults as told_faults
use Rattle.judge_spec.specs.ToldNumbered as told_numbered

-- how early judging looks for a number
abbrev turn : Fault → ℕ
turn (Outside slot register space a) = 0
turn (Known fault) = plain.fault_number fault

-- the fault is one of judging
abbrev IsOfJudging : Fault → Type 0
IsOfJudging (Outside slot register space a) = Unit {0}
IsOfJudging (Known (Unreached slot register space a bridge)) = Unit {0}
IsOfJudging (Known (Clash bus space a first fr second sr)) = Unit {0}
IsOfJudging (Known (Split space a first fr second sr)) = Unit {0}
IsOfJudging (Known fault) = ⊥

-- ---- what is looked for earlier has the lesser key

known_before : (f g : plain.Fault) → IsOfJudging (Known f) → IsOfJudging (Known g) → plain.fault_number f < plain.fault_number g
    → precedes (judging_key (Known f)) (judging_key (Known g)) ≡ true
known_before (Unreached t r sp a c) (Clash n sq b f q g m) one two less = refl
known_before (Unreached t r sp a c) (Split sq b f q g m) one two less = refl
known_before (Clash n sp a f r g q) (Split sq b h k i l) one two less = refl
known_before f g one two less = absurd (search arith)

before : (f g : Fault) → IsOfJudging f → IsOfJudging g → turn f < turn g → precedes (judging_key f) (judging_key g) ≡ true
before (Outside t r sp a) (Outside u q sq b) one two less = absurd (let no : ⊥ = omega (arith, less) in no)
before (Outside t r sp a) (Known g) one two less = refl
before (Known f) (Outside u q sq b) one two less = absurd (let no : ⊥ = omega (arith, less) in no)
before (Known f) (Known g) one two less = known_before f g one two less

abbrev Before : Fault → Fault → Type 0
Before f g = IsTrue (precedes (judging_key f) (judging_key g))

known_turn : (n : ℕ) (f : Fault) → n < 63 → fault_number f ≡ n → turn f ≡ n
known_turn n (Outside t r sp a) less e = absurd (let no : ⊥ = omega (arith, less, e) in no)
known_turn n (Known f) less e = e

outside_turn : (f : Fault) → IsOfJudging f → fault_number f ≡ 63 → turn f ≡ 0
outside_turn (Outside t r sp a) judging e = refl
outside_turn (Known (Unreached t r sp a c)) judging e = absurd (let no : ⊥ = omega (arith, e) in no)
outside_turn (Known (Clash n sq b f q g m)) judging e = absurd (let no : ⊥ = omega (arith, e) in no)
outside_turn (Known (Split sq b f q g m)) judging e = absurd (let no : ⊥ = omega (arith, e) in no)
outside_turn (Known f) judging e = absurd judging

-- ---- lists of the faults that are named, whichever these are

module _ (Named : Fault → Type 0) (are_judging : (f : Fault) → Named f → IsOfJudging f) where
  record AreNumbered (number : ℕ) (faults : List Fault) : Type 0 where
    each : (fault : Fault) → Contains faults fault → Named fault × (fault_number fault ≡ number)
    complete : (fault : Fault) → Named fault → fault_number fault ≡ number → Contains faults fault
    rising : AllPairs Before faults

  record AreAll (faults : List Fault) : Type 0 where
    each : (fault : Fault) → Contains faults fault → Named fault
    complete : (fault : Fault) → Named fault → Contains faults fault
    rising : AllPairs Before faults

  module _ (outside unreached clashes splits : List Fault) (of_outside : AreNumbered 63 outside) (of_unreached : AreNumbered 60 unreached)
      (of_clashes : AreNumbered 61 clashes) (of_splits : AreNumbered 62 splits) where
    abbrev late : List Fault
    late = clashes ++ splits

    abbrev known : List Fault
    known = unreached ++ late

    -- a fault of a part of the list, with its turn
    abbrev IsAtTurn : (low high : ℕ) → Fault → Type 0
    IsAtTurn low high f = Named f × (low ≤ turn f) × (turn f ≤ high)

    in_splits : (f : Fault) → Contains splits f → IsAtTurn 62 62 f
    in_splits f has = let is = of_splits.each f has in let e = known_turn 62 f (omega arith) is.1 in (is.0, omega (arith, e), omega (arith, e))

    in_clashes : (f : Fault) → Contains clashes f → IsAtTurn 61 61 f
    in_clashes f has = let is = of_clashes.each f has in let e = known_turn 61 f (omega arith) is.1 in (is.0, omega (arith, e), omega (arith, e))

    in_unreached : (f : Fault) → Contains unreached f → IsAtTurn 60 60 f
    in_unreached f has = let is = of_unreached.each f has in let e = known_turn 60 f (omega arith) is.1 in (is.0, omega (arith, e), omega (arith, e))

    in_outside : (f : Fault) → Contains outside f → IsAtTurn 0 0 f
    in_outside f has = let is = of_outside.each f has in let e = outside_turn f (are_judging f is.0) is.1 in (is.0, omega (arith, e), omega (arith, e))

    in_late : (f : Fault) → Contains late f → IsAtTurn 61 62 f
    in_late f has = elim (Contains-append_cases clashes splits f has) [
      | inl one ↦ (let is = in_clashes f one in let up = is.2 in (is.0, is.1, omega (arith, up)))
      | inr one ↦ (let is = in_splits f one in let low = is.1 in (is.0, omega (arith, low), is.2))
    ]

    in_known : (f : Fault) → Contains known f → IsAtTurn 60 62 f
    in_known f has = elim (Contains-append_cases unreached late f has) [
      | inl one ↦ (let is = in_unreached f one in let up = is.2 in (is.0, is.1, omega (arith, up)))
      | inr one ↦ (let is = in_late f one in let low = is.1 in (is.0, omega (arith, low), is.2))
    ]

    one_before : (low mid high top : ℕ) (f g : Fault) → mid < high → IsAtTurn low mid f → IsAtTurn high top g → Before f g
    one_before low mid high top f g less one two =
        let up = one.2 in
        let down = two.1 in
        before f g (are_judging f one.0) (are_judging g two.0) (omega (arith, less, up, down))

    rise_late : AllPairs Before late
    rise_late = pairs_append Before clashes splits of_clashes.rising of_splits.rising (λ f g has other. one_before 61 61 62 62 f g (omega arith) (in_clashes f has) (in_splits g other))

    rise_known : AllPairs Before known
    rise_known = pairs_append Before unreached late of_unreached.rising rise_late (λ f g has other. one_before 60 60 61 62 f g (omega arith) (in_unreached f has) (in_late g other))

    rise_all : AllPairs Before (outside ++ known)
    rise_all = pairs_append Before outside known of_outside.rising rise_known (λ f g has other. one_before 0 0 60 62 f g (omega arith) (in_outside f has) (in_known g other))

    complete_all : (f : Fault) → Named f → Contains (outside ++ known) f
    complete_all (Outside t r sp a) named = Contains-append_left outside known (Outside t r sp a) (of_outside.complete (Outside t r sp a) named refl)
    complete_all (Known (Unreached t r sp a c)) named =
        let f = Known (Unreached t r sp a c) in
        Contains-append_right outside known f (Contains-append_left unreached late f (of_unreached.complete f named refl))
    complete_all (Known (Clash n sp a t r u q)) named =
        let f = Known (Clash n sp a t r u q) in
        Contains-append_right outside known f (Contains-append_right unreached late f (Contains-append_left clashes splits f (of_clashes.complete f named refl)))
    complete_all (Known (Split sp a t r u q)) named =
        let f = Known (Split sp a t r u q) in
        Contains-append_right outside known f (Contains-append_right unreached late f (Contains-append_right clashes splits f (of_splits.complete f named refl)))
    complete_all (Known f) named = absurd (are_judging (Known f) named)

    all_are : AreAll (outside ++ unreached ++ clashes ++ splits)
    all_are =
        let same : outside ++ unreached ++ clashes ++ splits ≡ outside ++ (unreached ++ (clashes ++ splits)) =
        append_assoc (outside ++ unreached) clashes splits ∙ append_assoc outside unreached (clashes ++ splits) in
        subst AreAll (sym same) record {
          each = λ f has. elim (Contains-append_cases outside known f has) [ inl one ↦ (in_outside f one).0 | inr one ↦ (in_known f one).0 ];
          complete = complete_all;
          rising = rise_all;
        }

-- ---- with what is given

judging_alone : (given : Given) (roots : List ℕ) (s : System) (f : Fault) → IsNamed given roots s f → IsOfJudging f
judging_alone given roots s (Outside t r sp a) named = tt {0}
judging_alone given roots s (Known (Unreached t r sp a c)) named = tt {0}
judging_alone given roots s (Known (Clash n sp a t r u q)) named = tt {0}
judging_alone given roots s (Known (Split sp a t r u q)) named = tt {0}
judging_alone given roots s (Known f) named = absurd named

pub all_of_four : AllOfFour
all_of_four given roots s outside unreached clashes splits of_outside of_unreached of_clashes of_splits =
    let all = all_are (IsNamed given roots s) (judging_alone given roots s) outside unreached clashes splits
    record { each = of_outside.each; complete = of_outside.complete; rising = of_outside.rising }
    record { each = of_unreached.each; complete = of_unreached.complete; rising = of_unreached.rising }
    record { each = of_clashes.each; complete = of_clashes.complete; rising = of_clashes.rising }
    record { each = of_splits.each; complete = of_splits.complete; rising = of_splits.rising } in
    record { each = all.each; complete = all.complete; rising = all.rising }

-- ---- and with what is told

told_judging : (told : Told) (given : Given) (roots : List ℕ) (s : System) (f : Fault) → told_faults.IsNamed told given roots s f → IsOfJudging f
told_judging told given roots s (Outside t r sp a) named = tt {0}
told_judging told given roots s (Known (Unreached t r sp a c)) named = tt {0}
told_judging told given roots s (Known (Clash n sp a t r u q)) named = tt {0}
told_judging told given roots s (Known (Split sp a t r u q)) named = tt {0}
told_judging told given roots s (Known f) named = absurd named

pub told_all_of_four : told_numbered.AllOfFour
told_all_of_four told given roots s outside unreached clashes splits of_outside of_unreached of_clashes of_splits =
    let all = all_are (told_faults.IsNamed told given roots s) (told_judging told given roots s) outside unreached clashes splits
    record { each = of_outside.each; complete = of_outside.complete; rising = of_outside.rising }
    record { each = of_unreached.each; complete = of_unreached.complete; rising = of_unreached.rising }
    record { each = of_clashes.each; complete = of_clashes.complete; rising = of_clashes.rising }
    record { each = of_splits.each; complete = of_splits.complete; rising = of_splits.rising } in
    record { each = all.each; complete = all.complete; rising = all.rising }

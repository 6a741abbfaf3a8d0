-- Lists of the faults of one number with what is told, in order.
use Rattle.std.proofs.Common.{◌≡◌, ℕ, ◌<◌, List, length, get_or, map, refl, subst, sym, arith}
use Rattle.std.specs.List.{AllPairs, Contains}
use Rattle.std.specs.List.Sorted.{IsPermutation, IsNonDecreasingBy}
use Rattle.std.specs.Bool.{IsTrue}
use Rattle.std.proofs.lemmas.List.{length-map, get_or-map}
use Rattle.std.proofs.lemmas.List.Elements.{Contains-get_or}
use Rattle.std.proofs.lemmas.List.Sorted.{Contains-permutation, IsPermutation-sym}
use Rattle.pci_spec.specs.System.{System}
use Rattle.pci_spec.specs.Fault as plain
use Rattle.pci_spec.specs.Order.{precedes}
use Rattle.pci_spec.specs.Order as order
use Rattle.pci_spec.proofs.Members.{in_map_to, in_map_from, pairs_map}
use Rattle.pci_spec.proofs.FirstLines.{same_precedes}
use Rattle.judge_spec.specs.Given.{Given}
use Rattle.judge_spec.specs.Fault.{Known, Outside, fault_number}
use Rattle.judge_spec.specs.Fault as spec
use Rattle.judge_spec.specs.AllFaults.{judging_key}
use Rattle.judge_spec.specs.ToldClaims.{Told}
use Rattle.judge_spec.specs.ToldAllFaults.{IsNamed}
use Rattle.judge_spec.specs.ToldNumbered.{AreAllNumbered}
use Rattle.pci_claims.proofs.Making.{rise_in_order}
use Rattle.pci_faults.specs.JustLines.{AreJustLines}
use Rattle.pci_faults.proofs.Digits.{HaveOrderOf}

-- what a list of all names of a number other than 63, and the places of such faults
pub record AreLinesOf {X : Type 0} (value : X → plain.Fault) (place : X → ℕ) (number : ℕ) (told : Told) (given : Given) (roots : List ℕ) (s : System) (Line : plain.Fault → Type 0) : Type 0 where
  pub inside : 63 ≡ number → ⊥
  pub named : (f : plain.Fault) → Line f → IsNamed told given roots s (Known f) × (fault_number (Known f) ≡ number)
  pub line : (f : plain.Fault) → IsNamed told given roots s (Known f) → fault_number (Known f) ≡ number → Line f
  pub in_order : (x y : X) → Line (value x) → Line (value y) → HaveOrderOf (order.judging_key (value x)) (order.judging_key (value y)) (place x) (place y)

module _ {X : Type 0} (value : X → plain.Fault) (place : X → ℕ) (number : ℕ) (told : Told) (given : Given) (roots : List ℕ) (s : System) (Line : plain.Fault → Type 0) (are : AreLinesOf value place number told given roots s Line)
    (xs ys : List X) (just : AreJustLines Line (map value xs)) (moved : IsPermutation xs ys) (sorted : IsNonDecreasingBy place ys) where
  abbrev known : X → spec.Fault
  known x = Known (value x)

  line_of : (x : X) → Contains xs x → Line (value x)
  line_of x has = just.each (value x) (in_map_from value xs x has)

  line_in : (x : X) → Contains ys x → Line (value x)
  line_in x has = line_of x (Contains-permutation ys xs x (IsPermutation-sym xs ys moved) has)

  differ : AllPairs (λ x y. place x ≡ place y → ⊥) xs
  differ i j d less within same =
      let inside : i < length xs = omega (arith, less, within) in
      let size = length-map xs value in
      just.distinct i j (value d) less (omega (arith, within, size))
      (subst (λ (f : plain.Fault). order.judging_key f ≡ order.judging_key (get_or (map value xs) j (value d))) (sym (get_or-map value xs i d (value d) inside))
      (subst (λ (f : plain.Fault). order.judging_key (value (get_or xs i d)) ≡ order.judging_key f) (sym (get_or-map value xs j d (value d) within))
      ((are.in_order (get_or xs i d) (get_or xs j d) (line_of (get_or xs i d) (Contains-get_or xs i d inside)) (line_of (get_or xs j d) (Contains-get_or xs j d within))).same same)))

  rise : AllPairs (λ x y. place x < place y) ys
  rise = rise_in_order place xs ys differ moved sorted

  complete_of : (f : spec.Fault) → IsNamed told given roots s f → fault_number f ≡ number → Contains (map known ys) f
  complete_of (Known f) named same =
      let made = in_map_to value xs f (just.complete f (are.line f named same)) in
      subst (λ (x : plain.Fault). Contains (map known ys) (Known x)) made.is (in_map_from known ys made.from (Contains-permutation xs ys made.from moved made.has))
  complete_of (Outside slot register space a) named same = absurd (are.inside same)

  pub all_numbered : AreAllNumbered number told given roots s (map known ys)
  all_numbered = record {
    each = λ f has. (let made = in_map_to known ys f has in
        subst (λ (x : spec.Fault). IsNamed told given roots s x × (fault_number x ≡ number)) made.is (are.named (value made.from) (line_in made.from made.has)));
    complete = complete_of;
    rising = pairs_map (λ f g. IsTrue (precedes (judging_key f) (judging_key g))) known ys (λ i j d less within.
        same_precedes 1 1 (order.judging_key (value (get_or ys i d))) (order.judging_key (value (get_or ys j d))) refl
        ((are.in_order (get_or ys i d) (get_or ys j d) (line_in (get_or ys i d) (Contains-get_or ys i d (omega (arith, less, within)))) (line_in (get_or ys j d) (Contains-get_or ys j d within))).less (rise i j d less within)));
  }

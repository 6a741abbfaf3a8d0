-- Lists of faults of judging, one behind the other, with what is given and told.
use Rattle.std.proofs.Common.{◌≡◌, List, [], ◌∷◌, ◌++◌, map, refl, sym, ◌∙◌, ap}
use Rattle.std.proofs.lemmas.List.{map-append}
use Rattle.pci_tree.specs.Outline.{Tree}
use Rattle.judge_spec.specs.Given.{Given}
use Rattle.judge_spec.specs.Fault as untold
use Rattle.judge_spec.specs.ToldClaims.{Told}
use Rattle.judge_spec.specs.ToldFault as spec
use Rattle.judge_spec.proofs.Numbers.{told_all_of_four}
use Rattle.pci_faults.specs.declared.any_fault.AnyFault.{AnyFault}
use Rattle.pci_faults.specs.declared.any_fault.AnyFault.TheVariants as codes
use Rattle.pci_faults.specs.declared.named.Unreached.{Unreached}
use Rattle.pci_faults.specs.declared.named.Clash.{Clash}
use Rattle.pci_faults.specs.declared.named.Split.{Split}
use Rattle.pci_faults.specs.declared.named.Outside.{Outside}
use Rattle.pci_faults.specs.Named.{unreached_of, clash_of, split_of, outside_of, AreAllOutside, AreAllUnreached, AreAllClashes, AreAllSplits}
use Rattle.pci_faults.specs.AllLines.{any_fault_value, AreAllLines}

module _ {X : Type 0} (code : X → AnyFault) (of : X → untold.Fault) (is : (x : X) → any_fault_value (code x) ≡ spec.Known (of x)) where
  coded : (fs : List X) → map any_fault_value (map code fs) ≡ map spec.Known (map of fs)
  coded [] = refl
  coded (f ∷ fs) = ap (λ (l : List spec.Fault). any_fault_value (code f) ∷ l) (coded fs) ∙ ap (λ (g : spec.Fault). g ∷ map spec.Known (map of fs)) (is f)

  -- these are added to what is there
  behind : (xs : List AnyFault) (judged : List untold.Fault) (fs : List X) → map any_fault_value xs ≡ map spec.Known judged → map any_fault_value (xs ++ map code fs) ≡ map spec.Known (judged ++ map of fs)
  behind xs judged fs are =
      map-append any_fault_value xs (map code fs) ∙ ap (λ (l : List spec.Fault). l ++ map any_fault_value (map code fs)) are
      ∙ ap (λ (l : List spec.Fault). map spec.Known judged ++ l) (coded fs) ∙ sym (map-append spec.Known judged (map of fs))

module _ (o : List Outside) (u : List Unreached) (k : List Clash) (s : List Split) where
  abbrev joined : List AnyFault
  joined = ((map (λ f. codes.OutsideHost f) o ++ map (λ f. codes.Unreached f) u) ++ map (λ f. codes.Clash f) k) ++ map (λ f. codes.Split f) s

  joined_are : map any_fault_value joined ≡ map spec.Known (map outside_of o ++ map unreached_of u ++ map clash_of k ++ map split_of s)
  joined_are =
      behind (λ f. codes.Split f) split_of (λ f. refl) _ _ s (behind (λ f. codes.Clash f) clash_of (λ f. refl) _ _ k
      (behind (λ f. codes.Unreached f) unreached_of (λ f. refl) _ _ u (coded (λ f. codes.OutsideHost f) outside_of (λ f. refl) o)))

  pub all_lines : (told : Told) (given : Given) (t : Tree) (list : List AnyFault) → list ≡ joined → AreAllOutside told given t o → AreAllUnreached told given t u → AreAllClashes told given t k
      → AreAllSplits told given t s → AreAllLines told given t list
  all_lines told given t list is outsides unreached clashes splits = record {
    judged = map outside_of o ++ map unreached_of u ++ map clash_of k ++ map split_of s;
    are = ap (map any_fault_value) is ∙ joined_are;
    all = λ sys tree listed. told_all_of_four told given t.roots sys (map outside_of o) (map unreached_of u) (map clash_of k) (map split_of s)
        (outsides sys tree listed) (unreached sys tree listed) (clashes sys tree listed) (splits sys tree listed);
  }

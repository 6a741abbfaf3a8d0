-- The list of all faults of judging.
use Rattle.std.proofs.Common.{◌≡◌, ℕ, ◌<◌, ◌⊎◌, inl, inr, List, [], ◌++◌, get_or, map, refl, sym, ◌∙◌, ap, subst, arith}
use Rattle.std.specs.Prelude.{◌↔◌}
use Rattle.std.specs.List.{AllPairs, Contains}
use Rattle.std.specs.List.Sorted.{IsPermutation, IsNonDecreasingBy}
use Rattle.std.specs.Bool.{IsTrue}
use Rattle.std.proofs.lemmas.List.Elements.{Contains-get_or}
use Rattle.std.proofs.lemmas.List.Sorted.{Contains-permutation, IsPermutation-sym}
use Rattle.pci_spec.specs.System.{System}
use Rattle.pci_spec.specs.Fault as faults
use Rattle.pci_spec.specs.Order.{Reach, Clashes, Splits, precedes, judging_key}
use Rattle.pci_spec.specs.AllFaults.{IsNamed, AreAllOfJudging}
use Rattle.pci_spec.proofs.Members.{in_nil, in_map_to, in_map_from, pairs_nil, pairs_map}
use Rattle.pci_spec.proofs.Verdicts.{single_without_clashes, home_without_unreached}
use Rattle.pci_spec.proofs.AllFaults.{none_listed}
use Rattle.pci_function.specs.declared.fault.Fault.{Fault}
use Rattle.pci_function.specs.Fault.{fault_of}
use Rattle.pci_tree.specs.Outline.{Tree}
use Rattle.pci_tree.specs.Trees.{HasTree}
use Rattle.pci_check.specs.Stops.{AlwaysNested}
use Rattle.pci_check.specs.Judgement.{IsFree}
use Rattle.pci_claims.proofs.Making.{rise_in_order}
use Rattle.pci_faults.specs.Order.{judging_place}
use Rattle.pci_faults.specs.Lines.{AreJustCodeFaults, AreLinesAdded, IsLineInEach, AreAllListed}
use Rattle.pci_faults.proofs.Adding.{Where, just_same, lines_both}
use Rattle.pci_faults.proofs.Digits.{HaveOrderOf}
use Rattle.pci_faults.proofs.Places.{placed, by_place}

-- ---- all that were added

abbrev IsReach : Where
IsReach c n sp = c ≡ Reach

abbrev IsClashing : Where
IsClashing c n sp = c ≡ Clashes

abbrev IsSplitting : Where
IsSplitting c n sp = (c ≡ Splits) × (n ≡ 0)

abbrev IsOnBuses : Where
IsOnBuses c n sp = (c ≡ Reach) ⊎ (c ≡ Clashes)

abbrev IsAny : Where
IsAny c n sp = IsOnBuses c n sp ⊎ IsSplitting c n sp

named_line : (roots : List ℕ) (s : System) (f : faults.Fault) → IsLineInEach IsAny roots s f ↔ IsNamed roots s f
named_line roots s (faults.Unreached slot register sp a b) = (λ line. line.1, λ line. (inl (inl refl), line))
named_line roots s (faults.Clash bus sp a f r g q) = (λ line. line.1, λ line. (inl (inr refl), line))
named_line roots s (faults.Split sp a f r g q) = (λ line. line.1, λ line. (inr (refl, refl), line))
named_line roots s f = (λ line. absurd line, λ line. absurd line)

pub all_just : (t : Tree) (a b c d : List Fault) → a ≡ [] → AreLinesAdded IsReach t a b → AreLinesAdded IsClashing t b c → AreLinesAdded IsSplitting t c d
    → (s : System) → HasTree t s → AreJustCodeFaults (IsNamed t.roots s) d
all_just t a b c d empty reach clashes splits s tree =
    let both = lines_both t IsReach IsClashing IsOnBuses (λ k n sp one other. (let no : ⊥ = cc in no)) (λ k n sp. (λ one. one, λ one. one)) a b c reach clashes in
    let all = lines_both t IsOnBuses IsSplitting IsAny (λ k n sp one other. elim one [ inl x ↦ (let y = other.0 in let no : ⊥ = cc in no) | inr x ↦ (let y = other.0 in let no : ⊥ = cc in no) ])
    (λ k n sp. (λ one. one, λ one. one)) a c d both splits in
    let is : d ≡ all.more = all.appended ∙ ap (λ (l : List Fault). l ++ all.more) empty in
    subst (λ (l : List Fault). AreJustCodeFaults (IsNamed t.roots s) l) (sym is) (just_same (IsLineInEach IsAny t.roots s) (IsNamed t.roots s) all.more (named_line t.roots s) (all.just s tree))

-- ---- in order

abbrev place : Fault → ℕ
place f = judging_place (fault_of f)

module _ (t : Tree) (nested : AlwaysNested t) (xs ys : List Fault) (s : System) (tree : HasTree t s) (just : AreJustCodeFaults (IsNamed t.roots s) xs) (moved : IsPermutation xs ys)
    (sorted : IsNonDecreasingBy (λ f. judging_place (fault_of f)) ys) where
  in_both : (f : Fault) → Contains ys f → Contains xs f
  in_both f has = Contains-permutation ys xs f (IsPermutation-sym xs ys moved) has

  order_of : (f g : Fault) → Contains xs f → Contains xs g → HaveOrderOf (judging_key (fault_of f)) (judging_key (fault_of g)) (place f) (place g)
  order_of f g one other =
      let at = placed t.roots s tree.system (nested s tree) in
      by_place (fault_of f) (fault_of g) (at (fault_of f) (just.each f one)) (at (fault_of g) (just.each g other))

  rise : AllPairs (λ f g. place f < place g) ys
  rise = rise_in_order place xs ys (λ i j d less within same.
      just.distinct i j d less within ((order_of (get_or xs i d) (get_or xs j d) (Contains-get_or xs i d (omega (arith, less, within))) (Contains-get_or xs j d within)).same same)) moved sorted

  pub all_of_judging : AreAllOfJudging t.roots s (map fault_of ys)
  all_of_judging = record {
    each = λ f has. (let made = in_map_to fault_of ys f has in subst (IsNamed t.roots s) made.is (just.each made.from (in_both made.from made.has)));
    complete = λ f named. (let found = just.complete f named in
        subst (λ (x : faults.Fault). Contains (map fault_of ys) x) found.2 (in_map_from fault_of ys found.0 (Contains-permutation xs ys found.0 moved found.1)));
    rising = pairs_map (λ f g. IsTrue (precedes (judging_key f) (judging_key g))) fault_of ys (λ i j d less within.
        (order_of (get_or ys i d) (get_or ys j d) (in_both (get_or ys i d) (Contains-get_or ys i d (omega (arith, less, within)))) (in_both (get_or ys j d) (Contains-get_or ys j d within))).less (rise i j d less within));
  }

-- where nothing fails there is none
pub none_of_judging : (t : Tree) (list : List Fault) → list ≡ [] → IsFree t → AlwaysNested t → AreAllListed t list
none_of_judging t list empty free nested s tree =
    let sound = free s tree in
    let apart = (single_without_clashes t.roots s).0 sound.0 in
    let reached = (home_without_unreached t.roots s tree.system (nested s tree)).0 sound.1 in
    subst (λ (l : List Fault). AreAllOfJudging t.roots s (map fault_of l)) (sym empty) record {
      each = λ f has. absurd (in_nil f has);
      complete = λ f named. absurd (none_listed t.roots s reached apart.0 apart.1 f named);
      rising = pairs_nil (λ f g. IsTrue (precedes (judging_key f) (judging_key g)));
    }

-- Behind the root that was numbered each bridge has its numbers, and behind the others all is as it was.
use Rattle.std.proofs.Common.{◌≡◌, ◌≢◌, ℕ, inl, inr, [], ◌∷◌, true, arith, refl, sym, ◌∙◌, ap, subst, None}
use Rattle.std.specs.Bool.{◌==◌, if◌then◌else◌}
use Rattle.std.specs.List.{Contains}
use Rattle.std.specs.List.Sorted.{IsStrictlyIncreasing}
use Rattle.std.proofs.lemmas.Bool.{eqb-false, eq-eqb, cases_Bool}
use Rattle.pci_spec.proofs.Members.{in_nil, in_cons_cases, in_map_to}
use Rattle.pci_number.specs.Board.{Nodes, RootBus, Board}
use Rattle.pci_number.specs.Access.{nodes_behind, with_nodes}
use Rattle.pci_number.specs.SpareBuses.{spare_room}
use Rattle.pci_number.specs.Listed.{IsBoardListing, HasRoomyNumbers}
use Rattle.pci_number.proofs.Listed.{roomy_has_no_bus_fault}
use Rattle.pci_number.proofs.SpareKept.{no_spare_is_in_order}
use Rattle.pci_number.specs.Answer.{named_by, IsAnswer}
use Rattle.pci_number.specs.Left.{IsRootNumbered, OneRootIsNumbered, AloneHasNoBusFault, NoneFreeInOrder}
use Rattle.pci_number.specs.declared.number.Numbering.{Numbering}

abbrev root_of : ℕ → Nodes → RootBus
root_of number nodes = record { number = number; nodes = nodes }

numbered_there : (spare root last : ℕ) (before after : Board) (answer : Numbering) → IsAnswer spare before root last answer after → named_by answer ≡ None → IsRootNumbered spare last (root_of root (nodes_behind after root))
numbered_there spare root last before after answer a none = record {
  numbered = record { same = refl; numbers = a.numbered.numbers };
  none = sym a.without ∙ none;
}

pub one_root_is_numbered : OneRootIsNumbered
one_root_is_numbered spare root last before after answer ready answers none r has =
    let a = answers ready in
    let nodes = nodes_behind after root in
    let made = in_map_to (λ (x : RootBus). if x.number == root then root_of root nodes else x) before r (subst (λ b. Contains b r) a.others has) in
    elim (cases_Bool (made.from.number == root)) [
      | inl own ↦
          let is : root_of root nodes ≡ r = rw own at made.is in
          inl (ap (λ (x : RootBus). x.number) (sym is), subst (IsRootNumbered spare last) is (numbered_there spare root last before after answer a none))
      | inr other ↦
          let is : made.from ≡ r = rw other at made.is in
          inr (subst (λ (x : RootBus). x.number ≢ root) is (eqb-false made.from.number root other), subst (Contains before) is made.has)
    ]

-- a board with one root
only_root : (root r : RootBus) → Contains (root ∷ []) r → root ≡ r
only_root root r has = elim (in_cons_cases root [] r has) [ inl same ↦ same | inr none ↦ absurd (in_nil r none) ]

one_rises : (n : ℕ) → IsStrictlyIncreasing (n ∷ [])
one_rises n k within = absurd (omega (arith, within))

has_numbers : (spare last : ℕ) (root : RootBus) → IsRootNumbered spare last root → HasRoomyNumbers (spare_room spare) (λ n. last) (root ∷ [])
has_numbers spare last root is = record {
  rising = one_rises root.number;
  apart = λ r q has_r has_q less. absurd (omega (arith, less, ap (λ (x : RootBus). x.number) (only_root root r has_r), ap (λ (x : RootBus). x.number) (only_root root q has_q)));
  numbered = λ r has. (subst (IsRootNumbered spare last) (only_root root r has) is).numbered;
  none = λ r has. (subst (IsRootNumbered spare last) (only_root root r has) is).none;
}

pub alone_has_no_bus_fault : AloneHasNoBusFault
alone_has_no_bus_fault spare root last nodes after answer s ready answers none lists =
    let before = root_of root nodes ∷ [] in
    let a = answers ready in
    let left = root_of root (nodes_behind after root) in
    let own : (root == root) ≡ true = eq-eqb root root refl in
    let is : with_nodes before root (nodes_behind after root) ≡ left ∷ [] = rw own refl in
    let listed = subst (λ b. IsBoardListing b s) (a.others ∙ is) lists in
    roomy_has_no_bus_fault (spare_room spare) (λ n. last) (left ∷ []) s (has_numbers spare last left (numbered_there spare root last before after answer a none)) listed

pub none_free_in_order : NoneFreeInOrder
none_free_in_order root last before after answer ready answers = no_spare_is_in_order root last (nodes_behind before root) (nodes_behind after root) (answers ready).numbered

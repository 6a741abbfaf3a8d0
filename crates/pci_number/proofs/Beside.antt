-- A board with other nodes behind one root.
use Rattle.std.proofs.Common.{◌≡◌, ℕ, ◌≤◌, inl, inr, List, [], ◌∷◌, ◌++◌, true, false, ◌&&◌, ◌||◌, arith, refl, sym, ◌∙◌, ap, subst, length}
use Rattle.std.specs.Bool.{nat_le, nat_lt, ◌==◌}
use Rattle.std.specs.List.{filter, flat_map, list_all}
use Rattle.std.proofs.lemmas.Bool.{and_parts, leb-true, cases_Bool, eqb-false}
use Rattle.std.proofs.lemmas.List.{append-nil, length-map}
use Rattle.pci_spec.specs.Slot.{Slot}
use Rattle.pci_number.specs.Board.{Nodes, NoMore, Node, RootBus, Board, on_bus, at_root, goes_to, answers, HasOneAnswer}
use Rattle.pci_number.specs.Access.{nodes_behind, with_nodes}
use Rattle.pci_number.specs.Walk.{is_rising, is_all_found}
use Rattle.pci_number.specs.Numbered.{without_numbers}
use Rattle.pci_number.specs.Ready.{IsReady}
use Rattle.pci_number.specs.Spread.{IsSpread}
use Rattle.pci_number.proofs.Kept.{same_walk}
use Rattle.pci_number.proofs.ListedRoots.{with_root}
use Rattle.pci_number.proofs.Spread.{once_at_root}
use Rattle.pci_number.specs.Less.{without_own_numbers, IsLessOf}
use Rattle.pci_number.specs.Single.{IsApart, IsSingleBeside}
use Rattle.pci_number.proofs.RootView.{root_of, same_nodes, all_same, only_there}
use Rattle.pci_number.proofs.Roots.{root_view}

-- who is on a bus hangs on no bus number
on_bus_still : (nodes : Nodes) (access : Slot) → on_bus (without_own_numbers nodes) access ≡ on_bus nodes access
on_bus_still NoMore access = refl
on_bus_still (Node d f image behind others) access = rw (on_bus_still others access) refl

same_on_bus : (first second : Nodes) (access : Slot) → without_own_numbers second ≡ without_own_numbers first → on_bus second access ≡ on_bus first access
same_on_bus first second access same = sym (on_bus_still second access) ∙ ap (λ n. on_bus n access) same ∙ on_bus_still first access

-- where an access goes hangs on the numbers of the roots alone
same_goes : (board : Board) (root bus : ℕ) (nodes : Nodes) (r : RootBus) → goes_to (with_nodes board root nodes) bus r ≡ goes_to board bus r
same_goes board root bus nodes r = ap (λ b. nat_le r.number bus && b) (all_same (λ n. nat_le n r.number || nat_lt bus n) root nodes board)

-- it goes to another root, whatever is behind this one
others_answer : (board : Board) (root : ℕ) (first second : Nodes) (access : Slot) → goes_to board access.bus (root_of root NoMore) ≡ false → (roots : List RootBus) → flat_map (with_root access) (filter (goes_to (with_nodes board root first) access.bus) (with_nodes roots root first)) ≡ flat_map (with_root access) (filter (goes_to (with_nodes board root second) access.bus) (with_nodes roots root second))
others_answer board root first second access elsewhere [] = refl
others_answer board root first second access elsewhere (r ∷ roots) =
    let rest = others_answer board root first second access elsewhere roots in
    elim (cases_Bool (r.number == root)) [
      | inl own ↦ rw (own, same_goes board root access.bus first (root_of root first) ∙ elsewhere, same_goes board root access.bus second (root_of root second) ∙ elsewhere) rest
      | inr other ↦ elim (cases_Bool (goes_to board access.bus r)) [
        | inl goes ↦ rw (other, same_goes board root access.bus first r ∙ goes, same_goes board root access.bus second r ∙ goes) (ap (λ xs. with_root access r ++ xs) rest)
        | inr none ↦ rw (other, same_goes board root access.bus first r ∙ none, same_goes board root access.bus second r ∙ none) rest
      ]
    ]

module _ (board : Board) (root last : ℕ) (ready : IsReady board root last) where
  -- an access that goes to the root
  root_answers : (nodes : Nodes) (access : Slot) → goes_to board access.bus (root_of root NoMore) ≡ true → answers (with_nodes board root nodes) access ≡ with_root access (root_of root nodes)
  root_answers nodes access goes =
      let parts = and_parts (nat_le root access.bus) (list_all (λ other. nat_le other.number root || nat_lt access.bus other.number) board) goes in
      let here : IsReady board root access.bus = record { one = ready.one; apart = parts.1; walkable = ready.walkable } in
      ap (flat_map (with_root access)) (only_there board root access.bus here nodes access.bus (leb-true root access.bus parts.0) (inr (omega arith)))
      ∙ append-nil (with_root access (root_of root nodes))

  count_at : (nodes : Nodes) (access : Slot) → goes_to board access.bus (root_of root NoMore) ≡ true → length (answers (with_nodes board root nodes) access) ≡ length (at_root (root_of root nodes) access)
  count_at nodes access goes = ap length (root_answers nodes access goes) ∙ length-map (at_root (root_of root nodes) access) (λ place. (root, place))

  pub single_from : (nodes : Nodes) → IsSingleBeside board root → ((access : Slot) → goes_to board access.bus (root_of root NoMore) ≡ true → length (at_root (root_of root nodes) access) ≤ 1) → HasOneAnswer (with_nodes board root nodes)
  single_from nodes beside one access = elim (cases_Bool (goes_to board access.bus (root_of root NoMore))) [
    | inl goes ↦ omega (arith, count_at nodes access goes, one access goes)
    | inr elsewhere ↦ subst (λ xs. length xs ≤ 1) (others_answer board root NoMore nodes access elsewhere board) (beside access)
  ]

  nothing_at : (access : Slot) → at_root (root_of root NoMore) access ≡ []
  nothing_at access = elim (cases_Bool (root == access.bus)) [ inl own ↦ rw own refl | inr other ↦ rw other refl ]

  own_nodes : board ≡ with_nodes board root (nodes_behind board root)
  own_nodes = sym (same_nodes root board ready.one)

  -- a board that is single
  pub single_beside : HasOneAnswer board → IsSingleBeside board root
  single_beside single access = elim (cases_Bool (goes_to board access.bus (root_of root NoMore))) [
    | inl goes ↦ omega (arith, count_at NoMore access goes, ap length (nothing_at access))
    | inr elsewhere ↦ subst (λ xs. length xs ≤ 1) (ap (λ b. answers b access) own_nodes ∙ others_answer board root (nodes_behind board root) NoMore access elsewhere board) (single access)
  ]

  rising_still : (after : Nodes) → without_numbers after ≡ without_numbers (nodes_behind board root) → is_rising after ≡ true
  rising_still after same = (and_parts (is_rising after) (is_all_found after after) (same_walk after (nodes_behind board root) same ∙ ready.walkable)).0

  -- bridges that are spread over the buses of the root
  pub spread_at_root : (high : ℕ) (after : Nodes) → without_numbers after ≡ without_numbers (nodes_behind board root) → IsSingleBeside board root → IsSpread root high after → HasOneAnswer (with_nodes board root after)
  spread_at_root high after same beside spread = single_from after beside (λ access goes.
      once_at_root root high after spread (rising_still after same) access
      (leb-true root access.bus (and_parts (nat_le root access.bus) (list_all (λ o. nat_le o.number root || nat_lt access.bus o.number) board) goes).0))

  pub apart_at_root : (nodes : Nodes) → without_numbers nodes ≡ without_numbers (nodes_behind board root) → IsSingleBeside board root → IsApart (root_view board root) nodes root last
  apart_at_root nodes same beside = λ after same_after spread. spread_at_root last after (same_after ∙ same) beside spread

  -- where there is less behind the root no access has more answers
  pub fewer_answers : (first second : Nodes) → IsLessOf first second → (access : Slot) → length (answers (with_nodes board root second) access) ≤ length (answers (with_nodes board root first) access)
  fewer_answers first second less access = elim (cases_Bool (goes_to board access.bus (root_of root NoMore))) [
    | inl goes ↦
        let few : length (at_root (root_of root second) access) ≤ length (at_root (root_of root first) access) = elim (cases_Bool (root == access.bus)) [
          | inl own ↦ rw (own, same_on_bus first second access less.own) (omega arith)
          | inr other ↦
              let from = leb-true root access.bus (and_parts (nat_le root access.bus) (list_all (λ o. nat_le o.number root || nat_lt access.bus o.number) board) goes).0 in
              let apart = eqb-false root access.bus other in
              rw other (less.less access (omega arith))
        ] in
        omega (arith, few, count_at first access goes, count_at second access goes)
    | inr elsewhere ↦ subst (λ xs. length xs ≤ length (answers (with_nodes board root first) access)) (others_answer board root first second access elsewhere board) (omega arith)
  ]

  pub less_is_single : (after : Nodes) → IsLessOf (nodes_behind board root) after → HasOneAnswer board → HasOneAnswer (with_nodes board root after)
  less_is_single after less single access = omega (arith, single access, ap (λ b. length (answers b access)) own_nodes, fewer_answers (nodes_behind board root) after less access)

-- How a root bus is seen.
use Rattle.std.proofs.Common.{◌≡◌, ◌≢◌, ℕ, suc, ◌<◌, ◌≤◌, ◌⊎◌, inl, inr, List, [], ◌∷◌, Bool, true, false, ◌||◌, arith, refl, sym, ◌∙◌, ap, length, map, replicate}
use Rattle.std.specs.Bool.{nat_le, nat_lt, ◌==◌}
use Rattle.std.specs.List.{filter, list_all}
use Rattle.std.proofs.lemmas.Bool.{and_parts, and_from, or_cases, or_left, or_right, eqb-true, eqb-false, eq-eqb, le-leb, leb-true, lt-ltb, ltb-true, cases_lt, cases_Bool, false_from_ne_true}
use Rattle.std.proofs.lemmas.List.Folds.{list_all-map}
use Rattle.pci_spec.proofs.BusRanges.{all_from, all_gives}
use Rattle.pci_number.specs.Board.{Nodes, RootBus, Board, goes_to}
use Rattle.pci_number.specs.Access.{nodes_behind, with_nodes}
use Rattle.pci_number.specs.Ready.{IsReady}
use Rattle.pci_number.proofs.Among.{only}

-- how many roots have a number
abbrev count : ℕ → Board → ℕ
count root board = length (filter (λ other. other.number == root) board)

abbrev pub root_of : ℕ → Nodes → RootBus
root_of root nodes = record { number = root; nodes = nodes }

none_changed : (root : ℕ) (nodes : Nodes) (board : Board) → count root board ≡ 0 → with_nodes board root nodes ≡ board
none_changed root nodes [] none = refl
none_changed root nodes (r ∷ roots) none = elim (cases_Bool (r.number == root)) [
  | inl own ↦ let some : suc (count root roots) ≡ 0 = rw own at none in absurd (omega (arith, some))
  | inr other ↦ let rest : count root roots ≡ 0 = rw other at none in rw other (ap (λ xs. r ∷ xs) (none_changed root nodes roots rest))
]

-- the board with the nodes that it has
pub same_nodes : (root : ℕ) (board : Board) → count root board ≡ 1 → with_nodes board root (nodes_behind board root) ≡ board
same_nodes root [] one = refl
same_nodes root (r ∷ roots) one = elim (cases_Bool (r.number == root)) [
  | inl own ↦
      let count_all : suc (count root roots) ≡ 1 = rw own at one in
      let is : r.number ≡ root = eqb-true r.number root own in
      let there : nodes_behind (r ∷ roots) root ≡ r.nodes = rw own refl in
      let first : with_nodes (r ∷ roots) root r.nodes ≡ root_of root r.nodes ∷ with_nodes roots root r.nodes = rw own refl in
      ap (with_nodes (r ∷ roots) root) there ∙ first ∙ ap (λ xs. root_of root r.nodes ∷ xs) (none_changed root r.nodes roots (omega (arith, count_all))) ∙ ap (λ n. root_of n r.nodes ∷ roots) (sym is)
  | inr other ↦
      let rest : count root roots ≡ 1 = rw other at one in
      let there : nodes_behind (r ∷ roots) root ≡ nodes_behind roots root = rw other refl in
      let first : with_nodes (r ∷ roots) root (nodes_behind roots root) ≡ r ∷ with_nodes roots root (nodes_behind roots root) = rw other refl in
      ap (with_nodes (r ∷ roots) root) there ∙ first ∙ ap (λ xs. r ∷ xs) (same_nodes root roots rest)
]

pub nodes_there : (root : ℕ) (nodes : Nodes) (board : Board) → 0 < count root board → nodes_behind (with_nodes board root nodes) root ≡ nodes
nodes_there root nodes [] some = absurd (omega (arith, some))
nodes_there root nodes (r ∷ roots) some = elim (cases_Bool (r.number == root)) [
  | inl own ↦ let same : (root == root) ≡ true = eq-eqb root root refl in rw (own, same) refl
  | inr other ↦ let rest : 0 < count root roots = rw other at some in rw (other, other) (nodes_there root nodes roots rest)
]

pub nodes_twice : (root : ℕ) (first second : Nodes) (board : Board) → with_nodes (with_nodes board root first) root second ≡ with_nodes board root second
nodes_twice root first second [] = refl
nodes_twice root first second (r ∷ roots) = elim (cases_Bool (r.number == root)) [
  | inl own ↦ let same : (root == root) ≡ true = eq-eqb root root refl in rw (own, same, nodes_twice root first second roots) refl
  | inr other ↦ rw (other, other, nodes_twice root first second roots) refl
]

abbrev pub numbers : Board → List ℕ
numbers board = map (λ (r : RootBus). r.number) board

pub numbers_stay : (root : ℕ) (nodes : Nodes) (board : Board) → numbers (with_nodes board root nodes) ≡ numbers board
numbers_stay root nodes [] = refl
numbers_stay root nodes (r ∷ rest) = elim (cases_Bool (r.number == root)) [
  | inl own ↦ let is : r.number ≡ root = eqb-true r.number root own in rw (own, numbers_stay root nodes rest) (ap (λ n. n ∷ numbers rest) (sym is))
  | inr other ↦ rw (other, numbers_stay root nodes rest) refl
]

-- what is asked of these alone is answered as before
pub all_same : (test : ℕ → Bool) (root : ℕ) (nodes : Nodes) (board : Board) → list_all (λ (other : RootBus). test other.number) (with_nodes board root nodes) ≡ list_all (λ (other : RootBus). test other.number) board
all_same test root nodes board =
    sym (list_all-map test (λ (r : RootBus). r.number) (with_nodes board root nodes)) ∙ ap (list_all test) (numbers_stay root nodes board) ∙ list_all-map test (λ (r : RootBus). r.number) board

-- what is beyond the last bus of a root is beyond each of its buses
beyond_it : (root last bus n : ℕ) → (bus ≤ root) ⊎ (bus ≤ last) → (nat_le n root || nat_lt last n) ≡ true → (nat_le n root || nat_lt bus n) ≡ true
beyond_it root last bus n within apart = elim (cases_lt root n) [
  | inr low ↦ or_left (nat_le n root) (nat_lt bus n) (le-leb n root low)
  | inl high ↦
      let beyond : bus < n = elim within [
        | inl to_root ↦ omega (arith, to_root, high)
        | inr to_last ↦ elim (or_cases (nat_le n root) (nat_lt last n) apart) [
          | inl low ↦ absurd (omega (arith, leb-true n root low, high))
          | inr above ↦ omega (arith, ltb-true last n above, to_last)
        ]
      ] in
      or_right (nat_le n root) (nat_lt bus n) (lt-ltb bus n beyond)
]

module _ (board : Board) (root last : ℕ) (ready : IsReady board root last) (nodes : Nodes) (bus : ℕ) (from : root ≤ bus) (within : (bus ≤ root) ⊎ (bus ≤ last)) where
  -- an access goes to this root
  own_goes : goes_to (with_nodes board root nodes) bus (root_of root nodes) ≡ true
  own_goes = and_from (nat_le root bus) (list_all (λ other. nat_le other.number root || nat_lt bus other.number) (with_nodes board root nodes)) (le-leb root bus from)
      (all_same (λ n. nat_le n root || nat_lt bus n) root nodes board ∙ all_from (λ other. nat_le other.number root || nat_lt bus other.number) board (λ r has.
      beyond_it root last bus r.number within (all_gives (λ other. nat_le other.number root || nat_lt last other.number) board ready.apart r has)))

  -- and to none before it
  other_goes_not : (r : RootBus) → r.number ≢ root → (nat_le r.number root || nat_lt last r.number) ≡ true → goes_to (with_nodes board root nodes) bus r ≡ false
  other_goes_not r other apart = false_from_ne_true _ (λ goes.
      let parts = and_parts (nat_le r.number bus) (list_all (λ o. nat_le o.number r.number || nat_lt bus o.number) (with_nodes board root nodes)) goes in
      elim (cases_lt r.number root) [
        | inl before ↦
            let own = only root board ready.one in
            let all = sym (all_same (λ n. nat_le n r.number || nat_lt bus n) root nodes board) ∙ parts.1 in
            elim (or_cases (nat_le own.root.number r.number) (nat_lt bus own.root.number) (all_gives (λ o. nat_le o.number r.number || nat_lt bus o.number) board all own.root own.has)) [
              | inl low ↦ omega (arith, leb-true own.root.number r.number low, own.number, before)
              | inr high ↦ omega (arith, ltb-true bus own.root.number high, own.number, from)
            ]
        | inr beyond ↦ elim (or_cases (nat_le r.number root) (nat_lt last r.number) apart) [
          | inl low ↦ other (omega (arith, leb-true r.number root low, beyond))
          | inr above ↦ let upto = leb-true r.number bus parts.0 in elim within [
            | inl to_root ↦ other (omega (arith, upto, to_root, beyond))
            | inr to_last ↦ omega (arith, ltb-true last r.number above, upto, to_last)
          ]
        ]
      ])

  goes_there : (roots : List RootBus) → list_all (λ other. nat_le other.number root || nat_lt last other.number) roots ≡ true → filter (goes_to (with_nodes board root nodes) bus) (with_nodes roots root nodes) ≡ replicate (count root roots) (root_of root nodes)
  goes_there [] apart = refl
  goes_there (r ∷ roots) apart =
      let parts = and_parts (nat_le r.number root || nat_lt last r.number) (list_all (λ other. nat_le other.number root || nat_lt last other.number) roots) apart in
      elim (cases_Bool (r.number == root)) [
        | inl own ↦ rw (own, own_goes, goes_there roots parts.1) refl
        | inr other ↦ rw (other, other_goes_not r (eqb-false r.number root other) parts.0, goes_there roots parts.1) refl
      ]

  pub only_there : filter (goes_to (with_nodes board root nodes) bus) (with_nodes board root nodes) ≡ root_of root nodes ∷ []
  only_there = goes_there board ready.apart ∙ ap (λ n. replicate n (root_of root nodes)) ready.one

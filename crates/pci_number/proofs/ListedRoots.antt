-- Boards of several roots.
use Rattle.std.proofs.Common.{◌≡◌, ℕ, ◌<◌, ◌≤◌, inl, inr, List, [], ◌∷◌, ◌++◌, true, ◌||◌, arith, refl, length, map}
use Rattle.std.specs.Bool.{nat_le, nat_lt}
use Rattle.std.specs.List.{Contains, AllPairs, filter, flat_map, list_all}
use Rattle.std.specs.List.Sorted.{IsStrictlyIncreasing}
use Rattle.std.proofs.lemmas.Bool.{and_parts, or_cases, leb-true, ltb-true, cases_Bool}
use Rattle.std.proofs.lemmas.List.{length-append}
use Rattle.std.proofs.lemmas.List.Kept.{AllPairs-from_increasing}
use Rattle.pci_spec.specs.Slot.{Slot}
use Rattle.pci_spec.proofs.BusRanges.{all_gives}
use Rattle.pci_spec.proofs.Members.{in_head, in_tail, in_map_from, pairs_head, pairs_tail}
use Rattle.pci_number.proofs.Single.{goes_alone}
use Rattle.pci_number.specs.Board.{RootBus, Board, NodePlace, at_root, goes_to, HasOneAnswer}

-- the nodes at a root that answer, with its number
abbrev pub with_root : Slot → RootBus → List (ℕ × NodePlace)
with_root access root = map (λ place. (root.number, place)) (at_root root access)

-- a root that is single alone
one_alone : (root : RootBus) (access : Slot) → HasOneAnswer (root ∷ []) → root.number ≤ access.bus → length (with_root access root) ≤ 1
one_alone root access single from =
    let goes = goes_alone root access from in
    let one : length (with_root access root ++ []) ≤ 1 = rw goes at (single access) in
    omega (arith, length-append (with_root access root) [], one)

-- an access goes to no root after one that it goes to
none_later : (board : Board) (bus : ℕ) (root : RootBus) (later : List RootBus) → goes_to board bus root ≡ true → ((r : RootBus) → Contains later r → Contains board r) → ((r : RootBus) → Contains later r → root.number < r.number) → filter (goes_to board bus) later ≡ []
none_later board bus root [] goes within above = refl
none_later board bus root (r ∷ later) goes within above =
    let rest = none_later board bus root later goes (λ x has. within x (in_tail r later x has)) (λ x has. above x (in_tail r later x has)) in
    let higher = above r (in_head r later) in
    elim (cases_Bool (goes_to board bus r)) [
      | inr elsewhere ↦ rw elsewhere rest
      | inl too ↦
          let upto = leb-true r.number bus (and_parts (nat_le r.number bus) _ too).0 in
          let others = (and_parts (nat_le root.number bus) (list_all (λ other. nat_le other.number root.number || nat_lt bus other.number) board) goes).1 in
          let other = all_gives (λ other. nat_le other.number root.number || nat_lt bus other.number) board others r (within r (in_head r later)) in
          elim (or_cases (nat_le r.number root.number) (nat_lt bus r.number) other) [
            | inl low ↦ absurd (omega (arith, leb-true r.number root.number low))
            | inr high ↦ absurd (omega (arith, ltb-true bus r.number high))
          ]
    ]

one_of_roots : (board : Board) (access : Slot) (roots : List RootBus) → ((r : RootBus) → Contains board r → HasOneAnswer (r ∷ [])) → ((r : RootBus) → Contains roots r → Contains board r) → AllPairs (λ m n. m < n) (map (λ r. r.number) roots) → length (flat_map (with_root access) (filter (goes_to board access.bus) roots)) ≤ 1
one_of_roots board access [] single within rising = omega arith
one_of_roots board access (root ∷ roots) single within rising = elim (cases_Bool (goes_to board access.bus root)) [
  | inr elsewhere ↦ rw elsewhere (one_of_roots board access roots single (λ r has. within r (in_tail root roots r has)) (pairs_tail (λ m n. m < n) root.number (map (λ r. r.number) roots) rising))
  | inl goes ↦
      let none = none_later board access.bus root roots goes (λ r has. within r (in_tail root roots r has)) (λ r has. pairs_head (λ m n. m < n) root.number (map (λ r. r.number) roots) r.number rising (in_map_from (λ (r : RootBus). r.number) roots r has)) in
      let one = one_alone root access (single root (within root (in_head root roots))) (leb-true root.number access.bus (and_parts (nat_le root.number access.bus) _ goes).0) in
      rw (goes, none) (omega (arith, one, length-append (with_root access root) []))
]

pub roots_single : (board : Board) → IsStrictlyIncreasing (map (λ r. r.number) board) → ((r : RootBus) → Contains board r → HasOneAnswer (r ∷ [])) → HasOneAnswer board
roots_single board rising single access = one_of_roots board access board single (λ r has. has) (AllPairs-from_increasing (map (λ r. r.number) board) rising)

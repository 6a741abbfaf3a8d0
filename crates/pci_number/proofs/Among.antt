-- A board of several roots, one of which has the buses up to a last one.
use Rattle.std.proofs.Common.{◌≡◌, ◌↔◌, ℕ, suc, ◌<◌, ◌≤◌, inl, inr, List, [], ◌∷◌, true, ◌||◌, arith, refl, sym, ◌∙◌, ap, subst, length, map, max}
use Rattle.std.specs.Bool.{nat_le, nat_lt, ◌==◌}
use Rattle.std.specs.List.{Contains, filter, list_all}
use Rattle.std.proofs.lemmas.Bool.{and_parts, and_from, or_cases, or_left, or_right, eqb-true, eqb-false, le-leb, leb-true, lt-ltb, ltb-true, cases_Bool, cases_lt}
use Rattle.pci_spec.specs.Slot.{Slot}
use Rattle.pci_spec.proofs.BusRanges.{all_from, all_gives}
use Rattle.pci_spec.proofs.Members.{in_nil, in_cons_cases, in_head, in_tail, in_filter_to, in_filter_from, in_map_to, in_map_from, in_flat_map_to, in_flat_map_from}
use Rattle.pci_number.specs.Board.{Nodes, RootBus, Board, NodePlace, at_root, goes_to, answers, access_of}
use Rattle.pci_number.specs.Access.{nodes_behind}
use Rattle.pci_number.specs.Walk.{walk}
use Rattle.pci_number.specs.Room.{last_behind, IsNumberedWithRoom}
use Rattle.pci_number.specs.NumberingLaws.{AmongRootsAnswersOnce}
use Rattle.pci_number.proofs.Found.{with_number, to_one_root, from_one_root, found_there, answers_once}
use Rattle.pci_number.proofs.Roomy.{roomy, within_top}

-- ---- the one root with a number

pub record Only (n : ℕ) (board : Board) : Type 0 where
  pub root : RootBus
  pub has : Contains board root
  pub number : root.number ≡ n
  pub nodes : nodes_behind board n ≡ root.nodes
  pub one : (r : RootBus) → Contains board r → r.number ≡ n → r ≡ root

none_there : (n : ℕ) (board : Board) → length (filter (λ (o : RootBus). o.number == n) board) ≡ 0 → (r : RootBus) → Contains board r → r.number ≡ n → ⊥
none_there n [] none r has is = in_nil r has
none_there n (o ∷ rest) none r has is = elim (cases_Bool (o.number == n)) [
  | inl own ↦ let some : suc (length (filter (λ (o : RootBus). o.number == n) rest)) ≡ 0 = rw own at none in omega (arith, some)
  | inr other ↦
      let fewer : length (filter (λ (o : RootBus). o.number == n) rest) ≡ 0 = rw other at none in
      elim (in_cons_cases o rest r has) [
        | inl first ↦ eqb-false o.number n other (ap (λ (x : RootBus). x.number) first ∙ is)
        | inr later ↦ none_there n rest fewer r later is
      ]
]

pub only : (n : ℕ) (board : Board) → length (filter (λ (o : RootBus). o.number == n) board) ≡ 1 → Only n board
only n [] one = absurd (omega (arith, one))
only n (r ∷ rest) one = elim (cases_Bool (r.number == n)) [
  | inl own ↦
      let one_more : suc (length (filter (λ (o : RootBus). o.number == n) rest)) ≡ 1 = rw own at one in
      let none = none_there n rest (omega (arith, one_more)) in
      record {
        root = r;
        has = in_head r rest;
        number = eqb-true r.number n own;
        nodes = rw own refl;
        one = λ o has at_n. elim (in_cons_cases r rest o has) [ inl first ↦ sym first | inr later ↦ absurd (none o later at_n) ];
      }
  | inr other ↦
      let o = only n rest (rw other at one) in
      record {
        root = o.root;
        has = in_tail r rest o.root o.has;
        number = o.number;
        nodes = rw other o.nodes;
        one = λ x has at_n. elim (in_cons_cases r rest x has) [
          | inl first ↦ absurd (eqb-false r.number n other (ap (λ (y : RootBus). y.number) first ∙ at_n))
          | inr later ↦ o.one x later at_n
        ];
      }
]

-- ---- an access to one of its buses

module _ (room : List ℕ → ℕ) (board : Board) (last : ℕ) (r : RootBus) (has_r : Contains board r) (one : (q : RootBus) → Contains board q → q.number ≡ r.number → q ≡ r)
    (apart : list_all (λ other. nat_le other.number r.number || nat_lt last other.number) board ≡ true) where
  goes_there : (bus : ℕ) → r.number ≤ bus → bus ≤ max r.number last → goes_to board bus r ≡ true
  goes_there bus from upto = and_from (nat_le r.number bus) _ (le-leb r.number bus from)
      (all_from (λ other. nat_le other.number r.number || nat_lt bus other.number) board (λ o has. elim (cases_lt r.number o.number) [
        | inl above ↦
            let over : last < o.number = elim (or_cases (nat_le o.number r.number) (nat_lt last o.number) (all_gives (λ other. nat_le other.number r.number || nat_lt last other.number) board apart o has)) [
              | inl low ↦ absurd (omega (arith, above, leb-true o.number r.number low))
              | inr high ↦ ltb-true last o.number high
            ] in
            or_right (nat_le o.number r.number) (nat_lt bus o.number) (lt-ltb bus o.number (omega (arith, upto, above, over)))
        | inr low ↦ or_left (nat_le o.number r.number) (nat_lt bus o.number) (le-leb o.number r.number low)
      ]))

  -- what answers on the board answers at that root alone, and back
  to_alone : (access : Slot) (place : NodePlace) → Contains (answers board access) (r.number, place) → Contains (answers (r ∷ []) access) (r.number, place)
  to_alone access place has =
      let whole : ℕ × NodePlace = (r.number, place) in
      let found = in_flat_map_to (λ q. map (with_number q) (at_root q access)) (filter (goes_to board access.bus) board) whole has in
      let goes = in_filter_to (goes_to board access.bus) board found.of found.has in
      let made = in_map_to (with_number found.of) (at_root found.of access) whole found.piece in
      let it : found.of ≡ r = one found.of goes.0 (ap (λ (x : ℕ × NodePlace). x.0) made.is) in
      let at_it : Contains (at_root found.of access) place = subst (Contains (at_root found.of access)) (ap (λ (x : ℕ × NodePlace). x.1) made.is) made.has in
      let from = leb-true found.of.number access.bus (and_parts (nat_le found.of.number access.bus) _ goes.1).0 in
      from_one_root r access place (subst (λ (q : RootBus). q.number ≤ access.bus) it from) (subst (λ (q : RootBus). Contains (at_root q access) place) it at_it)

  from_alone : (access : Slot) (place : NodePlace) → goes_to board access.bus r ≡ true → Contains (answers (r ∷ []) access) (r.number, place) → Contains (answers board access) (r.number, place)
  from_alone access place goes has =
      in_flat_map_from (λ q. map (with_number q) (at_root q access)) (filter (goes_to board access.bus) board) r (with_number r place)
      (in_filter_from (goes_to board access.bus) board r has_r goes)
      (in_map_from (with_number r) (at_root r access) place (to_one_root r access place has))

  once_there : IsNumberedWithRoom room r.number last r.nodes r.nodes → (place : NodePlace) → Contains (walk r.nodes r.nodes) place → (access : Slot) → Contains (answers board access) (r.number, place) ↔ (access ≡ access_of r.number r.nodes place)
  once_there numbered place found access =
      let ranged = roomy room last r.number r.number r.nodes numbered.numbers in
      let alone = answers_once r.number r.number (last_behind r.number r.nodes) r.nodes (λ bus low high. low) ranged place found access in
      let own = access_of r.number r.nodes place in
      let up = within_top room last r.number r.number r.nodes numbered.numbers in
      let within : (r.number ≤ own.bus) × (own.bus ≤ max r.number last) = elim (found_there r.number (last_behind r.number r.nodes) r.number r.nodes r.nodes place ranged found) [
        | inl here ↦ (omega (arith, here.0), omega (arith, here.0))
        | inr there ↦ (omega (arith, there.0), omega (arith, there.1, up))
      ] in (
        λ has. alone.0 (to_alone access place has),
        λ same. from_alone access place (subst (λ (a : Slot). goes_to board a.bus r ≡ true) (sym same) (goes_there own.bus within.0 within.1)) (alone.1 same),
      )

-- ---- by number

abbrev IsOnce : (List ℕ → ℕ) → Board → ℕ → ℕ → Nodes → Type 0
IsOnce room board last n nodes = IsNumberedWithRoom room n last nodes nodes → (place : NodePlace) → Contains (walk nodes nodes) place → (access : Slot) → Contains (answers board access) (n, place) ↔ (access ≡ access_of n nodes place)

pub among_roots_answers_once : AmongRootsAnswersOnce
among_roots_answers_once room board root last ready =
    let o = only root board ready.one in
    let one : (q : RootBus) → Contains board q → q.number ≡ o.root.number → q ≡ o.root = λ q has is. o.one q has (is ∙ o.number) in
    let apart = subst (λ n. list_all (λ other. nat_le other.number n || nat_lt last other.number) board ≡ true) (sym o.number) ready.apart in
    let once : IsOnce room board last o.root.number o.root.nodes = once_there room board last o.root o.has one apart in
    subst (IsOnce room board last root) (sym o.nodes) (subst (λ n. IsOnce room board last n o.root.nodes) o.number once)

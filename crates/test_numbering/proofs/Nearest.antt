-- The root that an access goes to, where the numbers of the roots rise.
use Rattle.std.proofs.Common.{◌≡◌, ℕ, ◌<◌, ◌≤◌, inl, inr, List, [], ◌∷◌, ◌++◌, Bool, true, false, ◌&&◌, ◌||◌, arith, refl, sym, ◌∙◌, ap, subst, Some, None, map}
use Rattle.std.specs.Bool.{nat_le, nat_lt, ◌==◌}
use Rattle.std.specs.List.{filter, flat_map, list_all}
use Rattle.std.proofs.lemmas.Bool.{and_parts, and_from, or_cases, or_right, eqb-true, eq-eqb, ne_eqb, le-leb, leb-true, lt-ltb, ltb-true, cases_Bool, false_from_ne_true}
use Rattle.pci_spec.specs.Slot.{Slot}
use Rattle.pci_spec.specs.Number.{byte_at}
use Rattle.pci_number.specs.Board.{Nodes, RootBus, Board, NodePlace, on_bus, behind_bridges, at_root, goes_to, answers, node_image}
use Rattle.pci_number.specs.Access.{IsByteRead, IsByteWritten, nodes_behind, with_byte, with_nodes}
use Rattle.test_numbering.specs.Tree.{all_above, roots_rise, first_byte, IsPutFirst, first_byte_of, IsPutFirstOf}

-- the nodes at a root that answer, with its number
abbrev with_root : Slot → RootBus → List (ℕ × NodePlace)
with_root access root = map (λ place. (root.number, place)) (at_root root access)

-- ---- roots above a number

above_less : (low high : ℕ) (roots : Board) → low ≤ high → all_above high roots ≡ true → all_above low roots ≡ true
above_less low high [] less above = refl
above_less low high (r ∷ roots) less above =
    let parts = and_parts (nat_lt high r.number) (all_above high roots) above in
    and_from (nat_lt low r.number) (all_above low roots) (lt-ltb low r.number (omega (arith, ltb-true high r.number parts.0, less))) (above_less low high roots less parts.1)

-- an access goes to none of them
none_goes : (board roots : Board) (bus : ℕ) → all_above bus roots ≡ true → filter (goes_to board bus) roots ≡ []
none_goes board [] bus above = refl
none_goes board (r ∷ roots) bus above =
    let parts = and_parts (nat_lt bus r.number) (all_above bus roots) above in
    let beyond : nat_le r.number bus ≡ false = false_from_ne_true (nat_le r.number bus) (λ low. omega (arith, leb-true r.number bus low, ltb-true bus r.number parts.0)) in
    rw beyond (none_goes board roots bus parts.1)

-- one before them changes nothing for them
still_goes : (first r : RootBus) (board : Board) (bus : ℕ) → first.number < r.number → goes_to (first ∷ board) bus r ≡ goes_to board bus r
still_goes first r board bus before = let upto : nat_le first.number r.number ≡ true = le-leb first.number r.number (omega (arith, before)) in rw upto refl

still_go : (first : RootBus) (board roots : Board) (bus : ℕ) → all_above first.number roots ≡ true → filter (goes_to (first ∷ board) bus) roots ≡ filter (goes_to board bus) roots
still_go first board [] bus above = refl
still_go first board (r ∷ roots) bus above =
    let parts = and_parts (nat_lt first.number r.number) (all_above first.number roots) above in
    rw (still_goes first r board bus (ltb-true first.number r.number parts.0), still_go first board roots bus parts.1) refl

-- whether it goes to the first
all_beyond : (first : RootBus) (roots : Board) (bus : ℕ) → all_above bus roots ≡ true → list_all (λ other. nat_le other.number first.number || nat_lt bus other.number) roots ≡ true
all_beyond first [] bus above = refl
all_beyond first (r ∷ roots) bus above =
    let parts = and_parts (nat_lt bus r.number) (all_above bus roots) above in
    and_from (nat_le r.number first.number || nat_lt bus r.number) (list_all (λ other. nat_le other.number first.number || nat_lt bus other.number) roots) (or_right (nat_le r.number first.number) (nat_lt bus r.number) parts.0) (all_beyond first roots bus parts.1)

beyond_all : (first : RootBus) (roots : Board) (bus : ℕ) → all_above first.number roots ≡ true → list_all (λ other. nat_le other.number first.number || nat_lt bus other.number) roots ≡ true → all_above bus roots ≡ true
beyond_all first [] bus above all = refl
beyond_all first (r ∷ roots) bus above all =
    let parts = and_parts (nat_le r.number first.number || nat_lt bus r.number) (list_all (λ other. nat_le other.number first.number || nat_lt bus other.number) roots) all in
    let after = and_parts (nat_lt first.number r.number) (all_above first.number roots) above in
    let high : nat_lt bus r.number ≡ true = elim (or_cases (nat_le r.number first.number) (nat_lt bus r.number) parts.0) [
      | inl low ↦ absurd (omega (arith, leb-true r.number first.number low, ltb-true first.number r.number after.0))
      | inr high ↦ high
    ] in
    and_from (nat_lt bus r.number) (all_above bus roots) high (beyond_all first roots bus after.1 parts.1)

module _ (first : RootBus) (roots : Board) (rise : roots_rise (first ∷ roots) ≡ true) where
  after_it : all_above first.number roots ≡ true
  after_it = (and_parts (all_above first.number roots) (roots_rise roots) rise).0

  pub rest_rise : roots_rise roots ≡ true
  rest_rise = (and_parts (all_above first.number roots) (roots_rise roots) rise).1

  abbrev board : Board
  board = first ∷ roots

  abbrev is_nearest : ℕ → Bool
  is_nearest bus = nat_le first.number bus && all_above bus roots

  first_goes : (bus : ℕ) → is_nearest bus ≡ true → goes_to board bus first ≡ true
  first_goes bus near =
      let parts = and_parts (nat_le first.number bus) (all_above bus roots) near in
      let own : nat_le first.number first.number ≡ true = le-leb first.number first.number (omega arith) in
      let from : nat_le first.number bus ≡ true = parts.0 in
      rw (from, own, all_beyond first roots bus parts.1) refl

  first_goes_not : (bus : ℕ) → is_nearest bus ≡ false → goes_to board bus first ≡ false
  first_goes_not bus far = false_from_ne_true (goes_to board bus first) (λ goes.
      let parts = and_parts (nat_le first.number bus) (list_all (λ other. nat_le other.number first.number || nat_lt bus other.number) board) goes in
      let all = (and_parts (nat_le first.number first.number || nat_lt bus first.number) (list_all (λ other. nat_le other.number first.number || nat_lt bus other.number) roots) parts.1).1 in
      let near = and_from (nat_le first.number bus) (all_above bus roots) parts.0 (beyond_all first roots bus after_it all) in
      cc (near, far))

  append_none : {A : Type 0} → (xs : List A) → xs ++ [] ≡ xs
  append_none [] = refl
  append_none (x ∷ xs) = ap (λ ys. x ∷ ys) (append_none xs)

  pub answers_near : (access : Slot) → is_nearest access.bus ≡ true → answers board access ≡ with_root access first
  answers_near access near =
      let goes = first_goes access.bus near in
      let none = none_goes board roots access.bus (and_parts (nat_le first.number access.bus) (all_above access.bus roots) near).1 in
      rw (goes, none) (append_none (with_root access first))

  pub answers_far : (access : Slot) → is_nearest access.bus ≡ false → answers board access ≡ answers roots access
  answers_far access far =
      let goes = first_goes_not access.bus far in
      rw (goes, still_go first roots roots access.bus after_it) refl

-- ---- the nodes behind a root

other_nodes : (first : RootBus) (roots : Board) (number : ℕ) → first.number < number → nodes_behind (first ∷ roots) number ≡ nodes_behind roots number
other_nodes first roots number before = let other : (first.number == number) ≡ false = ne_eqb first.number number (λ is. omega (arith, is, before)) in rw other refl

own_nodes : (first : RootBus) (roots : Board) → nodes_behind (first ∷ roots) first.number ≡ first.nodes
own_nodes first roots = let own : (first.number == first.number) ≡ true = eq-eqb first.number first.number refl in rw own refl

not_changed : (number : ℕ) (nodes : Nodes) (roots : Board) → all_above number roots ≡ true → with_nodes roots number nodes ≡ roots
not_changed number nodes [] above = refl
not_changed number nodes (r ∷ roots) above =
    let parts = and_parts (nat_lt number r.number) (all_above number roots) above in
    let other : (r.number == number) ≡ false = ne_eqb r.number number (λ is. omega (arith, is, ltb-true number r.number parts.0)) in
    rw (other, not_changed number nodes roots parts.1) refl

other_changed : (first : RootBus) (roots : Board) (number : ℕ) (nodes : Nodes) → first.number < number → with_nodes (first ∷ roots) number nodes ≡ first ∷ with_nodes roots number nodes
other_changed first roots number nodes before = let other : (first.number == number) ≡ false = ne_eqb first.number number (λ is. omega (arith, is, before)) in rw other refl

own_changed : (first : RootBus) (roots : Board) (nodes : Nodes) → all_above first.number roots ≡ true → with_nodes (first ∷ roots) first.number nodes ≡ record { number = first.number; nodes = nodes } ∷ roots
own_changed first roots nodes above = let own : (first.number == first.number) ≡ true = eq-eqb first.number first.number refl in rw (own, not_changed first.number nodes roots above) refl

-- the answers of roots above a number are with roots above it
head_above : (number : ℕ) (r : RootBus) (found : List NodePlace) (rest : List (ℕ × NodePlace)) (place : ℕ × NodePlace) (places : List (ℕ × NodePlace)) → number < r.number → (rest ≡ place ∷ places → number < place.0) → map (λ p. (r.number, p)) found ++ rest ≡ place ∷ places → number < place.0
head_above number r [] rest place places above later is = later is
head_above number r (p ∷ ps) rest place places above later is =
    let same : (r.number, p) ≡ place = cc is in
    subst (λ (x : ℕ × NodePlace). number < x.0) same above

heads_above : (number : ℕ) (access : Slot) (roots : Board) (place : ℕ × NodePlace) (places : List (ℕ × NodePlace)) → all_above number roots ≡ true → flat_map (with_root access) roots ≡ place ∷ places → number < place.0
heads_above number access [] place places above is = cc is
heads_above number access (r ∷ roots) place places above is =
    let parts = and_parts (nat_lt number r.number) (all_above number roots) above in
    head_above number r (at_root r access) (flat_map (with_root access) roots) place places (ltb-true number r.number parts.0) (λ later. heads_above number access roots place places parts.1 later) is

-- ---- what is read and written of the first

above_going : (number : ℕ) (board roots : Board) (bus : ℕ) → all_above number roots ≡ true → all_above number (filter (goes_to board bus) roots) ≡ true
above_going number board [] bus above = refl
above_going number board (r ∷ roots) bus above =
    let parts = and_parts (nat_lt number r.number) (all_above number roots) above in
    let own : nat_lt number r.number ≡ true = parts.0 in
    elim (cases_Bool (goes_to board bus r)) [
      | inr not ↦ rw not (above_going number board roots bus parts.1)
      | inl goes ↦ rw (goes, own) (above_going number board roots bus parts.1)
    ]

near_byte : (first : RootBus) (roots : Board) (found : List NodePlace) (offset : ℕ) → first_byte_of (first ∷ roots) (map (λ p. (first.number, p)) found) offset ≡ first_byte first.nodes found offset
near_byte first roots [] offset = refl
near_byte first roots (p ∷ ps) offset = ap (λ n. Some (byte_at (node_image n p) offset)) (own_nodes first roots)

far_byte : (first : RootBus) (roots : Board) (found : List (ℕ × NodePlace)) (offset : ℕ) → ((p : ℕ × NodePlace) (ps : List (ℕ × NodePlace)) → found ≡ p ∷ ps → first.number < p.0) → first_byte_of (first ∷ roots) found offset ≡ first_byte_of roots found offset
far_byte first roots [] offset above = refl
far_byte first roots (p ∷ ps) offset above = ap (λ n. Some (byte_at (node_image n p.1) offset)) (other_nodes first roots p.0 (above p ps refl))

near_put : (first : RootBus) (roots : Board) (found : List NodePlace) (offset : ℕ) (done : Bool) (after : Nodes) → all_above first.number roots ≡ true → IsPutFirst first.nodes found offset done after → IsPutFirstOf (first ∷ roots) (map (λ p. (first.number, p)) found) offset (record { number = first.number; nodes = after } ∷ roots)
near_put first roots [] offset done after above put = ap (λ n. record { number = first.number; nodes = n } ∷ roots) put.1
near_put first roots (p ∷ ps) offset done after above put = (
  put.1,
  sym (ap (λ n. with_nodes (first ∷ roots) first.number (with_byte n p offset put.1)) (own_nodes first roots) ∙ own_changed first roots (with_byte first.nodes p offset put.1) above ∙ ap (λ n. record { number = first.number; nodes = n } ∷ roots) (sym put.2)),
)

far_put : (first : RootBus) (roots after : Board) (found : List (ℕ × NodePlace)) (offset : ℕ) → ((p : ℕ × NodePlace) (ps : List (ℕ × NodePlace)) → found ≡ p ∷ ps → first.number < p.0) → IsPutFirstOf roots found offset after → IsPutFirstOf (first ∷ roots) found offset (first ∷ after)
far_put first roots after [] offset above put = ap (λ b. first ∷ b) put
far_put first roots after (p ∷ ps) offset above put = (
  put.0,
  ap (λ b. first ∷ b) put.1 ∙ sym (ap (λ n. with_nodes (first ∷ roots) p.0 (with_byte n p.1 offset put.0)) (other_nodes first roots p.0 (above p ps refl)) ∙ other_changed first roots p.0 (with_byte (nodes_behind roots p.0) p.1 offset put.0) (above p ps refl)),
)

module _ (first : RootBus) (roots : Board) (rise : roots_rise (first ∷ roots) ≡ true) (access : Slot) (offset : ℕ) where
  far_above : (p : ℕ × NodePlace) (ps : List (ℕ × NodePlace)) → answers roots access ≡ p ∷ ps → first.number < p.0
  far_above p ps is = heads_above first.number access (filter (goes_to roots access.bus) roots) p ps (above_going first.number roots roots access.bus (after_it first roots rise)) is

  pub byte_on : (nat_le first.number access.bus && all_above access.bus roots) ≡ true → (first.number == access.bus) ≡ true → first_byte_of (first ∷ roots) (answers (first ∷ roots) access) offset ≡ first_byte first.nodes (on_bus first.nodes access) offset
  byte_on near own = ap (λ ps. first_byte_of (first ∷ roots) ps offset) (answers_near first roots rise access near) ∙ near_byte first roots (at_root first access) offset ∙ rw own refl

  pub byte_behind : (nat_le first.number access.bus && all_above access.bus roots) ≡ true → (first.number == access.bus) ≡ false → first_byte_of (first ∷ roots) (answers (first ∷ roots) access) offset ≡ first_byte first.nodes (behind_bridges first.nodes access) offset
  byte_behind near other = ap (λ ps. first_byte_of (first ∷ roots) ps offset) (answers_near first roots rise access near) ∙ near_byte first roots (at_root first access) offset ∙ rw other refl

  pub byte_far : (nat_le first.number access.bus && all_above access.bus roots) ≡ false → first_byte_of (first ∷ roots) (answers (first ∷ roots) access) offset ≡ first_byte_of roots (answers roots access) offset
  byte_far far = ap (λ ps. first_byte_of (first ∷ roots) ps offset) (answers_far first roots rise access far) ∙ far_byte first roots (answers roots access) offset far_above

  put_near : (nat_le first.number access.bus && all_above access.bus roots) ≡ true → (done : Bool) (after : Nodes) → IsPutFirst first.nodes (at_root first access) offset done after → IsPutFirstOf (first ∷ roots) (answers (first ∷ roots) access) offset (record { number = first.number; nodes = after } ∷ roots)
  put_near near done after put = subst (λ ps. IsPutFirstOf (first ∷ roots) ps offset (record { number = first.number; nodes = after } ∷ roots)) (sym (answers_near first roots rise access near)) (near_put first roots (at_root first access) offset done after (after_it first roots rise) put)

  pub put_on : (nat_le first.number access.bus && all_above access.bus roots) ≡ true → (first.number == access.bus) ≡ true → (done : Bool) (after : Nodes) → IsPutFirst first.nodes (on_bus first.nodes access) offset done after → IsPutFirstOf (first ∷ roots) (answers (first ∷ roots) access) offset (record { number = first.number; nodes = after } ∷ roots)
  put_on near own done after put = put_near near done after (rw own put)

  pub put_behind : (nat_le first.number access.bus && all_above access.bus roots) ≡ true → (first.number == access.bus) ≡ false → (done : Bool) (after : Nodes) → IsPutFirst first.nodes (behind_bridges first.nodes access) offset done after → IsPutFirstOf (first ∷ roots) (answers (first ∷ roots) access) offset (record { number = first.number; nodes = after } ∷ roots)
  put_behind near other done after put = put_near near done after (rw other put)

  pub put_far : (nat_le first.number access.bus && all_above access.bus roots) ≡ false → (after : Board) → IsPutFirstOf roots (answers roots access) offset after → IsPutFirstOf (first ∷ roots) (answers (first ∷ roots) access) offset (first ∷ after)
  put_far far after put = subst (λ ps. IsPutFirstOf (first ∷ roots) ps offset (first ∷ after)) (sym (answers_far first roots rise access far)) (far_put first roots after (answers roots access) offset far_above put)

-- the numbers of the roots stay
above_kept : (low number : ℕ) (nodes : Nodes) (roots : Board) → all_above low (with_nodes roots number nodes) ≡ all_above low roots
above_kept low number nodes [] = refl
above_kept low number nodes (r ∷ roots) = elim (cases_Bool (r.number == number)) [
  | inl own ↦ let is : r.number ≡ number = eqb-true r.number number own in rw (own, above_kept low number nodes roots) (ap (λ n. nat_lt low n && all_above low roots) (sym is))
  | inr other ↦ rw (other, above_kept low number nodes roots) refl
]

rise_kept : (number : ℕ) (nodes : Nodes) (roots : Board) → roots_rise (with_nodes roots number nodes) ≡ roots_rise roots
rise_kept number nodes [] = refl
rise_kept number nodes (r ∷ roots) = elim (cases_Bool (r.number == number)) [
  | inl own ↦ let is : r.number ≡ number = eqb-true r.number number own in rw (own, rise_kept number nodes roots) (ap (λ b. b && roots_rise roots) (above_kept number number nodes roots ∙ ap (λ n. all_above n roots) (sym is)))
  | inr other ↦ rw (other, rise_kept number nodes roots) (ap (λ b. b && roots_rise roots) (above_kept r.number number nodes roots))
]

pub put_rise : (board after : Board) (found : List (ℕ × NodePlace)) (offset : ℕ) → IsPutFirstOf board found offset after → roots_rise board ≡ true → roots_rise after ≡ true
put_rise board after [] offset put rise = ap roots_rise put ∙ rise
put_rise board after (p ∷ ps) offset put rise = ap roots_rise put.1 ∙ rise_kept p.0 (with_byte (nodes_behind board p.0) p.1 offset put.0) board ∙ rise

-- ---- a port's laws

pub written : (board after : Board) (access : Slot) (offset : ℕ) → IsPutFirstOf board (answers board access) offset after → IsByteWritten board access offset after
written board after access offset put = record {
  nothing = λ none. subst (λ ps. IsPutFirstOf board ps offset after) none put;
  byte = λ place one. subst (λ ps. IsPutFirstOf board ps offset after) one put;
}

pub read_some : (board : Board) (access : Slot) (offset value : ℕ) → Some value ≡ first_byte_of board (answers board access) offset → IsByteRead board access offset value
read_some board access offset value is = record {
  nothing = λ none. cc (is ∙ ap (λ ps. first_byte_of board ps offset) none);
  byte = λ place one. cc (is ∙ ap (λ ps. first_byte_of board ps offset) one);
}

pub read_none : (board : Board) (access : Slot) (offset : ℕ) → None ≡ first_byte_of board (answers board access) offset → IsByteRead board access offset 0xff
read_none board access offset is = record {
  nothing = λ none. refl;
  byte = λ place one. cc (is ∙ ap (λ ps. first_byte_of board ps offset) one);
}

-- what a test of the code says
pub near_of : (number b bus : ℕ) (found rest : Board) (t v : Bool) → t ≡ (nat_le number b && all_above b found) → b ≡ bus → found ≡ rest → t ≡ v → (nat_le number bus && all_above bus rest) ≡ v
near_of number b bus found rest t v is same here so = sym (ap (λ x. nat_le number x && all_above x found) same ∙ ap (λ r. nat_le number bus && all_above bus r) here) ∙ sym is ∙ so

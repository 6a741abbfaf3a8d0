-- What is behind each root after a call for each.
use Rattle.std.proofs.Common.{◌≡◌, ◌↔◌, ℕ, ◌<◌, ◌⊎◌, inl, inr, List, [], ◌∷◌, true, false, ◌||◌, arith, refl, sym, ◌∙◌, ap, subst, length}
use Rattle.std.specs.Bool.{◌==◌, nat_le, nat_lt, if◌then◌else◌}
use Rattle.std.specs.List.{Contains, AllPairs, filter}
use Rattle.std.specs.List.Sorted.{IsStrictlyIncreasing}
use Rattle.std.proofs.lemmas.Bool.{and_parts, eqb-true, eqb-false, eq-eqb, ne_eqb, le-leb, lt-ltb, or_left, or_right, cases_Bool, cases_lt}
use Rattle.std.proofs.lemmas.List.Kept.{AllPairs-from_increasing}
use Rattle.pci_spec.specs.Slot.{Slot}
use Rattle.pci_spec.proofs.BusRanges.{all_from}
use Rattle.pci_spec.proofs.Members.{in_nil, in_cons_cases, in_head, in_tail, in_map_to, in_map_from, pairs_head, pairs_tail}
use Rattle.pci_spec.specs.NestingLaws.{HasNoBusFault}
use Rattle.pci_number.specs.Board.{Nodes, RootBus, Board, NodePlace, answers, access_of, HasOneAnswer}
use Rattle.pci_number.specs.Access.{nodes_behind}
use Rattle.pci_number.specs.Walk.{is_rising, is_all_found, is_walkable, walk}
use Rattle.pci_number.specs.Room.{last_behind, IsNumberedWithRoom}
use Rattle.pci_number.specs.SpareBuses.{spare_room}
use Rattle.pci_number.specs.Ready.{IsReady}
use Rattle.pci_number.specs.Listed.{HasRoomyNumbers}
use Rattle.pci_number.proofs.Among.{among_roots_answers_once}
use Rattle.pci_number.proofs.Kept.{same_walk}
use Rattle.pci_number.proofs.Listed.{roomy_has_no_bus_fault}
use Rattle.pci_number.proofs.ListedRoots.{roots_single}
use Rattle.pci_number.proofs.Roomy.{roomy}
use Rattle.pci_number.proofs.Single.{single}
use Rattle.pci_number.specs.Answer.{IsAnswer}
use Rattle.pci_number.specs.Left.{IsRootNumbered}
use Rattle.pci_number.specs.Calls.{AreReady, AreNumbered, AreItsRoots, RootsGetNumbers, RootsHaveNoBusFault, RootsGetSingle, RootsAnswerOnce}
use Rattle.pci_number.specs.declared.number.Numbering.{Numbering}
use Rattle.pci_number.proofs.Left.{one_root_is_numbered}
use Rattle.pci_number.proofs.RootView.{numbers, numbers_stay}

abbrev Rises : Board → Type 0
Rises board = AllPairs (λ m n. m < n) (numbers board)

-- ---- one root with a number

later : (r : RootBus) (rest : Board) → Rises (r ∷ rest) → (o : RootBus) → Contains rest o → r.number < o.number
later r rest rises o has = pairs_head (λ m n. m < n) r.number (numbers rest) o.number rises (in_map_from (λ (x : RootBus). x.number) rest o has)

none_above : (n : ℕ) (board : Board) → ((o : RootBus) → Contains board o → n < o.number) → filter (λ (o : RootBus). o.number == n) board ≡ []
none_above n [] above = refl
none_above n (r ∷ rest) above =
    let other : (r.number == n) ≡ false = ne_eqb r.number n (λ is. omega (arith, is, above r (in_head r rest))) in
    rw other (none_above n rest (λ o has. above o (in_tail r rest o has)))

one_of : (n : ℕ) (board : Board) → Rises board → Contains (numbers board) n → length (filter (λ (o : RootBus). o.number == n) board) ≡ 1
one_of n [] rises has = absurd (in_nil n has)
one_of n (r ∷ rest) rises has = elim (cases_Bool (r.number == n)) [
  | inl own ↦
      let is : r.number ≡ n = eqb-true r.number n own in
      let none = none_above n rest (λ o in_rest. subst (λ m. m < o.number) is (later r rest rises o in_rest)) in
      rw (own, none) refl
  | inr other ↦
      let in_rest : Contains (numbers rest) n = elim (in_cons_cases r.number (numbers rest) n has) [ inl is ↦ absurd (eqb-false r.number n other is) | inr so ↦ so ] in
      rw other (one_of n rest (pairs_tail (λ m k. m < k) r.number (numbers rest) rises) in_rest)
]

there : (board : Board) (r : RootBus) → Rises board → Contains board r → nodes_behind board r.number ≡ r.nodes
there [] r rises has = absurd (in_nil r has)
there (first ∷ rest) r rises has = elim (in_cons_cases first rest r has) [
  | inl is ↦ let own : (first.number == r.number) ≡ true = eq-eqb first.number r.number (ap (λ (x : RootBus). x.number) is) in rw own (ap (λ (x : RootBus). x.nodes) is)
  | inr so ↦
      let other : (first.number == r.number) ≡ false = ne_eqb first.number r.number (λ is. omega (arith, is, later first rest rises r so)) in
      rw other (there rest r (pairs_tail (λ m k. m < k) first.number (numbers rest) rises) so)
]

-- ---- before a call and after it

module _ (spare : ℕ) (last : ℕ → ℕ) where
  ready_at : (board : Board) (n : ℕ) → AreReady last board → Contains (numbers board) n → IsReady board n (last n)
  ready_at board n ready has =
      let rises = AllPairs-from_increasing (numbers board) ready.rising in
      let made = in_map_to (λ (x : RootBus). x.number) board n has in
      record {
        one = one_of n board rises has;
        apart = all_from (λ (o : RootBus). nat_le o.number n || nat_lt (last n) o.number) board (λ o in_board. elim (cases_lt n o.number) [
          | inl above ↦
              let over : last n < o.number = subst (λ m. last m < o.number) made.is (ready.apart made.from o made.has in_board (omega (arith, above, made.is))) in
              or_right (nat_le o.number n) (nat_lt (last n) o.number) (lt-ltb (last n) o.number over)
          | inr low ↦ or_left (nat_le o.number n) (nat_lt (last n) o.number) (le-leb o.number n low)
        ]);
        walkable = ap is_walkable (ap (nodes_behind board) (sym made.is) ∙ there board made.from rises made.has) ∙ ready.walkable made.from made.has;
      }

  module _ (board mid : Board) (n : ℕ) (answer : Numbering) (ready : AreReady last board) (has_it : Contains (numbers board) n) (a : IsAnswer spare board n (last n) answer mid) where
    same_numbers : numbers mid ≡ numbers board
    same_numbers = ap numbers a.others ∙ numbers_stay n (nodes_behind mid n) board

    -- a root with the same number was there
    was : (r : RootBus) → Contains mid r → Contains (numbers board) r.number
    was r has = subst (λ ns. Contains ns r.number) same_numbers (in_map_from (λ (x : RootBus). x.number) mid r has)

    still_walkable : (r : RootBus) → Contains mid r → is_walkable r.nodes ≡ true
    still_walkable r has =
        let nodes = nodes_behind mid n in
        let left : RootBus = record { number = n; nodes = nodes } in
        let made = in_map_to (λ (x : RootBus). if x.number == n then left else x) board r (subst (λ b. Contains b r) a.others has) in
        elim (cases_Bool (made.from.number == n)) [
          | inl own ↦
              let is : left ≡ r = rw own at made.is in
              let walkable = sym (same_walk (nodes_behind board n) nodes a.numbered.same) ∙ (ready_at board n ready has_it).walkable in
              subst (λ (x : RootBus). is_walkable x.nodes ≡ true) is walkable
          | inr other ↦
              let is : made.from ≡ r = rw other at made.is in
              subst (λ (x : RootBus). is_walkable x.nodes ≡ true) is (ready.walkable made.from made.has)
        ]

    still_ready : AreReady last mid
    still_ready = record {
      rising = subst IsStrictlyIncreasing (sym same_numbers) ready.rising;
      apart = λ r o has_r has_o less.
          let p = in_map_to (λ (x : RootBus). x.number) board r.number (was r has_r) in
          let q = in_map_to (λ (x : RootBus). x.number) board o.number (was o has_o) in
          subst (λ m. m < o.number) (ap last p.is) (subst (λ m. last p.from.number < m) q.is (ready.apart p.from q.from p.has q.has (omega (arith, less, p.is, q.is))));
      walkable = still_walkable;
    }

  -- ---- all calls

  record IsEnd (before after : Board) : Type 0 where
    ready : AreReady last after
    same : numbers after ≡ numbers before
    numbered : (r : RootBus) → Contains after r → IsRootNumbered spare (last r.number) r

  calls : (roots : List ℕ) (board after : Board) → AreReady last board → ((n : ℕ) → Contains roots n → Contains (numbers board) n) → ((r : RootBus) → Contains board r → Contains roots r.number ⊎ IsRootNumbered spare (last r.number) r) → AreNumbered spare last roots board after → IsEnd board after
  calls [] board after ready within each done = record {
    ready = subst (AreReady last) (sym done) ready;
    same = ap numbers done;
    numbered = λ r has. elim (each r (subst (λ b. Contains b r) done has)) [ inl none ↦ absurd (in_nil r.number none) | inr is ↦ is ];
  }
  calls (n ∷ roots) board after ready within each done =
      let mid = done.0 in
      let answer = done.1 in
      let has = within n (in_head n roots) in
      let ready_here = ready_at board n ready has in
      let a = done.2 ready_here in
      let same = same_numbers board mid n answer ready has a in
      let end = calls roots mid after (still_ready board mid n answer ready has a)
      (λ m in_roots. subst (λ ns. Contains ns m) (sym same) (within m (in_tail n roots m in_roots)))
      (λ r in_mid. elim (one_root_is_numbered spare n (last n) board mid answer ready_here done.2 done.3 r in_mid) [
        | inl it ↦ inr (subst (λ m. IsRootNumbered spare (last m) r) (sym it.0) it.1)
        | inr other ↦ elim (each r other.1) [
          | inl in_roots ↦ elim (in_cons_cases n roots r.number in_roots) [ inl is ↦ absurd (other.0 (sym is)) | inr more ↦ inl more ]
          | inr is ↦ inr is
        ]
      ]) done.4 in
      record { ready = end.ready; same = end.same ∙ same; numbered = end.numbered }

  module _ (roots : List ℕ) (before after : Board) (ready : AreReady last before) (its : AreItsRoots roots before) (done : AreNumbered spare last roots before after) where
    the_end : IsEnd before after
    the_end = calls roots before after ready (λ n has. (its n).0 has) (λ r has. inl ((its r.number).1 (in_map_from (λ (x : RootBus). x.number) before r has))) done

    has_numbers : HasRoomyNumbers (spare_room spare) last after
    has_numbers = record {
      rising = the_end.ready.rising;
      apart = the_end.ready.apart;
      numbered = λ r has. (the_end.numbered r has).numbered;
      none = λ r has. (the_end.numbered r has).none;
    }

    is_single : HasOneAnswer after
    is_single = roots_single after the_end.ready.rising (λ r has.
        let n = (the_end.numbered r has).numbered in
        single r.number r.number (last_behind r.number r.nodes) r.nodes (roomy (spare_room spare) (last r.number) r.number r.number r.nodes n.numbers)
        (and_parts (is_rising r.nodes) (is_all_found r.nodes r.nodes) (the_end.ready.walkable r has)).0)

pub roots_get_numbers : RootsGetNumbers
roots_get_numbers spare last roots before after ready its done = has_numbers spare last roots before after ready its done

pub roots_have_no_bus_fault : RootsHaveNoBusFault
roots_have_no_bus_fault spare last roots before after s ready its done lists =
    subst (λ ns. HasNoBusFault ns s) (the_end spare last roots before after ready its done).same
    (roomy_has_no_bus_fault (spare_room spare) last after s (has_numbers spare last roots before after ready its done) lists)

pub roots_get_single : RootsGetSingle
roots_get_single spare last roots before after ready its done = is_single spare last roots before after ready its done

-- each node that the walk finds among these answers one access
abbrev IsOnceAt : Board → ℕ → Nodes → Type 0
IsOnceAt board number nodes = (place : NodePlace) → Contains (walk nodes nodes) place → (access : Slot) → Contains (answers board access) (number, place) ↔ (access ≡ access_of number nodes place)

pub roots_answer_once : RootsAnswerOnce
roots_answer_once spare last roots before after ready its done root has =
    let end = the_end spare last roots before after ready its done in
    let is = there after root (AllPairs-from_increasing (numbers after) end.ready.rising) has in
    let ready_there = ready_at spare last after root.number end.ready (in_map_from (λ (x : RootBus). x.number) after root has) in
    subst (λ (nodes : Nodes). IsNumberedWithRoom (spare_room spare) root.number (last root.number) nodes nodes → IsOnceAt after root.number nodes) is
    (among_roots_answers_once (spare_room spare) after root.number (last root.number) ready_there) (end.numbered root has).numbered

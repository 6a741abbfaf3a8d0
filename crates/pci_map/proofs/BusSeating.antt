-- The regions of a bus: those that registers show, with told ranges.
use Rattle.std.proofs.Common.{◌≡◌, ℕ, ◌+◌, ◌<◌, ◌≤◌, ◌⊎◌, inl, inr, List, [], ◌∷◌, ◌++◌, get_or, map, Bool, true, false, refl, sym, ◌∙◌, ap, subst, arith, append_assoc, append-nil, Some}
use Rattle.std.specs.List.{AllPairs, Contains, slice_get}
use Rattle.std.specs.List.Sorted.{IsPermutation, IsNonDecreasingBy}
use Rattle.std.proofs.lemmas.Bool.{cases_eq, cases_lt}
use Rattle.std.proofs.lemmas.List.Quantifiers.{all_pairs_push}
use Rattle.std.proofs.lemmas.Option.{slice_get_within, get_or_from_slice_get}
use Rattle.std.proofs.lemmas.List.Elements.{Contains-get_or, Contains-push, Contains-push_cases, Contains-append_left, Contains-append_right, Contains-append_cases}
use Rattle.std.proofs.lemmas.List.Sorted.{Contains-permutation, IsPermutation-sym}
use Rattle.pci_spec.specs.Slot.{Slot, IsSlot}
use Rattle.pci_spec.specs.System.{System, Function, Space, Part, Claims}
use Rattle.pci_spec.proofs.Firsts.{slot_of}
use Rattle.pci_spec.proofs.Members.{IsMade, in_nil, in_map_to, in_map_from, pairs_append, pairs_map, pairs_nil}
use Rattle.pci_tree.specs.declared.region.Region.{Region}
use Rattle.pci_tree.specs.Outline.{Tree, AreSortedRegionsOf}
use Rattle.pci_tree.specs.Trees.{HasTree}
use Rattle.judge_spec.specs.Told.{ToldRange, IsTold, IsToldRange}
use Rattle.judge_spec.specs.ToldClaims.{Told, told_register}
use Rattle.judge_spec.specs.ToldAllFaults.{region_number}
use Rattle.judge_spec.specs.ToldRegion.{ToldRegion}
use Rattle.judge_spec.proofs.Reasons.{low_register}
use Rattle.pci_claims.specs.declared.all_claims.Stretch.{Stretch}
use Rattle.pci_claims.specs.AllClaims.{IsStretchOf, IsOnAt}
use Rattle.pci_claims.specs.ToldOn.{AreOnIn}
use Rattle.pci_claims.proofs.AllClaiming.{on_at}
use Rattle.pci_claims.proofs.Making.{rise_in_order}
use Rattle.pci_map.specs.declared.seat.Seat.{Seat}
use Rattle.pci_map.specs.declared.seat.Seat.TheVariants as seats
use Rattle.pci_map.specs.Values.{value_of}
use Rattle.pci_map.specs.Seats.{told_region_value, seat_first, IsToldOn, IsSeatOn, SeatIsBefore, HasSeatOfPart, HasLine, AreSortedSeatsOf}
use Rattle.pci_map.specs.BusSeats.{seat_place_number, seat_number, seat_register, IsSeatAt, AreToldSeats, AreMoreSeats}
use Rattle.pci_map.proofs.Values.{told_region}

same_range : (ranges : List ToldRange) (k : ℕ) (r q : ToldRange) → slice_get ranges k ≡ Some r → slice_get ranges k ≡ Some q → r ≡ q
same_range ranges k r q one other = let e : Some r ≡ Some q = sym one ∙ other in cc

its_register : (r : ToldRange) (k : ℕ) (q : Seat) → IsSeatAt r k q → seat_register q ≡ told_register k
its_register r k q at = ap seat_register at.is ∙ at.register

-- ---- numbers

-- the slot and the register of a region
abbrev seat_slot : Seat → Slot
seat_slot (seats.Own q) = q.slot
seat_slot (seats.OfLine x) = x.told.now.slot

number_is : (q : Seat) → seat_number q ≡ seat_place_number (seat_first q) (region_number (seat_slot q) (seat_register q))
number_is (seats.Own q) = refl
number_is (seats.OfLine x) = refl

-- by numbers below 2^32
before_of : (space : Space) (p q : Seat) → region_number (seat_slot p) (seat_register p) < 4294967296 → region_number (seat_slot q) (seat_register q) < 4294967296 → seat_number p < seat_number q → SeatIsBefore space p q
before_of space (seats.Own p) (seats.Own q) one other up = elim (cases_lt p.first q.first) [
  | inl less ↦ inl less
  | inr ge ↦ inr ((let e : p.first ≡ q.first = omega (arith, ge, up, one, other) in e), (let l : region_number p.slot p.reg < region_number q.slot q.reg = omega (arith, ge, up, one, other) in l))
]
before_of space (seats.Own p) (seats.OfLine y) one other up = elim (cases_lt p.first y.told.now.first) [
  | inl less ↦ inl less
  | inr ge ↦ inr ((let e : p.first ≡ y.told.now.first = omega (arith, ge, up, one, other) in e), (let l : region_number p.slot p.reg < region_number y.told.now.slot y.register = omega (arith, ge, up, one, other) in l))
]
before_of space (seats.OfLine x) (seats.Own q) one other up = elim (cases_lt x.told.now.first q.first) [
  | inl less ↦ inl less
  | inr ge ↦ inr ((let e : x.told.now.first ≡ q.first = omega (arith, ge, up, one, other) in e), (let l : region_number x.told.now.slot x.register < region_number q.slot q.reg = omega (arith, ge, up, one, other) in l))
]
before_of space (seats.OfLine x) (seats.OfLine y) one other up = elim (cases_lt x.told.now.first y.told.now.first) [
  | inl less ↦ inl less
  | inr ge ↦ inr ((let e : x.told.now.first ≡ y.told.now.first = omega (arith, ge, up, one, other) in e), (let l : region_number x.told.now.slot x.register < region_number y.told.now.slot y.register = omega (arith, ge, up, one, other) in l))
]

small_number : (slot : Slot) (register : ℕ) → IsSlot slot → register < 8192 → region_number slot register < 4294967296
small_number slot register is low = let a = is.0 in let b = is.1 in let c = is.2 in omega (arith, a, b, c, low)

-- ---- of a bus

module _ (told : Told) (t : Tree) (on : List Bool) (are_on : AreOnIn told t on) (is_told : IsTold told.ranges) (s : System) (tree : HasTree t s) (bus : ℕ) (space : Space)
    (stretch : Stretch) (is_stretch : IsStretchOf told.ranges bus stretch) (regions : List Region) (are : AreSortedRegionsOf s bus space regions) where
  abbrev own : List Seat
  own = map seats.Own regions

  -- the index of a range of the bus
  within_stretch : (k : ℕ) (r : ToldRange) → slice_get told.ranges k ≡ Some r → r.slot.bus ≡ bus → (stretch.first ≤ k) × (k < stretch.end)
  within_stretch k r at on_bus =
      let inside = slice_get_within told.ranges k r at in
      let its : (get_or told.ranges k r).slot.bus ≡ bus = ap (λ (x : ToldRange). x.slot.bus) (get_or_from_slice_get told.ranges k r r at) ∙ on_bus in (
        elim (cases_lt k stretch.first) [
          | inl less ↦ absurd (let low = is_stretch.before k r (omega arith) less in let no : ⊥ = omega (arith, low, its) in no)
          | inr from ↦ from
        ],
        elim (cases_lt k stretch.end) [
          | inl less ↦ less
          | inr past ↦ absurd (let high = is_stretch.after k r past inside in let no : ⊥ = omega (arith, high, its) in no)
        ],
      )

  bus_of_range : (k : ℕ) (r : ToldRange) → IsOnAt told.ranges on stretch.first stretch.end space k r → r.slot.bus ≡ bus
  bus_of_range k r is = sym (ap (λ (x : ToldRange). x.slot.bus) (get_or_from_slice_get told.ranges k r r is.at)) ∙ is_stretch.at k r is.from is.to

  range_is : (k : ℕ) (r : ToldRange) → slice_get told.ranges k ≡ Some r → IsToldRange r
  range_is k r at = subst IsToldRange (get_or_from_slice_get told.ranges k r r at) (is_told.each k r (slice_get_within told.ranges k r at))

  -- ---- regions that registers show

  own_from : (q : Seat) → Contains own q → IsMade seats.Own regions q
  own_from q has = in_map_to seats.Own regions q has

  own_on : (q : Seat) → Contains own q → IsSeatOn told s bus space q
  own_on q has = let made = own_from q has in subst (IsSeatOn told s bus space) made.is (are.each made.from made.has)

  own_low : (q : Region) → Contains regions q → q.reg < 256
  own_low q has = low_register s (value_of space q) (told_region s bus space q (are.each q has))

  own_slot : (q : Region) → Contains regions q → IsSlot q.slot
  own_slot q has = let at = are.each q has in subst IsSlot (sym at.is.slot) (slot_of s tree.system at.f at.listed)

  own_small : (q : Seat) → Contains own q → region_number (seat_slot q) (seat_register q) < 4294967296
  own_small q has =
      let made = own_from q has in
      let low = own_low made.from made.has in
      subst (λ x. region_number (seat_slot x) (seat_register x) < 4294967296) made.is (small_number made.from.slot made.from.reg (own_slot made.from made.has) (omega (arith, low)))

  own_rises : AllPairs (λ p q. seat_number p < seat_number q) own
  own_rises = pairs_map (λ p q. seat_number p < seat_number q) seats.Own regions (λ i j d less within. (
      let p = get_or regions i d in
      let q = get_or regions j d in
      let in_p : Contains regions p = Contains-get_or regions i d (omega (arith, less, within)) in
      let in_q : Contains regions q = Contains-get_or regions j d within in
      let one = own_low p in_p in
      let other = own_low q in_q in
      let small = small_number p.slot p.reg (own_slot p in_p) (omega (arith, one)) in
      elim (are.sorted i j d less within) [
        | inl low ↦ omega (arith, low, small)
        | inr same ↦ (let e = same.0 in let up = same.1 in omega (arith, e, up, one, other))
      ]))

  own_part : (qs : List Seat) → ((q : Seat) → Contains own q → Contains qs q) → (f : Function) (part : Part) (a : ℕ) → Contains s f → f.slot.bus ≡ bus → Claims f part space a → HasSeatOfPart qs f part space
  own_part qs joins f part a listed on_bus claims =
      let found = are.complete f part a listed on_bus claims in
      record { q = found.q; has = joins (seats.Own found.q) (in_map_from seats.Own regions found.q found.has); is = found.is }

  -- ---- with told ranges

  module _ (more : List Seat) (ranges : AreToldSeats told.ranges on stretch.first stretch.end space more) where
    line_on : (q : Seat) → Contains more q → IsSeatOn told s bus space q
    line_on q has =
        let (k, r, is, at) = ranges.each q has in
        let x : ToldRegion = told_region_value at.x in
        let here : slice_get told.ranges k ≡ Some x.told = is.at ∙ ap Some (sym at.told) in
        subst (IsSeatOn told s bus space) (sym at.is) record {
          is = record {
            named = record { index = k; at = here; slot = refl; register = sym at.register };
            on = sym (on_at told t on are_on s tree k x.told here) ∙ is.on;
            some = at.x.is_forward;
          };
          on_bus = ap (λ (y : ToldRange). y.slot.bus) at.told ∙ bus_of_range k r is;
          of_space = ap (λ (y : ToldRange). y.space) at.told ∙ is.space;
        }

    line_high : (q : Seat) → Contains more q → (256 ≤ seat_register q) × (seat_register q < 8192)
    line_high q has =
        let (k, r, is, at) = ranges.each q has in
        let named = its_register r k q at in
        let inside = slice_get_within told.ranges k r is.at in
        let room = is_told.room in
        (omega (arith, named), omega (arith, named, inside, room))

    line_small : (q : Seat) → Contains more q → region_number (seat_slot q) (seat_register q) < 4294967296
    line_small q has =
        let (k, r, is, at) = ranges.each q has in
        let high = (line_high q has).1 in
        let slot : seat_slot q ≡ r.slot = ap seat_slot at.is ∙ ap (λ (y : ToldRange). y.slot) at.told in
        small_number (seat_slot q) (seat_register q) (subst IsSlot (sym slot) (range_is k r is.at).line.slot) high

    line_has : (qs : List Seat) → ((q : Seat) → Contains more q → Contains qs q) → (x : ToldRegion) → IsToldOn told s bus space x → HasLine qs x
    line_has qs joins x is =
        let named = is.is.named in
        let within = within_stretch named.index x.told named.at is.on_bus in
        let (q, has, at) = ranges.complete named.index x.told record {
          from = within.0;
          to = within.1;
          at = named.at;
          on = on_at told t on are_on s tree named.index x.told named.at ∙ is.is.on;
          space = is.of_space;
        } in
        let register : at.x.register ≡ x.register = at.register ∙ named.register in
        record { y = at.x; has = subst (Contains qs) at.is (joins q has); is = λ i. record { register = register i; told = at.told i } }

    differ : AllPairs (λ p q. seat_number p ≡ seat_number q → ⊥) (own ++ more)
    differ = pairs_append (λ p q. seat_number p ≡ seat_number q → ⊥) own more
        (λ i j d less within e. (let up = own_rises i j d less within in let no : ⊥ = omega (arith, up, e) in no))
        (λ i j d less within e.
        let up = ranges.rising i j d less within in
        let in_one : Contains more (get_or more i d) = Contains-get_or more i d (omega (arith, less, within)) in
        let in_other : Contains more (get_or more j d) = Contains-get_or more j d within in
        let one = number_is (get_or more i d) in
        let other = number_is (get_or more j d) in
        let one_small = line_small (get_or more i d) in_one in
        let other_small = line_small (get_or more j d) in_other in
        let one_high = (line_high (get_or more i d) in_one).1 in
        let other_high = (line_high (get_or more j d) in_other).1 in
        let no : ⊥ = omega (arith, up, e, one, other, one_small, other_small, one_high, other_high) in no)
        (λ p q in_own in_more e.
        let one = number_is p in
        let other = number_is q in
        let one_small = own_small p in_own in
        let other_small = line_small q in_more in
        let made = own_from p in_own in
        let low : seat_register p < 256 = subst (λ x. seat_register x < 256) made.is (own_low made.from made.has) in
        let high = line_high q in_more in
        let from = high.0 in
        let to = high.1 in
        let no : ⊥ = omega (arith, e, one, other, one_small, other_small, low, from, to) in no)

    pub sorted_seats : (qs : List Seat) → IsPermutation (own ++ more) qs → IsNonDecreasingBy seat_number qs → AreSortedSeatsOf told s bus space qs
    sorted_seats qs moved sorted =
        let split : (q : Seat) → Contains qs q → Contains own q ⊎ Contains more q =
        λ q has. Contains-append_cases own more q (Contains-permutation qs (own ++ more) q (IsPermutation-sym (own ++ more) qs moved) has) in
        let small : (q : Seat) → Contains qs q → region_number (seat_slot q) (seat_register q) < 4294967296 = λ q has. elim (split q has) [ inl register ↦ own_small q register | inr line ↦ line_small q line ] in
        let rising = rise_in_order seat_number (own ++ more) qs differ moved sorted in record {
          each = λ q has. elim (split q has) [ inl register ↦ own_on q register | inr line ↦ line_on q line ];
          parts = own_part qs (λ q has. Contains-permutation (own ++ more) qs q moved (Contains-append_left own more q has));
          lines = line_has qs (λ q has. Contains-permutation (own ++ more) qs q moved (Contains-append_right own more q has));
          sorted = λ i j d less within. before_of space (get_or qs i d) (get_or qs j d) (small (get_or qs i d) (Contains-get_or qs i d (omega (arith, less, within)))) (small (get_or qs j d) (Contains-get_or qs j d within)) (rising i j d less within);
        }

  -- a bus without told ranges
  pub seats_without : stretch.first ≡ stretch.end → (qs : List Seat) → qs ≡ own → AreSortedSeatsOf told s bus space qs
  seats_without empty qs is = subst (AreSortedSeatsOf told s bus space) (sym is) record {
    each = own_on;
    parts = own_part own (λ q has. has);
    lines = λ x told_on. absurd (
        let within = within_stretch told_on.is.named.index x.told told_on.is.named.at told_on.on_bus in
        let from = within.0 in
        let to = within.1 in
        let no : ⊥ = omega (arith, from, to, empty) in no);
    sorted = λ i j d less within. before_of space (get_or own i d) (get_or own j d) (own_small (get_or own i d) (Contains-get_or own i d (omega (arith, less, within)))) (own_small (get_or own j d) (Contains-get_or own j d within)) (own_rises i j d less within);
  }

-- ---- ranges one by one

module _ (ranges : List ToldRange) (on : List Bool) (first : ℕ) (space : Space) where
  pub none_yet : (qs : List Seat) → AreMoreSeats (AreToldSeats ranges on first first space) qs qs
  none_yet qs = record {
    more = [];
    appended = sym (append-nil qs);
    made = record {
      each = λ q has. absurd (in_nil q has);
      complete = λ k r is. absurd (let from = is.from in let to = is.to in let no : ⊥ = omega (arith, from, to) in no);
      rising = pairs_nil (λ p q. seat_register p < seat_register q);
    };
  }

  module _ (i : ℕ) (r : ToldRange) (from : first ≤ i) (at : slice_get ranges i ≡ Some r) (before mid : List Seat) (added : AreMoreSeats (AreToldSeats ranges on first i space) before mid) where
    wider : (k : ℕ) (q : ToldRange) → IsOnAt ranges on first i space k q → IsOnAt ranges on first (i + 1) space k q
    wider k q is = let to = is.to in record { from = is.from; to = omega (arith, to); at = is.at; on = is.on; space = is.space }

    narrower : (k : ℕ) (q : ToldRange) → (k ≡ i → ⊥) → IsOnAt ranges on first (i + 1) space k q → IsOnAt ranges on first i space k q
    narrower k q differ is = let to = is.to in record { from = is.from; to = omega (arith, to, differ); at = is.at; on = is.on; space = is.space }

    pub seat_more : (c : Seat) (after : List Seat) → get_or on i false ≡ true → r.space ≡ space → IsSeatAt r i c → after ≡ mid ++ c ∷ []
        → AreMoreSeats (AreToldSeats ranges on first (i + 1) space) before after
    seat_more c after is_on of_space of pushed =
        let more = added.more in
        let are = added.made in record {
          more = more ++ c ∷ [];
          appended = pushed ∙ ap (λ (l : List Seat). l ++ c ∷ []) added.appended ∙ append_assoc before more (c ∷ []);
          made = record {
            each = λ d has. elim (Contains-push_cases more c d has) [
              | inl old ↦ (let (k, q, is, its) = are.each d old in (k, q, wider k q is, its))
              | inr same ↦ (i, r, record { from = from; to = omega arith; at = at; on = is_on; space = of_space }, subst (IsSeatAt r i) same of)
            ];
            complete = λ k q is. elim (cases_eq k i) [
              | inl same ↦ (
                c,
                Contains-push more c,
                subst (λ n. IsSeatAt q n c) (sym same) (subst (λ x. IsSeatAt x i c) (same_range ranges i r q at (subst (λ n. slice_get ranges n ≡ Some q) same is.at)) of),
              )
              | inr differ ↦ (let (d, has, its) = are.complete k q (narrower k q differ is) in (d, Contains-append_left more (c ∷ []) d has, its))
            ];
            rising = all_pairs_push (λ d e. seat_register d < seat_register e) more c are.rising (λ k d within.
                let (j, q, is, its) = are.each (get_or more k d) (Contains-get_or more k d within) in
                let low = is.to in
                let one = its_register q j (get_or more k d) its in
                let other = its_register r i c of in
                omega (arith, low, one, other));
          };
        }

    pub seat_less : (IsOnAt ranges on first (i + 1) space i r → ⊥) → AreMoreSeats (AreToldSeats ranges on first (i + 1) space) before mid
    seat_less none =
        let are = added.made in record {
          more = added.more;
          appended = added.appended;
          made = record {
            each = λ d has. (let (k, q, is, its) = are.each d has in (k, q, wider k q is, its));
            complete = λ k q is. elim (cases_eq k i) [
              | inl same ↦ absurd (none (subst (λ x. IsOnAt ranges on first (i + 1) space i x) (same_range ranges i q r (subst (λ n. slice_get ranges n ≡ Some q) same is.at) at) (subst (λ n. IsOnAt ranges on first (i + 1) space n q) same is)))
              | inr differ ↦ are.complete k q (narrower k q differ is)
            ];
            rising = are.rising;
          };
        }

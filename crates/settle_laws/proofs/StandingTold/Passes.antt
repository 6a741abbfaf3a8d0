-- One pass over told ranges finds which of them stand.
use Rattle.std.proofs.Common.{◌≡◌, ◌≢◌, ℕ, ◌+◌, ◌<◌, ◌≤◌, inl, inr, ◌⊎◌, List, [], ◌∷◌, ◌++◌, get_or, length, Bool, true, false, ◌&&◌, not, arith, sym, ◌∙◌, ap, subst, refl}
use Rattle.std.specs.Bool.{IsTrue, nat_lt}
use Rattle.std.specs.List.{Contains, AllPairs, filter, list_all}
use Rattle.std.proofs.lemmas.Bool.{cases_Bool, cases_eq, cases_lt, and_parts, and_from, both_ways, not_from_true, not_from_false, not-true, lt-ltb, false_from_ne_true}
use Rattle.std.proofs.lemmas.List.Elements.{Contains-get_or, Contains-append_cases, Contains-append_left, Contains-append_right}
use Rattle.std.proofs.lemmas.List.{get_or_default}
use Rattle.pci_spec.specs.Decoded.{Range}
use Rattle.pci_spec.specs.System.{System}
use Rattle.pci_spec.proofs.BusRanges.{all_gives, all_from}
use Rattle.pci_spec.proofs.Members.{in_nil, in_cons_cases, in_filter_to, in_filter_from, pairs_nil, pairs_cons, pairs_append, pairs_filter}
use Rattle.judge_spec.specs.Told.{ToldRange}
use Rattle.judge_spec.specs.ToldRegion.{ToldRegion, regions_from, told_regions}
use Rattle.settle_spec.specs.FirstPlace.{ranges_are_apart}
use Rattle.settle_spec.specs.Lists.{Request}
use Rattle.settle_spec.specs.Parts.{system_parts, addresses}
use Rattle.settle_spec.specs.Lines.{line_bus, line_range, is_held_line, is_line_of}
use Rattle.settle_spec.specs.Stands.{part_space, is_line_on, stands, first_by, range_precedes, is_range_in_place, is_range_kept_off, takes_from_range, range_takes_from, range_stands_if, range_stands}
use Rattle.settle_laws.specs.StandingTold.Standing.{shares_with_line}
use Rattle.settle_laws.specs.StandingTold.Passes.{AreRangesInOrder, IsRangeAmong, AreFirstRangesTold, IsTakenByPart, IsTakenByRange, AreTakenBesideLine, is_free_in_place}
use Rattle.settle_laws.proofs.StandingTold.Order.{range_trans, range_not_itself}
use Rattle.settle_laws.proofs.StandingTold.Standing.{range_taking, range_by_asked, ranges_stand_alone}
use Rattle.settle_laws.proofs.StandingTold.Beside.{ranges_stand_beside_all}

-- ---- the order of lines

-- what is numbered from a register on has no lower one
no_lower : (first : ℕ) (ranges : List ToldRange) (x : ToldRegion) → Contains (regions_from first ranges) x → first ≤ x.register
no_lower first [] x has = absurd (in_nil x has)
no_lower first (r ∷ ranges) x has = elim (in_cons_cases (record { register = first; told = r }) (regions_from (first + 1) ranges) x has) [
  | inl here ↦ (let same : first ≡ x.register = ap (λ (y : ToldRegion). y.register) here in omega (arith, same))
  | inr later ↦ (let more = no_lower (first + 1) ranges x later in omega (arith, more))
]

pub registers_rise : (first : ℕ) (ranges : List ToldRange) → AllPairs (λ (x : ToldRegion) (y : ToldRegion). x.register < y.register) (regions_from first ranges)
registers_rise first [] = pairs_nil (λ (x : ToldRegion) (y : ToldRegion). x.register < y.register)
registers_rise first (r ∷ ranges) =
    pairs_cons (λ (x : ToldRegion) (y : ToldRegion). x.register < y.register) (record { register = first; told = r }) (regions_from (first + 1) ranges)
    (λ y later. let more = no_lower (first + 1) ranges y later in omega (arith, more)) (registers_rise (first + 1) ranges)

-- lines of one register are one
pub one_line : (q : Request) (x y : ToldRegion) → Contains (told_regions q.told) x → Contains (told_regions q.told) y → x.register ≡ y.register → x ≡ y
one_line q x y (i, in_i, at_x) (j, in_j, at_y) same =
    let xs = told_regions q.told in
    let here : (get_or xs i x).register ≡ x.register = ap (λ (z : ToldRegion). z.register) at_x in
    let there : (get_or xs j x).register ≡ y.register = ap (λ (z : ToldRegion). z.register) (get_or_default xs j x y in_j ∙ at_y) in
    elim (cases_eq i j) [
      | inl one ↦ sym at_x ∙ ap (λ n. get_or xs n x) one ∙ get_or_default xs j x y in_j ∙ at_y
      | inr differ ↦ elim (cases_lt i j) [
        | inl less ↦ (let up = registers_rise 256 q.told.ranges i j x less in_j in absurd (let no : ⊥ = omega (arith, up, here, there, same) in no))
        | inr more ↦ (let down = registers_rise 256 q.told.ranges j i x (omega (arith, more, differ)) in_i in absurd (let no : ⊥ = omega (arith, down, here, there, same) in no))
      ]
    ]

by_line : (on : Bool) (rest : Bool) → rest ≡ true → first_by on on rest ≡ true
by_line true rest is = is
by_line false rest is = is

by_on : (a b rest : Bool) → a ≡ true → b ≡ false → first_by a b rest ≡ true
by_on true false rest h k = refl
by_on true true rest h k = absurd (both_ways true k refl)
by_on false b rest h k = absurd (both_ways false refl h)

module _ (q : Request) (s : System) where
  abbrev on : ToldRegion → Bool
  on x = is_line_on q s x

  abbrev off : ToldRegion → Bool
  off x = not (is_line_on q s x)

  abbrev lines : List ToldRegion
  lines = told_regions q.told

  abbrev comes : ToldRegion → ToldRegion → Type 0
  comes x y = IsTrue (range_precedes q s x y)

  -- what a test keeps, where it tells of each whether it is on, is in order
  kept_in_order : (test : ToldRegion → Bool) (value : Bool) → ((x : ToldRegion) → test x ≡ true → is_line_on q s x ≡ value) → AllPairs comes (filter test lines)
  kept_in_order test value tells i j d up within =
      let xs = filter test lines in
      let x = get_or xs i d in
      let y = get_or xs j d in
      let less : x.register < y.register = pairs_filter (λ (x : ToldRegion) (y : ToldRegion). x.register < y.register) test lines (registers_rise 256 q.told.ranges) i j d up within in
      let kept_x = (in_filter_to test lines x (Contains-get_or xs i d (omega (arith, up, within)))).1 in
      let kept_y = (in_filter_to test lines y (Contains-get_or xs j d within)).1 in
      subst (λ b. first_by (is_line_on q s x) b (nat_lt x.register y.register) ≡ true) (tells x kept_x ∙ sym (tells y kept_y))
      (by_line (is_line_on q s x) (nat_lt x.register y.register) (lt-ltb x.register y.register less))

  pub on_then_off : AreRangesInOrder q s (filter on lines ++ filter off lines)
  on_then_off = record {
    all = λ x is_told told. elim (cases_Bool (is_line_on q s x)) [
      | inl is_on ↦ Contains-append_left (filter on lines) (filter off lines) x (in_filter_from on lines x is_told is_on)
      | inr is_off ↦ Contains-append_right (filter on lines) (filter off lines) x (in_filter_from off lines x is_told (not_from_false (is_line_on q s x) is_off))
    ];
    only = λ x has. elim (Contains-append_cases (filter on lines) (filter off lines) x has) [
      | inl left ↦ (in_filter_to on lines x left).0
      | inr right ↦ (in_filter_to off lines x right).0
    ];
    order = pairs_append comes (filter on lines) (filter off lines)
        (kept_in_order on true (λ x is. is))
        (kept_in_order off false (λ x is. not-true (is_line_on q s x) is))
        (λ x y left right.
        by_on (is_line_on q s x) (is_line_on q s y) (nat_lt x.register y.register) (in_filter_to on lines x left).1 (not-true (is_line_on q s y) (in_filter_to off lines y right).1));
  }

-- ---- a pass

and_among : (a b c : Bool) → (a && (b && c)) ≡ (a && b && c)
and_among true b c = refl
and_among false b c = refl

never_held : (told place off parts ranges : Bool) → told ≡ false → (told && place && off && parts && ranges) ≡ false
never_held false place off parts ranges h = refl
never_held true place off parts ranges h = absurd (both_ways true h refl)

module _ (q : Request) (s : System) (xs : List ToldRegion) (ordered : AreRangesInOrder q s xs) where
  pub no_range_told : (test : ToldRegion → Bool) → ((x : ToldRegion) → test x ≡ false) → AreFirstRangesTold q s xs 0 test
  no_range_told test none = record {
    each = λ k d less within. absurd (let no : ⊥ = omega (arith, less) in no);
    only = λ x is_told is. absurd (both_ways (test x) (none x) is);
  }

  range_at : (k : ℕ) (d : ToldRegion) → k < length xs → Contains (told_regions q.told) (get_or xs k d)
  range_at k d within = ordered.only (get_or xs k d) (Contains-get_or xs k d within)

  -- what comes before isn't one of those after it
  not_later : (j k : ℕ) (d : ToldRegion) → j ≤ k → k < length xs → range_precedes q s (get_or xs k d) (get_or xs j d) ≡ true → ⊥
  not_later j k d le within first = elim (cases_eq j k) [
    | inl same ↦ both_ways (range_precedes q s (get_or xs k d) (get_or xs k d)) (range_not_itself q s (get_or xs k d)) (subst (λ n. range_precedes q s (get_or xs k d) (get_or xs n d) ≡ true) same first)
    | inr differ ↦
        both_ways (range_precedes q s (get_or xs j d) (get_or xs j d)) (range_not_itself q s (get_or xs j d))
        (range_trans q s (get_or xs j d) (get_or xs k d) (get_or xs j d) (ordered.order j k d (omega (arith, le, differ)) within) first)
  ]

  module _ (count : ℕ) (test : ToldRegion → Bool) (told : AreFirstRangesTold q s xs count test) (within : count < length xs) (x : ToldRegion) (x_is : get_or xs count x ≡ x) where
    x_told : Contains (told_regions q.told) x
    x_told = subst (Contains (told_regions q.told)) x_is (range_at count x within)

    -- what stands so far comes before it
    before_it : (y : ToldRegion) → Contains (told_regions q.told) y → test y ≡ true → range_precedes q s y x ≡ true
    before_it y is_told is =
        let among = told.only y is_told is in
        let low = among.first in
        subst (λ z. range_precedes q s y z ≡ true) (get_or_default xs count y x within ∙ x_is)
        (subst (λ z. range_precedes q s z (get_or xs count y) ≡ true) among.is (ordered.order among.at count y low within))

    module _ (taken : List Range) (are : AreTakenBesideLine q s test x taken) where
      abbrev is_free : Bool
      is_free = list_all (λ t. ranges_are_apart t (line_range x)) taken

      abbrev off_parts : Bool
      off_parts = list_all (λ r. not (shares_with_line q r x && stands q s r)) (system_parts q s)

      abbrev off_ranges : Bool
      off_ranges = list_all (λ y. not (range_takes_from q s y x && test y)) (told_regions q.told)

      not_shared : (t : Range) → ranges_are_apart t (line_range x) ≡ true → not (ranges_are_apart t (line_range x)) ≡ true → ⊥
      not_shared t apart shares = both_ways (ranges_are_apart t (line_range x)) (not-true (ranges_are_apart t (line_range x)) shares) apart

      -- where it shares no address with what is taken, nothing that stands takes one from it
      free_parts : is_free ≡ true → off_parts ≡ true
      free_parts free = all_from (λ r. not (shares_with_line q r x && stands q s r)) (system_parts q s) (λ r listed.
          not_from_false (shares_with_line q r x && stands q s r) (false_from_ne_true (shares_with_line q r x && stands q s r) (λ both.
          let parts = and_parts (shares_with_line q r x) (stands q s r) both in
          let shares = and_parts (is_line_of q (part_space r) r.function.slot.bus x) (not (ranges_are_apart (addresses r) (line_range x))) parts.0 in
          not_shared (addresses r) (all_gives (λ t. ranges_are_apart t (line_range x)) taken free (addresses r) (are.parts r listed parts.1 shares.0)) shares.1)))

      free_ranges : is_free ≡ true → off_ranges ≡ true
      free_ranges free = all_from (λ y. not (range_takes_from q s y x && test y)) (told_regions q.told) (λ y is_told.
          not_from_false (range_takes_from q s y x && test y) (false_from_ne_true (range_takes_from q s y x && test y) (λ both.
          let parts = and_parts (range_takes_from q s y x) (test y) both in
          let takes = range_taking q s y x parts.0 in
          not_shared (line_range y) (all_gives (λ t. ranges_are_apart t (line_range x)) taken free (line_range y) (are.ranges y is_told parts.1 takes.beside)) takes.shares)))

      off_part : off_parts ≡ true → (t : Range) → IsTakenByPart q s x t → ranges_are_apart t (line_range x) ≡ true
      off_part off t of = subst (λ z. ranges_are_apart z (line_range x) ≡ true) of.is (elim (cases_Bool (ranges_are_apart (addresses of.r) (line_range x))) [
        | inl apart ↦ apart
        | inr shares ↦
            let share = and_from (is_line_of q (part_space of.r) of.r.function.slot.bus x) (not (ranges_are_apart (addresses of.r) (line_range x))) of.beside (not_from_false (ranges_are_apart (addresses of.r) (line_range x)) shares) in
            absurd (both_ways (not (shares_with_line q of.r x && stands q s of.r))
            (not_from_true (shares_with_line q of.r x && stands q s of.r) (and_from (shares_with_line q of.r x) (stands q s of.r) share of.stands))
            (all_gives (λ r. not (shares_with_line q r x && stands q s r)) (system_parts q s) off of.r of.listed))
      ])

      off_range : off_ranges ≡ true → (t : Range) → IsTakenByRange q test x t → ranges_are_apart t (line_range x) ≡ true
      off_range off t of = subst (λ z. ranges_are_apart z (line_range x) ≡ true) of.is (elim (cases_Bool (ranges_are_apart (line_range of.y) (line_range x))) [
        | inl apart ↦ apart
        | inr shares ↦
            let line = is_line_of q of.y.told.space (line_bus of.y) x in
            let take = and_from (line && range_precedes q s of.y x) (not (ranges_are_apart (line_range of.y) (line_range x)))
            (and_from line (range_precedes q s of.y x) of.beside (before_it of.y of.is_told of.stands)) (not_from_false (ranges_are_apart (line_range of.y) (line_range x)) shares) in
            absurd (both_ways (not (range_takes_from q s of.y x && test of.y))
            (not_from_true (range_takes_from q s of.y x && test of.y) (and_from (range_takes_from q s of.y x) (test of.y) take of.stands))
            (all_gives (λ y. not (range_takes_from q s y x && test y)) (told_regions q.told) off of.y of.is_told))
      ])

      free_of_all : is_free ≡ (off_parts && off_ranges)
      free_of_all = elim (cases_Bool (off_parts && off_ranges)) [
        | inl both ↦
            let parts = and_parts off_parts off_ranges both in
            all_from (λ t. ranges_are_apart t (line_range x)) taken (λ t has. elim (are.each t has) [
              | inl part ↦ off_part parts.0 t part
              | inr range ↦ off_range parts.1 t range
            ]) ∙ sym both
        | inr other ↦
            false_from_ne_true is_free (λ free. both_ways (off_parts && off_ranges) other (and_from off_parts off_ranges (free_parts free) (free_ranges free))) ∙ sym other
      ]

      -- so it stands where it is free in its place
      pub stands_if_free : is_free_in_place q s taken x ≡ range_stands_if q s test x
      stands_if_free =
          ap (λ b. not (is_held_line x) && is_range_in_place q s (stands q s) x && not (is_range_kept_off q x) && b) free_of_all
          ∙ and_among (not (is_held_line x) && is_range_in_place q s (stands q s) x && not (is_range_kept_off q x)) off_parts off_ranges
          ∙ sym (ranges_stand_beside_all q s test x x_told)

    module _ (next : ToldRegion → Bool) (here : next x ≡ range_stands_if q s test x) (others : (y : ToldRegion) → Contains (told_regions q.told) y → (y ≡ x) ⊎ (next y ≡ test y)) where
      kept : (y : ToldRegion) → Contains (told_regions q.told) y → y ≢ x → next y ≡ test y
      kept y is_told differ = elim (others y is_told) [ inl same ↦ absurd (differ same) | inr same ↦ same ]

      -- no range up to this one asks what this one answers
      same_asked : (k : ℕ) → k ≤ count → range_stands_if q s test (get_or xs k x) ≡ range_stands_if q s next (get_or xs k x)
      same_asked k le =
          range_by_asked q s test next (get_or xs k x)
          (λ y is_told first. sym (kept y is_told
          (λ same. not_later k count x le within (subst (λ z. range_precedes q s z (get_or xs k x) ≡ true) (same ∙ sym x_is) first))))

      not_it : (k : ℕ) → k < count → get_or xs k x ≢ x
      not_it k less same =
          both_ways (range_precedes q s x x) (range_not_itself q s x)
          (subst (λ z. range_precedes q s z x ≡ true) same (subst (λ z. range_precedes q s (get_or xs k x) z ≡ true) x_is (ordered.order k count x less within)))

      each_next : (k : ℕ) → k < count + 1 → k < length xs → next (get_or xs k x) ≡ range_stands_if q s next (get_or xs k x)
      each_next k less in_k = elim (cases_eq k count) [
        | inl same ↦
            subst (λ n. next (get_or xs n x) ≡ range_stands_if q s next (get_or xs n x)) (sym same)
            (ap next x_is ∙ here ∙ ap (range_stands_if q s test) (sym x_is) ∙ same_asked count (omega arith))
        | inr differ ↦
            let low : k < count = omega (arith, less, differ) in
            kept (get_or xs k x) (range_at k x in_k) (not_it k low)
            ∙ told.each k x low in_k
            ∙ same_asked k (omega (arith, low))
      ]

      among_next : (y : ToldRegion) → Contains (told_regions q.told) y → next y ≡ true → IsRangeAmong xs (count + 1) y
      among_next y is_told is = elim (others y is_told) [
        | inl same ↦ record {
          at = count;
          first = omega arith;
          within = within;
          is = get_or_default xs count y x within ∙ x_is ∙ sym same;
        }
        | inr same ↦
            let among = told.only y is_told (sym same ∙ is) in
            let low = among.first in
            record { at = among.at; first = omega (arith, low); within = among.within; is = among.is }
      ]

      pub next_told : AreFirstRangesTold q s xs (count + 1) next
      next_told = record {
        each = λ k d less in_k. subst (λ z. next z ≡ range_stands_if q s next z) (get_or_default xs k x d in_k) (each_next k less in_k);
        only = among_next;
      }

  -- in the end they are those that stand
  pub last_told : (count : ℕ) (test : ToldRegion → Bool) → length xs ≤ count → AreFirstRangesTold q s xs count test → (x : ToldRegion) → Contains (told_regions q.told) x → test x ≡ range_stands q s x
  last_told count test end told x is_told =
      ranges_stand_alone q s test (λ y in_y. elim (cases_Bool (is_held_line y)) [
        | inl held ↦
            false_from_ne_true (test y) (λ is.
            let among = told.only y in_y is in
            both_ways (test y) (subst (λ z. test z ≡ false) among.is (told.each among.at y among.first among.within ∙ held_never test (get_or xs among.at y) (subst (λ z. is_held_line z ≡ true) (sym among.is) held))) is)
            ∙ sym (held_never test y held)
        | inr not_held ↦
            let at = ordered.all y in_y not_held in
            let inside = at.1 in
            subst (λ z. test z ≡ range_stands_if q s test z) at.2 (told.each at.0 y (omega (arith, inside, end)) inside)
      ]) x is_told
    where
      held_never : (test : ToldRegion → Bool) (x : ToldRegion) → is_held_line x ≡ true → range_stands_if q s test x ≡ false
      held_never test x held =
          never_held (not (is_held_line x)) (is_range_in_place q s (stands q s) x) (not (is_range_kept_off q x))
          (list_all (λ r. not (takes_from_range q s r x && stands q s r)) (system_parts q s))
          (list_all (λ y. not (range_takes_from q s y x && test y)) (told_regions q.told)) (not_from_true (is_held_line x) held)

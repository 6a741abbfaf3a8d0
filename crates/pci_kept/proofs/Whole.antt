-- The parts that are collected and sorted are gone over in order, and in the end all that stand are noted.
use Rattle.std.proofs.Common.{◌≡◌, ℕ, zero, suc, ◌+◌, ◌-◌, ◌<◌, ◌⊎◌, inl, inr, List, [], ◌∷◌, ◌++◌, map, length, take, drop, get_or, Bool, true, false, cond, ◌&&◌, ◌||◌, arith, sym, ◌∙◌, ap, subst, refl}
use Rattle.std.specs.Bool.{nat_lt, ◌==◌}
use Rattle.std.specs.List.{All, AllPairs, Contains, range_with_len}
use Rattle.std.specs.List.Sorted.{IsPermutation}
use Rattle.std.proofs.lemmas.Bool.{cases_Bool, cases_lt, and_from, or_left, or_right, eq-eqb, lt-ltb, ltb-true, both_ways, false_from_ne_true}
use Rattle.std.proofs.lemmas.List.{length-map, get_or_default, get_or_past, append-nil, take_all, drop_all}
use Rattle.std.proofs.lemmas.List.Elements.{All-contains, Contains-append_cases, Contains-append_left, Contains-append_right, Contains-get_or}
use Rattle.std.proofs.lemmas.List.Sorted.{IsPermutation-sym, Contains-permutation}
use Rattle.std.proofs.lemmas.Option.{slice_get_within, get_or_from_slice_get}
use Rattle.pci_spec.specs.Header.{layout, bar_count}
use Rattle.pci_spec.specs.Window.{IoWindow, MemoryWindow, PrefetchWindow}
use Rattle.pci_spec.specs.System.{System, Function, Space, Io, Memory, Part, Bar, Rom, Window, IsSystem, has_part}
use Rattle.pci_spec.specs.Bus.{IsNested}
use Rattle.pci_spec.proofs.Members.{in_nil, in_map_to, in_map_from, in_filter_from, in_filter_to, in_flat_map_from, in_flat_map_to, IsInPiece, in_range_to, in_range_from, IsMade, pairs_map}
use Rattle.pci_spec.proofs.Regions.{bar_count-le}
use Rattle.plan_spec.proofs.Planning.AllItems.{pairs_unmap}
use Rattle.settle_spec.specs.Lists.{Request}
use Rattle.settle_spec.specs.Parts.{FunctionPart, system_parts, function_parts, parts_of, header_bars, header_parts, addresses, is_part}
use Rattle.settle_spec.specs.Stands.{is_fixed_part, is_part_on, count, rank, first_by, told_part_precedes, leads_to_one_on, stands}
use Rattle.settle_laws.specs.Order.{level, comes_first}
use Rattle.settle_laws.specs.Passes.{IsAmong}
use Rattle.settle_laws.proofs.Ranks.{ranks_rise}
use Rattle.settle_laws.proofs.Standing.{part_of, stands_by_itself}
use Rattle.settle_laws.proofs.Passes.{told_none, told_all}
use Rattle.pci_base.specs.declared.range.Range.{Range}
use Rattle.pci_place.proofs.Owned.{map_twice}
use Rattle.pci_first_fit.specs.declared.kept.Part.{Part as CodePart}
use Rattle.pci_first_fit.specs.declared.kept.Part.TheVariants as parts
use Rattle.pci_kept.specs.declared.region.Region.{Region as CodeRegion}
use Rattle.pci_first_fit.specs.declared.kept.Kept.{Kept}
use Rattle.pci_kept.specs.Known.{Known, region_value, known, known_of, HasAddress, AreParts}
use Rattle.pci_kept.specs.Boards.{IsKnown, IsKnownPart, AreOpen}
use Rattle.pci_kept.specs.Leads.{IsLeading}
use Rattle.pci_kept.specs.Order.{span_of, turn_number, turn_of, IsPartInTurn}
use Rattle.pci_first_fit.specs.Kept.{IsCodePart, spec_part, kept_of, nothing_kept, AreNone}
use Rattle.pci_kept.specs.Tables.{index_of, stands_in}
use Rattle.pci_kept.specs.Taken.{taken_with}
use Rattle.pci_kept.specs.Passing.{CanBeNoted, AreOrdered, AreTakenOn, AreFirstPassed, AreStanding}
use Rattle.pci_kept.proofs.Indexes.{table_at}

-- ---- slices

-- what a slice of a list gives back
pub slice_back : {X : Type 0} (len : ℕ) (new old : List X) → length new ≡ length old → len ≡ length old → take len (new ++ drop (length new) old) ≡ new
slice_back len new old same long =
    ap (λ xs. take len (new ++ xs)) (drop_all (length new) old (omega (arith, same)))
    ∙ ap (take len) (append-nil new)
    ∙ take_all len new (omega (arith, same, long))

-- ---- the order

abbrev two_of : Bool → Bool → ℕ
two_of f o = cond f 0 2 + cond o 0 1

by_two : (f o g p rest : Bool) → (two_of f o < two_of g p) ⊎ ((two_of f o ≡ two_of g p) × (rest ≡ true)) → first_by f g (first_by o p rest) ≡ true
by_two true true true true rest h = elim h [ inl less ↦ absurd (let no : ⊥ = omega (arith, less) in no) | inr both ↦ both.1 ]
by_two true true true false rest h = refl
by_two true true false p rest h = refl
by_two true false true true rest h = elim h [ inl less ↦ absurd (let no : ⊥ = omega (arith, less) in no) | inr both ↦ (let e = both.0 in absurd (let no : ⊥ = omega (arith, e) in no)) ]
by_two true false true false rest h = elim h [ inl less ↦ absurd (let no : ⊥ = omega (arith, less) in no) | inr both ↦ both.1 ]
by_two true false false p rest h = refl
by_two false true true true rest h = elim h [ inl less ↦ absurd (let no : ⊥ = omega (arith, less) in no) | inr both ↦ (let e = both.0 in absurd (let no : ⊥ = omega (arith, e) in no)) ]
by_two false true true false rest h = elim h [ inl less ↦ absurd (let no : ⊥ = omega (arith, less) in no) | inr both ↦ (let e = both.0 in absurd (let no : ⊥ = omega (arith, e) in no)) ]
by_two false true false true rest h = elim h [ inl less ↦ absurd (let no : ⊥ = omega (arith, less) in no) | inr both ↦ both.1 ]
by_two false true false false rest h = refl
by_two false false true true rest h = elim h [ inl less ↦ absurd (let no : ⊥ = omega (arith, less) in no) | inr both ↦ (let e = both.0 in absurd (let no : ⊥ = omega (arith, e) in no)) ]
by_two false false true false rest h = elim h [ inl less ↦ absurd (let no : ⊥ = omega (arith, less) in no) | inr both ↦ (let e = both.0 in absurd (let no : ⊥ = omega (arith, e) in no)) ]
by_two false false false true rest h = elim h [ inl less ↦ absurd (let no : ⊥ = omega (arith, less) in no) | inr both ↦ (let e = both.0 in absurd (let no : ⊥ = omega (arith, e) in no)) ]
by_two false false false false rest h = elim h [ inl less ↦ absurd (let no : ⊥ = omega (arith, less) in no) | inr both ↦ both.1 ]

few : (g p : Bool) → two_of g p < 4
few true true = omega arith
few true false = omega arith
few false true = omega arith
few false false = omega arith

by_turn : (l f o m g p rest : Bool) → (turn_number l f o < turn_number m g p) ⊎ ((turn_number l f o ≡ turn_number m g p) × (rest ≡ true)) → first_by l m (first_by f g (first_by o p rest)) ≡ true
by_turn true f o true g p rest h = by_two f o g p rest (elim h [ inl less ↦ inl (omega (arith, less)) | inr both ↦ (let e = both.0 in inr (omega (arith, e), both.1)) ])
by_turn true f o false g p rest h = refl
by_turn false f o true g p rest h =
    let low = few g p in
    absurd (elim h [ inl less ↦ (let no : ⊥ = omega (arith, less, low) in no) | inr both ↦ (let e = both.0 in let no : ⊥ = omega (arith, e, low) in no) ])
by_turn false f o false g p rest h = by_two f o g p rest (elim h [ inl less ↦ inl (omega (arith, less)) | inr both ↦ (let e = both.0 in inr (omega (arith, e), both.1)) ])

by_size : (a b m n : ℕ) → (b < a) ⊎ ((a ≡ b) × (m < n)) → (nat_lt b a || (a == b && nat_lt m n)) ≡ true
by_size a b m n h = elim h [
  | inl less ↦ or_left (nat_lt b a) (a == b && nat_lt m n) (lt-ltb b a less)
  | inr both ↦ or_right (nat_lt b a) (a == b && nat_lt m n) (and_from (a == b) (nat_lt m n) (eq-eqb a b both.0) (lt-ltb m n both.1))
]

by_level : (a b : ℕ) (x : Bool) → (a < b) ⊎ ((a ≡ b) × (x ≡ true)) → (nat_lt a b || (a == b && x)) ≡ true
by_level a b x h = elim h [
  | inl less ↦ or_left (nat_lt a b) (a == b && x) (lt-ltb a b less)
  | inr both ↦ or_right (nat_lt a b) (a == b && x) (and_from (a == b) x (eq-eqb a b both.0) both.1)
]

module _ (q : Request) (s : System) where
  abbrev number : CodeRegion → ℕ
  number r = rank (region_value s r)

  module _ (r t : CodeRegion) (r_known : IsKnownPart q s r) (t_known : IsKnownPart q s t) where
    r_is : IsKnown q s r
    r_is = r_known.is

    t_is : IsKnown q s t
    t_is = t_known.is

    abbrev v : FunctionPart
    v = region_value s r

    abbrev w : FunctionPart
    w = region_value s t

    size_of_r : count (addresses v) ≡ span_of r + 1
    size_of_r =
        let e : count (record { first = r.range.first; last = r.range.last }) ≡ count (addresses v) = ap (λ (k : Known). count k.range) r_is.all in
        let up = r_is.forward in
        sym e ∙ (let d : r.range.last + 1 - r.range.first ≡ span_of r + 1 = omega (arith, up) in d)

    size_of_t : count (addresses w) ≡ span_of t + 1
    size_of_t =
        let e : count (record { first = t.range.first; last = t.range.last }) ≡ count (addresses w) = ap (λ (k : Known). count k.range) t_is.all in
        let up = t_is.forward in
        sym e ∙ (let d : t.range.last + 1 - t.range.first ≡ span_of t + 1 = omega (arith, up) in d)

    abbrev rest : Bool
    rest = nat_lt (count (addresses w)) (count (addresses v)) || (count (addresses v) == count (addresses w) && nat_lt (rank v) (rank w))

    larger_first : (span_of t < span_of r) ⊎ ((span_of r ≡ span_of t) × (number r < number t)) → rest ≡ true
    larger_first h =
        let a = size_of_r in
        let b = size_of_t in
        by_size (count (addresses v)) (count (addresses w)) (rank v) (rank w) (elim h [
          | inl less ↦ inl (omega (arith, less, a, b))
          | inr both ↦ (let e = both.0 in inr (omega (arith, e, a, b), both.1))
        ])

    turn_r : turn_of r ≡ turn_number (leads_to_one_on q s v) (is_fixed_part q v) (is_part_on v)
    turn_r = ap (λ b. turn_number b r.fixed r.on) r_known.leads.leads ∙ ap (λ (k : Known). turn_number (leads_to_one_on q s v) k.fixed k.on) r_is.all

    turn_t : turn_of t ≡ turn_number (leads_to_one_on q s w) (is_fixed_part q w) (is_part_on w)
    turn_t = ap (λ b. turn_number b t.fixed t.on) t_known.leads.leads ∙ ap (λ (k : Known). turn_number (leads_to_one_on q s w) k.fixed k.on) t_is.all

    turn_first : (turn_of r < turn_of t) ⊎ ((turn_of r ≡ turn_of t) × ((span_of t < span_of r) ⊎ ((span_of r ≡ span_of t) × (number r < number t)))) → told_part_precedes q s v w ≡ true
    turn_first h =
        let a = turn_r in
        let b = turn_t in
        by_turn (leads_to_one_on q s v) (is_fixed_part q v) (is_part_on v) (leads_to_one_on q s w) (is_fixed_part q w) (is_part_on w) rest (elim h [
          | inl less ↦ inl (subst (λ n. n < turn_number (leads_to_one_on q s w) (is_fixed_part q w) (is_part_on w)) a (subst (λ n. turn_of r < n) b less))
          | inr both ↦ inr (sym a ∙ both.0 ∙ b, larger_first both.1)
        ])

    comes : IsPartInTurn number r t → comes_first q s v w ≡ true
    comes h =
        let a : r.level ≡ level q v.function.slot.bus = ap (λ (k : Known). k.level) r_is.all in
        let b : t.level ≡ level q w.function.slot.bus = ap (λ (k : Known). k.level) t_is.all in
        by_level (level q v.function.slot.bus) (level q w.function.slot.bus) (told_part_precedes q s v w) (elim h [
          | inl less ↦ inl (subst (λ n. n < level q w.function.slot.bus) a (subst (λ n. r.level < n) b less))
          | inr both ↦ inr (sym a ∙ both.0 ∙ b, turn_first both.1)
        ])

  -- ---- what was collected

  module _ (collected : List CodeRegion) (are : AreParts q s collected) where
    pub values_are : map (region_value s) collected ≡ system_parts q s
    values_are =
        sym (map_twice (λ (k : Known). k.region) (known s) collected)
        ∙ ap (map (λ (k : Known). k.region)) are.same
        ∙ map_twice (λ (k : Known). k.region) (known_of q s) (system_parts q s)
        ∙ itself (system_parts q s)
      where
        itself : (xs : List FunctionPart) → map (λ x. x) xs ≡ xs
        itself [] = refl
        itself (x ∷ xs) = ap (λ ys. x ∷ ys) (itself xs)

    pub numbers_rise : IsSystem s → AllPairs (λ r t. number r < number t) collected
    numbers_rise system =
        pairs_unmap (λ r t. rank r < rank t) (region_value s) collected
        (subst (AllPairs (λ r t. rank r < rank t)) (sym values_are) (ranks_rise q s system))

    pub known_in : (x : CodeRegion) → Contains collected x → IsKnown q s x
    known_in x listed =
        let has : Contains (map (known_of q s) (system_parts q s)) (known s x) = subst (λ ks. Contains ks (known s x)) are.same (in_map_from (known s) collected x listed) in
        let made : IsMade (known_of q s) (system_parts q s) (known s x) = in_map_to (known_of q s) (system_parts q s) (known s x) has in
        let same : made.from ≡ region_value s x = ap (λ (k : Known). k.region) made.is in
        record {
          listed = subst (Contains (system_parts q s)) same made.has;
          all = sym made.is ∙ ap (known_of q s) same;
          within = All-contains (λ (r : CodeRegion). r.function < length s) collected x are.within listed;
          forward = All-contains HasAddress collected x are.forward listed;
        }

    module _ (rs : List CodeRegion) (moved : IsPermutation collected rs) where
      pub known_sorted : (x : CodeRegion) → Contains rs x → IsKnown q s x
      known_sorted x listed = known_in x (Contains-permutation rs collected x (IsPermutation-sym collected rs moved) listed)

      all_known : All (IsKnown q s) rs
      all_known k d low = known_sorted (get_or rs k d) (Contains-get_or rs k d low)

      pub leads_sorted : All (IsLeading q s) collected → All (IsLeading q s) rs
      leads_sorted leads k d low = All-contains (IsLeading q s) collected (get_or rs k d) leads (Contains-permutation rs collected (get_or rs k d) (IsPermutation-sym collected rs moved) (Contains-get_or rs k d low))

      known_part : All (IsLeading q s) rs → All (IsKnownPart q s) rs
      known_part leads k d low = record { is = all_known k d low; leads = leads k d low }

      has_all : (r : FunctionPart) → Contains (system_parts q s) r → Contains (map (region_value s) rs) r
      has_all r listed =
          let made : IsMade (region_value s) collected r = in_map_to (region_value s) collected r (subst (λ xs. Contains xs r) (sym values_are) listed) in
          subst (Contains (map (region_value s) rs)) made.is (in_map_from (region_value s) rs made.from (Contains-permutation collected rs made.from moved made.has))

      has_only : (r : FunctionPart) → Contains (map (region_value s) rs) r → Contains (system_parts q s) r
      has_only r listed =
          let made : IsMade (region_value s) rs r = in_map_to (region_value s) rs r listed in
          subst (Contains (system_parts q s)) made.is (known_sorted made.from made.has).listed

      pub ordered : All (IsLeading q s) rs → AllPairs (IsPartInTurn number) rs → AreOrdered q s rs
      ordered leads turn = record {
        known = λ k d low. known_part leads k d low;
        order = record {
          all = has_all;
          only = has_only;
          order = pairs_map (λ r t. comes_first q s r t ≡ true) (region_value s) rs
              (λ i j d up inside. comes (get_or rs i d) (get_or rs j d) (known_part leads i d (omega (arith, up, inside))) (known_part leads j d inside) (turn i j d up inside));
        };
      }

      -- a header has six Base Address registers at most
      ready_part : (p : CodePart) (f : Function) → Contains (header_parts f) (spec_part p) → IsCodePart p
      ready_part (parts.Bar n) f listed = elim (Contains-append_cases (header_bars f) (Window IoWindow ∷ Window MemoryWindow ∷ Window PrefetchWindow ∷ Rom ∷ []) (Bar n) listed) [
        | inl bar ↦
            let made : IsMade Bar (range_with_len 0 (bar_count (layout f.image))) (Bar n) = in_map_to Bar (range_with_len 0 (bar_count (layout f.image))) (Bar n) bar in
            let low = (in_range_to 0 (bar_count (layout f.image)) made.from made.has).1 in
            let few = bar_count-le (layout f.image) in
            let is = made.is in
            let same : made.from ≡ n = cc in
            omega (arith, low, few, same)
        | inr other ↦ absurd (no_bar other)
      ]
        where
          no_bar : Contains (Window IoWindow ∷ Window MemoryWindow ∷ Window PrefetchWindow ∷ Rom ∷ []) (Bar n) → ⊥
          no_bar (zero, within, at) = cc
          no_bar (suc zero, within, at) = cc
          no_bar (suc (suc zero), within, at) = cc
          no_bar (suc (suc (suc zero)), within, at) = cc
          no_bar (suc (suc (suc (suc k))), within, at) = omega (arith, within)
      ready_part parts.Rom f listed = tt
      ready_part (parts.Window kind) f listed = tt

      in_header : (r : FunctionPart) → Contains (system_parts q s) r → Contains (header_parts r.function) r.part
      in_header r has =
          let piece : IsInPiece (function_parts q s) s r = in_flat_map_to (function_parts q s) s r has in
          let f = piece.of in
          let made : IsMade (λ p. record { function = f; part = p }) (parts_of q s f) r = in_map_to (λ p. record { function = f; part = p }) (parts_of q s f) r piece.piece in
          let kept = in_filter_to (is_part q s f) (header_parts f) made.from made.has in
          subst (λ (x : FunctionPart). Contains (header_parts x.function) x.part) made.is kept.0

      pub ready : (functions : ℕ) → functions ≡ length s → All (CanBeNoted functions) rs
      ready functions same k d low =
          let is = all_known k d low in
          let within = is.within in
          record {
            function = omega (arith, within, same);
            part = ready_part (get_or rs k d).part (region_value s (get_or rs k d)).function (in_header (region_value s (get_or rs k d)) is.listed);
            forward = is.forward;
          }

  -- ---- at the beginning, and in the end

  module _ (nested : IsNested q.roots s) (rs : List CodeRegion) (order : AreOrdered q s rs) where
    pub passed_none : (table : List Kept) → length table ≡ length s → AreNone table → (bus : ℕ) (io mem : List Range) → bus ≡ 0 → io ≡ [] → mem ≡ [] → AreFirstPassed q s rs 0 (taken_with bus io mem) table
    passed_none table size none bus io mem low no_io no_mem =
        subst (λ n. AreFirstPassed q s rs 0 (taken_with n io mem) table) (sym low)
        (subst (λ xs. AreFirstPassed q s rs 0 (taken_with 0 xs mem) table) (sym no_io) (subst (λ xs. AreFirstPassed q s rs 0 (taken_with 0 [] xs) table) (sym no_mem) record {
          size = size;
          told = told_none q s nested (map (region_value s) rs) order.order (stands_in s table) nothing_on;
          io_taken = none_taken Io;
          mem_taken = none_taken Memory;
          below = λ t listed is. absurd (both_ways (stands_in s table t) (nothing_on t) is);
          above = λ k d from inside. omega arith;
        }))
      where
        none_of : (p : Part) → kept_of nothing_kept p ≡ false
        none_of (Bar n) = refl
        none_of Rom = refl
        none_of (Window IoWindow) = refl
        none_of (Window MemoryWindow) = refl
        none_of (Window PrefetchWindow) = refl

        in_entry : (k : ℕ) (p : Part) → kept_of (get_or table k nothing_kept) p ≡ false
        in_entry k p = elim (cases_lt k (length table)) [
          | inl inside ↦ none k nothing_kept inside p
          | inr past ↦ ap (λ t. kept_of t p) (get_or_past table k nothing_kept past) ∙ none_of p
        ]

        nothing_on : (t : FunctionPart) → stands_in s table t ≡ false
        nothing_on t = in_entry (index_of s t.function.slot) t.part

        none_taken : (space : Space) → AreTakenOn q s (stands_in s table) 0 space []
        none_taken space = record {
          each = λ x listed. absurd (in_nil x listed);
          all = λ t by. absurd (both_ways (stands_in s table t) (nothing_on t) by.stands);
        }

    -- a part of a header that the function has is one of its parts
    has_in_header : (f : Function) (p : Part) → has_part f p ≡ true → Contains (header_parts f) p
    has_in_header f (Bar n) there =
        Contains-append_left (header_bars f) (Window IoWindow ∷ Window MemoryWindow ∷ Window PrefetchWindow ∷ Rom ∷ []) (Bar n)
        (in_map_from Bar (range_with_len 0 (bar_count (layout f.image))) n (in_range_from 0 (bar_count (layout f.image)) n (omega arith) (let low = ltb-true n (bar_count (layout f.image)) there in omega (arith, low))))
    has_in_header f Rom there = Contains-append_right (header_bars f) (Window IoWindow ∷ Window MemoryWindow ∷ Window PrefetchWindow ∷ Rom ∷ []) Rom (3, omega arith, refl)
    has_in_header f (Window IoWindow) there = Contains-append_right (header_bars f) (Window IoWindow ∷ Window MemoryWindow ∷ Window PrefetchWindow ∷ Rom ∷ []) (Window IoWindow) (0, omega arith, refl)
    has_in_header f (Window MemoryWindow) there = Contains-append_right (header_bars f) (Window IoWindow ∷ Window MemoryWindow ∷ Window PrefetchWindow ∷ Rom ∷ []) (Window MemoryWindow) (1, omega arith, refl)
    has_in_header f (Window PrefetchWindow) there = Contains-append_right (header_bars f) (Window IoWindow ∷ Window MemoryWindow ∷ Window PrefetchWindow ∷ Rom ∷ []) (Window PrefetchWindow) (2, omega arith, refl)

    -- only open windows stand
    pub open_alone : (count bus : ℕ) (io mem : List Range) (table : List Kept) → AreFirstPassed q s rs count (taken_with bus io mem) table → AreOpen s table
    open_alone count bus io mem table passed c b listed is =
        let among = passed.told.only (record { function = b; part = Window c }) listed is in
        (part_of q s (record { function = b; part = Window c }) (order.order.only (record { function = b; part = Window c }) (subst (Contains (map (region_value s) rs)) among.is (Contains-get_or (map (region_value s) rs) among.at (record { function = b; part = Window c }) among.within)))).is

    pub all_stand : IsSystem s → (bus : ℕ) (io mem : List Range) (table : List Kept) → AreFirstPassed q s rs (length rs) (taken_with bus io mem) table → AreStanding q s table
    all_stand system bus io mem table passed = record {
      count = passed.size;
      opens = open_alone (length rs) bus io mem table passed;
      each = λ k f d p at there. (
          let within : k < length table = (let low = slice_get_within s k f at in let size = passed.size in omega (arith, low, size)) in
          ap (λ t. kept_of t p) (get_or_default table k d nothing_kept within)
          ∙ sym (table_at s system table k f p at)
          ∙ told f p (k, slice_get_within s k f at, get_or_from_slice_get s k f f at) there);
    }
      where
        long : length (map (region_value s) rs) ≡ length rs
        long = length-map rs (region_value s)

        never : (r : FunctionPart) → is_part q s r.function r.part ≡ false → IsAmong (map (region_value s) rs) (length rs) r → ⊥
        never r off among =
            both_ways (is_part q s r.function r.part) off
            (part_of q s r (order.order.only r (subst (Contains (map (region_value s) rs)) among.is (Contains-get_or (map (region_value s) rs) among.at r among.within)))).is

        told : (f : Function) (p : Part) → Contains s f → has_part f p ≡ true → stands_in s table (record { function = f; part = p }) ≡ stands q s (record { function = f; part = p })
        told f p in_f there =
            let r : FunctionPart = record { function = f; part = p } in
            elim (cases_Bool (is_part q s f p)) [
              | inl is ↦
                  let listed : Contains (system_parts q s) r = in_flat_map_from (function_parts q s) s f r in_f (in_map_from (λ o. record { function = f; part = o }) (parts_of q s f) p (in_filter_from (is_part q s f) (header_parts f) p (has_in_header f p there) is)) in
                  told_all q s nested (map (region_value s) rs) order.order (length rs) (stands_in s table) (let l = long in omega (arith, l)) passed.told r listed
              | inr off ↦
                  false_from_ne_true (stands_in s table r) (λ is. never r off (passed.told.only r in_f is))
                  ∙ sym (false_from_ne_true (stands q s r) (λ is. both_ways (is_part q s f p) off ((stands_by_itself q s nested).only r in_f is)))
            ]

-- The turns of told ranges: those that are on, and then those that are off.
use Rattle.std.proofs.Common.{◌≡◌, ℕ, suc, ◌+◌, ◌-◌, ◌<◌, ◌≤◌, List, [], ◌∷◌, ◌++◌, map, length, get_or, replicate, Bool, true, false, cond, not, arith, sym, ◌∙◌, ap, subst, refl, inl, inr}
use Rattle.std.specs.Bool.{beq}
use Rattle.std.specs.List.{All, Contains, filter, range_with_len}
use Rattle.std.proofs.lemmas.Bool.{cases_lt, both_ways}
use Rattle.std.proofs.lemmas.List.{length-replicate, get_or_past, get_or-replicate, map-append}
use Rattle.std.proofs.lemmas.List.Elements.{Contains-append_cases, Contains-get_or}
use Rattle.std.proofs.lemmas.List.FromFn.{filter_of_map_range_with_len_more}
use Rattle.std.proofs.lemmas.Option.{slice_get_within, get_or_from_slice_get}
use Rattle.pci_spec.specs.System.{System}
use Rattle.pci_spec.proofs.Members.{in_nil, in_head, in_tail, in_filter_to, in_map_from, in_range_to, in_range_from}
use Rattle.judge_spec.specs.Told.{ToldRange}
use Rattle.judge_spec.specs.ToldRegion.{ToldRegion, regions_from, told_regions}
use Rattle.settle_spec.specs.Lists.{Request}
use Rattle.settle_spec.specs.Stands.{is_line_on, range_stands}
use Rattle.settle_laws.specs.StandingTold.Passes.{AreRangesInOrder}
use Rattle.settle_laws.proofs.StandingTold.Passes.{on_then_off, no_range_told, last_told}
use Rattle.pci_place.proofs.Mapped.{filter-map}
use Rattle.pci_kept.specs.declared.rows.Row.{Row}
use Rattle.pci_kept.specs.declared.told_line.ToldLine.{ToldLine}
use Rattle.pci_kept.specs.RangePass.{no_range, no_told_line, region_at, range_flag, turns_up_to, turns_of, all_turns, AreRangesPassed, AreStandingRanges}
use Rattle.pci_kept.specs.ToldLines.{AreToldLines}

-- ---- one index more

itself : (xs : List ℕ) → map (λ x. x) xs ≡ xs
itself [] = refl
itself (x ∷ xs) = ap (λ ys. x ∷ ys) (itself xs)

filter_more : (test : ℕ → Bool) (n : ℕ) → filter test (range_with_len 0 (n + 1)) ≡ filter test (range_with_len 0 n) ++ cond (test n) (n ∷ []) []
filter_more test n =
    ap (filter test) (sym (itself (range_with_len 0 (n + 1))))
    ∙ filter_of_map_range_with_len_more test (λ k. k) 0 n n (omega arith)
    ∙ ap (λ xs. filter test xs ++ cond (test n) (n ∷ []) []) (itself (range_with_len 0 n))

-- where the test at it comes to a value
pub turns_more : (on : Bool) (lines : List ToldLine) (n : ℕ) (value : Bool) → beq (get_or lines n no_told_line).on on ≡ value → turns_up_to on lines (n + 1) ≡ turns_up_to on lines n ++ cond value (n ∷ []) []
turns_more on lines n value is =
    filter_more (λ k. beq (get_or lines k no_told_line).on on) n ∙ ap (λ b. turns_up_to on lines n ++ cond b (n ∷ []) []) is

pub turns_low : (on : Bool) (lines : List ToldLine) (k : ℕ) → Contains (turns_of on lines) k → k < length lines
turns_low on lines k has =
    let in_all = (in_filter_to (λ j. beq (get_or lines j no_told_line).on on) (range_with_len 0 (length lines)) k has).0 in
    let low = (in_range_to 0 (length lines) k in_all).1 in
    omega (arith, low)

pub all_low : (lines : List ToldLine) (count : ℕ) → length lines ≡ count → All (λ k. k < count) (all_turns lines)
all_low lines count same k d low =
    let turns = all_turns lines in
    let index = get_or turns k d in
    let small : index < length lines = elim (Contains-append_cases (turns_of true lines) (turns_of false lines) index (Contains-get_or turns k d low)) [
      | inl on ↦ turns_low true lines index on
      | inr off ↦ turns_low false lines index off
    ] in
    omega (arith, small, same)

-- ---- told ranges by their indexes

numbered : (f : ℕ → ToldRegion) (a first : ℕ) (ranges : List ToldRange) → ((k : ℕ) → k < length ranges → f (a + k) ≡ record { register = first + k; told = get_or ranges k no_range })
    → regions_from first ranges ≡ map f (range_with_len a (length ranges))
numbered f a first [] each = refl
numbered f a first (t ∷ ranges) each =
    let here : f a ≡ record { register = first; told = t } =
    ap f (let e : a ≡ a + 0 = omega arith in e) ∙ each 0 (omega arith) ∙ ap (λ n. record { register = n; told = t }) (let e : first + 0 ≡ first = omega arith in e) in
    let rest = numbered f (a + 1) (first + 1) ranges (λ k low.
    ap f (let e : a + 1 + k ≡ a + suc k = omega arith in e) ∙ each (suc k) (omega (arith, low))
    ∙ ap (λ n. record { register = n; told = get_or ranges k no_range }) (let e : first + suc k ≡ first + 1 + k = omega arith in e)) in
    ap (λ x. x ∷ regions_from (first + 1) ranges) (sym here) ∙ ap (λ xs. f a ∷ xs) rest

pub told_by_index : (q : Request) → told_regions q.told ≡ map (region_at q) (range_with_len 0 (length q.told.ranges))
told_by_index q = numbered (region_at q) 0 256 q.told.ranges (λ k low. ap (region_at q) (let e : 0 + k ≡ k = omega arith in e))

filter_agree : (test other : ℕ → Bool) (xs : List ℕ) → ((x : ℕ) → Contains xs x → test x ≡ other x) → filter test xs ≡ filter other xs
filter_agree test other [] agree = refl
filter_agree test other (x ∷ xs) agree =
    ap (λ b. cond b (x ∷ filter test xs) (filter test xs)) (agree x (in_head x xs))
    ∙ ap (λ ys. cond (other x) (x ∷ ys) ys) (filter_agree test other xs (λ y listed. agree y (in_tail x xs y listed)))

is_true : (b : Bool) → b ≡ beq b true
is_true true = refl
is_true false = refl

is_false : (b : Bool) → not b ≡ beq b false
is_false true = refl
is_false false = refl

module _ (q : Request) (s : System) (lines : List ToldLine) (are : AreToldLines q s lines) where
  on_is : (k : ℕ) → k < length q.told.ranges → is_line_on q s (region_at q k) ≡ (get_or lines k no_told_line).on
  on_is k low = sym (are.each k no_told_line no_range low).on

  -- what a test keeps of them
  kept : (test : ToldRegion → Bool) (on : Bool) → ((k : ℕ) → k < length q.told.ranges → test (region_at q k) ≡ beq (get_or lines k no_told_line).on on)
      → filter test (told_regions q.told) ≡ map (region_at q) (turns_of on lines)
  kept test on agree =
      ap (filter test) (told_by_index q)
      ∙ filter-map test (region_at q) (range_with_len 0 (length q.told.ranges))
      ∙ ap (map (region_at q))
      (filter_agree (λ k. test (region_at q k)) (λ k. beq (get_or lines k no_told_line).on on) (range_with_len 0 (length q.told.ranges))
      (λ k has. agree k (let low = (in_range_to 0 (length q.told.ranges) k has).1 in omega (arith, low))))
      ∙ ap (λ n. map (region_at q) (turns_up_to on lines n)) (sym are.size)

  pub in_turn : AreRangesInOrder q s (map (region_at q) (all_turns lines))
  in_turn = subst (AreRangesInOrder q s)
      (ap (λ xs. xs ++ filter (λ x. not (is_line_on q s x)) (told_regions q.told)) (kept (is_line_on q s) true (λ k low. on_is k low ∙ is_true (get_or lines k no_told_line).on))
      ∙ ap (λ xs. map (region_at q) (turns_of true lines) ++ xs) (kept (λ x. not (is_line_on q s x)) false (λ k low. ap not (on_is k low) ∙ is_false (get_or lines k no_told_line).on))
      ∙ sym (map-append (region_at q) (turns_of true lines) (turns_of false lines)))
      (on_then_off q s)

-- ---- at the beginning, and in the end

module _ (q : Request) (s : System) (xs : List ToldRegion) (ordered : AreRangesInOrder q s xs) where
  pub passed_none : (count : ℕ) (flags : List Bool) → flags ≡ replicate count false → length q.told.ranges ≡ count → (taken : List Row) → taken ≡ [] → AreRangesPassed q s xs 0 taken flags
  passed_none count flags none same taken empty = subst (λ rows. AreRangesPassed q s xs 0 rows flags) (sym empty) record {
    size = ap length none ∙ length-replicate count false ∙ sym same;
    told = no_range_told q s xs ordered (range_flag flags) no_flag;
    rows = record {
      each = λ r has. absurd (in_nil r has);
      all = λ y is_told is. absurd (both_ways (range_flag flags y) (no_flag y) is);
    };
  }
    where
      none_at : (k : ℕ) → get_or (replicate count false) k false ≡ false
      none_at k = elim (cases_lt k count) [
        | inl low ↦ get_or-replicate count k false false low
        | inr past ↦ get_or_past (replicate count false) k false (let long = length-replicate count false in omega (arith, long, past))
      ]

      no_flag : (x : ToldRegion) → range_flag flags x ≡ false
      no_flag x = ap (λ fs. get_or fs (x.register - 256) false) none ∙ none_at (x.register - 256)

  pub stand_by_flags : (count : ℕ) (taken : List Row) (flags : List Bool) → length xs ≤ count → AreRangesPassed q s xs count taken flags → AreStandingRanges q s flags
  stand_by_flags count taken flags end passed n r at =
      let low = slice_get_within q.told.ranges n r at in
      let has : Contains (told_regions q.told) (region_at q n) =
      subst (λ ys. Contains ys (region_at q n)) (sym (told_by_index q)) (in_map_from (region_at q) (range_with_len 0 (length q.told.ranges)) n (in_range_from 0 (length q.told.ranges) n (omega arith) (omega (arith, low)))) in
      ap (λ m. get_or flags m false) (let e : n ≡ 256 + n - 256 = omega arith in e)
      ∙ last_told q s xs ordered count (range_flag flags) end passed.told (region_at q n) has
      ∙ ap (λ t. range_stands q s record { register = 256 + n; told = t }) (get_or_from_slice_get q.told.ranges n r no_range at)

-- Rows of told ranges: what the lines of a text hold on a bus, and behind a window, is what rows hold.
use Rattle.std.proofs.Common.{◌≡◌, ℕ, zero, suc, ◌+◌, ◌<◌, ◌≤◌, inl, inr, Bool, true, false, cond, ◌&&◌, ◌||◌, not, List, [], ◌∷◌, ◌++◌, map, take, length, get_or, append-nil, append_assoc, refl, sym, ap, subst, ◌∙◌, arith}
use Rattle.std.specs.Bool.{nat_le, ◌==◌}
use Rattle.std.specs.List.{All, Contains, filter, list_all, slice_range, AllWithin}
use Rattle.std.specs.List.Sorted.{IsPermutation}
use Rattle.std.proofs.lemmas.Bool.{cases_Bool, cases_lt, cases_eq, and_parts, eqb-true, eq-eqb, ne_eqb, leb-true, le-leb, both_ways, false_from_ne_true}
use Rattle.std.proofs.lemmas.List.{map-append, take_all, length-take, length-map}
use Rattle.std.proofs.lemmas.Grind.{take_at_read}
use Rattle.std.proofs.lemmas.List.Elements.{All-append, All-contains, Contains-get_or}
use Rattle.std.proofs.lemmas.List.Sorted.{IsPermutation-sym, IsPermutation-trans, IsPermutation-map, IsPermutation-append, length_permutation, IsPermutation-filter_both, Contains-permutation}
use Rattle.pci_spec.specs.Slot.{Slot, same_slot}
use Rattle.pci_spec.specs.Decoded.{Range as DecodedRange}
use Rattle.pci_spec.specs.Window.{WindowKind}
use Rattle.pci_spec.specs.Bus.{is_root, are_siblings, secondary, subordinate}
use Rattle.pci_spec.specs.System.{Function, Space, window_space}
use Rattle.pci_spec.proofs.Members.{in_head, in_tail, in_nil, in_cons_cases, in_map_to, in_map_from, in_filter_to}
use Rattle.judge_spec.specs.Told.{ToldRange, IsToldRange, IsTold}
use Rattle.judge_spec.specs.ToldClaims.{told_register}
use Rattle.judge_spec.specs.ToldRegion.{ToldRegion, regions_from, told_regions}
use Rattle.settle_spec.specs.Lists.{Request}
use Rattle.settle_spec.specs.Lines.{line_range as told_range, is_held_line, is_line_of, is_line_behind, keeps_off, lines_on, lines_behind}
use Rattle.settle_spec.specs.FirstPlace.{ranges_are_apart}
use Rattle.settle_spec.specs.Parts.{are_same_space}
use Rattle.settle_spec.specs.Stands.{window_part}
use Rattle.pci_base.specs.declared.range.Range.{Range}
use Rattle.pci_base.specs.Ranges.{decoded_range_of}
use Rattle.pci_base.specs.Space.{space_of}
use Rattle.pci_first_fit.specs.declared.lines.Line.{Line}
use Rattle.pci_first_fit.specs.Lines.{level_of, Row, row_of, told_row, rows_from, line_code_range, IsForwardLine, AreLines, is_row_between, is_root_row, is_on_levels, is_root_line, row_keeps_off, line_keeps_off, AreForwardRanges, AreAdded}
use Rattle.pci_first_fit.proofs.OnBus.{roots_beside, roots_apart}
use Rattle.pci_first_fit.proofs.Filtered.{filter_permuted, filter_map, map_map, filter_twice, filter_off, filter_part}

abbrev row_range : Row → DecodedRange
row_range r = r.range

and_assoc : (a b c : Bool) → ((a && b) && c) ≡ (a && (b && c))
and_assoc true b c = refl
and_assoc false b c = refl

-- ---- levels

module _ (roots : List ℕ) where
  level_root : (bus : ℕ) → is_root roots bus ≡ true → level_of roots bus ≡ 0
  level_root bus root = ap (λ b. cond b 0 (bus + 1)) root

  level_other : (bus : ℕ) → is_root roots bus ≡ false → level_of roots bus ≡ bus + 1
  level_other bus other = ap (λ b. cond b 0 (bus + 1)) other

  -- buses are siblings where they have one level
  pub siblings_level : (bus other : ℕ) → are_siblings roots bus other ≡ (level_of roots other == level_of roots bus)
  siblings_level bus other = elim (cases_Bool (is_root roots bus)) [
    | inl root ↦ elim (cases_Bool (is_root roots other)) [
      | inl there ↦
          roots_beside roots bus other root there
          ∙ sym (eq-eqb (level_of roots other) (level_of roots bus) (level_root other there ∙ sym (level_root bus root)))
      | inr none ↦
          roots_apart roots bus other root none
          ∙ sym (ne_eqb (level_of roots other) (level_of roots bus) (λ same. let no : other + 1 ≡ 0 = sym (level_other other none) ∙ same ∙ level_root bus root in absurd (let bad : ⊥ = omega (arith, no) in bad)))
    ]
    | inr none ↦ elim (cases_eq bus other) [
      | inl same ↦
          ap (λ b. b || (is_root roots bus && is_root roots other)) (eq-eqb bus other same)
          ∙ sym (eq-eqb (level_of roots other) (level_of roots bus) (ap (level_of roots) (sym same)))
      | inr differ ↦
          ap (λ b. b || (is_root roots bus && is_root roots other)) (ne_eqb bus other differ) ∙ ap (λ b. b && is_root roots other) none
          ∙ sym (ne_eqb (level_of roots other) (level_of roots bus) (λ same. differ (elim (cases_Bool (is_root roots other)) [
            | inl there ↦ let no : 0 ≡ bus + 1 = sym (level_root other there) ∙ same ∙ level_other bus none in absurd (let bad : ⊥ = omega (arith, no) in bad)
            | inr out ↦ let up : other + 1 ≡ bus + 1 = sym (level_other other out) ∙ same ∙ level_other bus none in omega (arith, up)
          ])))
    ]
  ]

-- ---- rows of a text

-- those of more ranges
rows_append : (roots : List ℕ) (n : ℕ) (xs ys : List ToldRange) → rows_from roots n (xs ++ ys) ≡ rows_from roots n xs ++ rows_from roots (n + length xs) ys
rows_append roots n [] ys = ap (λ m. rows_from roots m ys) (let same : n ≡ n + 0 = omega arith in same)
rows_append roots n (x ∷ xs) ys =
    ap (λ rows. told_row roots n x ∷ rows) (rows_append roots (n + 1) xs ys
    ∙ ap (λ m. rows_from roots (n + 1) xs ++ rows_from roots m ys) (let same : (n + 1) + length xs ≡ n + suc (length xs) = omega arith in same))

-- those of one more range
pub rows_more : (roots : List ℕ) (k : ℕ) (ranges : List ToldRange) (d : ToldRange) → k < length ranges
    → rows_from roots 0 (take (k + 1) ranges) ≡ rows_from roots 0 (take k ranges) ++ told_row roots k (get_or ranges k d) ∷ []
rows_more roots k ranges d within =
    ap (rows_from roots 0) (take_at_read ranges k d within).1
    ∙ rows_append roots 0 (take k ranges) (get_or ranges k d ∷ [])
    ∙ ap (λ m. rows_from roots 0 (take k ranges) ++ told_row roots m (get_or ranges k d) ∷ []) (let long = length-take k ranges in let same : 0 + length (take k ranges) ≡ k = omega (arith, long, within) in same)

-- one more row
pub line_more : (roots : List ℕ) (k : ℕ) (ranges : List ToldRange) (d : ToldRange) (old new : List Line) (l : Line) → k < length ranges → map row_of old ≡ rows_from roots 0 (take k ranges)
    → row_of l ≡ told_row roots k (get_or ranges k d) → new ≡ old ++ l ∷ [] → map row_of new ≡ rows_from roots 0 (take (k + 1) ranges)
line_more roots k ranges d old new l within are is put =
    ap (map row_of) put ∙ map-append row_of old (l ∷ []) ∙ ap (λ rows. rows ++ row_of l ∷ []) are ∙ ap (λ row. rows_from roots 0 (take k ranges) ++ row ∷ []) is ∙ sym (rows_more roots k ranges d within)

-- each row is that of a range
pub record IsRowAt (roots : List ℕ) (ranges : List ToldRange) (r : Row) : Type 0 where
  pub told : ToldRange
  pub listed : Contains ranges told
  pub is : r ≡ told_row roots r.index told

pub row_at : (roots : List ℕ) (n : ℕ) (ranges : List ToldRange) (r : Row) → Contains (rows_from roots n ranges) r → IsRowAt roots ranges r
row_at roots n [] r listed = absurd (in_nil r listed)
row_at roots n (t ∷ ranges) r listed = elim (in_cons_cases (told_row roots n t) (rows_from roots (n + 1) ranges) r listed) [
  | inl here ↦ record { told = t; listed = in_head t ranges; is = sym here ∙ ap (λ (x : Row). told_row roots x.index t) here }
  | inr later ↦
      let more = row_at roots (n + 1) ranges r later in
      record { told = more.told; listed = in_tail t ranges more.told more.listed; is = more.is }
]

-- ranges that are not backward make rows that are not
pub rows_forward : (roots : List ℕ) (ranges : List ToldRange) (lines : List Line) → IsTold ranges → AreLines roots ranges lines → All IsForwardLine lines
rows_forward roots ranges lines lawful are k d less =
    let l = get_or lines k d in
    let has : Contains (map row_of lines) (row_of l) = in_map_from row_of lines l (Contains-get_or lines k d less) in
    let at = row_at roots 0 ranges (row_of l) (Contains-permutation (map row_of lines) (rows_from roots 0 ranges) (row_of l) (IsPermutation-sym _ _ are.rows) has) in
    subst (λ (r : Row). r.range.first ≤ r.range.last) (sym at.is) (All-contains IsToldRange ranges at.told lawful.each at.listed).forward

-- ---- what they hold

module _ (q : Request) where
  -- on a bus
  on_rows : (space : Space) (bus n m : ℕ) (ranges : List ToldRange)
      → map told_range (filter (is_line_of q space bus) (regions_from n ranges))
      ≡ map row_range (filter (is_row_between (level_of q.roots bus) (level_of q.roots bus) space) (rows_from q.roots m ranges))
  on_rows space bus n m [] = refl
  on_rows space bus n m (r ∷ ranges) =
      let level = level_of q.roots bus in
      let own = level_of q.roots r.slot.bus in
      let same : (are_siblings q.roots bus r.slot.bus && are_same_space space r.space) ≡ (nat_le level own && (nat_le own level && are_same_space space r.space)) =
      ap (λ b. b && are_same_space space r.space) (siblings_level q.roots bus r.slot.bus ∙ both_le own level) ∙ and_assoc (nat_le level own) (nat_le own level) (are_same_space space r.space) in
      ap (λ b. map told_range (cond b (record { register = n; told = r } ∷ filter (is_line_of q space bus) (regions_from (n + 1) ranges)) (filter (is_line_of q space bus) (regions_from (n + 1) ranges)))) same
      ∙ more (nat_le level own && (nat_le own level && are_same_space space r.space)) (on_rows space bus (n + 1) (m + 1) ranges)
    where
      both_le : (own level : ℕ) → (own == level) ≡ (nat_le level own && nat_le own level)
      both_le own level = elim (cases_eq own level) [
        | inl same ↦ eq-eqb own level same ∙ sym (ap (λ x. nat_le level x && nat_le x level) same ∙ ap (λ b. b && b) (le-leb level level (omega arith)))
        | inr differ ↦ ne_eqb own level differ ∙ sym (false_from_ne_true (nat_le level own && nat_le own level) (λ both.
            let parts = and_parts (nat_le level own) (nat_le own level) both in
            let low = leb-true level own parts.0 in
            let high = leb-true own level parts.1 in
            differ (omega (arith, low, high))))
      ]

      more : (b : Bool) → map told_range (filter (is_line_of q space bus) (regions_from (n + 1) ranges))
          ≡ map row_range (filter (is_row_between (level_of q.roots bus) (level_of q.roots bus) space) (rows_from q.roots (m + 1) ranges))
          → map told_range (cond b (record { register = n; told = r } ∷ filter (is_line_of q space bus) (regions_from (n + 1) ranges)) (filter (is_line_of q space bus) (regions_from (n + 1) ranges)))
          ≡ map row_range (cond b (told_row q.roots m r ∷ filter (is_row_between (level_of q.roots bus) (level_of q.roots bus) space) (rows_from q.roots (m + 1) ranges))
          (filter (is_row_between (level_of q.roots bus) (level_of q.roots bus) space) (rows_from q.roots (m + 1) ranges)))
      more true rest = ap (λ rs. record { first = r.first; last = r.last } ∷ rs) rest
      more false rest = rest

  -- behind the window of a bridge
  abbrev is_row_behind : ℕ → ℕ → Space → Row → Bool
  is_row_behind first last space r = nat_le first r.bus && (nat_le r.bus last && are_same_space space r.space)

  module _ (b : Function) (class : WindowKind) where
    behind_rows : (n m : ℕ) (ranges : List ToldRange)
        → map told_range (filter (is_line_behind (window_part class b)) (regions_from n ranges))
        ≡ map row_range (filter (is_row_behind (secondary b) (subordinate b) (window_space class)) (rows_from q.roots m ranges))
    behind_rows n m [] = refl
    behind_rows n m (r ∷ ranges) =
        ap (λ c. map told_range (cond c (record { register = n; told = r } ∷ filter (is_line_behind (window_part class b)) (regions_from (n + 1) ranges)) (filter (is_line_behind (window_part class b)) (regions_from (n + 1) ranges))))
        (and_assoc (nat_le (secondary b) r.slot.bus) (nat_le r.slot.bus (subordinate b)) (are_same_space (window_space class) r.space))
        ∙ more (is_row_behind (secondary b) (subordinate b) (window_space class) (told_row q.roots m r)) (behind_rows (n + 1) (m + 1) ranges)
      where
        more : (c : Bool) → map told_range (filter (is_line_behind (window_part class b)) (regions_from (n + 1) ranges))
            ≡ map row_range (filter (is_row_behind (secondary b) (subordinate b) (window_space class)) (rows_from q.roots (m + 1) ranges))
            → map told_range (cond c (record { register = n; told = r } ∷ filter (is_line_behind (window_part class b)) (regions_from (n + 1) ranges)) (filter (is_line_behind (window_part class b)) (regions_from (n + 1) ranges)))
            ≡ map row_range (cond c (told_row q.roots m r ∷ filter (is_row_behind (secondary b) (subordinate b) (window_space class)) (rows_from q.roots (m + 1) ranges))
            (filter (is_row_behind (secondary b) (subordinate b) (window_space class)) (rows_from q.roots (m + 1) ranges)))
        more true rest = ap (λ rs. record { first = r.first; last = r.last } ∷ rs) rest
        more false rest = rest

-- tests that are alike at the elements of a list
filter_alike : {X : Type 0} (p r : X → Bool) (xs : List X) → ((x : X) → Contains xs x → p x ≡ r x) → filter p xs ≡ filter r xs
filter_alike p r [] alike = refl
filter_alike p r (x ∷ xs) alike =
    ap (λ b. cond b (x ∷ filter p xs) (filter p xs)) (alike x (in_head x xs))
    ∙ ap (λ l. cond (r x) (x ∷ l) l) (filter_alike p r xs (λ y listed. alike y (in_tail x xs y listed)))

le_above : (x y : ℕ) → nat_le (x + 1) (y + 1) ≡ nat_le x y
le_above x y = elim (cases_Bool (nat_le x y)) [
  | inl is ↦ let low = leb-true x y is in le-leb (x + 1) (y + 1) (omega (arith, low)) ∙ sym is
  | inr not ↦ false_from_ne_true (nat_le (x + 1) (y + 1)) (λ up. let high = leb-true (x + 1) (y + 1) up in both_ways (nat_le x y) not (le-leb x y (omega (arith, high)))) ∙ sym not
]

-- what is behind, on roots and elsewhere
module _ (roots : List ℕ) (first last : ℕ) (space : Space) where
  abbrev behind : Row → Bool
  behind r = nat_le first r.bus && (nat_le r.bus last && are_same_space space r.space)

  elsewhere : (r : Row) (t : ToldRange) → r ≡ told_row roots r.index t → (not (r.level == 0) && behind r) ≡ is_row_between (first + 1) (last + 1) space r
  elsewhere r t is =
      subst (λ (x : Row). (not (x.level == 0) && behind x) ≡ is_row_between (first + 1) (last + 1) space x) (sym is) (elim (cases_Bool (is_root roots t.slot.bus)) [
        | inl root ↦
            let zero_level = level_root roots t.slot.bus root in
            let none : nat_le (first + 1) 0 ≡ false = false_from_ne_true (nat_le (first + 1) 0) (λ up. let high = leb-true (first + 1) 0 up in let no : ⊥ = omega (arith, high) in absurd no) in
            ap (λ l. not (l == 0) && behind (told_row roots r.index t)) zero_level
            ∙ sym (ap (λ l. nat_le (first + 1) l && (nat_le l (last + 1) && are_same_space space t.space)) zero_level ∙ ap (λ c. c && (nat_le 0 (last + 1) && are_same_space space t.space)) none)
        | inr none ↦
            let up = level_other roots t.slot.bus none in
            let some : (t.slot.bus + 1 == 0) ≡ false = ne_eqb (t.slot.bus + 1) 0 (λ same. let no : ⊥ = omega (arith, same) in no) in
            ap (λ l. not (l == 0) && behind (told_row roots r.index t)) up
            ∙ ap (λ c. not c && behind (told_row roots r.index t)) some
            ∙ sym (ap (λ l. nat_le (first + 1) l && (nat_le l (last + 1) && are_same_space space t.space)) up
            ∙ ap (λ c. c && (nat_le (t.slot.bus + 1) (last + 1) && are_same_space space t.space)) (le_above first t.slot.bus)
            ∙ ap (λ c. nat_le first t.slot.bus && (c && are_same_space space t.space)) (le_above t.slot.bus last))
      ])

  pub behind_split : (ranges : List ToldRange) → IsPermutation (filter behind (rows_from roots 0 ranges))
      (filter (is_root_row first last space) (rows_from roots 0 ranges) ++ filter (is_row_between (first + 1) (last + 1) space) (rows_from roots 0 ranges))
  behind_split ranges =
      let rows = rows_from roots 0 ranges in
      subst (λ xs. IsPermutation (filter behind rows) (xs ++ filter (is_row_between (first + 1) (last + 1) space) rows)) (filter_twice (λ r. r.level == 0) behind rows)
      (subst (λ xs. IsPermutation (filter behind rows) (filter (λ r. r.level == 0) (filter behind rows) ++ xs))
      (filter_twice (λ r. not (r.level == 0)) behind rows
      ∙ filter_alike (λ r. not (r.level == 0) && behind r) (is_row_between (first + 1) (last + 1) space) rows (λ r listed. let at = row_at roots 0 ranges r listed in elsewhere r at.told at.is))
      (IsPermutation-filter_both (λ (r : Row). r.level == 0) (λ (r : Row). not (r.level == 0)) (λ r. refl) (filter behind rows)))

-- ---- what the code adds

module _ (roots : List ℕ) (ranges : List ToldRange) (lines : List Line) (are : AreLines roots ranges lines) (p : Row → Bool) where
  -- the rows that pass
  pub passing : IsPermutation (map row_range (filter p (rows_from roots 0 ranges))) (map decoded_range_of (map line_code_range (filter (λ l. p (row_of l)) lines)))
  passing =
      subst (IsPermutation (map row_range (filter p (rows_from roots 0 ranges))))
      (ap (map row_range) (filter_map p row_of lines) ∙ map_map row_range row_of (filter (λ l. p (row_of l)) lines) ∙ sym (map_map decoded_range_of line_code_range (filter (λ l. p (row_of l)) lines)))
      (IsPermutation-map row_range (filter p (rows_from roots 0 ranges)) (filter p (map row_of lines)) (filter_permuted p (rows_from roots 0 ranges) (map row_of lines) are.rows))

pub added_on : (q : Request) (bus level : ℕ) (space : Space) (lines : List Line) (old new : List Range) → AreLines q.roots q.told.ranges lines → level ≡ level_of q.roots bus
    → new ≡ old ++ map line_code_range (filter (is_on_levels level level space) lines) → AreAdded old new (lines_on q space bus)
added_on q bus level space lines old new are same put = record {
  added = map line_code_range (filter (is_on_levels level level space) lines);
  put = put;
  same = subst (λ xs. IsPermutation xs (map decoded_range_of (map line_code_range (filter (is_on_levels level level space) lines))))
      (ap (λ n. map row_range (filter (is_row_between n n space) (rows_from q.roots 0 q.told.ranges))) same ∙ sym (on_rows q space bus (told_register 0) 0 q.told.ranges))
      (passing q.roots q.told.ranges lines are (is_row_between level level space));
}

module _ (q : Request) (b : Function) (class : WindowKind) (first last : ℕ) (space : Space) (lines : List Line) (are : AreLines q.roots q.told.ranges lines)
    (first_is : secondary b ≡ first) (last_is : subordinate b ≡ last) (space_is : window_space class ≡ space) where
  abbrev rows : List Row
  rows = rows_from q.roots 0 q.told.ranges

  abbrev on_roots : List Range
  on_roots = map line_code_range (filter (is_root_line first last space) lines)

  abbrev on_others : List Range
  on_others = map line_code_range (filter (is_on_levels (first + 1) (last + 1) space) lines)

  pub added_behind : (old mid new : List Range) → mid ≡ old ++ on_roots → new ≡ mid ++ on_others → AreAdded old new (lines_behind q (window_part class b))
  added_behind old mid new roots others = record {
    added = on_roots ++ on_others;
    put = others ∙ ap (λ xs. xs ++ on_others) roots ∙ append_assoc old on_roots on_others;
    same =
        subst (λ xs. IsPermutation xs (map decoded_range_of (on_roots ++ on_others)))
        (ap (λ n. map row_range (filter (is_row_behind q n last space) rows)) (sym first_is)
        ∙ ap (λ n. map row_range (filter (is_row_behind q (secondary b) n space) rows)) (sym last_is)
        ∙ ap (λ s. map row_range (filter (is_row_behind q (secondary b) (subordinate b) s) rows)) (sym space_is)
        ∙ sym (behind_rows q b class (told_register 0) 0 q.told.ranges))
        (subst (IsPermutation (map row_range (filter (is_row_behind q first last space) rows))) (sym (map-append decoded_range_of on_roots on_others))
        (IsPermutation-trans _ _ _
        (subst (IsPermutation (map row_range (filter (is_row_behind q first last space) rows))) (map-append row_range (filter (is_root_row first last space) rows) (filter (is_row_between (first + 1) (last + 1) space) rows))
        (IsPermutation-map row_range _ _ (behind_split q.roots first last space q.told.ranges)))
        (IsPermutation-append _ _ _ _ (passing q.roots q.told.ranges lines are (is_root_row first last space)) (passing q.roots q.told.ranges lines are (is_row_between (first + 1) (last + 1) space)))));
  }

is_nil : (lines : List Line) → length lines ≡ 0 → lines ≡ []
is_nil [] empty = refl
is_nil (l ∷ lines) empty = absurd (let no : ⊥ = omega (arith, empty) in no)

-- where nothing is told, nothing is behind
pub none_behind : (q : Request) (b : Function) (class : WindowKind) (lines : List Line) (old : List Range) → AreLines q.roots q.told.ranges lines → length lines ≡ 0
    → AreAdded old old (lines_behind q (window_part class b))
none_behind q b class lines old are empty =
    let none : lines ≡ [] = is_nil lines empty in
    added_behind q b class (secondary b) (subordinate b) (window_space class) lines are refl refl refl old old old
    (sym (append-nil old) ∙ ap (λ ls. old ++ map line_code_range (filter (is_root_line (secondary b) (subordinate b) (window_space class)) ls)) (sym none))
    (sym (append-nil old) ∙ ap (λ ls. old ++ map line_code_range (filter (is_on_levels (secondary b + 1) (subordinate b + 1) (window_space class)) ls)) (sym none))

-- ranges that are added are not backward
pub forward_more : (lines : List Line) (p : Line → Bool) (old new : List Range) → All IsForwardLine lines → new ≡ old ++ map line_code_range (filter p lines) → AreForwardRanges old → AreForwardRanges new
forward_more lines p old new forward put fine =
    subst AreForwardRanges (sym put) (All-append (λ (r : Range). r.first ≤ r.last) old (map line_code_range (filter p lines)) fine (λ k d less.
    let r = get_or (map line_code_range (filter p lines)) k d in
    let made = in_map_to line_code_range (filter p lines) r (Contains-get_or (map line_code_range (filter p lines)) k d less) in
    let passed = in_filter_to p lines made.from made.has in
    subst (λ (x : Range). x.first ≤ x.last) made.is (All-contains IsForwardLine lines made.from forward passed.0)))

-- ---- rows in a row

module _ (lines : List Line) (low high first end : ℕ) (bound : first ≤ length lines)
    (before : AllWithin (λ l. l.level < low) lines 0 first) (after : AllWithin (λ l. high + 1 ≤ l.level) lines end (length lines))
    (p : Line → Bool) (within : (l : Line) → p l ≡ true → (low ≤ l.level) × (l.level ≤ high)) where
  off_below : (k : ℕ) (d : Line) → k < first → k < length lines → p (get_or lines k d) ≡ false
  off_below k d less inside = false_from_ne_true (p (get_or lines k d)) (λ is.
      let low_is = before k d (omega arith) less in
      let in_is = (within (get_or lines k d) is).0 in
      let no : ⊥ = omega (arith, low_is, in_is) in no)

  off_above : (k : ℕ) (d : Line) → end ≤ k → k < length lines → p (get_or lines k d) ≡ false
  off_above k d from inside = false_from_ne_true (p (get_or lines k d)) (λ is.
      let high_is = after k d from inside in
      let in_is = (within (get_or lines k d) is).1 in
      let no : ⊥ = omega (arith, high_is, in_is) in no)

  pub rows_within : first ≤ end → filter p (slice_range lines first end) ≡ filter p lines
  rows_within order = filter_part p lines first end order off_below off_above

  pub no_rows : end < first → [] ≡ filter p lines
  no_rows crossed = sym (filter_off p lines (λ l (k, inside, at). elim (cases_lt k first) [
    | inl below ↦ subst (λ x. p x ≡ false) at (off_below k l below inside)
    | inr from ↦ subst (λ x. p x ≡ false) at (off_above k l (omega (arith, from, crossed)) inside)
  ]))

-- what passes is on these levels
pub on_levels_within : (low high : ℕ) (space : Space) (l : Line) → is_on_levels low high space l ≡ true → (low ≤ l.level) × (l.level ≤ high)
on_levels_within low high space l is =
    let parts = and_parts (nat_le low l.level) (nat_le l.level high && are_same_space space (space_of l.space)) is in
    (leb-true low l.level parts.0, leb-true l.level high (and_parts (nat_le l.level high) (are_same_space space (space_of l.space)) parts.1).0)

pub root_line_within : (first last : ℕ) (space : Space) (l : Line) → is_root_line first last space l ≡ true → (0 ≤ l.level) × (l.level ≤ 0)
root_line_within first last space l is =
    let zero_level = eqb-true l.level 0 (and_parts (l.level == 0) (nat_le first l.bus && (nat_le l.bus last && are_same_space space (space_of l.space))) is).0 in
    (omega arith, omega (arith, zero_level))

-- all rows, sorted
pub lines_sorted : (roots : List ℕ) (ranges : List ToldRange) (n : ℕ) (lines sorted : List Line) → length ranges ≤ n → map row_of lines ≡ rows_from roots 0 (take n ranges) → IsPermutation lines sorted → AreLines roots ranges sorted
lines_sorted roots ranges n lines sorted past are moved = record {
  rows = subst (λ rows. IsPermutation rows (map row_of sorted)) (are ∙ ap (rows_from roots 0) (take_all n ranges past)) (IsPermutation-map row_of lines sorted moved);
}

-- ---- what lines keep off

-- nothing passes where the list of what passes is empty
all_by_filter : {X : Type 0} (k : X → Bool) (xs : List X) → list_all (λ x. not (k x)) xs ≡ (length (filter k xs) == 0)
all_by_filter k [] = refl
all_by_filter k (x ∷ xs) =
    elim (k x) as (λ b. (not b && list_all (λ y. not (k y)) xs) ≡ (length (cond b (x ∷ filter k xs) (filter k xs)) == 0)) [
      | true ↦ sym (ne_eqb (suc (length (filter k xs))) 0 (λ same. let no : ⊥ = omega (arith, same) in no))
      | false ↦ all_by_filter k xs
    ]

module _ (q : Request) (slot : Slot) (space : Space) (range : DecodedRange) where
  abbrev keeps : ToldRegion → Bool
  keeps x = keeps_off q x slot space range

  abbrev row_keeps : Row → Bool
  row_keeps r = row_keeps_off (level_of q.roots slot.bus) slot space range r

  and_more : (a b c d : Bool) → (((a && b) && c) && d) ≡ (a && (b && (c && d)))
  and_more true true c d = refl
  and_more true false c d = refl
  and_more false b c d = refl

  -- as many lines keep off as rows do
  as_many : (n m : ℕ) (ranges : List ToldRange) → length (filter keeps (regions_from n ranges)) ≡ length (filter row_keeps (rows_from q.roots m ranges))
  as_many n m [] = refl
  as_many n m (r ∷ ranges) =
      let x : ToldRegion = record { register = n; told = r } in
      let same : keeps x ≡ row_keeps (told_row q.roots m r) =
      ap (λ b. ((b && are_same_space space r.space) && not (is_held_line x && same_slot r.slot slot)) && not (ranges_are_apart (told_range x) range)) (siblings_level q.roots slot.bus r.slot.bus)
      ∙ and_more (level_of q.roots r.slot.bus == level_of q.roots slot.bus) (are_same_space space r.space) (not (is_held_line x && same_slot r.slot slot)) (not (ranges_are_apart (told_range x) range)) in
      ap (λ b. length (cond b (x ∷ filter keeps (regions_from (n + 1) ranges)) (filter keeps (regions_from (n + 1) ranges)))) same
      ∙ more (row_keeps (told_row q.roots m r)) (as_many (n + 1) (m + 1) ranges)
    where
      more : (b : Bool) → length (filter keeps (regions_from (n + 1) ranges)) ≡ length (filter row_keeps (rows_from q.roots (m + 1) ranges))
          → length (cond b (record { register = n; told = r } ∷ filter keeps (regions_from (n + 1) ranges)) (filter keeps (regions_from (n + 1) ranges)))
          ≡ length (cond b (told_row q.roots m r ∷ filter row_keeps (rows_from q.roots (m + 1) ranges)) (filter row_keeps (rows_from q.roots (m + 1) ranges)))
      more true rest = ap suc rest
      more false rest = rest

  pub off_lines : (level : ℕ) (lines slice : List Line) → AreLines q.roots q.told.ranges lines → level ≡ level_of q.roots slot.bus
      → filter (line_keeps_off level slot space range) slice ≡ filter (line_keeps_off level slot space range) lines
      → list_all (λ l. not (line_keeps_off level slot space range l)) slice ≡ list_all (λ x. not (keeps x)) (told_regions q.told)
  off_lines level lines slice are level_is part =
      all_by_filter (line_keeps_off level slot space range) slice
      ∙ ap (λ xs. length xs == 0) part
      ∙ ap (λ n. n == 0) (sym (length-map (filter (line_keeps_off level slot space range) lines) row_of)
      ∙ ap length (sym (filter_map (row_keeps_off level slot space range) row_of lines))
      ∙ ap (λ n. length (filter (row_keeps_off n slot space range) (map row_of lines))) level_is
      ∙ length_permutation (filter row_keeps (rows_from q.roots 0 q.told.ranges)) (filter row_keeps (map row_of lines)) (filter_permuted row_keeps (rows_from q.roots 0 q.told.ranges) (map row_of lines) are.rows)
      ∙ sym (as_many (told_register 0) 0 q.told.ranges))
      ∙ sym (all_by_filter keeps (told_regions q.told))

-- what keeps off is on the level
pub keeps_within : (level : ℕ) (slot : Slot) (space : Space) (range : DecodedRange) (l : Line) → line_keeps_off level slot space range l ≡ true → (level ≤ l.level) × (l.level ≤ level)
keeps_within level slot space range l is =
    let same = eqb-true l.level level (and_parts (l.level == level) (are_same_space space (space_of l.space) && (not (l.held && same_slot l.slot slot) && not (ranges_are_apart (decoded_range_of l.range) range))) is).0 in
    (omega (arith, same), omega (arith, same))

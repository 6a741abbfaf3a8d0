-- Stretches of rows, and what is found in them.
use Rattle.std.proofs.Common.{◌≡◌, ℕ, ◌+◌, ◌<◌, ◌≤◌, inl, inr, ◌⊎◌, true, ◌&&◌, List, [], ◌∷◌, ◌++◌, map, take, drop, length, get_or, sym, ap, subst, ◌∙◌, arith}
use Rattle.std.specs.List.{All, Contains, filter}
use Rattle.std.specs.Bool.{nat_le}
use Rattle.std.proofs.lemmas.Bool.{cases_lt, and_parts, leb-true}
use Rattle.std.proofs.lemmas.List.{get_or_default, take-append-drop}
use Rattle.std.proofs.lemmas.List.Elements.{All-contains, Contains-get_or, Contains-append_left, Contains-append_right, Contains-append_cases}
use Rattle.pci_spec.proofs.Members.{IsMade, in_nil, in_head, in_map_to, in_map_from, in_filter_to, in_filter_from, in_cons_cases}
use Rattle.settle_spec.specs.Parts.{are_same_space}
use Rattle.pci_base.specs.declared.range.Range.{Range}
use Rattle.pci_base.specs.Ranges.{decoded_range_of}
use Rattle.pci_base.specs.Space.{space_of}
use Rattle.pci_first_fit.specs.declared.lines.Line.{Line}
use Rattle.pci_first_fit.specs.Lines.{line_code_range}
use Rattle.pci_settle_places.specs.declared.stretch.Stretch.{Stretch}
use Rattle.pci_settle_places.specs.declared.stretch.Sought.{Sought}
use Rattle.pci_settle_places.specs.Stretches.{IsCoveredBy, IsStretch, AreStretches, is_row_behind, IsElsewhere, IsFar, AreSought}

-- ---- rows are covered

-- each row before an index is, and the one there
pub covered_more : (rows : List Line) (n : ℕ) (old new : Stretch) (row : Line) → n < length rows → row ≡ get_or rows n row → ((l : Line) → IsCoveredBy old l → IsCoveredBy new l) → IsCoveredBy new row
    → ((k : ℕ) (d : Line) → k < n → IsCoveredBy old (get_or rows k d)) → (k : ℕ) (d : Line) → k < n + 1 → IsCoveredBy new (get_or rows k d)
covered_more rows n old new row within is others own was k d low = elim (cases_lt k n) [
  | inl less ↦ others (get_or rows k d) (was k d less)
  | inr past ↦
      let same : n ≡ k = omega (arith, past, low) in
      subst (λ m. IsCoveredBy new (get_or rows m d)) same (subst (IsCoveredBy new) (is ∙ get_or_default rows n row d within) own)
]

-- ---- rows are in stretches

-- each row is in one, or in the rest
pub record AreStretchesTo (lines rest : List Line) (stretches : List Stretch) : Type 0 where
  pub each : (s : Stretch) → Contains stretches s → IsStretch lines s
  pub all : (l : Line) → Contains lines l → ((s : Stretch) × Contains stretches s × Contains s.rows.now l) ⊎ Contains rest l
  pub within : (l : Line) → Contains rest l → Contains lines l

pub stretches_none : (lines : List Line) (none : List Stretch) → none ≡ [] → AreStretchesTo lines lines none
stretches_none lines none empty = record {
  each = λ s listed. absurd (in_nil s (subst (λ xs. Contains xs s) empty listed));
  all = λ l listed. inr listed;
  within = λ l listed. listed;
}

pub stretches_more : (lines rest rows others : List Line) (old new : List Stretch) (s : Stretch) → AreStretchesTo lines rest old → rest ≡ rows ++ others → new ≡ old ++ s ∷ [] → s.rows.now ≡ rows → All (IsCoveredBy s) rows
    → AreStretchesTo lines others new
stretches_more lines rest rows others old new s was split put rows_is covered = record {
  each = λ x listed. elim (Contains-append_cases old (s ∷ []) x (subst (λ xs. Contains xs x) put listed)) [
    | inl before ↦ was.each x before
    | inr last ↦ elim (in_cons_cases s [] x last) [
      | inl here ↦ subst (IsStretch lines) here record {
        listed = λ l has. was.within l (subst (λ xs. Contains xs l) (sym split) (Contains-append_left rows others l (subst (λ xs. Contains xs l) rows_is has)));
        covered = λ l has. All-contains (IsCoveredBy s) rows l covered (subst (λ xs. Contains xs l) rows_is has);
      }
      | inr none ↦ absurd (in_nil x none)
    ]
  ];
  all = λ l listed. elim (was.all l listed) [
    | inl (x, has, in_rows) ↦ inl (x, subst (λ xs. Contains xs x) (sym put) (Contains-append_left old (s ∷ []) x has), in_rows)
    | inr later ↦ elim (Contains-append_cases rows others l (subst (λ xs. Contains xs l) split later)) [
      | inl here ↦ inl (s, subst (λ xs. Contains xs s) (sym put) (Contains-append_right old (s ∷ []) s (in_head s [])), subst (λ xs. Contains xs l) (sym rows_is) here)
      | inr beyond ↦ inr beyond
    ]
  ];
  within = λ l listed. was.within l (subst (λ xs. Contains xs l) (sym split) (Contains-append_right rows others l listed));
}

-- a list that is split
pub split_is : (n : ℕ) (rest rows others : List Line) → rows ≡ take n rest → others ≡ drop n rest → rest ≡ rows ++ others
split_is n rest rows others front back = sym (ap (λ xs. xs ++ others) front ∙ ap (λ xs. take n rest ++ xs) back ∙ take-append-drop n rest)

pub stretches_all : (lines rest : List Line) (stretches : List Stretch) → length rest ≡ 0 → AreStretchesTo lines rest stretches → AreStretches lines stretches
stretches_all lines rest stretches empty are = record {
  each = are.each;
  all = λ l listed. elim (are.all l listed) [
    | inl found ↦ found
    | inr (k, inside, at) ↦ absurd (let no : ⊥ = omega (arith, inside, empty) in no)
  ];
}

-- ---- what is found

-- a row behind the bridge is not on another bus
pub not_elsewhere : (w : Sought) (l : Line) → is_row_behind w l ≡ true → IsElsewhere w l ⊎ IsFar w.ranges.now (decoded_range_of l.range) → IsFar w.ranges.now (decoded_range_of l.range)
not_elsewhere w l behind other =
    let low = and_parts (nat_le w.bridge.now.secondary l.bus) (nat_le l.bus w.bridge.now.subordinate && are_same_space (space_of w.space) (space_of l.space)) behind in
    let high = and_parts (nat_le l.bus w.bridge.now.subordinate) (are_same_space (space_of w.space) (space_of l.space)) low.1 in
    let from = leb-true w.bridge.now.secondary l.bus low.0 in
    let to = leb-true l.bus w.bridge.now.subordinate high.0 in
    elim other [
      | inl elsewhere ↦ elim elsewhere [
        | inl below ↦ absurd (let no : ⊥ = omega (arith, below, from) in no)
        | inr above ↦ absurd (let no : ⊥ = omega (arith, above, to) in no)
      ]
      | inr far ↦ far
    ]

-- rows of the first stretches that are behind the bridge are there, but for those that are far
pub record AreFoundTo (w : Sought) (stretches : List Stretch) (n : ℕ) (found : List Range) : Type 0 where
  pub of : (t : Range) → Contains found t
      → (l : Line) × ((s : Stretch) × Contains stretches s × Contains s.rows.now l) × (is_row_behind w l ≡ true) × (l.range ≡ t)
  pub near : (k : ℕ) (d : Stretch) → k < n → (l : Line) → Contains (get_or stretches k d).rows.now l → IsCoveredBy (get_or stretches k d) l → is_row_behind w l ≡ true
      → Contains found l.range ⊎ IsFar w.ranges.now (decoded_range_of l.range)

module _ (w : Sought) (stretches : List Stretch) where
  pub found_none : (found : List Range) → found ≡ [] → AreFoundTo w stretches 0 found
  found_none found empty = record {
    of = λ t listed. absurd (in_nil t (subst (λ xs. Contains xs t) empty listed));
    near = λ k d low. absurd (let no : ⊥ = omega (arith, low) in no);
  }

  module _ (n : ℕ) (s : Stretch) (within : n < length stretches) (is : s ≡ get_or stretches n s) where
    at_last : (k : ℕ) (d : Stretch) → n ≤ k → k < n + 1 → get_or stretches k d ≡ s
    at_last k d past low =
        let same : k ≡ n = omega (arith, past, low) in
        ap (λ m. get_or stretches m d) same ∙ sym (is ∙ get_or_default stretches n s d within)

    pub found_add : (old new : List Range) → AreFoundTo w stretches n old → new ≡ old ++ map line_code_range (filter (is_row_behind w) s.rows.now) → AreFoundTo w stretches (n + 1) new
    found_add old new was put = record {
      of = λ t listed. elim (Contains-append_cases old (map line_code_range (filter (is_row_behind w) s.rows.now)) t (subst (λ xs. Contains xs t) put listed)) [
        | inl before ↦ was.of t before
        | inr later ↦
            let made : IsMade line_code_range (filter (is_row_behind w) s.rows.now) t = in_map_to line_code_range (filter (is_row_behind w) s.rows.now) t later in
            let passed = in_filter_to (is_row_behind w) s.rows.now made.from made.has in
            (made.from, (s, subst (Contains stretches) (sym is) (Contains-get_or stretches n s within), passed.0), passed.1, made.is)
      ];
      near = λ k d low l has covered behind. elim (cases_lt k n) [
        | inl less ↦ elim (was.near k d less l has covered behind) [
          | inl there ↦ inl (subst (λ xs. Contains xs l.range) (sym put) (Contains-append_left old (map line_code_range (filter (is_row_behind w) s.rows.now)) l.range there))
          | inr far ↦ inr far
        ]
        | inr past ↦ inl (subst (λ xs. Contains xs l.range) (sym put) (Contains-append_right old (map line_code_range (filter (is_row_behind w) s.rows.now)) l.range
            (in_map_from line_code_range (filter (is_row_behind w) s.rows.now) l (in_filter_from (is_row_behind w) s.rows.now l (subst (λ (x : Stretch). Contains x.rows.now l) (at_last k d past low) has) behind))))
      ];
    }

    pub found_skip : (old : List Range) → AreFoundTo w stretches n old → ((l : Line) → IsCoveredBy s l → is_row_behind w l ≡ true → IsFar w.ranges.now (decoded_range_of l.range)) → AreFoundTo w stretches (n + 1) old
    found_skip old was far = record {
      of = was.of;
      near = λ k d low l has covered behind. elim (cases_lt k n) [
        | inl less ↦ was.near k d less l has covered behind
        | inr past ↦ inr (far l (subst (λ x. IsCoveredBy x l) (at_last k d past low) covered) behind)
      ];
    }

  pub found_all : (n : ℕ) (found : List Range) (lines : List Line) → length stretches ≤ n → AreFoundTo w stretches n found → AreStretches lines stretches → AreSought w lines found
  found_all n found lines past are sorted = record {
    of = λ t listed.
        let (l, (s, has, in_rows), behind, is) = are.of t listed in
        (l, (sorted.each s has).listed l in_rows, behind, is);
    near = λ l listed behind.
        let (s, (k, inside, at), in_rows) = sorted.all l listed in
        are.near k s (omega (arith, inside, past)) l (subst (λ (x : Stretch). Contains x.rows.now l) (sym at) in_rows)
        (subst (λ x. IsCoveredBy x l) (sym at) ((sorted.each s (k, inside, at)).covered l in_rows)) behind;
  }

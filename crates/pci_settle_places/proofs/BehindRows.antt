-- What rows hold behind a bridge is what lines hold there, and what is far from some ranges keeps no place in these from being free.
use Rattle.std.proofs.Common.{◌≡◌, ℕ, zero, suc, ◌+◌, ◌<◌, inl, inr, Bool, true, ◌&&◌, List, [], ◌∷◌, ◌++◌, map, length, get_or, sym, ap, subst, ◌∙◌, arith}
use Rattle.std.specs.Bool.{nat_le}
use Rattle.std.proofs.Math.Bool.{and_assoc}
use Rattle.std.specs.List.{Contains, filter}
use Rattle.std.proofs.lemmas.List.Elements.{Contains-append_left, Contains-append_right, Contains-append_cases}
use Rattle.std.proofs.lemmas.List.Sorted.{IsPermutation-sym, Contains-permutation}
use Rattle.pci_spec.specs.Window.{WindowKind}
use Rattle.pci_spec.specs.Decoded.{Range as DecodedRange}
use Rattle.pci_spec.specs.System.{Function, Space, window_space}
use Rattle.pci_spec.specs.Bus.{secondary, subordinate}
use Rattle.pci_spec.proofs.Members.{IsMade, in_head, in_tail, in_map_to, in_map_from, in_filter_to, in_filter_from}
use Rattle.judge_spec.specs.Told.{ToldRange}
use Rattle.judge_spec.specs.ToldRegion.{ToldRegion, told_extent, told_regions}
use Rattle.judge_spec.specs.ToldClaims.{told_register}
use Rattle.settle_spec.specs.FirstPlace.{Extent, ranges_are_apart, first_place}
use Rattle.settle_spec.specs.Lists.{Request}
use Rattle.settle_spec.specs.Lines.{line_range, is_line_behind, lines_behind}
use Rattle.settle_spec.specs.Parts.{are_same_space}
use Rattle.settle_spec.specs.Stands.{window_part}
use Rattle.pci_base.specs.declared.range.Range.{Range}
use Rattle.pci_base.specs.Ranges.{decoded_range_of}
use Rattle.pci_base.specs.Space.{space_of}
use Rattle.pci_first_fit.specs.declared.lines.Line.{Line}
use Rattle.pci_first_fit.specs.Lines.{Row, row_of, told_row, rows_from, AreLines}
use Rattle.pci_first_fit.proofs.NearRanges.{AreNear, near_place}
use Rattle.pci_first_fit.proofs.Rows.{row_at}
use Rattle.pci_kept.proofs.ToldIndexes.{told_at, told_by}
use Rattle.pci_settle_places.specs.declared.stretch.Sought.{Sought}
use Rattle.pci_settle_places.specs.Stretches.{is_row_behind, IsFar, AreSought}
use Rattle.pci_settle_places.specs.Taken.{AreNearListed}

-- ---- rows of told ranges

-- the row of a told range is one of them
record HasRow (roots : List ℕ) (n : ℕ) (ranges : List ToldRange) (t : ToldRange) : Type 0 where
  at : ℕ
  has : Contains (rows_from roots n ranges) (told_row roots at t)

row_by : (roots : List ℕ) (n : ℕ) (ranges : List ToldRange) (k : ℕ) (d : ToldRange) → k < length ranges → HasRow roots n ranges (get_or ranges k d)
row_by roots n [] k d low = absurd (let no : ⊥ = omega (arith, low) in no)
row_by roots n (t ∷ ranges) zero d low = record { at = n; has = in_head (told_row roots n t) (rows_from roots (n + 1) ranges) }
row_by roots n (t ∷ ranges) (suc k) d low =
    let more = row_by roots (n + 1) ranges k d (omega (arith, low)) in
    record { at = more.at; has = in_tail (told_row roots n t) (rows_from roots (n + 1) ranges) (told_row roots more.at (get_or ranges k d)) more.has }

-- ---- behind the window of a bridge

module _ (q : Request) (b : Function) (class : WindowKind) (w : Sought) (lines : List Line) (are : AreLines q.roots q.told.ranges lines)
    (first_is : secondary b ≡ w.bridge.now.secondary) (last_is : subordinate b ≡ w.bridge.now.subordinate) (space_is : window_space class ≡ space_of w.space) where
  abbrev behind : ℕ → Space → Bool
  behind bus space = nat_le w.bridge.now.secondary bus && (nat_le bus w.bridge.now.subordinate && are_same_space (space_of w.space) space)

  same_test : (x : ToldRegion) → is_line_behind (window_part class b) x ≡ behind x.told.slot.bus x.told.space
  same_test x =
      and_assoc (nat_le (secondary b) x.told.slot.bus) (nat_le x.told.slot.bus (subordinate b)) (are_same_space (window_space class) x.told.space)
      ∙ ap (λ n. nat_le n x.told.slot.bus && (nat_le x.told.slot.bus (subordinate b) && are_same_space (window_space class) x.told.space)) first_is
      ∙ ap (λ n. nat_le w.bridge.now.secondary x.told.slot.bus && (nat_le x.told.slot.bus n && are_same_space (window_space class) x.told.space)) last_is
      ∙ ap (λ s. nat_le w.bridge.now.secondary x.told.slot.bus && (nat_le x.told.slot.bus w.bridge.now.subordinate && are_same_space s x.told.space)) space_is

  -- what a line holds, a row does
  line_to : (t : DecodedRange) → Contains (lines_behind q (window_part class b)) t
      → (l : Line) × Contains lines l × (is_row_behind w l ≡ true) × (decoded_range_of l.range ≡ t)
  line_to t listed =
      let made : IsMade line_range (filter (is_line_behind (window_part class b)) (told_regions q.told)) t = in_map_to line_range (filter (is_line_behind (window_part class b)) (told_regions q.told)) t listed in
      let x = made.from in
      let passed = in_filter_to (is_line_behind (window_part class b)) (told_regions q.told) x made.has in
      let at = told_at (told_register 0) q.told.ranges x passed.0 in
      let row = row_by q.roots 0 q.told.ranges at.k x.told at.within in
      let mine = told_row q.roots row.at (get_or q.told.ranges at.k x.told) in
      let from : IsMade row_of lines mine = in_map_to row_of lines mine (Contains-permutation (rows_from q.roots 0 q.told.ranges) (map row_of lines) mine are.rows row.has) in
      let l = from.from in
      let is : row_of l ≡ told_row q.roots row.at x.told = from.is ∙ ap (told_row q.roots row.at) at.is in (
        l,
        from.has,
        ap (λ (r : Row). behind r.bus r.space) is ∙ sym (same_test x) ∙ passed.1,
        ap (λ (r : Row). r.range) is ∙ made.is,
      )

  -- and what a row holds, a line does
  line_from : (l : Line) → Contains lines l → is_row_behind w l ≡ true → Contains (lines_behind q (window_part class b)) (decoded_range_of l.range)
  line_from l listed passes =
      let own = row_at q.roots 0 q.told.ranges (row_of l) (Contains-permutation (map row_of lines) (rows_from q.roots 0 q.told.ranges) (row_of l) (IsPermutation-sym _ _ are.rows) (in_map_from row_of lines l listed)) in
      let (k, inside, at) = own.listed in
      let by = told_by (told_register 0) q.told.ranges k own.told inside in
      let told_is : by.x.told ≡ own.told = by.is ∙ at in
      let kept : is_line_behind (window_part class b) by.x ≡ true =
      same_test by.x ∙ ap (λ (t : ToldRange). behind t.slot.bus t.space) told_is ∙ sym (ap (λ (r : Row). behind r.bus r.space) own.is) ∙ passes in
      subst (Contains (lines_behind q (window_part class b)))
      (ap told_extent told_is ∙ sym (ap (λ (r : Row). r.range) own.is))
      (in_map_from line_range (filter (is_line_behind (window_part class b)) (told_regions q.told)) by.x
      (in_filter_from (is_line_behind (window_part class b)) (told_regions q.told) by.x by.has kept))

  pub near_behind : (found : List Range) → AreSought w lines found → AreNearListed w.ranges.now (lines_behind q (window_part class b)) found
  near_behind found sought = record {
    of = λ t listed.
        let made : IsMade decoded_range_of found t = in_map_to decoded_range_of found t listed in
        let (l, has, passes, is) = sought.of made.from made.has in
        subst (Contains (lines_behind q (window_part class b))) (ap decoded_range_of is ∙ made.is) (line_from l has passes);
    near = λ t listed.
        let (l, has, passes, is) = line_to t listed in
        elim (sought.near l has passes) [
          | inl there ↦ inl (subst (Contains (map decoded_range_of found)) is (in_map_from decoded_range_of found l.range there))
          | inr far ↦ inr (subst (IsFar w.ranges.now) is far)
        ];
  }

-- ---- where places are looked for

module _ (ranges : List Range) (more : List DecodedRange) (listed : List Range) (near : AreNearListed ranges more listed) (taken : List DecodedRange) where
  each_near : (r : DecodedRange) → Contains (map decoded_range_of ranges) r → AreNear r (more ++ taken) (map decoded_range_of listed ++ taken)
  each_near r here = record {
    fewer = λ t has. elim (Contains-append_cases (map decoded_range_of listed) taken t has) [
      | inl first ↦ Contains-append_left more taken t (near.of t first)
      | inr later ↦ Contains-append_right more taken t later
    ];
    rest = λ t has. elim (Contains-append_cases more taken t has) [
      | inl first ↦ elim (near.near t first) [
        | inl there ↦ inl (Contains-append_left (map decoded_range_of listed) taken t there)
        | inr far ↦
            let made : IsMade decoded_range_of ranges r = in_map_to decoded_range_of ranges r here in
            inr (ap (ranges_are_apart t) (sym made.is) ∙ far made.from made.has)
      ]
      | inr later ↦ inl (Contains-append_right (map decoded_range_of listed) taken t later)
    ];
  }

  pub same_place : (e : Extent) → 0 < e.alignment → first_place (map decoded_range_of ranges) (more ++ taken) e ≡ first_place (map decoded_range_of ranges) (map decoded_range_of listed ++ taken) e
  same_place e pos = near_place (map decoded_range_of ranges) (more ++ taken) (map decoded_range_of listed ++ taken) e pos each_near

-- One told range more is passed: it gets a flag and a row where it stands.
use Rattle.std.proofs.Common.{◌≡◌, ℕ, ◌+◌, ◌-◌, ◌<◌, ◌≤◌, ◌⊎◌, inl, inr, List, length, get_or, set, Bool, true, false, ◌&&◌, not, arith, sym, ◌∙◌, ap, subst, refl}
use Rattle.std.specs.List.{Contains, insert, list_any}
use Rattle.std.proofs.lemmas.Bool.{cases_eq, cases_lt, both_ways, false_from_ne_true}
use Rattle.std.proofs.lemmas.List.{length-set, get_or-set_same, get_or-set_other}
use Rattle.std.proofs.lemmas.List.Edits.{length-insert, get_or-insert_below, get_or-insert_at, get_or-insert_above}
use Rattle.std.proofs.lemmas.List.Elements.{Contains-get_or}
use Rattle.pci_spec.specs.System.{System}
use Rattle.judge_spec.specs.ToldRegion.{ToldRegion, told_regions}
use Rattle.judge_spec.proofs.ToldNumbering.{regions_are_numbered}
use Rattle.settle_spec.specs.Lists.{Request}
use Rattle.settle_spec.specs.Lines.{is_held_line}
use Rattle.settle_spec.specs.Stands.{stands, is_range_in_place, is_range_kept_off, range_precedes, range_stands_if}
use Rattle.settle_laws.specs.StandingTold.Passes.{AreRangesInOrder}
use Rattle.settle_laws.proofs.StandingTold.Order.{range_not_itself}
use Rattle.settle_laws.proofs.StandingTold.Passes.{stands_if_free, next_told, one_line}
use Rattle.pci_kept.specs.declared.rows.Row.{Row}
use Rattle.pci_kept.specs.ApartRows.{is_row_free}
use Rattle.pci_kept.specs.LineRows.{row_key, IsRowOf}
use Rattle.pci_kept.specs.RangePass.{range_flag, AreTakenRows, ArePartRows, AreRangesPassed}
use Rattle.pci_kept.specs.StandingRanges.{row_shares, is_free_of}
use Rattle.pci_kept.proofs.RangePassing.{in_way, beside_line, apart_is}

-- ---- a row more

row_insert_to : (xs : List Row) (i : ℕ) (y z : Row) → i ≤ length xs → Contains (insert xs i y) z → (z ≡ y) ⊎ Contains xs z
row_insert_to xs i y z within (k, low, at) =
    let long = length-insert xs i y within in
    elim (cases_lt k i) [
      | inl under ↦ inr (k, omega (arith, under, within), sym (get_or-insert_below xs i y z k under within) ∙ at)
      | inr from ↦ elim (cases_eq k i) [
        | inl same ↦ inl (sym at ∙ ap (λ n. get_or (insert xs i y) n z) same ∙ get_or-insert_at xs i y z within)
        | inr differ ↦
            let is : k ≡ (k - 1) + 1 = omega (arith, from, differ) in
            let low_index : i ≤ k - 1 = omega (arith, from, differ) in
            inr (k - 1, omega (arith, low, long, is), sym (get_or-insert_above xs i y z (k - 1) low_index within) ∙ sym (ap (λ n. get_or (insert xs i y) n z) is) ∙ at)
      ]
    ]

row_insert_here : (xs : List Row) (i : ℕ) (y : Row) → i ≤ length xs → Contains (insert xs i y) y
row_insert_here xs i y within = (i, (let long = length-insert xs i y within in omega (arith, long, within)), get_or-insert_at xs i y y within)

row_insert_from : (xs : List Row) (i : ℕ) (y z : Row) → i ≤ length xs → Contains xs z → Contains (insert xs i y) z
row_insert_from xs i y z within (k, low, at) =
    let long = length-insert xs i y within in
    elim (cases_lt k i) [
      | inl under ↦ (k, omega (arith, low, long), get_or-insert_below xs i y z k under within ∙ at)
      | inr from ↦ (k + 1, omega (arith, low, long), get_or-insert_above xs i y z k from within ∙ at)
    ]

module _ (q : Request) (s : System) (xs : List ToldRegion) (ordered : AreRangesInOrder q s xs) (count : ℕ) (within : count < length xs) (x : ToldRegion) (x_is : get_or xs count x ≡ x)
    (k : ℕ) (k_is : 256 + k ≡ x.register) (low : k < length q.told.ranges) (parts : List Row) (are_parts : ArePartRows q s parts) (row : Row) (row_is : IsRowOf q x row)
    (n : ℕ) (key_is : row.key ≡ row_key n x.told.space) (taken : List Row) (flags : List Bool) (passed : AreRangesPassed q s xs count taken flags) where
  abbrev test : ToldRegion → Bool
  test = range_flag flags

  x_told : Contains (told_regions q.told) x
  x_told = subst (Contains (told_regions q.told)) x_is (ordered.only (get_or xs count x) (Contains-get_or xs count x within))

  -- it isn't told yet
  not_yet : test x ≡ false
  not_yet = false_from_ne_true (test x) (λ is.
      let among = passed.told.only x x_told is in
      let first = among.first in
      both_ways (range_precedes q s x x) (range_not_itself q s x)
      (subst (λ y. range_precedes q s y x ≡ true) among.is (subst (λ y. range_precedes q s (get_or xs among.at x) y ≡ true) x_is (ordered.order among.at count x first within))))

  abbrev fits : Bool
  fits = is_free_of q s parts n x.told && is_row_free row taken

  grouped : (a b c d e : Bool) → (a && b && c && (d && e)) ≡ ((a && b && c && d) && e)
  grouped true true true d e = refl
  grouped true true false d e = refl
  grouped true false c d e = refl
  grouped false b c d e = refl

  fits_is : fits ≡ range_stands_if q s test x
  fits_is =
      ap (λ m. is_free_in m && is_row_free row taken) (sym key_is)
      ∙ sym (grouped (not (is_held_line x)) (is_range_in_place q s (stands q s) x) (not (is_range_kept_off q x)) (not (list_any (row_shares row.key x.told) parts)) (is_row_free row taken))
      ∙ ap (λ b. not (is_held_line x) && is_range_in_place q s (stands q s) x && not (is_range_kept_off q x) && b) (sym (apart_is q s x row row_is parts are_parts test taken passed.rows))
      ∙ stands_if_free q s xs ordered count test passed.told within x x_is (in_way q s x row row_is parts are_parts test taken passed.rows) (beside_line q s x row row_is parts are_parts test taken passed.rows)
    where
      is_free_in : ℕ → Bool
      is_free_in m = not (is_held_line x) && is_range_in_place q s (stands q s) x && not (is_range_kept_off q x) && not (list_any (row_shares m x.told) parts)

  -- it doesn't stand
  pub passed_by : fits ≡ false → AreRangesPassed q s xs (count + 1) taken flags
  passed_by off = record {
    size = passed.size;
    told = next_told q s xs ordered count test passed.told within x x_is test (not_yet ∙ sym off ∙ fits_is) (λ y is_told. inr refl);
    rows = passed.rows;
  }

  -- or it does
  module _ (new : List Row) (i : ℕ) (bound : i ≤ length taken) (put : new ≡ insert taken i row) where
    abbrev now : List Bool
    now = set flags k true

    abbrev next : ToldRegion → Bool
    next = range_flag now

    at_k : x.register - 256 ≡ k
    at_k = omega (arith, k_is)

    next_x : next x ≡ true
    next_x = ap (λ m. get_or now m false) at_k ∙ get_or-set_same flags k true false (let size = passed.size in omega (arith, low, size))

    others : (y : ToldRegion) → Contains (told_regions q.told) y → (y ≡ x) ⊎ (next y ≡ test y)
    others y is_told = elim (cases_eq (y.register - 256) k) [
      | inl same ↦ inl (one_line q y x is_told x_told (let at = ((regions_are_numbered q.told y).0 is_told).register in omega (arith, same, at, k_is)))
      | inr differ ↦ inr (get_or-set_other flags k (y.register - 256) true false differ)
    ]

    still : (y : ToldRegion) → Contains (told_regions q.told) y → test y ≡ true → next y ≡ true
    still y is_told is = elim (others y is_told) [ inl same ↦ ap next same ∙ next_x | inr kept ↦ kept ∙ is ]

    pub passed_on : fits ≡ true → AreRangesPassed q s xs (count + 1) new now
    passed_on on = record {
      size = length-set flags k true ∙ passed.size;
      told = next_told q s xs ordered count test passed.told within x x_is next (next_x ∙ sym on ∙ fits_is) others;
      rows = subst (AreTakenRows q next) (sym put) record {
        each = λ r has. elim (row_insert_to taken i row r bound has) [
          | inl same ↦ (x, x_told, next_x, subst (IsRowOf q x) (sym same) row_is)
          | inr old ↦ (let by = passed.rows.each r old in (by.0, by.1, still by.0 by.1 by.2, by.3))
        ];
        all = λ y is_told is. elim (others y is_told) [
          | inl same ↦ (row, row_insert_here taken i row bound, subst (λ z. IsRowOf q z row) (sym same) row_is)
          | inr kept ↦ (let by = passed.rows.all y is_told (sym kept ∙ is) in (by.0, row_insert_from taken i row by.0 bound by.1, by.2))
        ];
      };
    }

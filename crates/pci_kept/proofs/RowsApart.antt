-- A row is put between those that end below it and those that begin above it.
use Rattle.std.proofs.Common.{◌≡◌, ℕ, ◌+◌, ◌-◌, ◌<◌, ◌≤◌, ◌⊎◌, inl, inr, List, length, get_or, true, false, not, arith, sym, ap, subst}
use Rattle.std.specs.Bool.{nat_lt, ◌==◌}
use Rattle.std.specs.List.{AllWithin, Contains, insert}
use Rattle.std.proofs.lemmas.Bool.{cases_lt, cases_eq, both_ways, eq-eqb, ne_eqb, or_left, or_right, or_from, lt-ltb, le-ltb, false_from_ne_true}
use Rattle.std.proofs.lemmas.List.Edits.{length-insert, get_or-insert_below, get_or-insert_at, get_or-insert_above}
use Rattle.std.proofs.lemmas.List.Elements.{Contains-get_or}
use Rattle.pci_spec.proofs.BusRanges.{all_gives, all_from}
use Rattle.settle_spec.specs.FirstPlace.{ranges_are_apart}
use Rattle.pci_base.specs.Ranges.{decoded_range_of}
use Rattle.pci_kept.specs.declared.rows.Row.{Row}
use Rattle.pci_kept.specs.Rows.{AreRows}
use Rattle.pci_kept.specs.ApartRows.{IsRowBelow, AreApartRows, is_row_off, is_row_free, IsRowGap}

pub by_first : (rows : List Row) → AreApartRows rows → AreRows rows
by_first rows apart j k d up within = elim (apart.order j k d up within) [
  | inl less ↦ inl less
  | inr both ↦ (let ends = both.1 in let forward = apart.forward j d (omega (arith, up, within)) in inr (both.0, omega (arith, ends, forward)))
]

below_trans : (r t u : Row) → t.range.first ≤ t.range.last → IsRowBelow r t → IsRowBelow t u → IsRowBelow r u
below_trans r t u forward a b = elim a [
  | inl less ↦ elim b [
    | inl up ↦ inl (omega (arith, less, up))
    | inr both ↦ (let e = both.0 in inl (omega (arith, less, e)))
  ]
  | inr same ↦ elim b [
    | inl up ↦ (let e = same.0 in inl (omega (arith, e, up)))
    | inr both ↦ (let e = same.0 in let f = both.0 in let x = same.1 in let y = both.1 in inr (omega (arith, e, f), omega (arith, x, y, forward)))
  ]
]

-- rows one below the other are off each other
below_off : (row r : Row) → IsRowBelow r row → is_row_off row r ≡ true
below_off row r below = elim below [
  | inl less ↦ or_left (not (r.key == row.key)) (ranges_are_apart (decoded_range_of r.range) (decoded_range_of row.range)) (ap not (ne_eqb r.key row.key (λ same. let no : ⊥ = omega (arith, less, same) in no)))
  | inr both ↦ or_right (not (r.key == row.key)) (ranges_are_apart (decoded_range_of r.range) (decoded_range_of row.range))
      (or_left (nat_lt r.range.last row.range.first) (nat_lt row.range.last r.range.first) (lt-ltb r.range.last row.range.first both.1))
]

above_off : (row r : Row) → IsRowBelow row r → is_row_off row r ≡ true
above_off row r above = elim above [
  | inl less ↦ or_left (not (r.key == row.key)) (ranges_are_apart (decoded_range_of r.range) (decoded_range_of row.range)) (ap not (ne_eqb r.key row.key (λ same. let no : ⊥ = omega (arith, less, same) in no)))
  | inr both ↦ or_right (not (r.key == row.key)) (ranges_are_apart (decoded_range_of r.range) (decoded_range_of row.range))
      (or_right (nat_lt r.range.last row.range.first) (nat_lt row.range.last r.range.first) (lt-ltb row.range.last r.range.first both.1))
]

module _ (rows : List Row) (row : Row) (apart : AreApartRows rows) (index : ℕ) (bound : index ≤ length rows)
    (before : AllWithin (λ r. (r.key < row.key) ⊎ ((r.key ≡ row.key) × (r.range.first ≤ row.range.last))) rows 0 index)
    (after : AllWithin (λ r. (row.key < r.key) ⊎ ((r.key ≡ row.key) × (row.range.last < r.range.first))) rows index (length rows)) where
  above_it : (k : ℕ) (d : Row) → index ≤ k → k < length rows → IsRowBelow row (get_or rows k d)
  above_it k d from within = elim (after k d from within) [
    | inl less ↦ inl less
    | inr both ↦ inr (sym both.0, both.1)
  ]

  -- the last one before it shares an address with it
  pub clashes : (d : Row) → 0 < index → (get_or rows (index - 1) d).key ≡ row.key → row.range.first ≤ (get_or rows (index - 1) d).range.last → is_row_free row rows ≡ false
  clashes d some same shares = false_from_ne_true (is_row_free row rows) (λ free.
      let r = get_or rows (index - 1) d in
      let within : index - 1 < length rows = omega (arith, some, bound) in
      let begins : r.range.first ≤ row.range.last = (elim (before (index - 1) d (omega arith) (omega (arith, some))) [
        | inl less ↦ absurd (let no : ⊥ = omega (arith, less, same) in no)
        | inr both ↦ both.1
      ]) in
      both_ways (is_row_off row r)
      (or_from (not (r.key == row.key)) (ranges_are_apart (decoded_range_of r.range) (decoded_range_of row.range)) (ap not (eq-eqb r.key row.key same))
      (or_from (nat_lt r.range.last row.range.first) (nat_lt row.range.last r.range.first) (le-ltb r.range.last row.range.first shares) (le-ltb row.range.last r.range.first begins)))
      (all_gives (is_row_off row) rows free r (Contains-get_or rows (index - 1) d within)))

  -- or all before it end below it
  pub gap : (index ≡ 0 ⊎ ((d : Row) → ((get_or rows (index - 1) d).key ≡ row.key → ⊥) ⊎ ((get_or rows (index - 1) d).range.last < row.range.first))) → IsRowGap rows row index
  gap h = record {
    bound = bound;
    below = λ k d low. elim h [
      | inl none ↦ absurd (let no : ⊥ = omega (arith, none, low) in no)
      | inr last ↦ under k d low last
    ];
    above = above_it;
  }
    where
      last_below : (d : Row) → 0 < index → (((get_or rows (index - 1) d).key ≡ row.key → ⊥) ⊎ ((get_or rows (index - 1) d).range.last < row.range.first)) → IsRowBelow (get_or rows (index - 1) d) row
      last_below d some last = elim (before (index - 1) d (omega arith) (omega (arith, some))) [
        | inl less ↦ inl less
        | inr both ↦ elim last [
          | inl differs ↦ absurd (differs both.0)
          | inr ends ↦ inr (both.0, ends)
        ]
      ]

      under : (k : ℕ) (d : Row) → k < index → ((d : Row) → ((get_or rows (index - 1) d).key ≡ row.key → ⊥) ⊎ ((get_or rows (index - 1) d).range.last < row.range.first)) → IsRowBelow (get_or rows k d) row
      under k d low last = elim (cases_eq k (index - 1)) [
        | inl same ↦ subst (λ n. IsRowBelow (get_or rows n d) row) (sym same) (last_below d (omega (arith, low)) (last d))
        | inr differ ↦
            below_trans (get_or rows k d) (get_or rows (index - 1) d) row (apart.forward (index - 1) d (omega (arith, low, bound)))
            (apart.order k (index - 1) d (omega (arith, low, differ)) (omega (arith, low, bound))) (last_below d (omega (arith, low)) (last d))
      ]

module _ (rows : List Row) (row : Row) (apart : AreApartRows rows) (index : ℕ) (is : IsRowGap rows row index) where
  pub free : is_row_free row rows ≡ true
  free = all_from (is_row_off row) rows (λ r listed. of_listed r listed)
    where
      of_listed : (r : Row) → Contains rows r → is_row_off row r ≡ true
      of_listed r (k, within, at) = elim (cases_lt k index) [
        | inl low ↦ subst (λ (x : Row). is_row_off row x ≡ true) at (below_off row (get_or rows k r) (is.below k r low))
        | inr high ↦ subst (λ (x : Row). is_row_off row x ≡ true) at (above_off row (get_or rows k r) (is.above k r high within))
      ]

  module _ (forward : row.range.first ≤ row.range.last) where
    abbrev new : List Row
    new = insert rows index row

    long : length new ≡ length rows + 1
    long = length-insert rows index row is.bound

    -- an element of the new list is an old one below the index, the new one, or an old one from the index on
    data Where (k : ℕ) (d : Row) : Type 0 where
      Under : k < index → get_or new k d ≡ get_or rows k d → Where k d
      At : k ≡ index → get_or new k d ≡ row → Where k d
      Over : (j : ℕ) → k ≡ j + 1 → index ≤ j → get_or new k d ≡ get_or rows j d → Where k d

    where_is : (k : ℕ) (d : Row) → Where k d
    where_is k d = elim (cases_lt k index) [
      | inl under ↦ Under under (get_or-insert_below rows index row d k under is.bound)
      | inr from ↦ elim (cases_lt index k) [
        | inl over ↦
            let at : k ≡ (k - 1) + 1 = omega (arith, over) in
            let low : index ≤ k - 1 = omega (arith, over) in
            Over (k - 1) at low (subst (λ n. get_or new n d ≡ get_or rows (k - 1) d) (sym at) (get_or-insert_above rows index row d (k - 1) low is.bound))
        | inr same ↦
            let at : k ≡ index = omega (arith, from, same) in
            At at (subst (λ n. get_or new n d ≡ row) (sym at) (get_or-insert_at rows index row d is.bound))
      ]
    ]

    two : (x y : Row) (r t : Row) → x ≡ r → y ≡ t → IsRowBelow r t → IsRowBelow x y
    two x y r t a b below = subst (λ z. IsRowBelow z y) (sym a) (subst (IsRowBelow r) (sym b) below)

    order_new : (j k : ℕ) (d : Row) → j < k → k < length new → IsRowBelow (get_or new j d) (get_or new k d)
    order_new j k d less within =
        let more = long in
        let bound = is.bound in
        elim (where_is k d) [
          | Under k_under k_is ↦ elim (where_is j d) [
            | Under j_under j_is ↦ two (get_or new j d) (get_or new k d) (get_or rows j d) (get_or rows k d) j_is k_is (apart.order j k d less (omega (arith, k_under, bound)))
            | At j_at j_is ↦ absurd (let no : ⊥ = omega (arith, j_at, less, k_under) in no)
            | Over i j_over j_low j_is ↦ absurd (let no : ⊥ = omega (arith, j_over, j_low, less, k_under) in no)
          ]
          | At k_at k_is ↦ elim (where_is j d) [
            | Under j_under j_is ↦ two (get_or new j d) (get_or new k d) (get_or rows j d) row j_is k_is (is.below j d j_under)
            | At j_at j_is ↦ absurd (let no : ⊥ = omega (arith, j_at, less, k_at) in no)
            | Over i j_over j_low j_is ↦ absurd (let no : ⊥ = omega (arith, j_over, j_low, less, k_at) in no)
          ]
          | Over h k_over k_low k_is ↦
              let inside : h < length rows = omega (arith, within, more, k_over) in
              elim (where_is j d) [
                | Under j_under j_is ↦ two (get_or new j d) (get_or new k d) (get_or rows j d) (get_or rows h d) j_is k_is (apart.order j h d (omega (arith, j_under, k_low)) inside)
                | At j_at j_is ↦ two (get_or new j d) (get_or new k d) row (get_or rows h d) j_is k_is (is.above h d k_low inside)
                | Over i j_over j_low j_is ↦ two (get_or new j d) (get_or new k d) (get_or rows i d) (get_or rows h d) j_is k_is (apart.order i h d (omega (arith, j_over, k_over, less)) inside)
              ]
        ]

    pub apart_new : AreApartRows new
    apart_new = record {
      order = order_new;
      forward = λ k d within. let more = long in let bound = is.bound in elim (where_is k d) [
        | Under under at ↦ subst (λ (x : Row). x.range.first ≤ x.range.last) (sym at) (apart.forward k d (omega (arith, under, bound)))
        | At here at ↦ subst (λ (x : Row). x.range.first ≤ x.range.last) (sym at) forward
        | Over j over low at ↦ subst (λ (x : Row). x.range.first ≤ x.range.last) (sym at) (apart.forward j d (omega (arith, within, more, over)))
      ];
    }

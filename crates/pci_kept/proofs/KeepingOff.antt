-- Among rows by key and first address those are found that keep a range off: by how far the rows reach that don't begin above it.
use Rattle.std.proofs.Common.{◌≡◌, ◌≢◌, ℕ, ◌+◌, ◌-◌, ◌<◌, ◌≤◌, inl, inr, ◌⊎◌, List, [], ◌∷◌, ◌++◌, length, get_or, Bool, true, false, ◌&&◌, ◌||◌, not, cond, arith, sym, ◌∙◌, ap, subst, refl, Option, None, Some, ltb, leb, eqb}
use Rattle.std.specs.Bool.{nat_lt, nat_le, ◌==◌}
use Rattle.std.specs.List.{AllWithin}
use Rattle.std.specs.List.Sorted.{IsPartitionedBy}
use Rattle.std.proofs.lemmas.Bool.{cases_Bool, cases_eq, cases_lt, and_parts, and_from, eqb-true, eq-eqb, ne_eqb, ltb-true, leb-true, le-leb, not-true, both_ways, false_from_ne_true}
use Rattle.std.proofs.lemmas.Bool.Decides.{nat_tests}
use Rattle.std.proofs.lemmas.List.{get_or_default, get_or_append_left, get_or-append-add}
use Rattle.pci_spec.proofs.BusRanges.{any_gives, any_from}
use Rattle.settle_spec.specs.FirstPlace.{ranges_are_apart}
use Rattle.pci_base.specs.Ranges.{decoded_range_of}
use Rattle.pci_base.specs.declared.range.Range.{Range}
use Rattle.pci_kept.specs.declared.rows.Row.{Row}
use Rattle.pci_kept.specs.declared.rows.Reach.{Reach}
use Rattle.pci_kept.specs.Rows.{AreRows, row_keeps_others_off, rows_keep_off, IsRowUpTo, EndsLast, IsCovered, IsRowReach, AreReaches, later, later_of, row_reach, reach_with, ends_at, reaches_to}

abbrev pub no_row : Row
no_row = record { key = 0; owner = 0; range = record { first = 0; last = 0 } }

abbrev pub no_reach : Reach
no_reach = record { owner = 0; last = 0; others = None }

-- ---- rows up to a key and an address

abbrev pub is_up_to : ℕ → ℕ → Row → Bool
is_up_to key address r = ltb r.key key || (eqb r.key key && leb r.range.first address)

still_up_to : (key address k f l g : ℕ) → (k < l) ⊎ ((k ≡ l) × (f ≤ g)) → (ltb l key || (eqb l key && leb g address)) ≡ true → (ltb k key || (eqb k key && leb f address)) ≡ true
still_up_to key address k f l g before is = grind (arith, nat_tests)

pub up_to_gives : (key address k f : ℕ) → (ltb k key || (eqb k key && leb f address)) ≡ true → (k < key) ⊎ ((k ≡ key) × (f ≤ address))
up_to_gives key address k f is = grind (arith, nat_tests)

pub beyond_gives : (key address k f : ℕ) → (ltb k key || (eqb k key && leb f address)) ≡ false → (key < k) ⊎ ((k ≡ key) × (address < f))
beyond_gives key address k f is = grind (arith, nat_tests)

pub parted : (rows : List Row) (key address : ℕ) → AreRows rows → IsPartitionedBy (is_up_to key address) rows
parted rows key address order i j d le within is = elim (cases_eq i j) [
  | inl same ↦ subst (λ n. is_up_to key address (get_or rows n d) ≡ true) (sym same) is
  | inr differ ↦
      let r = get_or rows i d in
      let t = get_or rows j d in
      still_up_to key address r.key r.range.first t.key t.range.first (order i j d (omega (arith, le, differ)) within) is
]

-- ---- which rows keep a range off

shares : (x y : Range) → not (ranges_are_apart (decoded_range_of x) (decoded_range_of y)) ≡ true → (y.first ≤ x.last) × (x.first ≤ y.last)
shares x y h = grind (arith, nat_tests)

pub record KeepsOff (key owner : ℕ) (range : Range) (r : Row) : Type 0 where
  pub here : r.key ≡ key
  pub other : r.owner ≢ owner
  pub ends : range.first ≤ r.range.last
  pub begins : r.range.first ≤ range.last

keeping : (key owner : ℕ) (range : Range) (r : Row) → row_keeps_others_off key owner range r ≡ true → KeepsOff key owner range r
keeping key owner range r is =
    let two = and_parts (r.key == key && not (r.owner == owner)) (not (ranges_are_apart (decoded_range_of r.range) (decoded_range_of range))) is in
    let one = and_parts (r.key == key) (not (r.owner == owner)) two.0 in
    let both = shares r.range range two.1 in
    record {
      here = eqb-true r.key key one.0;
      other = λ same. both_ways (r.owner == owner) (not-true (r.owner == owner) one.1) (eq-eqb r.owner owner same);
      ends = both.0;
      begins = both.1;
    }

kept : (key owner : ℕ) (range : Range) (r : Row) → KeepsOff key owner range r → row_keeps_others_off key owner range r ≡ true
kept key owner range r is =
    let a = is.ends in
    let b = is.begins in
    and_from (r.key == key && not (r.owner == owner)) (not (ranges_are_apart (decoded_range_of r.range) (decoded_range_of range)))
    (and_from (r.key == key) (not (r.owner == owner)) (eq-eqb r.key key is.here) (ap not (ne_eqb r.owner owner is.other)))
    (apart r.range range a b)
  where
    apart : (x y : Range) → y.first ≤ x.last → x.first ≤ y.last → not (ranges_are_apart (decoded_range_of x) (decoded_range_of y)) ≡ true
    apart x y ends begins = grind (arith, nat_tests)

pub for_all : (rows : List Row) (k key : ℕ) (r : Row) → k < length rows → (get_or rows k r).key ≢ key → (d : Row) → (get_or rows k d).key ≢ key
for_all rows k key r within differs d same =
    differs (ap (λ (x : Row). x.key) (get_or_default rows k r d within) ∙ same)

pub for_each : (rows : List Row) (k key : ℕ) (r : Row) → k < length rows → (get_or rows k r).key ≡ key → (d : Row) → (get_or rows k d).key ≡ key
for_each rows k key r within same d = ap (λ (x : Row). x.key) (get_or_default rows k d r within) ∙ same

module _ (rows : List Row) (order : AreRows rows) (key owner : ℕ) (range : Range) (count : ℕ) (bound : count ≤ length rows)
    (before : AllWithin (λ r. (r.key < key) ⊎ ((r.key ≡ key) × (r.range.first ≤ range.last))) rows 0 count)
    (after : AllWithin (λ r. (key < r.key) ⊎ ((r.key ≡ key) × (range.last < r.range.first))) rows count (length rows)) where
  -- what keeps it off is one of the first rows, and the last of these is of the key
  pub record IsFound (j : ℕ) : Type 0 where
    pub first : j < count
    pub last : (d : Row) → (get_or rows (count - 1) d).key ≡ key

  not_after : (r : Row) → KeepsOff key owner range r → ((key < r.key) ⊎ ((r.key ≡ key) × (range.last < r.range.first))) → ⊥
  not_after r is h =
      let a = is.here in
      let b = is.begins in
      elim h [ inl up ↦ (let no : ⊥ = omega (arith, up, a) in no) | inr both ↦ (let c = both.1 in let no : ⊥ = omega (arith, b, c) in no) ]

  key_of_last : (j : ℕ) (r d : Row) → KeepsOff key owner range r → j < count → get_or rows j d ≡ r → (get_or rows (count - 1) d).key ≡ key
  key_of_last j r d is low at =
      let here : (get_or rows j d).key ≡ key = ap (λ (x : Row). x.key) at ∙ is.here in
      let last = get_or rows (count - 1) d in
      let high : key ≤ last.key = (elim (cases_eq j (count - 1)) [
        | inl same ↦ (let e : (get_or rows j d).key ≡ last.key = ap (λ n. (get_or rows n d).key) same in omega (arith, e, here))
        | inr differ ↦ elim (order j (count - 1) d (omega (arith, low, differ)) (omega (arith, low, bound))) [
          | inl less ↦ omega (arith, less, here)
          | inr both ↦ (let e = both.0 in omega (arith, e, here))
        ]
      ]) in
      elim (before (count - 1) d (omega arith) (omega (arith, low))) [
        | inl less ↦ absurd (let no : ⊥ = omega (arith, less, high) in no)
        | inr both ↦ both.0
      ]

  found : (j : ℕ) (r : Row) → KeepsOff key owner range r → j < length rows → get_or rows j r ≡ r → IsFound j
  found j r is within at = elim (cases_lt j count) [
    | inl low ↦ record {
      first = low;
      last = λ d. key_of_last j r d is low (get_or_default rows j d r within ∙ at);
    }
    | inr high ↦ absurd (not_after r is (subst (λ (x : Row). (key < x.key) ⊎ ((x.key ≡ key) × (range.last < x.range.first))) at (after j r high within)))
  ]

  pub none : (count ≡ 0 ⊎ ((d : Row) → (get_or rows (count - 1) d).key ≢ key)) → rows_keep_off rows key owner range ≡ false
  none h = false_from_ne_true (rows_keep_off rows key owner range) (λ is.
      let of = any_gives (row_keeps_others_off key owner range) rows is in
      let it = found of.1.0 of.0 (keeping key owner range of.0 of.2) of.1.1 of.1.2 in
      elim h [
        | inl nobody ↦ (let low = it.first in let no : ⊥ = omega (arith, low, nobody) in no)
        | inr differs ↦ differs of.0 (it.last of.0)
      ])

  module _ (some : 0 < count) (last_key : (d : Row) → (get_or rows (count - 1) d).key ≡ key) (x : Reach) (reach : IsRowReach rows (count - 1) x) where
    -- a row up to the last one keeps it off where it ends behind its beginning
    so : (last : ℕ) (of : Row → Type 0) → EndsLast rows (count - 1) last of → ((r : Row) → of r → r.owner ≢ owner) → range.first ≤ last → rows_keep_off rows key owner range ≡ true
    so last of ends other up =
        let r = ends.row in
        let up_to = ends.there in
        let le = up_to.le in
        let within : ends.j < length rows = omega (arith, le, some, bound) in
        let same_key : r.key ≡ key = up_to.key ∙ last_key r in
        any_from (row_keeps_others_off key owner range) rows r (ends.j, within, up_to.at)
        (kept key owner range r record {
          here = same_key;
          other = other r ends.is;
          ends = (let e = ends.ends in omega (arith, e, up));
          begins = elim (before ends.j r (omega arith) (omega (arith, le, some))) [
            | inl less ↦ absurd (let e : (get_or rows ends.j r).key ≡ r.key = ap (λ (y : Row). y.key) up_to.at in let no : ⊥ = omega (arith, less, e, same_key) in no)
            | inr both ↦ (let e : (get_or rows ends.j r).range.first ≡ r.range.first = ap (λ (y : Row). y.range.first) up_to.at in let b = both.1 in omega (arith, e, b))
          ];
        })

    up_to_it : (j : ℕ) (r : Row) → KeepsOff key owner range r → j < length rows → get_or rows j r ≡ r → IsRowUpTo rows (count - 1) j r
    up_to_it j r is within at =
        let it = found j r is within at in
        let low = it.first in
        record {
          le = omega (arith, low);
          at = at;
          key = is.here ∙ sym (it.last r);
        }

    by_others : x.owner ≡ owner → (others : Option ℕ) → x.others ≡ others → ends_at others range.first ≡ rows_keep_off rows key owner range
    by_others own None e = sym (false_from_ne_true (rows_keep_off rows key owner range) (λ is.
        let of = any_gives (row_keeps_others_off key owner range) rows is in
        let keeps = keeping key owner range of.0 of.2 in
        let covered = subst (λ o. IsCovered o of.0.range.last) e (reach.rest of.1.0 of.0 (up_to_it of.1.0 of.0 keeps of.1.1 of.1.2) (λ same. keeps.other (same ∙ own))) in
        let no : ⊥ = omega (arith, covered) in no))
    by_others own (Some n) e = elim (cases_Bool (nat_le range.first n)) [
      | inl up ↦ up ∙ sym (so n (λ r. r.owner ≢ x.owner) (reach.other n e) (λ r differs same. differs (same ∙ sym own)) (leb-true range.first n up))
      | inr down ↦ down ∙ sym (false_from_ne_true (rows_keep_off rows key owner range) (λ is.
          let of = any_gives (row_keeps_others_off key owner range) rows is in
          let keeps = keeping key owner range of.0 of.2 in
          let ends = keeps.ends in
          let covered = subst (λ o. IsCovered o of.0.range.last) e (reach.rest of.1.0 of.0 (up_to_it of.1.0 of.0 keeps of.1.1 of.1.2) (λ same. keeps.other (same ∙ own))) in
          both_ways (nat_le range.first n) down (le-leb range.first n (omega (arith, ends, covered)))))
    ]

    by_last : x.owner ≢ owner → nat_le range.first x.last ≡ rows_keep_off rows key owner range
    by_last other = elim (cases_Bool (nat_le range.first x.last)) [
      | inl up ↦ up ∙ sym (so x.last (λ r. r.owner ≡ x.owner) reach.at (λ r same own. other (sym same ∙ own)) (leb-true range.first x.last up))
      | inr down ↦ down ∙ sym (false_from_ne_true (rows_keep_off rows key owner range) (λ is.
          let of = any_gives (row_keeps_others_off key owner range) rows is in
          let keeps = keeping key owner range of.0 of.2 in
          let ends = keeps.ends in
          let covered = reach.all of.1.0 of.0 (up_to_it of.1.0 of.0 keeps of.1.1 of.1.2) in
          both_ways (nat_le range.first x.last) down (le-leb range.first x.last (omega (arith, ends, covered)))))
    ]

    pub by_reach : reaches_to x owner range.first ≡ rows_keep_off rows key owner range
    by_reach = elim (cases_eq x.owner owner) [
      | inl own ↦ ap (λ b. cond b (ends_at x.others range.first) (nat_le range.first x.last)) (eq-eqb x.owner owner own) ∙ by_others own x.others refl
      | inr other ↦ ap (λ b. cond b (ends_at x.others range.first) (nat_le range.first x.last)) (ne_eqb x.owner owner other) ∙ by_last other
    ]

-- ---- how far they reach, row by row

not_less : (m n : ℕ) → nat_lt m n ≡ false → n ≤ m
not_less m n h = grind (arith, nat_tests)

later_is : (m n : ℕ) → (m ≤ later m n) × (n ≤ later m n) × ((later m n ≡ m) ⊎ (later m n ≡ n))
later_is m n = elim (cases_Bool (nat_lt m n)) [
  | inl up ↦ (let e : later m n ≡ n = ap (λ b. cond b n m) up in let less = ltb-true m n up in (omega (arith, e, less), omega (arith, e), inr e))
  | inr down ↦ (let e : later m n ≡ m = ap (λ b. cond b n m) down in let less = not_less m n down in (omega (arith, e), omega (arith, e, less), inl e))
]

module _ (rows : List Row) (order : AreRows rows) (k : ℕ) (within : k < length rows) (row : Row) (row_is : get_or rows k row ≡ row) where
  here : (r : Row) → get_or rows k r ≡ row
  here r = get_or_default rows k r row within ∙ row_is

  it : IsRowUpTo rows k k row
  it = record { le = omega arith; at = row_is; key = ap (λ (x : Row). x.key) (sym row_is) }

  -- the first of its key
  pub first_of_key : (k ≡ 0 ⊎ ((d : Row) → (get_or rows (k - 1) d).key ≢ row.key)) → IsRowReach rows k (row_reach row)
  first_of_key first = record {
    all = λ j r up_to. (let e : r.range.last ≡ row.range.last = ap (λ (x : Row). x.range.last) (alone j r up_to) in omega (arith, e));
    at = record { j = k; row = row; there = it; is = refl; ends = refl };
    rest = λ j r up_to differs. absurd (differs (ap (λ (x : Row). x.owner) (alone j r up_to)));
    other = λ n e. absurd (no_some n e);
  }
    where
      no_some : (n : ℕ) → None ≡ Some n → ⊥
      no_some n e = cc

      alone : (j : ℕ) (r : Row) → IsRowUpTo rows k j r → r ≡ row
      alone j r up_to = elim (cases_eq j k) [
        | inl same ↦ sym up_to.at ∙ ap (λ n. get_or rows n r) same ∙ here r
        | inr differ ↦
            let le = up_to.le in
            let key : r.key ≡ row.key = up_to.key ∙ ap (λ (x : Row). x.key) (here r) in
            let own : (get_or rows j r).key ≡ r.key = ap (λ (x : Row). x.key) up_to.at in
            let last = get_or rows (k - 1) r in
            let up : r.key ≤ last.key = (elim (cases_eq j (k - 1)) [
              | inl same ↦ (let e : (get_or rows j r).key ≡ last.key = ap (λ n. (get_or rows n r).key) same in omega (arith, e, own))
              | inr other ↦ elim (order j (k - 1) r (omega (arith, le, differ, other)) (omega (arith, within))) [
                | inl less ↦ omega (arith, less, own)
                | inr both ↦ (let e = both.0 in omega (arith, e, own))
              ]
            ]) in
            let e : (get_or rows k r).key ≡ row.key = ap (λ (x : Row). x.key) (here r) in
            let down : last.key ≤ row.key = (elim (order (k - 1) k r (omega (arith, le, differ)) within) [
              | inl less ↦ omega (arith, less, e)
              | inr both ↦ (let f = both.0 in omega (arith, f, e))
            ]) in
            absurd (elim first [
              | inl none ↦ (let no : ⊥ = omega (arith, none, le, differ) in no)
              | inr differs ↦ differs r (omega (arith, up, down, key))
            ])
      ]

  module _ (some : 0 < k) (same_key : (d : Row) → (get_or rows (k - 1) d).key ≡ row.key) (x : Reach) (reach : IsRowReach rows (k - 1) x) where
    old : (j : ℕ) (r : Row) → IsRowUpTo rows k j r → (r ≡ row) ⊎ IsRowUpTo rows (k - 1) j r
    old j r up_to = elim (cases_eq j k) [
      | inl same ↦ inl (sym up_to.at ∙ ap (λ n. get_or rows n r) same ∙ here r)
      | inr differ ↦ inr (let le = up_to.le in record {
        le = omega (arith, le, differ);
        at = up_to.at;
        key = up_to.key ∙ ap (λ (y : Row). y.key) (here r) ∙ sym (same_key r);
      })
    ]

    new : (j : ℕ) (r : Row) → IsRowUpTo rows (k - 1) j r → IsRowUpTo rows k j r
    new j r up_to = (let le = up_to.le in record {
      le = omega (arith, le);
      at = up_to.at;
      key = up_to.key ∙ same_key r ∙ sym (ap (λ (y : Row). y.key) (here r));
    })

    still : (last : ℕ) (of now : Row → Type 0) → ((r : Row) → of r → now r) → EndsLast rows (k - 1) last of → EndsLast rows k last now
    still last of now so ends = record {
      j = ends.j;
      row = ends.row;
      there = new ends.j ends.row ends.there;
      is = so ends.row ends.is;
      ends = ends.ends;
    }

    abbrev last : ℕ
    last = row.range.last

    last_of : (r : Row) → r ≡ row → r.range.last ≡ last
    last_of r same = ap (λ (y : Row). y.range.last) same

    own_row : row.owner ≡ x.owner → IsRowReach rows k (record { owner = x.owner; last = later x.last last; others = x.others })
    own_row own =
        let facts = later_is x.last last in
        let a = facts.0 in
        let b = facts.1 in
        record {
          all = λ j r up_to. elim (old j r up_to) [
            | inl same ↦ (let e = last_of r same in omega (arith, e, b))
            | inr before ↦ (let c = reach.all j r before in omega (arith, a, c))
          ];
          at = elim facts.2 [
            | inl e ↦ still (later x.last last) (λ r. r.owner ≡ x.owner) (λ r. r.owner ≡ x.owner) (λ r is. is) (subst (λ n. EndsLast rows (k - 1) n (λ r. r.owner ≡ x.owner)) (sym e) reach.at)
            | inr e ↦ record { j = k; row = row; there = it; is = own; ends = sym e }
          ];
          rest = λ j r up_to differs. elim (old j r up_to) [
            | inl same ↦ absurd (differs (ap (λ (y : Row). y.owner) same ∙ own))
            | inr before ↦ reach.rest j r before differs
          ];
          other = λ n e. still n (λ r. r.owner ≢ x.owner) (λ r. r.owner ≢ x.owner) (λ r is. is) (reach.other n e);
        }

    last_row : row.owner ≢ x.owner → x.last < last → IsRowReach rows k (record { owner = row.owner; last = last; others = Some x.last })
    last_row other up = record {
      all = λ j r up_to. elim (old j r up_to) [
        | inl same ↦ (let e = last_of r same in omega (arith, e))
        | inr before ↦ (let c = reach.all j r before in omega (arith, up, c))
      ];
      at = record { j = k; row = row; there = it; is = refl; ends = refl };
      rest = λ j r up_to differs. elim (old j r up_to) [
        | inl same ↦ absurd (differs (ap (λ (y : Row). y.owner) same))
        | inr before ↦ reach.all j r before
      ];
      other = λ n e. (let same : x.last ≡ n = cc in
          subst (λ m. EndsLast rows k m (λ r. r.owner ≢ row.owner)) same
          (still x.last (λ r. r.owner ≡ x.owner) (λ r. r.owner ≢ row.owner) (λ r is own. other (sym own ∙ is)) reach.at));
    }

    other_row : row.owner ≢ x.owner → last ≤ x.last → IsRowReach rows k (record { owner = x.owner; last = x.last; others = Some (later_of x.others last) })
    other_row other down = record {
      all = λ j r up_to. elim (old j r up_to) [
        | inl same ↦ (let e = last_of r same in omega (arith, e, down))
        | inr before ↦ reach.all j r before
      ];
      at = still x.last (λ r. r.owner ≡ x.owner) (λ r. r.owner ≡ x.owner) (λ r is. is) reach.at;
      rest = λ j r up_to differs. elim (old j r up_to) [
        | inl same ↦ (let e = last_of r same in let b = covers x.others last in omega (arith, e, b))
        | inr before ↦ more x.others last r.range.last (reach.rest j r before differs)
      ];
      other = λ n e. (let same : later_of x.others last ≡ n = cc in subst (λ m. EndsLast rows k m (λ r. r.owner ≢ x.owner)) same (ended x.others refl));
    }
      where
        covers : (o : Option ℕ) (n : ℕ) → n ≤ later_of o n
        covers None n = omega arith
        covers (Some m) n = (later_is m n).1

        more : (o : Option ℕ) (n m : ℕ) → IsCovered o m → m ≤ later_of o n
        more None n m c = absurd (let no : ⊥ = omega (arith, c) in no)
        more (Some l) n m c = (let a = (later_is l n).0 in omega (arith, a, c))

        it_ends : (n : ℕ) → last ≡ n → EndsLast rows k n (λ r. r.owner ≢ x.owner)
        it_ends n e = record { j = k; row = row; there = it; is = other; ends = e }

        ended : (o : Option ℕ) → x.others ≡ o → EndsLast rows k (later_of o last) (λ r. r.owner ≢ x.owner)
        ended None e = it_ends last refl
        ended (Some m) e = elim (later_is m last).2 [
          | inl same ↦ subst (λ n. EndsLast rows k n (λ r. r.owner ≢ x.owner)) (sym same) (still m (λ r. r.owner ≢ x.owner) (λ r. r.owner ≢ x.owner) (λ r is. is) (reach.other m e))
          | inr same ↦ it_ends (later m last) (sym same)
        ]

    abbrev owned : Reach
    owned = record { owner = x.owner; last = later x.last last; others = x.others }

    abbrev ends_last : Reach
    ends_last = record { owner = row.owner; last = last; others = Some x.last }

    abbrev ends_before : Reach
    ends_before = record { owner = x.owner; last = x.last; others = Some (later_of x.others last) }

    pub with_row : IsRowReach rows k (reach_with x row)
    with_row = elim (cases_eq row.owner x.owner) [
      | inl own ↦ subst (IsRowReach rows k) (sym (ap (λ b. cond b owned (cond (nat_lt x.last last) ends_last ends_before)) (eq-eqb row.owner x.owner own))) (own_row own)
      | inr other ↦ elim (cases_Bool (nat_lt x.last last)) [
        | inl up ↦ subst (IsRowReach rows k) (sym (ap (λ b. cond b owned (cond (nat_lt x.last last) ends_last ends_before)) (ne_eqb row.owner x.owner other) ∙ ap (λ b. cond b ends_last ends_before) up)) (last_row other (ltb-true x.last last up))
        | inr down ↦ subst (IsRowReach rows k) (sym (ap (λ b. cond b owned (cond (nat_lt x.last last) ends_last ends_before)) (ne_eqb row.owner x.owner other) ∙ ap (λ b. cond b ends_last ends_before) down)) (other_row other (not_less x.last last down))
      ]
    ]

-- one reach more
pub reaches_more : (rows : List Row) (old : List Reach) (k : ℕ) (x : Reach) → length old ≡ k → ((j : ℕ) (d : Reach) → j < k → IsRowReach rows j (get_or old j d)) → IsRowReach rows k x
    → (new : List Reach) → new ≡ old ++ (x ∷ []) → (j : ℕ) (d : Reach) → j < k + 1 → IsRowReach rows j (get_or new j d)
reaches_more rows old k x size each is new put j d low = subst (λ xs. IsRowReach rows j (get_or xs j d)) (sym put) (elim (cases_eq j k) [
  | inl same ↦ subst (IsRowReach rows j) (sym (ap (λ n. get_or (old ++ (x ∷ [])) n d) (let at : j ≡ length old + 0 = omega (arith, same, size) in at) ∙ get_or-append-add old (x ∷ []) 0 d)) (subst (λ n. IsRowReach rows n x) (sym same) is)
  | inr differ ↦ subst (IsRowReach rows j) (sym (get_or_append_left old (x ∷ []) d j (omega (arith, low, differ, size)))) (each j d (omega (arith, low, differ)))
])

-- how far rows reach, by slices of them
pub searched : (rows : List Row) (reaches : List Reach) (first slice : List Row) (ends : List Reach) → first ≡ rows → slice ≡ rows → ends ≡ reaches → AreRows rows → (AreRows first → AreReaches first reaches) → AreReaches slice ends
searched rows reaches first slice ends e f h order reach =
    subst (λ xs. AreReaches xs ends) (e ∙ sym f) (subst (AreReaches first) (sym h) (reach (subst AreRows (sym e) order)))

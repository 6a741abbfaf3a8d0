-- The last place in a range is the greatest of all of its places.
use Rattle.std.proofs.Common.{◌≡◌, ◌⊎◌, ℕ, suc, ◌+◌, ◌-◌, ◌*◌, ◌/◌, ◌%◌, ◌<◌, ◌≤◌, max, inl, inr, List, [], ◌∷◌, map, arith, ap, sym, subst, ◌∙◌, refl, Option, None, Some}
use Rattle.std.specs.Bool.{IsTrue, nat_le}
use Rattle.std.specs.List.{Contains, filter, fold}
use Rattle.std.specs.Option.{is_some, unwrap_or}
use Rattle.std.proofs.lemmas.Bool.{cases_lt, false≢true, true≢false, and_parts, and_from, leb-true, le-leb, false_from_ne_true}
use Rattle.std.proofs.lemmas.Nat.{div-add-mod', mod_below}
use Rattle.std.proofs.Math.Nat.{mul-le-mul_right, mul-mod_left}
use Rattle.pci_spec.specs.Decoded.{Range}
use Rattle.pci_spec.proofs.Members.{in_nil, in_head, in_tail, in_cons_cases, in_map_from, in_filter_to, in_filter_from}
use Rattle.plan_spec.proofs.Planning.Placement.{multiple_of_mod}
use Rattle.settle_spec.specs.FirstPlace.{Extent, is_spot, ends_by, is_place, HasNoPlace}
use Rattle.settle_spec.specs.LastPlace.{lowered_to, late_candidates, greatest_number, last_place_in, IsLastPlaceIn}
use Rattle.settle_spec.proofs.FirstSpot.{IsApart, spot_gives, spot_from}

-- ---- a place, by its bounds

pub record IsPlaceAt (r : Range) (taken : List Range) (e : Extent) (b : ℕ) : Type 0 where
  pub multiple : b % e.alignment ≡ 0
  pub from : r.first ≤ b
  pub free : (t : Range) → Contains taken t → IsApart e.size b t
  pub last : b + (e.size - 1) ≤ r.last
  pub highest : b + (e.size - 1) ≤ e.highest

pub place_gives : (r : Range) (taken : List Range) (e : Extent) (b : ℕ) → IsTrue (is_place r taken e b) → IsPlaceAt r taken e b
place_gives r taken e b place =
    let parts = and_parts (is_spot r.first taken e b) (ends_by r e b) place in
    let spot = spot_gives r.first taken e b parts.0 in
    let ends = and_parts (nat_le (b + (e.size - 1)) r.last) (nat_le (b + (e.size - 1)) e.highest) parts.1 in
    record {
      multiple = spot.multiple;
      from = spot.from;
      free = spot.free;
      last = leb-true (b + (e.size - 1)) r.last ends.0;
      highest = leb-true (b + (e.size - 1)) e.highest ends.1;
    }

pub place_from : (r : Range) (taken : List Range) (e : Extent) (b : ℕ) → IsPlaceAt r taken e b → IsTrue (is_place r taken e b)
place_from r taken e b is =
    and_from (is_spot r.first taken e b) (ends_by r e b)
    (spot_from r.first taken e b (record { multiple = is.multiple; from = is.from; free = is.free }))
    (and_from (nat_le (b + (e.size - 1)) r.last) (nat_le (b + (e.size - 1)) e.highest) (le-leb (b + (e.size - 1)) r.last is.last) (le-leb (b + (e.size - 1)) e.highest is.highest))

-- ---- lowering

record IsLowered (e : Extent) (end b : ℕ) : Type 0 where
  multiple : lowered_to e end % e.alignment ≡ 0
  up : lowered_to e end + e.size ≤ end
  from : b ≤ lowered_to e end

-- a multiple that isn't above a number isn't above its greatest one
lowered_at : (n al q m b : ℕ) → q * al + m ≡ n → m < al → b % al ≡ 0 → b ≤ n → b ≤ q * al
lowered_at n al q m b e small whole up =
    let k = multiple_of_mod b al whole in
    let is = k.1 in
    elim (cases_lt q k.0) [
      | inl less ↦ absurd (let step : suc q * al ≤ k.0 * al = mul-le-mul_right al less in let no : ⊥ = omega (arith, step, is, e, small, up) in no)
      | inr most ↦ (let step : k.0 * al ≤ q * al = mul-le-mul_right al most in omega (arith, step, is))
    ]

lowered : (e : Extent) → 0 < e.alignment → (end b : ℕ) → b % e.alignment ≡ 0 → b + e.size ≤ end → IsLowered e end b
lowered e pos end b whole up =
    let n = end - e.size in
    let q = n / e.alignment in
    let split = div-add-mod' n e.alignment in
    let small = mod_below n e.alignment pos in
    record {
      multiple = mul-mod_left q e.alignment;
      up = omega (arith, split, up);
      from = lowered_at n e.alignment q (n % e.alignment) b split small whole (omega (arith, up));
    }

-- ---- the end above a place

-- the first end above it: that of the range, the highest address, or the first address of what is taken above it
record IsTop (r : Range) (taken : List Range) (e : Extent) (b n : ℕ) : Type 0 where
  is_one : Contains ((r.last + 1) ∷ ((e.highest + 1) ∷ map (λ (t : Range). t.first) taken)) n
  up : b + e.size ≤ n
  last : n ≤ r.last + 1
  highest : n ≤ e.highest + 1
  each : (t : Range) → Contains taken t → (t.last < b) ⊎ (n ≤ t.first)

wider : (a b x : ℕ) (xs : List ℕ) (n : ℕ) → Contains (a ∷ (b ∷ xs)) n → Contains (a ∷ (b ∷ (x ∷ xs))) n
wider a b x xs n listed = elim (in_cons_cases a (b ∷ xs) n listed) [
  | inl here ↦ subst (λ m. Contains (a ∷ (b ∷ (x ∷ xs))) m) here (in_head a (b ∷ (x ∷ xs)))
  | inr later ↦ elim (in_cons_cases b xs n later) [
    | inl here ↦ subst (λ m. Contains (a ∷ (b ∷ (x ∷ xs))) m) here (in_tail a (b ∷ (x ∷ xs)) b (in_head b (x ∷ xs)))
    | inr further ↦ in_tail a (b ∷ (x ∷ xs)) n (in_tail b (x ∷ xs) n (in_tail x xs n further))
  ]
]

top_of : (r : Range) (taken : List Range) (e : Extent) (b : ℕ) → 0 < e.size → b + (e.size - 1) ≤ r.last → b + (e.size - 1) ≤ e.highest → ((t : Range) → Contains taken t → IsApart e.size b t) → (n : ℕ) × IsTop r taken e b n
top_of r [] e b some last highest free = elim (cases_lt e.highest r.last) [
  | inl less ↦ (
    e.highest + 1,
    record {
      is_one = in_tail (r.last + 1) ((e.highest + 1) ∷ []) (e.highest + 1) (in_head (e.highest + 1) []);
      up = omega (arith, highest, some);
      last = omega (arith, less);
      highest = omega arith;
      each = λ t listed. absurd (in_nil t listed);
    },
  )
  | inr more ↦ (
    r.last + 1,
    record {
      is_one = in_head (r.last + 1) ((e.highest + 1) ∷ []);
      up = omega (arith, last, some);
      last = omega arith;
      highest = omega (arith, more);
      each = λ t listed. absurd (in_nil t listed);
    },
  )
]
top_of r (t ∷ taken) e b some last highest free =
    let rest : (n : ℕ) × IsTop r taken e b n = top_of r taken e b some last highest (λ u listed. free u (in_tail t taken u listed)) in
    let n = rest.0 in
    let is = rest.1 in
    let n_up = is.up in
    let n_last = is.last in
    let n_highest = is.highest in
    let firsts = map (λ (t : Range). t.first) taken in
    elim (free t (in_head t taken)) [
      | inr over ↦ (
        n,
        record {
          is_one = wider (r.last + 1) (e.highest + 1) t.first firsts n is.is_one;
          up = n_up;
          last = n_last;
          highest = n_highest;
          each = λ u listed. elim (in_cons_cases t taken u listed) [
            | inl here ↦ inl (subst (λ (x : Range). x.last < b) here over)
            | inr later ↦ is.each u later
          ];
        },
      )
      | inl under ↦ elim (cases_lt t.first n) [
        | inl less ↦ (
          t.first,
          record {
            is_one = in_tail (r.last + 1) ((e.highest + 1) ∷ (t.first ∷ firsts)) t.first (in_tail (e.highest + 1) (t.first ∷ firsts) t.first (in_head t.first firsts));
            up = omega (arith, under, some);
            last = omega (arith, less, n_last);
            highest = omega (arith, less, n_highest);
            each = λ u listed. elim (in_cons_cases t taken u listed) [
              | inl here ↦ inr (subst (λ (x : Range). t.first ≤ x.first) here (omega arith))
              | inr later ↦ elim (is.each u later) [
                | inl below ↦ inl below
                | inr above ↦ inr (omega (arith, less, above))
              ]
            ];
          },
        )
        | inr enough ↦ (
          n,
          record {
            is_one = wider (r.last + 1) (e.highest + 1) t.first firsts n is.is_one;
            up = n_up;
            last = n_last;
            highest = n_highest;
            each = λ u listed. elim (in_cons_cases t taken u listed) [
              | inl here ↦ inr (subst (λ (x : Range). n ≤ x.first) here enough)
              | inr later ↦ is.each u later
            ];
          },
        )
      ]
    ]

-- ---- the candidate from a place on

record IsLate (r : Range) (taken : List Range) (e : Extent) (b c : ℕ) : Type 0 where
  listed : Contains (filter (is_place r taken e) (late_candidates r taken e)) c
  from : b ≤ c

late : (r : Range) (taken : List Range) (e : Extent) → 0 < e.alignment → 0 < e.size → (b : ℕ) → IsTrue (is_place r taken e b) → (c : ℕ) × IsLate r taken e b c
late r taken e pos some b place =
    let is = place_gives r taken e b place in
    let found = top_of r taken e b some is.last is.highest is.free in
    let n = found.0 in
    let top = found.1 in
    let low = lowered e pos n b is.multiple top.up in
    let low_up = low.up in
    let low_from = low.from in
    let top_last = top.last in
    let top_highest = top.highest in
    let is_from = is.from in
    let place_there = place_from r taken e (lowered_to e n) (record {
      multiple = low.multiple;
      from = omega (arith, is_from, low_from);
      free = λ t listed. elim (top.each t listed) [
        | inl below ↦ inr (omega (arith, below, low_from))
        | inr above ↦ inl (omega (arith, low_up, above, some))
      ];
      last = omega (arith, low_up, top_last, some);
      highest = omega (arith, low_up, top_highest, some);
    }) in (
      lowered_to e n,
      record {
        listed = in_filter_from (is_place r taken e) (late_candidates r taken e) (lowered_to e n)
            (in_map_from (lowered_to e) ((r.last + 1) ∷ ((e.highest + 1) ∷ map (λ (t : Range). t.first) taken)) n top.is_one) place_there;
        from = low_from;
      },
    )

-- ---- the greatest of some numbers

record IsGreatestOf (xs : List ℕ) (n : ℕ) : Type 0 where
  listed : Contains xs n
  greatest : (x : ℕ) → Contains xs x → x ≤ n

greatest_cons : (a : ℕ) (xs : List ℕ) → IsGreatestOf (a ∷ xs) (fold max a xs)
greatest_cons a [] = record { listed = in_head a []; greatest = λ x listed. elim (in_cons_cases a [] x listed) [ inl here ↦ omega (arith, here) | inr later ↦ absurd (in_nil x later) ] }
greatest_cons a (y ∷ xs) =
    let rest = greatest_cons (max a y) xs in
    let first = rest.greatest (max a y) (in_head (max a y) xs) in
    record {
      listed = elim (in_cons_cases (max a y) xs (fold max (max a y) xs) rest.listed) [
        | inl here ↦ elim (cases_lt a y) [
          | inl less ↦ (let is : y ≡ fold max (max a y) xs = omega (arith, less, here) in subst (λ n. Contains (a ∷ (y ∷ xs)) n) is (in_tail a (y ∷ xs) y (in_head y xs)))
          | inr more ↦ (let is : a ≡ fold max (max a y) xs = omega (arith, more, here) in subst (λ n. Contains (a ∷ (y ∷ xs)) n) is (in_head a (y ∷ xs)))
        ]
        | inr later ↦ in_tail a (y ∷ xs) (fold max (max a y) xs) (in_tail y xs (fold max (max a y) xs) later)
      ];
      greatest = λ x listed. elim (in_cons_cases a (y ∷ xs) x listed) [
        | inl here ↦ omega (arith, here, first)
        | inr later ↦ elim (in_cons_cases y xs x later) [
          | inl there ↦ omega (arith, there, first)
          | inr further ↦ rest.greatest x (in_tail (max a y) xs x further)
        ]
      ];
    }

greatest_is : (xs : List ℕ) (n : ℕ) → greatest_number xs ≡ Some n → IsGreatestOf xs n
greatest_is [] n is = absurd (false≢true (ap is_some is))
greatest_is (a ∷ xs) n is = subst (IsGreatestOf (a ∷ xs)) (ap (λ o. unwrap_or o 0) is) (greatest_cons a xs)

greatest_none : (xs : List ℕ) → greatest_number xs ≡ None → (x : ℕ) → Contains xs x → ⊥
greatest_none [] none x listed = in_nil x listed
greatest_none (a ∷ xs) none x listed = true≢false (ap is_some none)

-- ---- the law

module _ (r : Range) (taken : List Range) (e : Extent) (pos : 0 < e.alignment) (some : 0 < e.size) where
  abbrev candidates : List ℕ
  candidates = filter (is_place r taken e) (late_candidates r taken e)

  pub last_is : (a : ℕ) → last_place_in r taken e ≡ Some a → IsLastPlaceIn r taken e a
  last_is a found =
      let is = greatest_is candidates a found in
      record {
        place = (in_filter_to (is_place r taken e) (late_candidates r taken e) a is.listed).1;
        greatest = λ b place.
            let c = late r taken e pos some b place in
            let from = c.1.from in
            let up = is.greatest c.0 c.1.listed in
            omega (arith, from, up);
      }

  pub last_none : last_place_in r taken e ≡ None → HasNoPlace r taken e
  last_none none b = false_from_ne_true (is_place r taken e b) (λ place. let c = late r taken e pos some b place in greatest_none candidates none c.0 c.1.listed)

  pub last_by : (a : ℕ) → IsLastPlaceIn r taken e a → last_place_in r taken e ≡ Some a
  last_by a is = by (last_place_in r taken e) refl
    where
      by : (o : Option ℕ) → last_place_in r taken e ≡ o → last_place_in r taken e ≡ Some a
      by None none = absurd (true≢false (sym is.place ∙ last_none none a))
      by (Some b) found =
          let other = last_is b found in
          let up = other.greatest a is.place in
          let down = is.greatest b other.place in
          let same : b ≡ a = omega (arith, up, down) in
          found ∙ ap Some same

  pub last_by_none : HasNoPlace r taken e → last_place_in r taken e ≡ None
  last_by_none none = by (last_place_in r taken e) refl
    where
      by : (o : Option ℕ) → last_place_in r taken e ≡ o → last_place_in r taken e ≡ None
      by None found = found
      by (Some b) found = absurd (true≢false (sym (last_is b found).place ∙ none b))

-- ---- whatever the extent

pub last_is_place : (r : Range) (taken : List Range) (e : Extent) (a : ℕ) → last_place_in r taken e ≡ Some a → IsTrue (is_place r taken e a)
last_is_place r taken e a found =
    let listed = (greatest_is (filter (is_place r taken e) (late_candidates r taken e)) a found).listed in
    (in_filter_to (is_place r taken e) (late_candidates r taken e) a listed).1

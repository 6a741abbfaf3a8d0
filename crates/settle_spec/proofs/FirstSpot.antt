-- The least of the candidates is the least free place of all.
use Rattle.std.proofs.Common.{◌&&◌, ◌≡◌, ◌⊎◌, ℕ, ◌+◌, ◌-◌, ◌%◌, ◌<◌, ◌≤◌, min, inl, inr, List, [], ◌∷◌, map, arith, subst, true}
use Rattle.std.specs.Bool.{IsTrue, nat_lt, nat_le, ◌==◌}
use Rattle.std.specs.List.{Contains, filter, fold}
use Rattle.std.proofs.lemmas.Bool.{cases_lt, and_parts, and_from, or_cases, or_left, or_right, ltb-true, lt-ltb, leb-true, le-leb, eqb-true, eq-eqb}
use Rattle.pci_spec.specs.Decoded.{Range}
use Rattle.pci_spec.proofs.Members.{in_nil, in_head, in_tail, in_cons_cases, in_map_from, in_filter_to, in_filter_from}
use Rattle.pci_spec.proofs.BusRanges.{all_gives, all_from}
use Rattle.plan_spec.specs.Plan.{raised_to}
use Rattle.plan_spec.specs.Place.{range_from}
use Rattle.plan_spec.proofs.Planning.Room.{raised}
use Rattle.settle_spec.specs.FirstPlace.{Extent, ranges_are_apart, is_free_from, is_spot, least_number, candidates, first_spot, IsLeastSpot}

-- ---- what is free, by each range that is taken

abbrev pub IsApart : ℕ → ℕ → Range → Type 0
IsApart size b t = (b + (size - 1) < t.first) ⊎ (t.last < b)

pub apart_gives : (size b : ℕ) (t : Range) → ranges_are_apart (range_from b size) t ≡ true → IsApart size b t
apart_gives size b t h = elim (or_cases (nat_lt (b + (size - 1)) t.first) (nat_lt t.last b) h) [
  | inl under ↦ inl (ltb-true (b + (size - 1)) t.first under)
  | inr over ↦ inr (ltb-true t.last b over)
]

pub apart_from : (size b : ℕ) (t : Range) → IsApart size b t → ranges_are_apart (range_from b size) t ≡ true
apart_from size b t (inl under) = or_left (nat_lt (b + (size - 1)) t.first) (nat_lt t.last b) (lt-ltb (b + (size - 1)) t.first under)
apart_from size b t (inr over) = or_right (nat_lt (b + (size - 1)) t.first) (nat_lt t.last b) (lt-ltb t.last b over)

pub record IsFreeFrom (low : ℕ) (taken : List Range) (e : Extent) (b : ℕ) : Type 0 where
  pub multiple : b % e.alignment ≡ 0
  pub from : low ≤ b
  pub free : (t : Range) → Contains taken t → IsApart e.size b t

pub spot_gives : (low : ℕ) (taken : List Range) (e : Extent) (b : ℕ) → IsTrue (is_spot low taken e b) → IsFreeFrom low taken e b
spot_gives low taken e b spot =
    let parts = and_parts (b % e.alignment == 0) (nat_le low b && is_free_from taken e b) spot in
    let more = and_parts (nat_le low b) (is_free_from taken e b) parts.1 in
    record {
      multiple = eqb-true (b % e.alignment) 0 parts.0;
      from = leb-true low b more.0;
      free = λ t listed. apart_gives e.size b t (all_gives (ranges_are_apart (range_from b e.size)) taken more.1 t listed);
    }

pub spot_from : (low : ℕ) (taken : List Range) (e : Extent) (b : ℕ) → IsFreeFrom low taken e b → IsTrue (is_spot low taken e b)
spot_from low taken e b is =
    and_from (b % e.alignment == 0) (nat_le low b && is_free_from taken e b) (eq-eqb (b % e.alignment) 0 is.multiple)
    (and_from (nat_le low b) (is_free_from taken e b) (le-leb low b is.from)
    (all_from (ranges_are_apart (range_from b e.size)) taken (λ t listed. apart_from e.size b t (is.free t listed))))

-- ---- the candidate below a free place

-- the end of what is taken below b, or `low` where there is none
pub record IsBound (low : ℕ) (taken : List Range) (b n : ℕ) : Type 0 where
  pub is_one : Contains (low ∷ map (λ (t : Range). t.last + 1) taken) n
  pub lower : low ≤ n
  pub up : n ≤ b
  pub each : (t : Range) → Contains taken t → (t.last < n) ⊎ (b ≤ t.last)

wider : (low : ℕ) (x : ℕ) (xs : List ℕ) (n : ℕ) → Contains (low ∷ xs) n → Contains (low ∷ (x ∷ xs)) n
wider low x xs n listed = elim (in_cons_cases low xs n listed) [
  | inl here ↦ subst (λ m. Contains (low ∷ (x ∷ xs)) m) here (in_head low (x ∷ xs))
  | inr later ↦ in_tail low (x ∷ xs) n (in_tail x xs n later)
]

bound_of : (low : ℕ) (taken : List Range) (b : ℕ) → low ≤ b → (n : ℕ) × IsBound low taken b n
bound_of low [] b from = (low, record { is_one = in_head low []; lower = omega arith; up = from; each = λ t listed. absurd (in_nil t listed) })
bound_of low (t ∷ taken) b from =
    let rest : (n : ℕ) × IsBound low taken b n = bound_of low taken b from in
    let n = rest.0 in
    let is = rest.1 in
    let lower = is.lower in
    elim (cases_lt t.last b) [
      | inl under ↦ elim (cases_lt n (t.last + 1)) [
        | inl more ↦ (
          t.last + 1,
          record {
            is_one = in_tail low ((t.last + 1) ∷ map (λ (t : Range). t.last + 1) taken) (t.last + 1) (in_head (t.last + 1) (map (λ (t : Range). t.last + 1) taken));
            lower = omega (arith, lower, more);
            up = omega (arith, under);
            each = λ u listed. elim (in_cons_cases t taken u listed) [
              | inl here ↦ inl (subst (λ (x : Range). x.last < t.last + 1) here (omega arith))
              | inr later ↦ elim (is.each u later) [
                | inl below ↦ inl (omega (arith, below, more))
                | inr above ↦ inr above
              ]
            ];
          },
        )
        | inr enough ↦ (
          n,
          record {
            is_one = wider low (t.last + 1) (map (λ (t : Range). t.last + 1) taken) n is.is_one;
            lower = lower;
            up = is.up;
            each = λ u listed. elim (in_cons_cases t taken u listed) [
              | inl here ↦ inl (subst (λ (x : Range). x.last < n) here (omega (arith, enough)))
              | inr later ↦ is.each u later
            ];
          },
        )
      ]
      | inr over ↦ (
        n,
        record {
          is_one = wider low (t.last + 1) (map (λ (t : Range). t.last + 1) taken) n is.is_one;
          lower = lower;
          up = is.up;
          each = λ u listed. elim (in_cons_cases t taken u listed) [
            | inl here ↦ inr (subst (λ (x : Range). b ≤ x.last) here over)
            | inr later ↦ is.each u later
          ];
        },
      )
    ]

pub record IsCandidate (low : ℕ) (taken : List Range) (e : Extent) (b c : ℕ) : Type 0 where
  pub listed : Contains (filter (is_spot low taken e) (candidates low taken e)) c
  pub up : c ≤ b

candidate : (low : ℕ) (taken : List Range) (e : Extent) → 0 < e.alignment → (b : ℕ) → IsTrue (is_spot low taken e b) → (c : ℕ) × IsCandidate low taken e b c
candidate low taken e pos b spot =
    let free = spot_gives low taken e b spot in
    let found = bound_of low taken b free.from in
    let n = found.0 in
    let is = found.1 in
    let r = raised e.alignment n pos in
    let up = r.least b free.multiple is.up in
    let from = r.from in
    let lower = is.lower in
    let is_spot_there = spot_from low taken e (raised_to e.alignment n) (record {
      multiple = r.multiple;
      from = omega (arith, from, lower);
      free = λ t listed. elim (is.each t listed) [
        | inl below ↦ inr (omega (arith, below, from))
        | inr above ↦ elim (free.free t listed) [
          | inl under ↦ inl (omega (arith, under, up))
          | inr over ↦ absurd (let no : ⊥ = omega (arith, over, above) in no)
        ]
      ];
    }) in (
      raised_to e.alignment n,
      record {
        listed = in_filter_from (is_spot low taken e) (candidates low taken e) (raised_to e.alignment n)
            (in_map_from (raised_to e.alignment) (low ∷ map (λ (t : Range). t.last + 1) taken) n is.is_one) is_spot_there;
        up = up;
      },
    )

-- ---- the least of some numbers

record IsLeastOf (xs : List ℕ) (n : ℕ) : Type 0 where
  pub listed : Contains xs n
  pub least : (x : ℕ) → Contains xs x → n ≤ x

least_cons : (a : ℕ) (xs : List ℕ) → IsLeastOf (a ∷ xs) (fold min a xs)
least_cons a [] = record { listed = in_head a []; least = λ x listed. elim (in_cons_cases a [] x listed) [ inl here ↦ omega (arith, here) | inr later ↦ absurd (in_nil x later) ] }
least_cons a (y ∷ xs) =
    let rest = least_cons (min a y) xs in
    let first = rest.least (min a y) (in_head (min a y) xs) in
    record {
      listed = elim (in_cons_cases (min a y) xs (fold min (min a y) xs) rest.listed) [
        | inl here ↦ elim (cases_lt a y) [
          | inl less ↦ (let is : a ≡ fold min (min a y) xs = omega (arith, less, here) in subst (λ n. Contains (a ∷ (y ∷ xs)) n) is (in_head a (y ∷ xs)))
          | inr more ↦ (let is : y ≡ fold min (min a y) xs = omega (arith, more, here) in subst (λ n. Contains (a ∷ (y ∷ xs)) n) is (in_tail a (y ∷ xs) y (in_head y xs)))
        ]
        | inr later ↦ in_tail a (y ∷ xs) (fold min (min a y) xs) (in_tail y xs (fold min (min a y) xs) later)
      ];
      least = λ x listed. elim (in_cons_cases a (y ∷ xs) x listed) [
        | inl here ↦ omega (arith, here, first)
        | inr later ↦ elim (in_cons_cases y xs x later) [
          | inl there ↦ omega (arith, there, first)
          | inr further ↦ rest.least x (in_tail (min a y) xs x further)
        ]
      ];
    }

least_is : (xs : List ℕ) (x : ℕ) → Contains xs x → IsLeastOf xs (least_number xs)
least_is [] x listed = absurd (in_nil x listed)
least_is (a ∷ xs) x listed = least_cons a xs

pub least_in : (xs : List ℕ) (x : ℕ) → Contains xs x → least_number xs ≤ x
least_in xs x listed = (least_is xs x listed).least x listed

pub least_from : (a : ℕ) (xs : List ℕ) (low : ℕ) → low ≤ a → ((x : ℕ) → Contains xs x → low ≤ x) → low ≤ least_number (a ∷ xs)
least_from a xs low first rest = elim (in_cons_cases a xs (least_number (a ∷ xs)) (least_cons a xs).listed) [
  | inl here ↦ omega (arith, here, first)
  | inr later ↦ rest (least_number (a ∷ xs)) later
]

-- ---- some place is free

abbrev high : ℕ → List Range → ℕ
high low [] = low
high low (t ∷ taken) = t.last + 1 + high low taken

high_up : (low : ℕ) (taken : List Range) → low ≤ high low taken
high_up low [] = omega arith
high_up low (t ∷ taken) = let rest : low ≤ high low taken = high_up low taken in omega (arith, rest)

high_above : (low : ℕ) (taken : List Range) (t : Range) → Contains taken t → t.last < high low taken
high_above low [] t listed = absurd (in_nil t listed)
high_above low (u ∷ taken) t listed = elim (in_cons_cases u taken t listed) [
  | inl here ↦ subst (λ (x : Range). x.last < u.last + 1 + high low taken) here (omega arith)
  | inr later ↦ (let rest : t.last < high low taken = high_above low taken t later in omega (arith, rest))
]

high_spot : (low : ℕ) (taken : List Range) (e : Extent) → 0 < e.alignment → IsTrue (is_spot low taken e (raised_to e.alignment (high low taken)))
high_spot low taken e pos =
    let r = raised e.alignment (high low taken) pos in
    let from = r.from in
    let up = high_up low taken in
    spot_from low taken e (raised_to e.alignment (high low taken)) (record {
      multiple = r.multiple;
      from = omega (arith, from, up);
      free = λ t listed. (let above = high_above low taken t listed in inr (omega (arith, above, from)));
    })

-- ---- so the first free place is there, and it is the least

pub least_spot : (low : ℕ) (taken : List Range) (e : Extent) → 0 < e.alignment → IsLeastSpot low taken e (first_spot low taken e)
least_spot low taken e pos =
    let some = candidate low taken e pos (raised_to e.alignment (high low taken)) (high_spot low taken e pos) in
    let is = least_is (filter (is_spot low taken e) (candidates low taken e)) some.0 some.1.listed in
    record {
      free = (in_filter_to (is_spot low taken e) (candidates low taken e) (first_spot low taken e) is.listed).1;
      least = λ b spot.
          let c = candidate low taken e pos b spot in
          let below = is.least c.0 c.1.listed in
          let up = c.1.up in
          omega (arith, below, up);
    }

-- and there is no other
pub only_least : (low : ℕ) (taken : List Range) (e : Extent) (a : ℕ) → 0 < e.alignment → IsLeastSpot low taken e a → first_spot low taken e ≡ a
only_least low taken e a pos is =
    let first = least_spot low taken e pos in
    let up = first.least a is.free in
    let down = is.least (first_spot low taken e) first.free in
    omega (arith, up, down)

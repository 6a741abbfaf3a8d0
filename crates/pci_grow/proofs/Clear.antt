-- What is clear of all that is beside a window is what lies between its neighbours.
use Rattle.std.proofs.Common.{◌≡◌, ◌⊎◌, ℕ, ◌+◌, ◌-◌, ◌<◌, ◌≤◌, max, min, inl, inr, List, [], ◌∷◌, cond, arith, ap, sym, subst, ◌∙◌, refl, false, Option, None, Some}
use Rattle.std.specs.Bool.{nat_lt}
use Rattle.std.specs.List.{Contains, fold}
use Rattle.std.proofs.lemmas.Bool.{cases_Bool, cases_lt, ltb-true, ltb-false, lt-ltb}
use Rattle.pci_spec.specs.Decoded.{Range}
use Rattle.pci_spec.proofs.Members.{in_nil, in_head, in_tail, in_cons_cases}
use Rattle.settle_spec.specs.Reach.{clear_of}
use Rattle.pci_grow.specs.Rooms.{first_behind, last_before, IsNearestBelow, NoneBelow, Below, IsNearestAbove, NoneAbove, Above}

-- the least first address, and why: it is that of the room, or behind a range that isn't above the window
pub record IsFirstOf (w r : Range) (ts : List Range) (n : ℕ) : Type 0 where
  pub from : r.first ≤ n
  pub each : (t : Range) → Contains ts t → t.first ≤ w.last → t.last < n
  pub is_one : (n ≡ r.first) ⊎ ((t : Range) × Contains ts t × (t.first ≤ w.last) × (n ≡ t.last + 1))

pub record IsLastOf (w r : Range) (ts : List Range) (n : ℕ) : Type 0 where
  pub up : n ≤ r.last
  pub each : (t : Range) → Contains ts t → w.last < t.first → n < t.first
  pub is_one : (n ≡ r.last) ⊎ ((t : Range) × Contains ts t × (w.last < t.first) × (n + 1 ≡ t.first))

above : (w r t : Range) → w.last < t.first → clear_of w r t ≡ record { first = r.first; last = min r.last (t.first - 1) }
above w r t over = ap (λ b. cond b (record { first = r.first; last = min r.last (t.first - 1) }) (record { first = max r.first (t.last + 1); last = r.last })) (lt-ltb w.last t.first over)

below : (w r t : Range) → nat_lt w.last t.first ≡ false → clear_of w r t ≡ record { first = max r.first (t.last + 1); last = r.last }
below w r t off = ap (λ b. cond b (record { first = r.first; last = min r.last (t.first - 1) }) (record { first = max r.first (t.last + 1); last = r.last })) off

pub first_cleared : (w : Range) (ts : List Range) (r : Range) → IsFirstOf w r ts (fold (clear_of w) r ts).first
first_cleared w [] r = record { from = omega arith; each = λ t listed low. absurd (in_nil t listed); is_one = inl refl }
first_cleared w (t ∷ ts) r = elim (cases_Bool (nat_lt w.last t.first)) [
  | inl over ↦
      let gt = ltb-true w.last t.first over in
      let here = above w r t gt in
      let rest = first_cleared w ts (record { first = r.first; last = min r.last (t.first - 1) }) in
      subst (λ x. IsFirstOf w r (t ∷ ts) (fold (clear_of w) x ts).first) (sym here) (record {
        from = rest.from;
        each = λ u listed low. elim (in_cons_cases t ts u listed) [
          | inl same ↦ (let first : t.first ≡ u.first = ap (λ (x : Range). x.first) same in absurd (let no : ⊥ = omega (arith, first, gt, low) in no))
          | inr later ↦ rest.each u later low
        ];
        is_one = elim rest.is_one [
          | inl same ↦ inl same
          | inr (u, listed, low, is) ↦ inr (u, in_tail t ts u listed, low, is)
        ];
      })
  | inr off ↦
      let le = ltb-false w.last t.first off in
      let here = below w r t off in
      let rest = first_cleared w ts (record { first = max r.first (t.last + 1); last = r.last }) in
      let from = rest.from in
      subst (λ x. IsFirstOf w r (t ∷ ts) (fold (clear_of w) x ts).first) (sym here) (record {
        from = omega (arith, from);
        each = λ u listed low. elim (in_cons_cases t ts u listed) [
          | inl same ↦ (let last : t.last ≡ u.last = ap (λ (x : Range). x.last) same in omega (arith, last, from))
          | inr later ↦ rest.each u later low
        ];
        is_one = elim rest.is_one [
          | inl same ↦ elim (cases_lt r.first (t.last + 1)) [
            | inl less ↦ inr (t, in_head t ts, le, omega (arith, same, less))
            | inr more ↦ inl (omega (arith, same, more))
          ]
          | inr (u, listed, low, is) ↦ inr (u, in_tail t ts u listed, low, is)
        ];
      })
]

pub last_cleared : (w : Range) (ts : List Range) (r : Range) → IsLastOf w r ts (fold (clear_of w) r ts).last
last_cleared w [] r = record { up = omega arith; each = λ t listed over. absurd (in_nil t listed); is_one = inl refl }
last_cleared w (t ∷ ts) r = elim (cases_Bool (nat_lt w.last t.first)) [
  | inl over ↦
      let gt = ltb-true w.last t.first over in
      let here = above w r t gt in
      let rest = last_cleared w ts (record { first = r.first; last = min r.last (t.first - 1) }) in
      let up = rest.up in
      subst (λ x. IsLastOf w r (t ∷ ts) (fold (clear_of w) x ts).last) (sym here) (record {
        up = omega (arith, up);
        each = λ u listed high. elim (in_cons_cases t ts u listed) [
          | inl same ↦ (let first : t.first ≡ u.first = ap (λ (x : Range). x.first) same in omega (arith, first, up, gt))
          | inr later ↦ rest.each u later high
        ];
        is_one = elim rest.is_one [
          | inl same ↦ elim (cases_lt (t.first - 1) r.last) [
            | inl less ↦ inr (t, in_head t ts, gt, omega (arith, same, less, gt))
            | inr more ↦ inl (omega (arith, same, more))
          ]
          | inr (u, listed, high, is) ↦ inr (u, in_tail t ts u listed, high, is)
        ];
      })
  | inr off ↦
      let le = ltb-false w.last t.first off in
      let here = below w r t off in
      let rest = last_cleared w ts (record { first = max r.first (t.last + 1); last = r.last }) in
      subst (λ x. IsLastOf w r (t ∷ ts) (fold (clear_of w) x ts).last) (sym here) (record {
        up = rest.up;
        each = λ u listed high. elim (in_cons_cases t ts u listed) [
          | inl same ↦ (let first : t.first ≡ u.first = ap (λ (x : Range). x.first) same in absurd (let no : ⊥ = omega (arith, first, le, high) in no))
          | inr later ↦ rest.each u later high
        ];
        is_one = elim rest.is_one [
          | inl same ↦ inl same
          | inr (u, listed, high, is) ↦ inr (u, in_tail t ts u listed, high, is)
        ];
      })
]

-- ---- the neighbours of a window

pub first_by_nearest : (w r : Range) (ts : List Range) (o : Option Range) → IsNearestBelow w ts o → (fold (clear_of w) r ts).first ≡ first_behind r.first o
first_by_nearest w r ts None (NoneBelow over) = elim (first_cleared w ts r).is_one [
  | inl same ↦ same
  | inr (t, listed, low, is) ↦ (let high = over t listed in absurd (let no : ⊥ = omega (arith, low, high) in no))
]
first_by_nearest w r ts (Some _) (Below b listed low greatest) =
    let is = first_cleared w ts r in
    let from = is.from in
    let past = is.each b listed low in
    elim is.is_one [
      | inl same ↦ omega (arith, same, past)
      | inr (t, in_ts, under, here) ↦ (let up = greatest t in_ts under in omega (arith, here, up, past, from))
    ]

pub last_by_nearest : (w r : Range) (ts : List Range) (o : Option Range) → IsNearestAbove w ts o → (fold (clear_of w) r ts).last ≡ last_before r.last o
last_by_nearest w r ts None (NoneAbove under) = elim (last_cleared w ts r).is_one [
  | inl same ↦ same
  | inr (t, listed, high, is) ↦ (let low = under t listed in absurd (let no : ⊥ = omega (arith, low, high) in no))
]
last_by_nearest w r ts (Some _) (Above h listed high least) =
    let is = last_cleared w ts r in
    let up = is.up in
    let past = is.each h listed high in
    elim is.is_one [
      | inl same ↦ omega (arith, same, past)
      | inr (t, in_ts, over, here) ↦ (let low = least t in_ts over in omega (arith, here, low, past, up))
    ]

-- so the part of a room that is clear is told by both ends
pub cleared_is : (w r : Range) (ts : List Range) (f l : ℕ) → f ≡ (fold (clear_of w) r ts).first → l ≡ (fold (clear_of w) r ts).last → record { first = f; last = l } ≡ fold (clear_of w) r ts
cleared_is w r ts f l first last =
    ap (λ n. record { first = n; last = l }) first ∙ ap (λ n. record { first = (fold (clear_of w) r ts).first; last = n }) last

-- A window whose registers show partly one state and partly another holds no more than it should.
use Rattle.std.proofs.Common.{◌≡◌, ℕ, ◌+◌, ◌*◌, ◌/◌, ◌<◌, ◌≤◌, ◌⊎◌, inl, inr, List, true, ◌&&◌, arith, refl, sym, ◌∙◌, ap}
use Rattle.std.specs.Bool.{nat_le, nat_lt, if◌then◌else◌}
use Rattle.std.proofs.lemmas.Bool.{and_parts, and_from, cases_Bool, le-leb, leb-true, ltb-false, ltb-true}
use Rattle.std.proofs.Math.Nat.{mul-le-mul_right}
use Rattle.pci_spec.specs.Number.{IsImage}
use Rattle.pci_spec.specs.Window.{WindowKind, IoWindow, MemoryWindow, PrefetchWindow, Bounds, bounds_at, base_page, limit_page, has_window, holds, lower_pages, page_bits, page_size}
use Rattle.plan_spec.proofs.Planning.Registers.{number_below}
use Rattle.settle_spec.specs.GrowthLaws.{MoveOut}
use Rattle.settle_spec.specs.Writes.{shut_bounds}

-- a window is closed, or its pages are among another's
abbrev pub IsWithin : WindowKind → List ℕ → List ℕ → Type 0
IsWithin c a b = (limit_page c a < base_page c a) ⊎ ((base_page c b ≤ base_page c a) × (limit_page c a ≤ limit_page c b))

pub holds_within : (c : WindowKind) (a b : List ℕ) → IsWithin c a b → (probe : List ℕ) (x : ℕ) → holds c a probe x ≡ true → holds c b probe x ≡ true
holds_within c a b within probe x held =
    let k = x / page_size c in
    let outer = and_parts (has_window c probe && nat_le (base_page c a) k) (nat_le k (limit_page c a)) held in
    let inner = and_parts (has_window c probe) (nat_le (base_page c a) k) outer.0 in
    let low = leb-true (base_page c a) k inner.1 in
    let high = leb-true k (limit_page c a) outer.1 in
    elim within [
      | inl closed ↦ absurd (let no : ⊥ = omega (arith, low, high, closed) in no)
      | inr pages ↦
          let from = pages.0 in
          let to = pages.1 in
          and_from (has_window c probe && nat_le (base_page c b) k) (nat_le k (limit_page c b))
          (and_from (has_window c probe) (nat_le (base_page c b) k) inner.0 (le-leb (base_page c b) k (omega (arith, low, from)))) (le-leb k (limit_page c b) (omega (arith, high, to)))
    ]

-- the window of an image that shows the same
pub holds_same : (c : WindowKind) (a b : List ℕ) → bounds_at c a ≡ bounds_at c b → IsWithin c a b
holds_same c a b same =
    let base : base_page c a ≡ base_page c b = ap (λ (v : Bounds). v.base_upper * lower_pages c + v.base / 16) same in
    let limit : limit_page c a ≡ limit_page c b = ap (λ (v : Bounds). v.limit_upper * lower_pages c + v.limit / 16) same in
    inr (omega (arith, base), omega (arith, limit))

-- ---- pages

low_page : (c : WindowKind) (image : List ℕ) → IsImage image → (bounds_at c image).base / 16 < lower_pages c
low_page IoWindow image is = let b = is.bytes 0x1c in omega (arith, b)
low_page MemoryWindow image is = let b = number_below image 0x20 is 2 in omega (arith, b)
low_page PrefetchWindow image is = let b = number_below image 0x24 is 2 in omega (arith, b)

top_page : (c : WindowKind) (n : ℕ) → n < 16 → (page_bits c + n) / 16 + 1 ≡ lower_pages c
top_page IoWindow n small = omega (arith, small)
top_page MemoryWindow n small = omega (arith, small)
top_page PrefetchWindow n small = omega (arith, small)

many_pages : (c : WindowKind) → 1 < lower_pages c
many_pages IoWindow = omega arith
many_pages MemoryWindow = omega arith
many_pages PrefetchWindow = omega arith

least_of : (a b : ℕ) → ((if nat_lt a b then a else b) ≤ a) × ((if nat_lt a b then a else b) ≤ b)
least_of a b = elim (cases_Bool (nat_lt a b)) [
  | inl less ↦
      let e : (if nat_lt a b then a else b) ≡ a = ap (λ t. if t then a else b) less in
      let below = ltb-true a b less in
      (omega (arith, e), omega (arith, e, below))
  | inr from ↦
      let e : (if nat_lt a b then a else b) ≡ b = ap (λ t. if t then a else b) from in
      let above = ltb-false a b from in
      (omega (arith, e, above), omega (arith, e))
]

-- ---- registers of two states

-- each bound is one state's or the other's
pub record IsMixed (from to now : Bounds) : Type 0 where
  pub base : (now.base ≡ from.base) ⊎ (now.base ≡ to.base)
  pub limit : (now.limit ≡ from.limit) ⊎ (now.limit ≡ to.limit)
  pub base_upper : (now.base_upper ≡ from.base_upper) ⊎ (now.base_upper ≡ to.base_upper)
  pub limit_upper : (now.limit_upper ≡ from.limit_upper) ⊎ (now.limit_upper ≡ to.limit_upper)

one_of : {X : Type 0} (a b now v : X) → a ≡ v → b ≡ v → (now ≡ a) ⊎ (now ≡ b) → now ≡ v
one_of a b now v is_a is_b either = elim either [ inl e ↦ e ∙ is_a | inr e ↦ e ∙ is_b ]

pub mixed_same : (from to now v : Bounds) → from ≡ v → to ≡ v → IsMixed from to now → now ≡ v
mixed_same from to now v first second mixed = λ i. record {
  base = one_of from.base to.base now.base v.base (ap (λ (b : Bounds). b.base) first) (ap (λ (b : Bounds). b.base) second) mixed.base i;
  limit = one_of from.limit to.limit now.limit v.limit (ap (λ (b : Bounds). b.limit) first) (ap (λ (b : Bounds). b.limit) second) mixed.limit i;
  base_upper = one_of from.base_upper to.base_upper now.base_upper v.base_upper (ap (λ (b : Bounds). b.base_upper) first) (ap (λ (b : Bounds). b.base_upper) second) mixed.base_upper i;
  limit_upper = one_of from.limit_upper to.limit_upper now.limit_upper v.limit_upper (ap (λ (b : Bounds). b.limit_upper) first) (ap (λ (b : Bounds). b.limit_upper) second) mixed.limit_upper i;
}

-- ---- windows that grow

between_falls : (a b x : ℕ) → b ≤ a → (x ≡ a) ⊎ (x ≡ b) → (b ≤ x) × (x ≤ a)
between_falls a b x le either = elim either [
  | inl e ↦ (omega (arith, e, le), omega (arith, e))
  | inr e ↦ (omega (arith, e), omega (arith, e, le))
]

between_rises : (a b x : ℕ) → a ≤ b → (x ≡ a) ⊎ (x ≡ b) → (a ≤ x) × (x ≤ b)
between_rises a b x le either = elim either [
  | inl e ↦ (omega (arith, e), omega (arith, e, le))
  | inr e ↦ (omega (arith, e, le), omega (arith, e))
]

-- where no half of a bound moves inward, any of the registers may show the later state: the window holds what it held, and no
-- more than it will
pub out_within : (c : WindowKind) (f final now : List ℕ) → MoveOut (bounds_at c f) (bounds_at c final) → IsMixed (bounds_at c f) (bounds_at c final) (bounds_at c now) → IsWithin c f now × IsWithin c now final
out_within c f final now out mixed =
    let v = bounds_at c f in
    let w = bounds_at c final in
    let n = bounds_at c now in
    let base = between_falls v.base w.base n.base out.base mixed.base in
    let limit = between_rises v.limit w.limit n.limit out.limit mixed.limit in
    let base_upper = between_falls v.base_upper w.base_upper n.base_upper out.base_upper mixed.base_upper in
    let limit_upper = between_rises v.limit_upper w.limit_upper n.limit_upper out.limit_upper mixed.limit_upper in
    let from_final : w.base_upper * lower_pages c ≤ n.base_upper * lower_pages c = mul-le-mul_right (lower_pages c) base_upper.0 in
    let from_now : n.base_upper * lower_pages c ≤ v.base_upper * lower_pages c = mul-le-mul_right (lower_pages c) base_upper.1 in
    let to_now : v.limit_upper * lower_pages c ≤ n.limit_upper * lower_pages c = mul-le-mul_right (lower_pages c) limit_upper.0 in
    let to_final : n.limit_upper * lower_pages c ≤ w.limit_upper * lower_pages c = mul-le-mul_right (lower_pages c) limit_upper.1 in
    let base_final = base.0 in
    let base_now = base.1 in
    let limit_now = limit.0 in
    let limit_final = limit.1 in
    (inr (omega (arith, from_now, base_now), omega (arith, to_now, limit_now)), inr (omega (arith, from_final, base_final), omega (arith, to_final, limit_final)))

pub holds_out : (c : WindowKind) (f final : List ℕ) → MoveOut (bounds_at c f) (bounds_at c final) → IsWithin c f final
holds_out c f final out = (out_within c f final final out (record { base = inr refl; limit = inr refl; base_upper = inr refl; limit_upper = inr refl })).0

-- what shows the same has moved nowhere
pub same_out : (v w : Bounds) → w ≡ v → MoveOut v w
same_out v w e =
    let base : w.base ≡ v.base = ap (λ (b : Bounds). b.base) e in
    let limit : w.limit ≡ v.limit = ap (λ (b : Bounds). b.limit) e in
    let base_upper : w.base_upper ≡ v.base_upper = ap (λ (b : Bounds). b.base_upper) e in
    let limit_upper : w.limit_upper ≡ v.limit_upper = ap (λ (b : Bounds). b.limit_upper) e in
    record {
      base = omega (arith, base);
      limit = omega (arith, limit);
      base_upper = omega (arith, base_upper);
      limit_upper = omega (arith, limit_upper);
    }

-- ---- windows that are closed

-- closing takes pages away only
pub closing_within : (c : WindowKind) (f closed now : List ℕ) → IsImage f → (n : ℕ) → n < 16 → bounds_at c closed ≡ shut_bounds c n (bounds_at c f) → IsMixed (bounds_at c f) (bounds_at c closed) (bounds_at c now) → IsWithin c now f
closing_within c f closed now is n small shut mixed =
    let v = bounds_at c f in
    let w = bounds_at c now in
    let top = top_page c n small in
    let low = low_page c f is in
    let least = (least_of v.base_upper v.limit_upper).1 in
    let base : v.base / 16 ≤ w.base / 16 = elim mixed.base [
      | inl e ↦ omega (arith, e)
      | inr e ↦ (let same = e ∙ ap (λ (b : Bounds). b.base) shut in omega (arith, same, top, low))
    ] in
    let limit : w.limit / 16 ≤ v.limit / 16 = elim mixed.limit [
      | inl e ↦ omega (arith, e)
      | inr e ↦ (let same = e ∙ ap (λ (b : Bounds). b.limit) shut in omega (arith, same, small))
    ] in
    let base_upper : w.base_upper ≡ v.base_upper = elim mixed.base_upper [
      | inl e ↦ e
      | inr e ↦ e ∙ ap (λ (b : Bounds). b.base_upper) shut
    ] in
    let limit_upper : w.limit_upper ≤ v.limit_upper = elim mixed.limit_upper [
      | inl e ↦ omega (arith, e)
      | inr e ↦ (let same = e ∙ ap (λ (b : Bounds). b.limit_upper) shut in omega (arith, same, least))
    ] in
    let bases : v.base_upper * lower_pages c ≡ w.base_upper * lower_pages c = ap (λ m. m * lower_pages c) (sym base_upper) in
    let limits : w.limit_upper * lower_pages c ≤ v.limit_upper * lower_pages c = mul-le-mul_right (lower_pages c) limit_upper in
    inr (omega (arith, bases, base), omega (arith, limits, limit))

-- ---- registers that are set: the upper halves first, in an order that keeps the window closed, or within the new one

pub data AreUppers (from to now : Bounds) : Type 0 where
  Neither : now.base_upper ≡ from.base_upper → now.limit_upper ≡ from.limit_upper → AreUppers from to now
  Both : now.base_upper ≡ to.base_upper → now.limit_upper ≡ to.limit_upper → AreUppers from to now
  BaseFirst : now.base_upper ≡ to.base_upper → now.limit_upper ≡ from.limit_upper → from.limit_upper ≤ to.base_upper → AreUppers from to now
  LimitFirst : now.base_upper ≡ from.base_upper → now.limit_upper ≡ to.limit_upper → to.base_upper < from.limit_upper → AreUppers from to now

pub data IsSet (from to now : Bounds) : Type 0 where
  Waiting : now.base ≡ from.base → now.limit ≡ from.limit → AreUppers from to now → IsSet from to now
  Done : now ≡ to → IsSet from to now

upper_mixed : (from to now : Bounds) → now.base ≡ from.base → now.limit ≡ from.limit → AreUppers from to now → IsMixed from to now
upper_mixed from to now base limit (Neither a b) = record { base = inl base; limit = inl limit; base_upper = inl a; limit_upper = inl b }
upper_mixed from to now base limit (Both a b) = record { base = inl base; limit = inl limit; base_upper = inr a; limit_upper = inr b }
upper_mixed from to now base limit (BaseFirst a b le) = record { base = inl base; limit = inl limit; base_upper = inr a; limit_upper = inl b }
upper_mixed from to now base limit (LimitFirst a b lt) = record { base = inl base; limit = inl limit; base_upper = inl a; limit_upper = inr b }

pub set_mixed : (from to now : Bounds) → IsSet from to now → IsMixed from to now
set_mixed from to now (Waiting base limit uppers) = upper_mixed from to now base limit uppers
set_mixed from to now (Done is) = record {
  base = inr (ap (λ (b : Bounds). b.base) is);
  limit = inr (ap (λ (b : Bounds). b.limit) is);
  base_upper = inr (ap (λ (b : Bounds). b.base_upper) is);
  limit_upper = inr (ap (λ (b : Bounds). b.limit_upper) is);
}

module _ (c : WindowKind) (f closed final now : List ℕ) (is : IsImage final) (n : ℕ) (small : n < 16) (shut : bounds_at c closed ≡ shut_bounds c n (bounds_at c f)) where
  abbrev from : Bounds
  from = bounds_at c closed

  abbrev to : Bounds
  to = bounds_at c final

  abbrev shown : Bounds
  shown = bounds_at c now

  -- a closed window has an upper limit no greater than its upper base
  uppers_fall : from.limit_upper ≤ from.base_upper
  uppers_fall =
      let limit = ap (λ (b : Bounds). b.limit_upper) shut in
      let base = ap (λ (b : Bounds). b.base_upper) shut in
      let least = (least_of (bounds_at c f).base_upper (bounds_at c f).limit_upper).0 in
      omega (arith, limit, base, least)

  -- a lower limit of page 0 below a lower base of the last page
  none_held : shown.base ≡ from.base → shown.limit ≡ from.limit → shown.limit_upper ≤ shown.base_upper → limit_page c now < base_page c now
  none_held base limit fall =
      let top = top_page c n small in
      let many = many_pages c in
      let at = base ∙ ap (λ (b : Bounds). b.base) shut in
      let end = limit ∙ ap (λ (b : Bounds). b.limit) shut in
      let less : shown.limit_upper * lower_pages c ≤ shown.base_upper * lower_pages c = mul-le-mul_right (lower_pages c) fall in
      omega (arith, at, end, top, many, small, less)

  pages_within : shown.base ≡ from.base → shown.limit ≡ from.limit → to.base_upper ≤ shown.base_upper → shown.limit_upper ≤ to.limit_upper → IsWithin c now final
  pages_within base limit up down =
      let top = top_page c n small in
      let low = low_page c final is in
      let at = base ∙ ap (λ (b : Bounds). b.base) shut in
      let end = limit ∙ ap (λ (b : Bounds). b.limit) shut in
      let bases : to.base_upper * lower_pages c ≤ shown.base_upper * lower_pages c = mul-le-mul_right (lower_pages c) up in
      let limits : shown.limit_upper * lower_pages c ≤ to.limit_upper * lower_pages c = mul-le-mul_right (lower_pages c) down in
      inr (omega (arith, at, top, low, bases), omega (arith, end, small, limits))

  waiting_within : shown.base ≡ from.base → shown.limit ≡ from.limit → AreUppers from to shown → IsWithin c now final
  waiting_within base limit (Neither a b) = let fall = uppers_fall in inl (none_held base limit (omega (arith, a, b, fall)))
  waiting_within base limit (Both a b) = pages_within base limit (omega (arith, a)) (omega (arith, b))
  waiting_within base limit (BaseFirst a b le) = inl (none_held base limit (omega (arith, a, b, le)))
  waiting_within base limit (LimitFirst a b lt) = let fall = uppers_fall in pages_within base limit (omega (arith, a, fall, lt)) (omega (arith, b))

  -- setting never gives pages that the new window doesn't have
  pub setting_within : IsSet from to shown → IsWithin c now final
  setting_within (Waiting base limit uppers) = waiting_within base limit uppers
  setting_within (Done same) = holds_same c now final same

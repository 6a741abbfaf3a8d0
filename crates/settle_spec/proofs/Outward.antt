-- A window that grows moves no half of a bound inward, holds all that it grows for, and stays within its reach.
use Rattle.std.proofs.Common.{◌≡◌, ℕ, suc, ◌+◌, ◌-◌, ◌*◌, ◌/◌, ◌%◌, ◌^◌, ◌<◌, ◌≤◌, min, max, inl, inr, List, [], ◌∷◌, map, arith, ap, true}
use Rattle.std.specs.Bool.{nat_le}
use Rattle.std.specs.List.{Contains, fold}
use Rattle.std.proofs.lemmas.Bool.{cases_lt, and_parts, and_from, leb-true, le-leb}
use Rattle.std.proofs.lemmas.Nat.{div-add-mod', mod_below}
use Rattle.std.proofs.Math.Nat.{mul-le-mul_right}
use Rattle.pci_spec.specs.Window.{WindowKind, IoWindow, MemoryWindow, PrefetchWindow, bounds_for, page_size}
use Rattle.pci_spec.specs.Decoded.{Range}
use Rattle.pci_spec.proofs.Members.{in_nil, in_head, in_tail, in_cons_cases}
use Rattle.plan_spec.specs.Plan.{raised_to}
use Rattle.plan_spec.proofs.Planning.Placement.{multiple_of_mod}
use Rattle.plan_spec.proofs.Planning.Room.{raised}
use Rattle.settle_spec.specs.Parts.{lies_within}
use Rattle.settle_spec.specs.Reach.{half_size, raised_last, lowered_first}
use Rattle.settle_spec.specs.Growth.{grown_to}
use Rattle.settle_spec.specs.GrowthLaws.{MoveOut, CanReach}
use Rattle.settle_spec.proofs.Grown.{fold_min, fold_max, some_page, no_higher, no_lower}

-- ---- ends of other addresses

min_to : (a : ℕ) (others : List Range) (r : Range) → Contains others r → fold min a (map (λ (r : Range). r.first) others) ≤ r.first
min_to a [] r listed = absurd (in_nil r listed)
min_to a (t ∷ others) r listed = elim (in_cons_cases t others r listed) [
  | inl here ↦
      let rest : fold min (min a t.first) (map (λ (r : Range). r.first) others) ≤ min a t.first = fold_min (min a t.first) (map (λ (r : Range). r.first) others) in
      let same : t.first ≡ r.first = ap (λ (x : Range). x.first) here in
      omega (arith, rest, same)
  | inr later ↦ min_to (min a t.first) others r later
]

max_to : (a : ℕ) (others : List Range) (r : Range) → Contains others r → r.last ≤ fold max a (map (λ (r : Range). r.last) others)
max_to a [] r listed = absurd (in_nil r listed)
max_to a (t ∷ others) r listed = elim (in_cons_cases t others r listed) [
  | inl here ↦
      let rest : max a t.last ≤ fold max (max a t.last) (map (λ (r : Range). r.last) others) = fold_max (max a t.last) (map (λ (r : Range). r.last) others) in
      let same : t.last ≡ r.last = ap (λ (x : Range). x.last) here in
      omega (arith, rest, same)
  | inr later ↦ max_to (max a t.last) others r later
]

min_from : (low a : ℕ) (others : List Range) → low ≤ a → ((t : Range) → Contains others t → low ≤ t.first) → low ≤ fold min a (map (λ (r : Range). r.first) others)
min_from low a [] start each = start
min_from low a (t ∷ others) start each =
    let here = each t (in_head t others) in
    min_from low (min a t.first) others (omega (arith, start, here)) (λ u listed. each u (in_tail t others u listed))

max_from : (high a : ℕ) (others : List Range) → a ≤ high → ((t : Range) → Contains others t → t.last ≤ high) → fold max a (map (λ (r : Range). r.last) others) ≤ high
max_from high a [] start each = start
max_from high a (t ∷ others) start each =
    let here = each t (in_head t others) in
    max_from high (max a t.last) others (omega (arith, start, here)) (λ u listed. each u (in_tail t others u listed))

-- ---- of a window and what it grows for

module _ (c : WindowKind) (w : Range) (others : List Range) where
  abbrev page : ℕ
  page = page_size c

  abbrev low : ℕ
  low = fold min w.first (map (λ (r : Range). r.first) others)

  abbrev high : ℕ
  high = fold max w.last (map (λ (r : Range). r.last) others)

  -- before halves are looked at
  abbrev first_page : ℕ
  first_page = low / page * page

  abbrev last_page : ℕ
  last_page = raised_to page (high + 1) - 1

  first_under : first_page ≤ low
  first_under = let split = div-add-mod' low page in omega (arith, split)

  last_over : high ≤ last_page
  last_over = let up = (raised page (high + 1) (some_page c)).from in omega (arith, up)

  pub grown_holds_each : (r : Range) → Contains others r → lies_within r (grown_to c w others) ≡ true
  grown_holds_each r listed =
      let from = min_to w.first others r listed in
      let to = max_to w.last others r listed in
      let first = no_higher c w.first first_page in
      let last = no_lower c w.last last_page in
      let under = first_under in
      let over = last_over in
      and_from (nat_le (grown_to c w others).first r.first) (nat_le r.last (grown_to c w others).last)
      (le-leb (grown_to c w others).first r.first (omega (arith, first, under, from)))
      (le-leb r.last (grown_to c w others).last (omega (arith, last, over, to)))

-- ---- halves

io_first : (w f : ℕ) → f ≤ w → (lowered_first IoWindow w f / 2 ^ 12 % 16 ≤ w / 2 ^ 12 % 16) × (lowered_first IoWindow w f / 2 ^ 16 ≤ w / 2 ^ 16)
io_first w f le = (omega (arith, le), omega (arith, le))

io_last : (w f : ℕ) → w ≤ f → (w / 2 ^ 12 % 16 ≤ raised_last IoWindow w f / 2 ^ 12 % 16) × (w / 2 ^ 16 ≤ raised_last IoWindow w f / 2 ^ 16)
io_last w f le = (omega (arith, le), omega (arith, le))

prefetch_first : (w f : ℕ) → f ≤ w → (lowered_first PrefetchWindow w f / 2 ^ 20 % 4096 ≤ w / 2 ^ 20 % 4096) × (lowered_first PrefetchWindow w f / 2 ^ 32 ≤ w / 2 ^ 32)
prefetch_first w f le = (omega (arith, le), omega (arith, le))

prefetch_last : (w f : ℕ) → w ≤ f → (w / 2 ^ 20 % 4096 ≤ raised_last PrefetchWindow w f / 2 ^ 20 % 4096) × (w / 2 ^ 32 ≤ raised_last PrefetchWindow w f / 2 ^ 32)
prefetch_last w f le = (omega (arith, le), omega (arith, le))

bounds_out : (c : WindowKind) (n : ℕ) (w : Range) (f l : ℕ) → f ≤ w.first → w.last ≤ l → MoveOut (bounds_for c n w.first w.last) (bounds_for c n (lowered_first c w.first f) (raised_last c w.last l))
bounds_out IoWindow n w f l from to =
    let first = io_first w.first f from in
    let last = io_last w.last l to in
    let a = first.0 in
    let b = last.0 in
    record { base = omega (arith, a); limit = omega (arith, b); base_upper = first.1; limit_upper = last.1 }
bounds_out MemoryWindow n w f l from to =
    let first = no_higher MemoryWindow w.first f in
    let last = no_lower MemoryWindow w.last l in
    record { base = omega (arith, first, from); limit = omega (arith, last, to); base_upper = omega arith; limit_upper = omega arith }
bounds_out PrefetchWindow n w f l from to =
    let first = prefetch_first w.first f from in
    let last = prefetch_last w.last l to in
    let a = first.0 in
    let b = last.0 in
    record { base = omega (arith, a); limit = omega (arith, b); base_upper = first.1; limit_upper = last.1 }

pub halves_move_out : (c : WindowKind) (n : ℕ) (w : Range) (others : List Range) → MoveOut (bounds_for c n w.first w.last) (bounds_for c n (grown_to c w others).first (grown_to c w others).last)
halves_move_out c n w others =
    let under = first_under c w others in
    let over = last_over c w others in
    let from = fold_min w.first (map (λ (r : Range). r.first) others) in
    let to = fold_max w.last (map (λ (r : Range). r.last) others) in
    bounds_out c n w (first_page c w others) (last_page c w others) (omega (arith, under, from)) (omega (arith, over, to))

-- ---- within a reach

pub some_half : (c : WindowKind) → 0 < half_size c
some_half IoWindow = omega arith
some_half MemoryWindow = omega arith
some_half PrefetchWindow = omega arith

-- the quotients of two numbers in order
quotients : (h a b : ℕ) → 0 < h → a ≤ b → a / h ≤ b / h
quotients h a b pos le = elim (cases_lt (b / h) (a / h)) [
  | inr fine ↦ fine
  | inl more ↦
      let step : suc (b / h) * h ≤ a / h * h = mul-le-mul_right h more in
      let from = div-add-mod' a h in
      let to = div-add-mod' b h in
      let small = mod_below b h pos in
      absurd (let no : ⊥ = omega (arith, step, from, to, small, le) in no)
]

raise_in : (h old last end : ℕ) → 0 < h → last ≤ end → old % h ≤ end % h → last / h * h + max (old % h) (last % h) ≤ end
raise_in h old last end pos le half =
    let from = div-add-mod' last h in
    let to = div-add-mod' end h in
    let small = mod_below last h pos in
    let small_old = mod_below old h pos in
    let up = quotients h last end pos le in
    elim (cases_lt (last / h) (end / h)) [
      | inl less ↦ (let step : suc (last / h) * h ≤ end / h * h = mul-le-mul_right h less in omega (arith, step, to, small, small_old))
      | inr most ↦
          let is : last / h ≡ end / h = omega (arith, up, most) in
          let same : last / h * h ≡ end / h * h = ap (λ k. k * h) is in
          omega (arith, same, from, to, le, half)
    ]

lower_in : (h old first end : ℕ) → 0 < h → end ≤ first → end % h ≤ old % h → end ≤ first / h * h + min (old % h) (first % h)
lower_in h old first end pos le half =
    let from = div-add-mod' end h in
    let to = div-add-mod' first h in
    let small = mod_below end h pos in
    let up = quotients h end first pos le in
    elim (cases_lt (end / h) (first / h)) [
      | inl less ↦ (let step : suc (end / h) * h ≤ first / h * h = mul-le-mul_right h less in omega (arith, step, from, small))
      | inr most ↦
          let is : end / h ≡ first / h = omega (arith, up, most) in
          let same : end / h * h ≡ first / h * h = ap (λ k. k * h) is in
          omega (arith, same, from, to, le, half)
    ]

-- a multiple of a page isn't above the page of what it isn't above
pub page_from : (page a low : ℕ) → 0 < page → a % page ≡ 0 → a ≤ low → a ≤ low / page * page
page_from page a low pos whole le =
    let k = multiple_of_mod a page whole in
    let is = k.1 in
    let split = div-add-mod' low page in
    let small = mod_below low page pos in
    elim (cases_lt (low / page) k.0) [
      | inl less ↦ absurd (let step : suc (low / page) * page ≤ k.0 * page = mul-le-mul_right page less in let no : ⊥ = omega (arith, step, is, split, small, le) in no)
      | inr most ↦ (let step : k.0 * page ≤ low / page * page = mul-le-mul_right page most in omega (arith, step, is))
    ]

pub grown_is_in_reach : (c : WindowKind) (w r : Range) (others : List Range) → CanReach c w r → ((t : Range) → Contains others t → lies_within t r ≡ true) → lies_within (grown_to c w others) r ≡ true
grown_is_in_reach c w r others can all =
    let h = half_size c in
    let from : r.first ≤ low c w others = min_from r.first w.first others can.first (λ t listed. leb-true r.first t.first (and_parts (nat_le r.first t.first) (nat_le t.last r.last) (all t listed)).0) in
    let to : high c w others ≤ r.last = max_from r.last w.last others can.last (λ t listed. leb-true t.last r.last (and_parts (nat_le r.first t.first) (nat_le t.last r.last) (all t listed)).1) in
    let first = page_from (page_size c) r.first (low c w others) (some_page c) can.first_page from in
    let up = (raised (page_size c) (high c w others + 1) (some_page c)).least (r.last + 1) can.last_page (omega (arith, to)) in
    let last : last_page c w others ≤ r.last = omega (arith, up) in
    and_from (nat_le r.first (grown_to c w others).first) (nat_le (grown_to c w others).last r.last)
    (le-leb r.first (grown_to c w others).first (lower_in h w.first (first_page c w others) r.first (some_half c) first can.first_half))
    (le-leb (grown_to c w others).last r.last (raise_in h w.last (last_page c w others) r.last (some_half c) last can.last_half))

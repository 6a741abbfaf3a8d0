-- Powers of two in falling order, placed one after another.
use Rattle.std.proofs.Common.{◌≡◌, ℕ, zero, suc, ◌+◌, ◌-◌, ◌*◌, ◌/◌, ◌%◌, ◌^◌, ◌<◌, ◌≤◌, ◌↔◌, inl, inr, List, [], ◌∷◌, ◌++◌, refl, true, false, cond, arith, sym, ◌∙◌, ap, subst, length, get_or}
use Rattle.std.specs.List.{sum}
use Rattle.std.specs.Bool.{nat_le}
use Rattle.std.proofs.lemmas.Bool.{cases_lt, le-leb, lt-leb}
use Rattle.std.proofs.lemmas.Nat.{pow-add, pow_pos, pow_below, div-add-mod', mod_below}
use Rattle.std.proofs.Math.Nat.{mul-mod_left, mul_assoc, pow-succ', pow-le-pow_right, mul-le-mul_right}
use Rattle.std.proofs.lemmas.List.Sums.{sum_by-cons, get_or-le-sum_by}
use Rattle.pci_spec.specs.Window.{WindowKind, IoWindow, MemoryWindow, PrefetchWindow, page_size}
use Rattle.plan_spec.specs.Planning.Placing.{IsPower, IsFalling, starts, IsPlacedFrom, IsLeastPower, IsHeld}
use Rattle.plan_spec.specs.Plan.{doubled_to, window_size}

-- ---- multiples

abbrev pub IsMultiple : ℕ → ℕ → Type 0
IsMultiple n y = (q : ℕ) × (n ≡ q * y)

pub mod_of_multiple : (n y : ℕ) → IsMultiple n y → n % y ≡ 0
mod_of_multiple n y (q, e) = ap (λ m. m % y) e ∙ mul-mod_left q y

pub multiple_of_mod : (n y : ℕ) → n % y ≡ 0 → IsMultiple n y
multiple_of_mod n y e = (n / y, let s = div-add-mod' n y in omega (arith, s, e))

pub multiple_trans : (a b c : ℕ) → IsMultiple a b → IsMultiple b c → IsMultiple a c
multiple_trans a b c (q, e) (r, f) = (q * r, e ∙ ap (λ x. q * x) f ∙ sym (mul_assoc q r c))

pub multiple_add : (a b c : ℕ) → IsMultiple a c → IsMultiple b c → IsMultiple (a + b) c
multiple_add a b c (q, e) (r, f) = (q + r, omega (arith, e, f))

-- a power of two is a multiple of each that isn't above it
pub power_multiple : (x y : ℕ) → IsPower x → IsPower y → y ≤ x → IsMultiple x y
power_multiple x y (i, ex) (j, ey) le = elim (cases_lt i j) [
  | inl less ↦ absurd (let up = pow_below i j less in let impossible : ⊥ = omega (arith, up, ex, ey, le) in impossible)
  | inr ge ↦
      let e : i ≡ (i - j) + j = omega (arith, ge) in
      (2 ^ (i - j), ex ∙ ap (λ k. 2 ^ k) e ∙ pow-add 2 (i - j) j ∙ ap (λ z. 2 ^ (i - j) * z) (sym ey))
]

pub power_pos : (x : ℕ) → IsPower x → 0 < x
power_pos x (i, e) = let p = pow_pos i in omega (arith, p, e)

-- ---- lists

pub falling_rest : (x : ℕ) (xs : List ℕ) → IsFalling (x ∷ xs) → IsFalling xs
falling_rest x xs h = record {
  powers = λ k l. h.powers (suc k) (omega (arith, l));
  falling = λ j k b l. h.falling (suc j) (suc k) (omega (arith, b)) (omega (arith, l));
}

length-starts : (start : ℕ) (sizes : List ℕ) → length (starts start sizes) ≡ length sizes
length-starts start [] = refl
length-starts start (x ∷ xs) = ap suc (length-starts (start + x) xs)

starts_low : (start : ℕ) (sizes : List ℕ) (k : ℕ) → k < length sizes → start ≤ get_or (starts start sizes) k 0
starts_low start [] k l = absurd (let impossible : ⊥ = omega (arith, l) in impossible)
starts_low start (x ∷ xs) zero l = omega arith
starts_low start (x ∷ xs) (suc k) l = let r = starts_low (start + x) xs k (omega (arith, l)) in omega (arith, r)

pub sum_cons : (x : ℕ) (xs : List ℕ) → sum (x ∷ xs) ≡ x + sum xs
sum_cons x xs = sum_by-cons (λ n. n) x xs

starts_high : (start : ℕ) (sizes : List ℕ) (k : ℕ) → k < length sizes → get_or (starts start sizes) k 0 + get_or sizes k 0 ≤ start + sum sizes
starts_high start [] k l = absurd (let impossible : ⊥ = omega (arith, l) in impossible)
starts_high start (x ∷ xs) zero l = let e = sum_cons x xs in omega (arith, e)
starts_high start (x ∷ xs) (suc k) l = let e = sum_cons x xs in let r = starts_high (start + x) xs k (omega (arith, l)) in omega (arith, e, r)

starts_last : (start : ℕ) (sizes : List ℕ) (k : ℕ) → k + 1 ≡ length sizes → get_or (starts start sizes) k 0 + get_or sizes k 0 ≡ start + sum sizes
starts_last start [] k e = absurd (let impossible : ⊥ = omega (arith, e) in impossible)
starts_last start (x ∷ []) zero e = omega arith
starts_last start (x ∷ (y ∷ ys)) zero e = absurd (let impossible : ⊥ = omega (arith, e) in impossible)
starts_last start (x ∷ xs) (suc k) l = let e = sum_cons x xs in let r = starts_last (start + x) xs k (omega (arith, l)) in omega (arith, e, r)

starts_apart : (start : ℕ) (sizes : List ℕ) (j k : ℕ) → j < k → k < length sizes → get_or (starts start sizes) j 0 + get_or sizes j 0 ≤ get_or (starts start sizes) k 0
starts_apart start [] j k b l = absurd (let impossible : ⊥ = omega (arith, l) in impossible)
starts_apart start (x ∷ xs) j zero b l = absurd (let impossible : ⊥ = omega (arith, b) in impossible)
starts_apart start (x ∷ xs) zero (suc k) b l = starts_low (start + x) xs k (omega (arith, l))
starts_apart start (x ∷ xs) (suc j) (suc k) b l = starts_apart (start + x) xs j k (omega (arith, b)) (omega (arith, l))

starts_aligned : (start : ℕ) (sizes : List ℕ) → IsFalling sizes → (0 < length sizes → IsMultiple start (get_or sizes 0 0))
    → (k : ℕ) → k < length sizes → IsMultiple (get_or (starts start sizes) k 0) (get_or sizes k 0)
starts_aligned start [] h m k l = absurd (let impossible : ⊥ = omega (arith, l) in impossible)
starts_aligned start (x ∷ xs) h m zero l = m (omega (arith, l))
starts_aligned start (x ∷ xs) h m (suc k) l =
    starts_aligned (start + x) xs (falling_rest x xs h)
    (λ some.
    let second = get_or xs 0 0 in
    let divides = power_multiple x second (h.powers 0 (omega (arith, some))) (h.powers 1 (omega (arith, some))) (h.falling 0 1 (omega arith) (omega (arith, some))) in
    multiple_add start x second (multiple_trans start x second (m (omega (arith, some))) divides) divides)
    k (omega (arith, l))

-- largest first keeps alignment
pub placed : (start : ℕ) (sizes : List ℕ) → IsFalling sizes → (0 < length sizes → start % get_or sizes 0 0 ≡ 0) → IsPlacedFrom start sizes (starts start sizes)
placed start sizes h m = record {
  all = length-starts start sizes;
  aligned = λ k l. mod_of_multiple (get_or (starts start sizes) k 0) (get_or sizes k 0) (starts_aligned start sizes h (λ some. multiple_of_mod start (get_or sizes 0 0) (m some)) k l);
  apart = starts_apart start sizes;
  low = starts_low start sizes;
  high = starts_high start sizes;
  last = starts_last start sizes;
}

-- ---- one more at the end

pub starts_push : (start : ℕ) (xs : List ℕ) (x : ℕ) → starts start (xs ++ x ∷ []) ≡ starts start xs ++ (start + sum xs) ∷ []
starts_push start [] x = let e : start ≡ start + 0 = omega arith in ap (λ s. s ∷ []) e
starts_push start (y ∷ ys) x =
    let e : start + y + sum ys ≡ start + sum (y ∷ ys) = let c = sum_cons y ys in omega (arith, c) in
    ap (λ zs. start ∷ zs) (starts_push (start + y) ys x ∙ ap (λ s. starts (start + y) ys ++ s ∷ []) e)

-- ---- the size of a window

power_twice : (size : ℕ) → IsPower size → IsPower (2 * size)
power_twice size (k, e) = (suc k, ap (λ n. 2 * n) e ∙ sym (pow-succ' 2 k))

-- the next power of two
next_power : (x p : ℕ) → IsPower x → IsPower p → x < p → 2 * x ≤ p
next_power x p (i, ex) (j, ep) less = elim (cases_lt i j) [
  | inl below ↦
      let q = power_multiple p (2 ^ suc i) (j, ep) (suc i, refl) (let up : 2 ^ suc i ≤ 2 ^ j = pow-le-pow_right (omega arith) (omega (arith, below)) in omega (arith, up, ep)) in
      let up : 2 ^ suc i ≤ 2 ^ j = pow-le-pow_right (omega arith) (omega (arith, below)) in
      let s = pow-succ' 2 i in
      omega (arith, up, ep, s, ex)
  | inr above ↦
      let up : 2 ^ j ≤ 2 ^ i = pow-le-pow_right (omega arith) above in
      absurd (let impossible : ⊥ = omega (arith, up, ex, ep, less) in impossible)
]

doubled_enough : (n size : ℕ) → nat_le n size ≡ true → (times : ℕ) → doubled_to n (suc times) size ≡ size
unfolding doubled_to
doubled_enough n size e times = ap (λ b. cond b size (doubled_to n times (2 * size))) e

doubled_more : (n size : ℕ) → nat_le n size ≡ false → (times : ℕ) → doubled_to n (suc times) size ≡ doubled_to n times (2 * size)
unfolding doubled_to
doubled_more n size e times = ap (λ b. cond b size (doubled_to n times (2 * size))) e

pub doubled_none : (n size : ℕ) → doubled_to n 0 size ≡ size
unfolding doubled_to
doubled_none n size = refl

pub doubled_same : (n times size : ℕ) → n ≤ size → doubled_to n times size ≡ size
doubled_same n zero size h = doubled_none n size
doubled_same n (suc times) size h = doubled_enough n size (le-leb n size h) times

pub doubled_next : (n times size : ℕ) → size < n → doubled_to n (suc times) size ≡ doubled_to n times (2 * size)
doubled_next n times size h = doubled_more n size (lt-leb n size h) times

pub doubled : (n times size : ℕ) → IsPower size → n ≤ size * 2 ^ times → IsLeastPower n size (doubled_to n times size)
doubled n zero size power h = let P : ℕ → Type 0 = λ r. IsLeastPower n size r in subst P (sym (doubled_none n size)) record { power = power; enough = omega (arith, h); steps = omega arith; least = λ p is enough steps. steps }
doubled n (suc times) size power h = elim (cases_lt size n) [
  | inr fits ↦
      let P : ℕ → Type 0 = λ r. IsLeastPower n size r in
      subst P (sym (doubled_same n (suc times) size fits)) record { power = power; enough = fits; steps = omega arith; least = λ p is enough steps. steps }
  | inl short ↦
      let more = doubled n times (2 * size) (power_twice size power) (let s = ap (λ z. size * z) (pow-succ' 2 times) in omega (arith, h, s)) in
      let P : ℕ → Type 0 = λ r. IsLeastPower n size r in
      subst P (sym (doubled_next n times size short)) record {
        power = more.power;
        enough = more.enough;
        steps = let s = more.steps in omega (arith, s);
        least = λ p is enough steps. more.least p is enough (next_power size p power is (omega (arith, short, enough)));
      }
]

-- ---- the window holds what is behind it

quotient_from : (a step p : ℕ) → 0 < step → p ≤ a / step → p * step ≤ a
quotient_from a step p pos h =
    let s = div-add-mod' a step in
    let m = mul-le-mul_right step h in
    omega (arith, s, m)

quotient_below : (a step p : ℕ) → 0 < step → a < p * step → a / step < p
quotient_below a step p pos h = elim (cases_lt (a / step) p) [
  | inl less ↦ less
  | inr more ↦ absurd (let up = quotient_from a step p pos more in let impossible : ⊥ = omega (arith, up, h) in impossible)
]

below_next : (a step p : ℕ) → 0 < step → a / step < p → a < p * step
below_next a step p pos h =
    let s = div-add-mod' a step in
    let m : suc (a / step) * step ≤ p * step = mul-le-mul_right step h in
    let r = mod_below a step pos in
    omega (arith, s, m, r)

quotient_at : (a step p : ℕ) → 0 < step → p * step ≤ a → p ≤ a / step
quotient_at a step p pos h = elim (cases_lt (a / step) p) [
  | inl less ↦ absurd (let up = below_next a step p pos less in let impossible : ⊥ = omega (arith, up, h) in impossible)
  | inr more ↦ more
]

-- whole pages from p to p + q - 1
pages_exact : (step p q a : ℕ) → 0 < step → 0 < q
    → ((p * step / step ≤ a / step) × (a / step ≤ (p * step + (q * step - 1)) / step)) ↔ ((p * step ≤ a) × (a ≤ p * step + (q * step - 1)))
pages_exact step p q a pos some =
    let first : p * step / step ≡ p = (let s = quotient_at (p * step) step p pos (omega arith) in let t = quotient_below (p * step) step (suc p) pos (omega (arith, pos)) in omega (arith, s, t)) in
    let one : 1 * step ≤ q * step = mul-le-mul_right step some in
    let last_low = quotient_at (p * step + (q * step - 1)) step (p + q - 1) pos
    (let e : (p + q - 1) * step + step ≡ p * step + q * step = (let m : p + q - 1 + 1 ≡ p + q = omega (arith, some) in let x = ap (λ z. z * step) m in omega (arith, x)) in omega (arith, e, pos, one)) in
    let last_high = quotient_below (p * step + (q * step - 1)) step (p + q) pos (omega (arith, pos, one)) in (
      λ h.
          let low = quotient_from a step p pos (let l = h.0 in omega (arith, l, first)) in
          let high = below_next a step (p + q) pos (let u = h.1 in omega (arith, u, last_high)) in
          (low, omega (arith, high, one, pos)),
      λ h.
          let low = quotient_at a step p pos h.0 in
          let high = quotient_below a step (p + q) pos (let u = h.1 in omega (arith, u, one, pos)) in
          (omega (arith, low, first), omega (arith, high, last_low)),
    )

pub held : (step need window base : ℕ) (sizes : List ℕ) → IsPower step → IsLeastPower need step window → IsFalling sizes → sum sizes ≤ need → base % window ≡ 0
    → IsHeld step window base sizes (starts base sizes)
held step need window base sizes power size falling fits aligned =
    let aligned_to_window = multiple_of_mod base window aligned in
    let places = placed base sizes falling (λ some.
    let head = get_or sizes 0 0 in
    let below = get_or-le-sum_by (λ n. n) sizes 0 0 some in
    let e = size.enough in
    mod_of_multiple base head (multiple_trans base window head aligned_to_window (power_multiple window head size.power (falling.powers 0 some) (omega (arith, below, fits, e))))) in
    let pages = power_multiple window step size.power power size.steps in
    let front = multiple_trans base window step aligned_to_window pages in
    let pos = power_pos step power in
    let wide = power_pos window size.power in
    let some : 0 < pages.0 = elim (cases_lt 0 pages.0) [
      | inl l ↦ l
      | inr z ↦ absurd (let e = pages.1 in let m : pages.0 * step ≤ 0 * step = mul-le-mul_right step z in let impossible : ⊥ = omega (arith, e, m, wide) in impossible)
    ] in
    record {
      placed = places;
      within = λ k l. (places.low k l, let h = places.high k l in let e = size.enough in omega (arith, h, e, fits));
      pages = λ a.
          let P : ℕ → ℕ → Type 0 = λ b w. ((b / step ≤ a / step) × (a / step ≤ (b + (w - 1)) / step)) ↔ ((b ≤ a) × (a ≤ b + (w - 1))) in
          subst (λ b. P b window) (sym front.1) (subst (λ w. P (front.0 * step) w) (sym pages.1) (pages_exact step front.0 pages.0 a pos some));
    }

-- of the planner's definition
pub step_power : (c : WindowKind) → IsPower (page_size c)
step_power IoWindow = (12, refl)
step_power MemoryWindow = (20, refl)
step_power PrefetchWindow = (20, refl)

enough_times : (c : WindowKind) (need : ℕ) → need ≤ 2 ^ 65 → need ≤ page_size c * 2 ^ 66
enough_times IoWindow need h = omega (arith, h)
enough_times MemoryWindow need h = omega (arith, h)
enough_times PrefetchWindow need h = omega (arith, h)

pub window_least : (c : WindowKind) (need : ℕ) → need ≤ 2 ^ 65 → IsLeastPower need (page_size c) (window_size c need)
window_least c need h = doubled need 66 (page_size c) (step_power c) (enough_times c need h)

pub window_holds : (c : WindowKind) (base : ℕ) (sizes : List ℕ) → IsFalling sizes → sum sizes ≤ 2 ^ 65 → base % window_size c (sum sizes) ≡ 0
    → IsHeld (page_size c) (window_size c (sum sizes)) base sizes (starts base sizes)
window_holds c base sizes falling limited aligned =
    held (page_size c) (sum sizes) (window_size c (sum sizes)) base sizes (step_power c) (window_least c (sum sizes) limited) falling (omega arith) aligned

-- Masks and runs of ones as the code computes them, by their bits.
use Rattle.std.proofs.Common.{◌≡◌, ℕ, ◌+◌, ◌-◌, ◌*◌, ◌/◌, ◌%◌, ◌^◌, ◌<◌, ◌≤◌, true, inl, inr, arith, sym, ◌∙◌, ap, subst, min, bit_and, bit_or}
use Rattle.std.specs.Bool.{nat_le, nat_eq}
use Rattle.std.specs.Int.{bit_at, w64, trailing_zeros}
use Rattle.std.proofs.lemmas.Bool.{le-leb, leb-true, cases_lt, cases_order, cases_Bool, both_ways, eq-eqb, ne_eqb}
use Rattle.std.proofs.lemmas.Nat.{pow_pos, pow_below, pow-add, div_below, one_shl, and_mask, and_comm, and-not, or_shifted, shr_split}
use Rattle.std.proofs.lemmas.Nat.Bits.{bit_at-lt, bit_at-zero, bit_at_and, bit_at_not, bit_at_above, same_from_bits, bit_at-trailing_zeros, bit_at_mask_inside, bit_at_mask_below, ones_shr, ones_shl, and_high_mask}
use Rattle.pci_spec.specs.Bar.{is_run, is_within}
use Rattle.pci_spec.proofs.Bits.{each_from-at, each_from-by, run_number, run_mask, bit_at-without_low_below}

-- powers of two rise
pow_within : (j k : ℕ) → j ≤ k → 2 ^ j ≤ 2 ^ k
pow_within j k h = elim (cases_lt j k) [
  | inl below ↦ let less = pow_below j k below in omega (arith, less)
  | inr at ↦ let e : j ≡ k = omega arith in subst (λ i. 2 ^ j ≤ 2 ^ i) e (omega arith)
]

-- a product with one factor less
one_less : (p q : ℕ) → 0 < p → (p - 1) * q + q ≡ p * q
one_less p q positive = let e : p - 1 + 1 ≡ p = omega arith in let product = ap (λ x. x * q) e in omega (arith, product)

-- ---- the range of a size

-- a value without its bits below k
pub value_and_high : (value k : ℕ) → value < 2 ^ 64 → k < 64 → bit_and value (2 ^ 64 - 1 - (1 * 2 ^ k % 2 ^ 64 - 1)) ≡ value / 2 ^ k * 2 ^ k
value_and_high value k fits near =
    let one = one_shl k 64 near in
    let less = pow_below k 64 near in
    let positive = pow_pos k in
    let parts = and-not 64 (2 ^ k - 1) value (omega (arith, less)) fits in
    let low = and_comm (2 ^ k - 1) value ∙ and_mask value k in
    let turn = and_comm value (2 ^ 64 - 1 - (2 ^ k - 1)) in
    let split = shr_split value k in
    rw one (omega (arith, parts, low, turn, split))

-- and with all of them set
pub first_or_low : (value k : ℕ) → k < 64 → bit_or (value / 2 ^ k * 2 ^ k) (1 * 2 ^ k % 2 ^ 64 - 1) ≡ value / 2 ^ k * 2 ^ k + (2 ^ k - 1)
first_or_low value k near =
    let one = one_shl k 64 near in
    let positive = pow_pos k in
    rw one (or_shifted (value / 2 ^ k) k (2 ^ k - 1) (omega arith))

-- ---- values within their masks

module _ (value mask : ℕ) (value_fits : value < 2 ^ 64) (mask_fits : mask < 2 ^ 64) where
  -- the bits of a value outside its mask
  rest_bit : (i : ℕ) → i < 64 → bit_at (bit_and value (2 ^ 64 - 1 - mask)) i ≡ min (bit_at value i) (1 - bit_at mask i)
  rest_bit i near = bit_at_and value (2 ^ 64 - 1 - mask) i ∙ ap (λ b. min (bit_at value i) b) (bit_at_not w64 mask i mask_fits near)

  -- a value within its mask has none
  rest_of_within : is_within 0 value mask ≡ true → bit_and value (2 ^ 64 - 1 - mask) ≡ 0
  rest_of_within h = same_from_bits _ _ (λ i. elim (cases_lt i 64) [
    | inl near ↦
        let less = leb-true _ _ (each_from-at 0 64 (λ i. nat_le (bit_at value i) (bit_at mask i)) h i (omega arith) (omega arith)) in
        let bit = rest_bit i near in
        let none = bit_at-zero i in
        let two = bit_at-lt mask i in
        omega (arith, less, bit, none, two)
    | inr far ↦
        let above = bit_at_above value 64 i value_fits far in
        let none = bit_at-zero i in
        let bit = bit_at_and value (2 ^ 64 - 1 - mask) i in
        omega (arith, above, none, bit)
  ])

  -- and a value that has none is within it
  within_of_rest : bit_and value (2 ^ 64 - 1 - mask) ≡ 0 → is_within 0 value mask ≡ true
  within_of_rest h = each_from-by 0 64 (λ i. nat_le (bit_at value i) (bit_at mask i)) (λ i at near. le-leb _ _ (
      let bit = rest_bit i near in
      let none = ap (λ x. bit_at x i) h in
      let none' = bit_at-zero i in
      let one = bit_at-lt value i in
      let two = bit_at-lt mask i in
      omega (arith, bit, none, none', one, two)))

  -- a value has no ones outside its mask just where it is within it
  pub rest_is_within : nat_eq (bit_and value (2 ^ 64 - 1 - mask)) 0 ≡ is_within 0 value mask
  rest_is_within = elim (cases_Bool (is_within 0 value mask)) [
    | inl within ↦ eq-eqb _ 0 (rest_of_within within) ∙ sym within
    | inr beyond ↦ ne_eqb _ 0 (λ h. both_ways (is_within 0 value mask) beyond (within_of_rest h)) ∙ sym beyond
  ]

-- ---- where a run starts

-- the ones of a mask from bit `from` upward
abbrev pub ones_from : ℕ → ℕ → ℕ
ones_from mask from = mask / 2 ^ from * 2 ^ from

-- they are no more than the mask
ones_from-le : (mask from : ℕ) → ones_from mask from ≤ mask
ones_from-le mask from = let split = shr_split mask from in omega (arith, split)

-- so they fit 64 bits
pub ones_from-kept : (mask from : ℕ) → mask < 2 ^ 64 → ones_from mask from % 2 ^ 64 ≡ ones_from mask from
ones_from-kept mask from fits = let less = ones_from-le mask from in omega (arith, less)

-- the run that the code compares with
abbrev pub run_to : ℕ → ℕ → ℕ
run_to top start = bit_and ((2 ^ 64 - 1) / 2 ^ (63 - top)) ((2 ^ 64 - 1) * 2 ^ start % 2 ^ 64)

-- the run that the code compares with, by a quotient
run_to-shifted : (top start : ℕ) → top < 64 → start < 64 → run_to top start ≡ (2 ^ (top + 1) - 1) / 2 ^ start * 2 ^ start
run_to-shifted top start near below =
    let right = ones_shr 64 (63 - top) (omega arith) in
    let left = ones_shl 64 start (omega arith) in
    let e : 64 - (63 - top) ≡ top + 1 = omega arith in
    let right' : (2 ^ 64 - 1) / 2 ^ (63 - top) ≡ 2 ^ (top + 1) - 1 = right ∙ ap (λ j. 2 ^ j - 1) e in
    let within = pow_within (top + 1) 64 (omega arith) in
    let positive = pow_pos (top + 1) in
    rw (right', left) (and_high_mask 64 start (omega arith) (2 ^ (top + 1) - 1) (omega (arith, within, positive)))

-- is a run where it starts at its top or below
run_to-inside : (top start : ℕ) → top < 64 → start ≤ top → run_to top start ≡ 2 ^ (top + 1) - 2 ^ start
run_to-inside top start near within =
    let shifted = run_to-shifted top start near (omega arith) in
    let quotient = ones_shr (top + 1) start (omega arith) in
    let e : top + 1 - start + start ≡ top + 1 = omega arith in
    let whole : 2 ^ (top + 1 - start) * 2 ^ start ≡ 2 ^ (top + 1) = sym (pow-add 2 (top + 1 - start) start) ∙ ap (λ j. 2 ^ j) e in
    let positive = pow_pos (top + 1 - start) in
    let less : (2 ^ (top + 1 - start) - 1) * 2 ^ start + 2 ^ start ≡ 2 ^ (top + 1 - start) * 2 ^ start = one_less (2 ^ (top + 1 - start)) (2 ^ start) positive in
    let product = ap (λ q. q * 2 ^ start) quotient in
    omega (arith, shifted, product, less, whole)

-- and is 0 where it would start above
run_to-beyond : (top start : ℕ) → top < start → top < 64 → start < 64 → run_to top start ≡ 0
run_to-beyond top start past near below =
    let shifted = run_to-shifted top start near below in
    let within = pow_within (top + 1) start (omega arith) in
    let positive = pow_pos (top + 1) in
    let small : (2 ^ (top + 1) - 1) / 2 ^ start < 1 = div_below (2 ^ (top + 1) - 1) (2 ^ start) 1 (pow_pos start) (omega (arith, within, positive)) in
    let none : (2 ^ (top + 1) - 1) / 2 ^ start ≡ 0 = omega (arith, small) in
    let product = ap (λ q. q * 2 ^ start) none in
    omega (arith, shifted, product)

module _ (mask from top : ℕ) (order : from ≤ top) (near : top < 64) (fits : mask < 2 ^ 64) where
  -- a run of ones as a number
  run_is : (k : ℕ) → from ≤ k → k ≤ top → is_run from mask k top ≡ true → ones_from mask from ≡ 2 ^ (top + 1) - 2 ^ k
  run_is k low high run = run_number from mask k top fits low high near run

  -- a mask without ones there has no run
  pub no_run : ones_from mask from ≡ 0 → (k : ℕ) → from ≤ k → k ≤ top → is_run from mask k top ≡ true → ⊥
  no_run none k low high run =
      let is = run_is k low high run in
      let less = pow_below k (top + 1) (omega arith) in
      omega (arith, none, is, less)

  module _ (some : 0 < ones_from mask from) where
    lowest : (trailing_zeros w64 (ones_from mask from) < 64)
        × (bit_at (ones_from mask from) (trailing_zeros w64 (ones_from mask from)) ≡ 1)
        × ((i : ℕ) → i < trailing_zeros w64 (ones_from mask from) → bit_at (ones_from mask from) i ≡ 0)
    lowest = bit_at-trailing_zeros w64 (ones_from mask from) some (let less = ones_from-le mask from in omega (arith, less, fits))

    -- a run starts at the lowest one
    pub start-of_run : (k : ℕ) → from ≤ k → k ≤ top → is_run from mask k top ≡ true → trailing_zeros w64 (ones_from mask from) ≡ k
    start-of_run k low high run =
        let bits : (i : ℕ) → bit_at (ones_from mask from) i ≡ bit_at (2 ^ (top + 1) - 2 ^ k) i = λ i. ap (λ x. bit_at x i) (run_is k low high run) in
        elim (cases_order (trailing_zeros w64 (ones_from mask from)) k) [
          | inl same ↦ same
          | inr (inl before) ↦
              let none = bits (trailing_zeros w64 (ones_from mask from)) ∙ bit_at_mask_below k (top + 1) _ before in
              let one = lowest.1 in
              absurd (let no : ⊥ = omega (arith, none, one) in no)
          | inr (inr after) ↦
              let one = bits k ∙ bit_at_mask_inside k (top + 1) k (omega arith) (omega arith) in
              let none = lowest.2 k after in
              absurd (let no : ⊥ = omega (arith, one, none) in no)
        ]

    -- a mask that is the run from its lowest one on
    pub run-of_start : ones_from mask from ≡ run_to top (trailing_zeros w64 (ones_from mask from))
        → (from ≤ trailing_zeros w64 (ones_from mask from)) × (trailing_zeros w64 (ones_from mask from) ≤ top)
        × (is_run from mask (trailing_zeros w64 (ones_from mask from)) top ≡ true)
    run-of_start is =
        let at = trailing_zeros w64 (ones_from mask from) in
        let near_at = lowest.0 in
        let low : from ≤ at = elim (cases_lt at from) [
          | inr above ↦ above
          | inl below ↦
              let none = bit_at-without_low_below mask from at below in
              let none' = bit_at-zero at in
              let one = lowest.1 in
              absurd (let no : ⊥ = omega (arith, none, none', one) in no)
        ] in
        let high : at ≤ top = elim (cases_lt top at) [
          | inr within ↦ within
          | inl past ↦
              let none = run_to-beyond top at past near near_at in
              absurd (let no : ⊥ = omega (arith, none, is, some) in no)
        ] in
        (low, high, run_mask from mask at top low (omega arith) (is ∙ run_to-inside top at near high))

    -- what a run's mask is compared with
    pub run_to-of_run : (k : ℕ) → from ≤ k → k ≤ top → is_run from mask k top ≡ true → ones_from mask from ≡ run_to top (trailing_zeros w64 (ones_from mask from))
    run_to-of_run k low high run =
        let e = start-of_run k low high run in
        run_is k low high run ∙ sym (run_to-inside top k near high) ∙ ap (run_to top) (sym e)

-- Numbers of addresses that are powers of two.
use Rattle.std.proofs.Common.{◌≡◌, ℕ, ◌+◌, ◌-◌, ◌*◌, ◌%◌, ◌^◌, ◌<◌, ◌≤◌, ◌==◌, Bool, true, false, inl, inr, arith, sym, ◌∙◌, ap}
use Rattle.std.specs.Bool.{nat_le}
use Rattle.std.specs.Int.{bit_at, w64, trailing_zeros}
use Rattle.std.proofs.lemmas.Bool.{and_parts, and_from, le-leb, leb-true, eqb-true, eq-eqb, false_from_ne_true, cases_lt}
use Rattle.std.proofs.lemmas.Nat.{one_shl, pow_below, pow_pos}
use Rattle.std.proofs.lemmas.Nat.Bits.{bit_at-trailing_zeros, bit_at-pow_other}
use Rattle.pci_spec.specs.Number.{some_from}
use Rattle.pci_spec.specs.Resource.{ResourceLine, has_size, address_count}
use Rattle.pci_spec.proofs.Bits.{some_from-at, some_from-gives}

-- a power of two has its lowest one at its exponent
trailing-of_power : (n k : ℕ) → k < 64 → n ≡ 2 ^ k → trailing_zeros w64 n ≡ k
trailing-of_power n k near is =
    let some = pow_pos k in
    let fits = pow_below k 64 near in
    let low = bit_at-trailing_zeros w64 n (omega (arith, some, is)) (omega (arith, fits, is)) in
    let t = trailing_zeros w64 n in
    elim (cases_lt t k) [
      | inl under ↦ let other = ap (λ m. bit_at m t) is ∙ bit_at-pow_other k t (λ e. omega (arith, e, under)) in let one = low.1 in omega (arith, other, one)
      | inr above ↦ elim (cases_lt k t) [
        | inl over ↦ let other = ap (λ m. bit_at m t) is ∙ bit_at-pow_other k t (λ e. omega (arith, e, over)) in let one = low.1 in omega (arith, other, one)
        | inr same ↦ omega (arith, above, same)
      ]
    ]

module _ (line : ResourceLine) (most : ℕ) where
  abbrev is_power : ℕ → Bool
  is_power k = address_count line == 2 ^ k

  pub size_told : (k : ℕ) → line.first ≤ line.last → k ≤ most → address_count line ≡ 2 ^ k → has_size most line ≡ true
  unfolding has_size
  size_told k order few is =
      and_from (nat_le line.first line.last) (some_from 0 (most + 1) is_power) (le-leb line.first line.last order)
      (some_from-at 0 (most + 1) is_power k (omega arith) (omega (arith, few)) (eq-eqb (address_count line) (2 ^ k) is))

  pub size_power : has_size most line ≡ true → (line.first ≤ line.last) × (k : ℕ) × (k ≤ most) × (address_count line ≡ 2 ^ k)
  unfolding has_size
  size_power h =
      let parts = and_parts (nat_le line.first line.last) (some_from 0 (most + 1) is_power) h in
      let found = some_from-gives 0 (most + 1) is_power parts.1 in
      (leb-true line.first line.last parts.0, found.0, omega (arith, found.2), eqb-true (address_count line) (2 ^ found.0) found.3)

module _ (first last flags most : ℕ) (near : most < 64) where
  abbrev line : ResourceLine
  line = record { first = first; last = last; flags = flags }

  abbrev count : ℕ
  count = last - first + 1

  abbrev place : ℕ
  place = trailing_zeros w64 count

  -- the number that the code compares with is a power of two
  power : place ≤ most → 1 * 2 ^ place % 2 ^ 64 ≡ 2 ^ place
  power few = one_shl place 64 (omega (arith, few, near))

  pub none_below : last < first → has_size most line ≡ false
  none_below less = false_from_ne_true _ (λ h. let order = (size_power line most h).0 in omega (arith, order, less))

  pub none_of_all : last - first ≡ 18446744073709551615 → has_size most line ≡ false
  none_of_all all = false_from_ne_true _ (λ h.
      let found = size_power line most h in
      let order = found.0 in
      let is : last + 1 - first ≡ 2 ^ found.1 = found.3 in
      let few = found.2 in
      let less = pow_below found.1 64 (omega (arith, few, near)) in
      omega (arith, order, is, less, all))

  pub told : first ≤ last → place ≤ most → count ≡ 1 * 2 ^ place % 2 ^ 64 → has_size most line ≡ true
  told order few is = size_told line most place order few (let e = is ∙ power few in omega (arith, e, order))

  pub counted : first ≤ last → count ≡ address_count line
  counted order = omega (arith, order)

  pub bounded : place ≤ most → count ≡ 1 * 2 ^ place % 2 ^ 64 → count ≤ 2 ^ most
  bounded few is =
      let e = is ∙ power few in
      elim (cases_lt place most) [
        | inl below ↦ let less = pow_below place most below in omega (arith, e, less)
        | inr at ↦ let same : place ≡ most = omega (arith, at, few) in let f = e ∙ ap (λ k. 2 ^ k) same in omega (arith, f)
      ]

  pub none_else : first ≤ last → (place ≤ most → count ≡ 1 * 2 ^ place % 2 ^ 64 → ⊥) → has_size most line ≡ false
  none_else order wrong = false_from_ne_true _ (λ h.
      let found = size_power line most h in
      let k = found.1 in
      let few = found.2 in
      let is : last + 1 - first ≡ 2 ^ k = found.3 in
      let e : count ≡ 2 ^ k = omega (arith, is, order) in
      let at = trailing-of_power count k (omega (arith, few, near)) e in
      let near_place : place ≤ most = omega (arith, at, few) in
      wrong near_place (e ∙ ap (λ j. 2 ^ j) (sym at) ∙ sym (power near_place)))

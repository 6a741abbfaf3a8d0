-- How often a number of addresses doubles, by its leading zeros.
use Rattle.std.proofs.Common.{◌≡◌, ◌<◌, ◌≤◌, ◌+◌, ◌-◌, ◌*◌, ◌/◌, ◌^◌, ℕ, suc, refl, sym, ap, subst, ◌∙◌, inl, inr, arith}
use Rattle.std.specs.Int.Count.{count_leading_zeros, leading_of_zero}
use Rattle.std.proofs.Math.Nat.{div-lt_iff_lt-mul, le-div_iff_mul-le, div-le_self}
use Rattle.std.proofs.lemmas.Bool.{cases_eq}
use Rattle.std.proofs.lemmas.Nat.{pow-add, pow_pos, leading_top}
use Rattle.pci_picture.specs.Heights.{IsHeightOf}

pub height_by_zeros : (base count more : ℕ) → count < 2 ^ 128 → more ≡ 128 - count_leading_zeros 128 (count / 2 ^ (base + 1))
    → IsHeightOf base count (14 + more)
height_by_zeros base count more fits is =
    let unit : ℕ = 2 ^ (base + 1) in
    let quotient : ℕ = count / unit in
    elim (cases_eq quotient 0) [
      | inl none ↦
          let zeros : count_leading_zeros 128 quotient ≡ 128 = ap (count_leading_zeros 128) none ∙ leading_of_zero 128 in
          let nothing : more ≡ 0 = omega (arith, is, zeros) in
          let below : count < 1 * unit = (div-lt_iff_lt-mul {k = unit} {x = count} {y = 1} (pow_pos (base + 1))).0 (omega (arith, none)) in
          let same : base + 1 ≡ base + more + 1 = omega (arith, nothing) in
          record {
            doublings = more;
            height_is = refl;
            is_below = subst (λ k. count < 2 ^ k) same (omega (arith, below));
            reaches = λ some. absurd (omega (arith, some, nothing));
          }
      | inr some ↦
          let small : quotient < 2 ^ 128 = omega (arith, div-le_self count unit, fits) in
          let top = leading_top 128 quotient (omega (arith, some)) small in
          let j : ℕ = top.0 in
          let doubles : more ≡ suc j = omega (arith, is, top.1) in
          let low : 2 ^ j * unit ≤ count = (le-div_iff_mul-le {k = unit} {x = 2 ^ j} {y = count} (pow_pos (base + 1))).0 top.2 in
          let high : count < 2 ^ suc j * unit = (div-lt_iff_lt-mul {k = unit} {x = count} {y = 2 ^ suc j} (pow_pos (base + 1))).0 top.3 in
          let above : base + more + 1 ≡ suc j + (base + 1) = omega (arith, doubles) in
          let least : base + more ≡ j + (base + 1) = omega (arith, doubles) in
          record {
            doublings = more;
            height_is = refl;
            is_below = subst (λ k. count < k) (sym (ap (λ k. 2 ^ k) above ∙ pow-add 2 (suc j) (base + 1))) high;
            reaches = λ many. subst (λ k. k ≤ count) (sym (ap (λ k. 2 ^ k) least ∙ pow-add 2 j (base + 1))) low;
          }
    ]

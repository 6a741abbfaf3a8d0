-- The number of all addresses of 64 bits, in digits.
use Rattle.std.proofs.Common.{◌≡◌, ℕ, [], ◌∷◌, ◌^◌, sym, ap, decimal}
use Rattle.std.specs.Fmt.{digits}

pub largest : (n : ℕ) → n ≡ 2 ^ 64 → 49 ∷ 56 ∷ 52 ∷ 52 ∷ 54 ∷ 55 ∷ 52 ∷ 52 ∷ 48 ∷ 55 ∷ 51 ∷ 55 ∷ 48 ∷ 57 ∷ 53 ∷ 53 ∷ 49 ∷ 54 ∷ 49 ∷ 54 ∷ [] ≡ decimal n
unfolding digits
largest n is = ap decimal (sym is)

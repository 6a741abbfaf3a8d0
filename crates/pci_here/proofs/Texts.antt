-- A domain as it is printed.
use Rattle.std.proofs.Common.{◌≡◌, ℕ, ◌-◌, ◌^◌, false, [], ◌++◌, length, replicate, ◌∙◌, ap, arith, append-nil}
use Rattle.std.specs.Fmt.{digits, padded_integral, format_spec, char_count}
use Rattle.pci_here.specs.Place.{domain_text}

pub domain_written : (n : ℕ) → padded_integral (format_spec 32 0 4 4 (2 ^ 64 - 1)) false [] (digits 16 false n) ≡ domain_text n
unfolding padded_integral char_count
domain_written n =
    let e : 4 - length (digits 16 false n) - 0 - 0 ≡ 4 - length (digits 16 false n) = omega arith in
    ap (λ k. replicate k 48 ++ (digits 16 false n ++ [])) e ∙ ap (λ t. replicate (4 - length (digits 16 false n)) 48 ++ t) (append-nil (digits 16 false n))

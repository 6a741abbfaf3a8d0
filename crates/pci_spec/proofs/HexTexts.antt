-- What a hole such as `{:08x}` writes is the definitions' hex number of so many digits.
use Rattle.std.proofs.Common.{◌≡◌, ℕ, zero, suc, ◌+◌, ◌-◌, ◌*◌, ◌/◌, ◌%◌, ◌^◌, ◌<◌, ◌≤◌, ◌==◌, false, List, [], ◌∷◌, ◌++◌, length, replicate, refl, sym, ◌∙◌, ap, arith, inl, inr}
use Rattle.std.proofs.Math.Nat.{pow-suc, eq-zero-or-pos, mod-lt, mod-eq_of_lt, div-add-mod, mul_assoc, mul-add-mod_self_left}
use Rattle.std.proofs.lemmas.Bool.{ne_eqb}
use Rattle.std.proofs.lemmas.List.{append_assoc, append-nil, replicate_more}
use Rattle.std.specs.Fmt.{digits, digits_onto, digit_glyph, padded_integral, format_spec, char_count}
use Rattle.pci_spec.specs.Text.{hex_digit}
use Rattle.pci_spec.specs.Line.{hex_number}

-- the digits of a number below 16, and of any other
digits_onto_last : (n k : ℕ) (acc : List ℕ) → 0 < k → n / 16 ≡ 0 → digits_onto k 16 false n acc ≡ digit_glyph false (n % 16) ∷ acc
digits_onto_last n zero acc some e = absurd (omega arith)
digits_onto_last n (suc k) acc some e = rw e refl

digits_onto_step : (n k : ℕ) (acc : List ℕ) → 0 < k → 0 < n / 16
    → digits_onto k 16 false n acc ≡ digits_onto (k - 1) 16 false (n / 16) (digit_glyph false (n % 16) ∷ acc)
digits_onto_step n zero acc some more = absurd (omega arith)
digits_onto_step n (suc k) acc some more =
    let other : (n / 16 == 0) ≡ false = ne_eqb (n / 16) 0 (λ e. omega arith) in
    rw other (ap (λ j. digits_onto j 16 false (n / 16) (digit_glyph false (n % 16) ∷ acc)) (omega arith))

digits_onto-nil : (n : ℕ) → digits_onto 64 16 false n [] ≡ digits 16 false n
unfolding digits
digits_onto-nil n = refl

-- zero is so many zeros
hex_number-zero : (w : ℕ) → hex_number w 0 ≡ replicate w 48
hex_number-zero zero = refl
hex_number-zero (suc w) = ap (λ ds. ds ++ 48 ∷ []) (hex_number-zero w) ∙ replicate_more w 48 ∙ ap (λ n. replicate n 48) {y = suc w} (omega arith)

-- a number of w digits is zeros, and the digits that are written without them
record IsSpelled (w n k : ℕ) (acc : List ℕ) : Type 0 where
  zeros : ℕ
  text : hex_number w n ++ acc ≡ replicate zeros 48 ++ digits_onto k 16 false n acc
  count : zeros + length (digits_onto k 16 false n acc) ≡ w + length acc

last_digit : (w n k : ℕ) (acc : List ℕ) → 0 < k → n / 16 ≡ 0 → IsSpelled (suc w) n k acc
last_digit w n k acc some e =
    let short : digits_onto k 16 false n acc ≡ digit_glyph false (n % 16) ∷ acc = digits_onto_last n k acc some e in
    record {
      zeros = w;
      text = ap (λ q. (hex_number w q ++ hex_digit (n % 16) ∷ []) ++ acc) e ∙ ap (λ zs. (zs ++ hex_digit (n % 16) ∷ []) ++ acc) (hex_number-zero w)
          ∙ append_assoc (replicate w 48) (hex_digit (n % 16) ∷ []) acc ∙ ap (λ ds. replicate w 48 ++ ds) (sym short);
      count = ap (λ ds. w + length ds) short ∙ omega arith;
    }

spelled : (w n k : ℕ) (acc : List ℕ) → n < 16 ^ suc w → suc w ≤ k → IsSpelled (suc w) n k acc
spelled zero n k acc small room = last_digit zero n k acc (omega arith) (omega arith)
spelled (suc w) n k acc small room =
    elim (eq-zero-or-pos (n / 16)) [
      | inl none ↦ last_digit (suc w) n k acc (omega arith) none
      | inr some ↦
          let more : digits_onto k 16 false n acc ≡ digits_onto (k - 1) 16 false (n / 16) (digit_glyph false (n % 16) ∷ acc)
          = digits_onto_step n k acc (omega arith) some in
          let rest : IsSpelled (suc w) (n / 16) (k - 1) (digit_glyph false (n % 16) ∷ acc)
          = spelled w (n / 16) (k - 1) (digit_glyph false (n % 16) ∷ acc) (omega (arith, pow-suc 16 (suc w), small)) (omega arith) in
          record {
            zeros = rest.zeros;
            text = append_assoc (hex_number (suc w) (n / 16)) (hex_digit (n % 16) ∷ []) acc ∙ rest.text ∙ ap (λ ds. replicate rest.zeros 48 ++ ds) (sym more);
            count = ap (λ ds. rest.zeros + length ds) more ∙ rest.count ∙ omega arith;
          }
    ]

-- the digits of a number below 16 ^ w, with zeros before them up to w places
pub padded_hex : (w n : ℕ) → 0 < w → w ≤ 64 → n < 16 ^ w
    → replicate (w - length (digits 16 false n)) 48 ++ digits 16 false n ≡ hex_number w n
padded_hex zero n some room small = absurd (omega arith)
padded_hex (suc w) n some room small =
    let s : IsSpelled (suc w) n 64 [] = spelled w n 64 [] small room in
    let whole : digits_onto 64 16 false n [] ≡ digits 16 false n = digits_onto-nil n in
    let zeros : suc w - length (digits 16 false n) ≡ s.zeros = omega (arith, s.count, ap length whole) in
    ap (λ z. replicate z 48 ++ digits 16 false n) zeros ∙ ap (λ ds. replicate s.zeros 48 ++ ds) (sym whole) ∙ sym s.text
    ∙ append-nil (hex_number (suc w) n)

-- what a hole with a width and leading zeros writes
pub hex_hole : (w n : ℕ) → 0 < w → w ≤ 64 → n < 16 ^ w
    → padded_integral (format_spec 32 0 4 w (2 ^ 64 - 1)) false [] (digits 16 false n) ≡ hex_number w n
unfolding padded_integral char_count
hex_hole w n some room small =
    let len : ℕ = length (digits 16 false n) in
    let same : w - len - 0 - 0 ≡ w - len = omega arith in
    ap (λ z. replicate z 48 ++ (digits 16 false n ++ [])) same
    ∙ ap (λ ds. replicate (w - len) 48 ++ ds) (append-nil (digits 16 false n)) ∙ padded_hex w n some room small

-- the low digits of a number
record IsCut (n m : ℕ) : Type 0 where
  high : n % (16 * m) / 16 ≡ n / 16 % m
  low : n % (16 * m) % 16 ≡ n % 16

cut : (n m : ℕ) → 0 < m → IsCut n m
cut n m some =
    let whole : n ≡ 16 * (m * (n / (16 * m))) + n % (16 * m) = omega (arith, div-add-mod n (16 * m), mul_assoc 16 m (n / (16 * m))) in
    let below : n % (16 * m) < 16 * m = mod-lt n {m = 16 * m} (omega arith) in
    let quotient : n / 16 ≡ m * (n / (16 * m)) + n % (16 * m) / 16 = omega (arith, whole) in
    record {
      high = sym (ap (λ x. x % m) quotient ∙ mul-add-mod_self_left m (n / (16 * m)) (n % (16 * m) / 16) ∙ mod-eq_of_lt (omega (arith, below)));
      low = omega (arith, whole);
    }

sixteens_pos : (w : ℕ) → 0 < 16 ^ w
sixteens_pos zero = omega arith
sixteens_pos (suc w) = omega (arith, pow-suc 16 w, sixteens_pos w)

hex_number-mod : (w n : ℕ) → hex_number w (n % 16 ^ w) ≡ hex_number w n
hex_number-mod zero n = refl
hex_number-mod (suc w) n =
    let step : 16 ^ suc w ≡ 16 * 16 ^ w = omega (arith, pow-suc 16 w) in
    let parts : IsCut n (16 ^ w) = cut n (16 ^ w) (sixteens_pos w) in
    let high : n % 16 ^ suc w / 16 ≡ n / 16 % 16 ^ w = ap (λ p. n % p / 16) step ∙ parts.high in
    let low : n % 16 ^ suc w % 16 ≡ n % 16 = ap (λ p. n % p % 16) step ∙ parts.low in
    ap (λ q. hex_number w q ++ hex_digit (n % 16 ^ suc w % 16) ∷ []) high
    ∙ ap (λ ds. ds ++ hex_digit (n % 16 ^ suc w % 16) ∷ []) (hex_number-mod w (n / 16))
    ∙ ap (λ d. hex_number w (n / 16) ++ hex_digit d ∷ []) low

-- eight digits of the low 32 bits of a number, and sixteen of one of 64 bits
pub hex_eight_of_low : (n : ℕ) → padded_integral (format_spec 32 0 4 8 (2 ^ 64 - 1)) false [] (digits 16 false (n % 2 ^ 32)) ≡ hex_number 8 n
hex_eight_of_low n = hex_hole 8 (n % 2 ^ 32) (omega arith) (omega arith) (omega arith) ∙ hex_number-mod 8 n

pub hex_sixteen : (n : ℕ) → n < 2 ^ 64 → padded_integral (format_spec 32 0 4 16 (2 ^ 64 - 1)) false [] (digits 16 false n) ≡ hex_number 16 n
hex_sixteen n small = hex_hole 16 n (omega arith) (omega arith) small

-- eight digits of 32 bits, and four of the low 16 bits of a number
pub hex_eight : (n : ℕ) → n < 2 ^ 32 → padded_integral (format_spec 32 0 4 8 (2 ^ 64 - 1)) false [] (digits 16 false n) ≡ hex_number 8 n
hex_eight n small = hex_hole 8 n (omega arith) (omega arith) small

pub hex_four_of_low : (n : ℕ) → padded_integral (format_spec 32 0 4 4 (2 ^ 64 - 1)) false [] (digits 16 false (n % 2 ^ 16)) ≡ hex_number 4 n
hex_four_of_low n = hex_hole 4 (n % 2 ^ 16) (omega arith) (omega arith) (omega arith) ∙ hex_number-mod 4 n

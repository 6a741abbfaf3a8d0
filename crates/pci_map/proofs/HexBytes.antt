-- The bytes of a number, put down one after the other.
use Rattle.std.proofs.Common.{refl, ◌≡◌, ℕ, zero, suc, ◌+◌, ◌-◌, ◌*◌, ◌/◌, ◌%◌, ◌^◌, ◌<◌, ◌++◌, ◌∷◌, [], List, arith, sym, ◌∙◌, ap}
use Rattle.std.proofs.Math.Nat.{div-div-eq-div-mul, pow-suc}
use Rattle.std.proofs.lemmas.List.{append_assoc}
use Rattle.pci_spec.specs.Text.{hex_digit, hex_byte}
use Rattle.pci_spec.specs.Line.{hex_number}

-- eight bits are a byte
pow_eight : (k : ℕ) → 2 ^ (8 * k) ≡ 256 ^ k
pow_eight zero = refl
pow_eight (suc k) =
    let n = 8 * k in
    let e : 8 * suc k ≡ suc (suc (suc (suc (suc (suc (suc (suc n))))))) = omega arith in
    let a = pow-suc 2 n in
    let b = pow-suc 2 (suc n) in
    let c = pow-suc 2 (suc (suc n)) in
    let d = pow-suc 2 (suc (suc (suc n))) in
    let f = pow-suc 2 (suc (suc (suc (suc n)))) in
    let g = pow-suc 2 (suc (suc (suc (suc (suc n))))) in
    let h = pow-suc 2 (suc (suc (suc (suc (suc (suc n)))))) in
    let i = pow-suc 2 (suc (suc (suc (suc (suc (suc (suc n))))))) in
    let s = pow-suc 256 k in
    let before = pow_eight k in
    ap (λ j. 2 ^ j) e ∙ omega (arith, a, b, c, d, f, g, h, i, s, before)

-- a number's digits, and those of its last byte
two_more : (m next byte : ℕ) → byte ≡ next % 256 → hex_number m (next / 256) ++ hex_byte byte ≡ hex_number (suc (suc m)) next
two_more m next byte is =
    let high : byte / 16 ≡ next / 16 % 16 = omega (arith, is) in
    let low : byte % 16 ≡ next % 16 = omega (arith, is) in
    (λ i. hex_number m (next / 256) ++ hex_digit (high i) ∷ hex_digit (low i) ∷ [])
    ∙ ap (λ n. hex_number m n ++ hex_digit (next / 16 % 16) ∷ hex_digit (next % 16) ∷ []) (sym (div-div-eq-div-mul next 16 16))
    ∙ sym (append_assoc (hex_number m (next / 16 / 16)) (hex_digit (next / 16 % 16) ∷ []) (hex_digit (next % 16) ∷ []))

-- one byte more
pub bytes_more : (start old new : List ℕ) (number bytes done byte : ℕ) → done < bytes → old ≡ start ++ hex_number (2 * done) (number / 256 ^ (bytes - done))
    → byte ≡ number / 2 ^ (8 * (bytes - 1 - done)) % 256 → new ≡ old ++ hex_byte byte
    → new ≡ start ++ hex_number (2 * (done + 1)) (number / 256 ^ (bytes - (done + 1)))
bytes_more start old new number bytes done byte more before is pushed =
    let k = bytes - 1 - done in
    let e : bytes - (done + 1) ≡ k = omega arith in
    let s : bytes - done ≡ suc k = omega (arith, more) in
    let n : 2 * (done + 1) ≡ suc (suc (2 * done)) = omega arith in
    let next = number / 256 ^ k in
    let high : number / 256 ^ (bytes - done) ≡ next / 256 =
    ap (λ j. number / 256 ^ j) s ∙ ap (λ m. number / m) (pow-suc 256 k ∙ omega arith) ∙ sym (div-div-eq-div-mul number (256 ^ k) 256) in
    let low : byte ≡ next % 256 = is ∙ ap (λ m. number / m % 256) (pow_eight k) in
    pushed ∙ ap (λ t. t ++ hex_byte byte) before ∙ append_assoc start (hex_number (2 * done) (number / 256 ^ (bytes - done))) (hex_byte byte)
    ∙ ap (λ m. start ++ (hex_number (2 * done) m ++ hex_byte byte)) high ∙ ap (λ t. start ++ t) (two_more (2 * done) next byte low)
    ∙ ap (λ m. start ++ hex_number m next) (sym n) ∙ ap (λ m. start ++ hex_number (2 * (done + 1)) (number / 256 ^ m)) (sym e)

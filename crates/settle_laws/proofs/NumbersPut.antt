-- What a number that is put into an image shows there, byte by byte.
use Rattle.std.proofs.Common.{◌≡◌, ℕ, zero, suc, ◌+◌, ◌*◌, ◌/◌, ◌%◌, ◌^◌, ◌<◌, ◌≤◌, List, arith, sym, ◌∙◌, ap, length, set}
use Rattle.std.proofs.lemmas.List.{length-set}
use Rattle.std.proofs.lemmas.Nat.{shr-shr}
use Rattle.pci_spec.specs.Number.{byte_at, number_at}
use Rattle.plan_spec.proofs.Planning.Registers.{powers_same}
use Rattle.judge_spec.specs.Windows.{with_number}
use Rattle.settle_laws.proofs.Numbers.{with_first}

next_byte : (v k : ℕ) → v / 256 / 256 ^ k ≡ v / 256 ^ (suc k)
next_byte v k = ap (λ n. v / 256 / n) (powers_same k) ∙ shr-shr v 8 (8 * k) ∙ ap (λ n. v / 2 ^ n) (let e : 8 + 8 * k ≡ 8 * suc k = omega arith in e) ∙ ap (λ n. v / n) (sym (powers_same (suc k)))

pub with_byte : (w o v : ℕ) (image : List ℕ) (j : ℕ) → o + w ≤ length image → j < w → byte_at (with_number w o v image) (o + j) ≡ v / 256 ^ j % 256
with_byte zero o v image j inside less = absurd (let no : ⊥ = omega (arith, less) in no)
with_byte (suc w) o v image zero inside less =
    ap (byte_at (with_number (suc w) o v image)) (let e : o + 0 ≡ o = omega arith in e)
    ∙ with_first w o v image (omega (arith, inside))
    ∙ (let e : v % 256 ≡ v / 256 ^ 0 % 256 = omega arith in e)
with_byte (suc w) o v image (suc k) inside less =
    let long = length-set image o (v % 256) in
    ap (byte_at (with_number (suc w) o v image)) (let e : o + suc k ≡ o + 1 + k = omega arith in e)
    ∙ with_byte w (o + 1) (v / 256) (set image o (v % 256)) k (omega (arith, inside, long)) (omega (arith, less))
    ∙ ap (λ n. n % 256) (next_byte v k)

-- ---- the whole number

module _ (o v : ℕ) (image : List ℕ) where
  pub reads_one : o + 1 ≤ length image → v < 2 ^ 8 → byte_at (with_number 1 o v image) o ≡ v
  reads_one inside small = with_first 0 o v image (omega (arith, inside)) ∙ omega (arith, small)

  pub reads_two : o + 2 ≤ length image → v < 2 ^ 16 → number_at (with_number 2 o v image) o 2 ≡ v
  reads_two inside small =
      let a = with_byte 2 o v image 0 inside (omega arith) in
      let b = with_byte 2 o v image 1 inside (omega arith) in
      omega (arith, a, b, small)

  pub reads_four : o + 4 ≤ length image → v < 2 ^ 32 → number_at (with_number 4 o v image) o 4 ≡ v
  reads_four inside small =
      let a = with_byte 4 o v image 0 inside (omega arith) in
      let b = with_byte 4 o v image 1 inside (omega arith) in
      let c = with_byte 4 o v image 2 inside (omega arith) in
      let d = with_byte 4 o v image 3 inside (omega arith) in
      omega (arith, a, b, c, d, small)

  -- of eight bytes, each half
  pub reads_low : o + 8 ≤ length image → number_at (with_number 8 o v image) o 4 ≡ v % 2 ^ 32
  reads_low inside =
      let a = with_byte 8 o v image 0 inside (omega arith) in
      let b = with_byte 8 o v image 1 inside (omega arith) in
      let c = with_byte 8 o v image 2 inside (omega arith) in
      let d = with_byte 8 o v image 3 inside (omega arith) in
      omega (arith, a, b, c, d)

  pub reads_high : o + 8 ≤ length image → v < 2 ^ 64 → number_at (with_number 8 o v image) (o + 4) 4 ≡ v / 2 ^ 32
  reads_high inside small =
      let at = λ (j : ℕ) (e : o + 4 + j ≡ o + (4 + j)) (less : 4 + j < 8). ap (byte_at (with_number 8 o v image)) e ∙ with_byte 8 o v image (4 + j) inside less in
      let a = at 0 (omega arith) (omega arith) in
      let b = at 1 (omega arith) (omega arith) in
      let c = at 2 (omega arith) (omega arith) in
      let d = at 3 (omega arith) (omega arith) in
      omega (arith, a, b, c, d, small)

-- Numbers that are put into an image.
use Rattle.std.proofs.Common.{◌≡◌, ℕ, zero, suc, ◌+◌, ◌*◌, ◌/◌, ◌%◌, ◌^◌, ◌<◌, ◌≤◌, ◌⊎◌, inl, inr, List, refl, arith, sym, ◌∙◌, ap, subst, length, set}
use Rattle.std.proofs.lemmas.Bool.{cases_eq, cases_lt}
use Rattle.std.proofs.lemmas.List.{length-set, get_or-set_same, get_or-set_other, get_or_past}
use Rattle.std.proofs.Math.Nat.{div-div-eq-div-mul, pow-succ'}
use Rattle.pci_spec.specs.Number.{byte_at, IsImage}
use Rattle.pci_spec.specs.Header.{command}
use Rattle.judge_spec.specs.Windows.{with_number}

pub length_with : (w o v : ℕ) (image : List ℕ) → length (with_number w o v image) ≡ length image
length_with zero o v image = refl
length_with (suc w) o v image = length_with w (o + 1) (v / 256) (set image o (v % 256)) ∙ length-set image o (v % 256)

-- no other byte changes
pub with_elsewhere : (w o v place : ℕ) (image : List ℕ) → (place < o) ⊎ (o + w ≤ place) → byte_at (with_number w o v image) place ≡ byte_at image place
with_elsewhere zero o v place image apart = refl
with_elsewhere (suc w) o v place image apart =
    with_elsewhere w (o + 1) (v / 256) place (set image o (v % 256)) (elim apart [ inl low ↦ inl (omega (arith, low)) | inr high ↦ inr (omega (arith, high)) ])
    ∙ get_or-set_other image o place (v % 256) 0 (λ e. elim apart [ inl low ↦ (let no : ⊥ = omega (arith, low, e) in no) | inr high ↦ (let no : ⊥ = omega (arith, high, e) in no) ])

set_small : (image : List ℕ) (o v : ℕ) → ((place : ℕ) → byte_at image place < 256) → v < 256 → (place : ℕ) → byte_at (set image o v) place < 256
set_small image o v small below place =
    let P : ℕ → Type 0 = λ n. n < 256 in
    elim (cases_eq place o) [
      | inr other ↦ subst P (sym (get_or-set_other image o place v 0 other)) (small place)
      | inl here ↦ elim (cases_lt o (length image)) [
        | inl inside ↦ subst P (sym (ap (byte_at (set image o v)) here ∙ get_or-set_same image o v 0 inside)) below
        | inr past ↦ subst P (sym (get_or_past (set image o v) place 0 (let l = length-set image o v in omega (arith, l, past, here)))) (omega arith)
      ]
    ]

with_small : (w o v : ℕ) (image : List ℕ) → ((place : ℕ) → byte_at image place < 256) → (place : ℕ) → byte_at (with_number w o v image) place < 256
with_small zero o v image small = small
with_small (suc w) o v image small = with_small w (o + 1) (v / 256) (set image o (v % 256)) (set_small image o (v % 256) small (omega arith))

pub with_image : (w o v : ℕ) (image : List ℕ) → IsImage image → IsImage (with_number w o v image)
with_image w o v image is = record { full = length_with w o v image ∙ is.full; bytes = with_small w o v image is.bytes }

-- the first byte is the lowest
pub with_first : (w o v : ℕ) (image : List ℕ) → o < length image → byte_at (with_number (suc w) o v image) o ≡ v % 256
with_first w o v image inside =
    with_elsewhere w (o + 1) (v / 256) o (set image o (v % 256)) (inl (omega arith)) ∙ get_or-set_same image o (v % 256) 0 inside

pub command_with : (v : ℕ) (image : List ℕ) → IsImage image → v < 256 ^ 2 → command (with_number 2 0x04 v image) ≡ v
command_with v image is small =
    let full = is.full in
    let low = with_first 1 0x04 v image (omega (arith, full)) in
    let high = with_first 0 0x05 (v / 256) (set image 0x04 (v % 256)) (let l = length-set image 0x04 (v % 256) in omega (arith, l, full)) in
    ap (λ n. 0 + n * 256 ^ 0 + byte_at (with_number 2 0x04 v image) 0x05 * 256 ^ 1) low
    ∙ ap (λ n. 0 + v % 256 * 256 ^ 0 + n * 256 ^ 1) high
    ∙ omega (arith, small)

-- each byte is one of the number's
pub with_inside : (w o v j : ℕ) (image : List ℕ) → j < w → o + w ≤ length image → byte_at (with_number w o v image) (o + j) ≡ v / 256 ^ j % 256
with_inside zero o v j image short inside = absurd (let no : ⊥ = omega (arith, short) in no)
with_inside (suc w) o v zero image short inside =
    let at : o + 0 ≡ o = omega arith in
    ap (byte_at (with_number (suc w) o v image)) at ∙ with_first w o v image (omega (arith, inside)) ∙ (let e : v % 256 ≡ v / 256 ^ 0 % 256 = omega arith in e)
with_inside (suc w) o v (suc j) image short inside =
    let at : o + suc j ≡ o + 1 + j = omega arith in
    ap (byte_at (with_number (suc w) o v image)) at
    ∙ with_inside w (o + 1) (v / 256) j (set image o (v % 256)) (omega (arith, short)) (let l = length-set image o (v % 256) in omega (arith, l, inside))
    ∙ ap (λ n. n % 256) (div-div-eq-div-mul v 256 (256 ^ j) ∙ ap (λ n. v / n) (sym (pow-succ' 256 j)))

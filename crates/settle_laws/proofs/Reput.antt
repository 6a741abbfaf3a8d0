-- What an image shows already changes nothing when it is put there.
use Rattle.std.proofs.Common.{◌≡◌, ℕ, suc, ◌+◌, ◌*◌, ◌/◌, ◌%◌, ◌^◌, ◌<◌, inl, inr, List, cond, arith, set, ◌∙◌, ap, refl}
use Rattle.std.specs.Bool.{if◌then◌else◌}
use Rattle.std.proofs.lemmas.Bool.{cases_Bool}
use Rattle.std.proofs.lemmas.List.{set-get_or}
use Rattle.pci_spec.specs.Number.{byte_at, number_at, IsImage}
use Rattle.pci_spec.specs.Header.{bar_register}
use Rattle.pci_spec.specs.Bar.{bar_at, is_wide, whole_bar}
use Rattle.pci_spec.specs.Window.{WindowKind, IoWindow, MemoryWindow, PrefetchWindow, bounds_at}
use Rattle.judge_spec.specs.Windows.{with_number, with_bounds}

put_next : (w o v rest : ℕ) (image : List ℕ) → byte_at image o < 256 → v ≡ byte_at image o + 256 * rest → with_number w (o + 1) rest image ≡ image → with_number (suc w) o v image ≡ image
put_next w o v rest image small e more =
    let low : v % 256 ≡ byte_at image o = omega (arith, small, e) in
    let high : v / 256 ≡ rest = omega (arith, small, e) in
    ap (λ b. with_number w (o + 1) (v / 256) (set image o b)) low ∙ ap (λ xs. with_number w (o + 1) (v / 256) xs) (set-get_or image o 0) ∙ ap (λ r. with_number w (o + 1) r image) high ∙ more

module _ (image : List ℕ) (is : IsImage image) where
  abbrev b : ℕ → ℕ
  b place = byte_at image place

  -- a byte by its place
  at : (place other : ℕ) → place ≡ other → b place ≡ b other
  at place other e = ap (byte_at image) e

  put_one : (o : ℕ) → with_number 1 o (b o) image ≡ image
  put_one o = put_next 0 o (b o) 0 image (is.bytes o) (omega arith) refl

  pub put_two : (o : ℕ) → with_number 2 o (number_at image o 2) image ≡ image
  put_two o =
      let e0 = at (o + 0) o (omega arith) in
      put_next 1 o (number_at image o 2) (b (o + 1)) image (is.bytes o) (omega (arith, e0))
      (put_next 0 (o + 1) (b (o + 1)) 0 image (is.bytes (o + 1)) (omega arith) refl)

  pub put_four : (o : ℕ) → with_number 4 o (number_at image o 4) image ≡ image
  put_four o =
      let e0 = at (o + 0) o (omega arith) in
      let e2 = at (o + 2) (o + 1 + 1) (omega arith) in
      let e3 = at (o + 3) (o + 1 + 1 + 1) (omega arith) in
      let d3 = b (o + 1 + 1 + 1) in
      let d2 = b (o + 1 + 1) + 256 * d3 in
      let d1 = b (o + 1) + 256 * d2 in
      put_next 3 o (number_at image o 4) d1 image (is.bytes o) (omega (arith, e0, e2, e3))
      (put_next 2 (o + 1) d1 d2 image (is.bytes (o + 1)) refl
      (put_next 1 (o + 1 + 1) d2 d3 image (is.bytes (o + 1 + 1)) refl
      (put_next 0 (o + 1 + 1 + 1) d3 0 image (is.bytes (o + 1 + 1 + 1)) (omega arith) refl)))

  put_eight : (o : ℕ) → with_number 8 o (number_at image o 4 + 2 ^ 32 * number_at image (o + 4) 4) image ≡ image
  put_eight o =
      let e0 = at (o + 0) o (omega arith) in
      let e2 = at (o + 2) (o + 1 + 1) (omega arith) in
      let e3 = at (o + 3) (o + 1 + 1 + 1) (omega arith) in
      let o4 = o + 1 + 1 + 1 + 1 in
      let e4 = at (o + 4 + 0) o4 (omega arith) in
      let e5 = at (o + 4 + 1) (o4 + 1) (omega arith) in
      let e6 = at (o + 4 + 2) (o4 + 1 + 1) (omega arith) in
      let e7 = at (o + 4 + 3) (o4 + 1 + 1 + 1) (omega arith) in
      let d7 = b (o4 + 1 + 1 + 1) in
      let d6 = b (o4 + 1 + 1) + 256 * d7 in
      let d5 = b (o4 + 1) + 256 * d6 in
      let d4 = b o4 + 256 * d5 in
      let d3 = b (o + 1 + 1 + 1) + 256 * d4 in
      let d2 = b (o + 1 + 1) + 256 * d3 in
      let d1 = b (o + 1) + 256 * d2 in
      put_next 7 o (number_at image o 4 + 2 ^ 32 * number_at image (o + 4) 4) d1 image (is.bytes o) (omega (arith, e0, e2, e3, e4, e5, e6, e7))
      (put_next 6 (o + 1) d1 d2 image (is.bytes (o + 1)) refl
      (put_next 5 (o + 1 + 1) d2 d3 image (is.bytes (o + 1 + 1)) refl
      (put_next 4 (o + 1 + 1 + 1) d3 d4 image (is.bytes (o + 1 + 1 + 1)) refl
      (put_next 3 o4 d4 d5 image (is.bytes o4) refl
      (put_next 2 (o4 + 1) d5 d6 image (is.bytes (o4 + 1)) refl
      (put_next 1 (o4 + 1 + 1) d6 d7 image (is.bytes (o4 + 1 + 1)) refl
      (put_next 0 (o4 + 1 + 1 + 1) d7 0 image (is.bytes (o4 + 1 + 1 + 1)) (omega arith) refl)))))))

  pub put_bar : (probe : List ℕ) (n : ℕ) → with_number (if is_wide (bar_at probe n) then 8 else 4) (bar_register n) (whole_bar probe image n) image ≡ image
  put_bar probe n = elim (cases_Bool (is_wide (bar_at probe n))) [
    | inl wide ↦
        let next : bar_register (n + 1) ≡ bar_register n + 4 = omega arith in
        ap (λ t. with_number (if t then 8 else 4) (bar_register n) (cond t (bar_at image n + 2 ^ 32 * bar_at image (n + 1)) (bar_at image n)) image) wide
        ∙ ap (λ o. with_number 8 (bar_register n) (bar_at image n + 2 ^ 32 * number_at image o 4) image) next
        ∙ put_eight (bar_register n)
    | inr narrow ↦
        ap (λ t. with_number (if t then 8 else 4) (bar_register n) (cond t (bar_at image n + 2 ^ 32 * bar_at image (n + 1)) (bar_at image n)) image) narrow
        ∙ put_four (bar_register n)
  ]

  pub put_bounds : (c : WindowKind) → with_bounds c (bounds_at c image) image ≡ image
  put_bounds IoWindow =
      let v = bounds_at IoWindow image in
      ap (λ x. with_number 2 0x32 v.limit_upper (with_number 2 0x30 v.base_upper (with_number 1 0x1d v.limit x))) (put_one 0x1c)
      ∙ ap (λ x. with_number 2 0x32 v.limit_upper (with_number 2 0x30 v.base_upper x)) (put_one 0x1d)
      ∙ ap (λ x. with_number 2 0x32 v.limit_upper x) (put_two 0x30)
      ∙ put_two 0x32
  put_bounds MemoryWindow =
      let v = bounds_at MemoryWindow image in
      ap (λ x. with_number 2 0x22 v.limit x) (put_two 0x20) ∙ put_two 0x22
  put_bounds PrefetchWindow =
      let v = bounds_at PrefetchWindow image in
      ap (λ x. with_number 4 0x2c v.limit_upper (with_number 4 0x28 v.base_upper (with_number 2 0x26 v.limit x))) (put_two 0x24)
      ∙ ap (λ x. with_number 4 0x2c v.limit_upper (with_number 4 0x28 v.base_upper x)) (put_two 0x26)
      ∙ ap (λ x. with_number 4 0x2c v.limit_upper x) (put_four 0x28)
      ∙ put_four 0x2c

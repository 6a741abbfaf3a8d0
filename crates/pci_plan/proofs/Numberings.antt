-- Functions that are filled one by one: their headers, and a survey of the system that they make.
use Rattle.std.proofs.Common.{◌≡◌, ℕ, zero, suc, ◌+◌, ◌-◌, ◌<◌, ◌≤◌, inl, inr, List, [], ◌∷◌, ◌++◌, Some, length, take, drop, refl, arith, ◌∙◌, ap, subst}
use Rattle.std.specs.List.{AllZip, slice_get}
use Rattle.std.proofs.lemmas.Bool.{cases_lt}
use Rattle.std.proofs.lemmas.List.{get_or-append_right, get_or-drop, get_or-take, get_or_append_left, length-append, length-drop, length-take-le}
use Rattle.pci_spec.specs.Number.{byte_at, IsImage}
use Rattle.pci_spec.specs.System.{Function}
use Rattle.plan_spec.specs.Planning.Numbers.{IsFilled}
use Rattle.plan_spec.proofs.Planning.Staging.{is_register}
use Rattle.pci_plan.proofs.FilledImages.{same_bytes}

-- ---- headers

module _ (f : Function) (is : IsImage f.image) (value : ℕ × ℕ → ℕ) (new_command : ℕ) (image new : List ℕ) (filled : IsFilled value new_command f record f { image = image })
    (whole : new ≡ take 64 image ++ drop 64 f.image) where
  size : length (take 64 image) ≡ 64
  size = let full = filled.image.full in length-take-le 64 image (omega (arith, full))

  low : (k : ℕ) → k < 64 → byte_at new k ≡ byte_at image k
  low k less = ap (λ xs. byte_at xs k) whole ∙ get_or_append_left (take 64 image) (drop 64 f.image) 0 k (omega (arith, size, less)) ∙ get_or-take 64 image k 0 less

  high : (k : ℕ) → 64 ≤ k → byte_at new k ≡ byte_at f.image k
  high k from =
      let e : 64 + (k - 64) ≡ k = omega (arith, from) in
      ap (λ xs. byte_at xs k) whole ∙ get_or-append_right (take 64 image) (drop 64 f.image) 64 k 0 size from ∙ get_or-drop 64 f.image (k - 64) 0 ∙ ap (λ n. byte_at f.image n) e

  is_image : IsImage new
  is_image = record {
    full = (let all = length-append (take 64 image) (drop 64 f.image) in
        let rest = length-drop 64 f.image in
        let full = is.full in
        let e = ap length whole in
        omega (arith, all, rest, full, e, size));
    bytes = λ k. elim (cases_lt k 64) [
      | inl less ↦ (let b = filled.image.bytes k in let e = low k less in omega (arith, b, e))
      | inr from ↦ (let b = is.bytes k in let e = high k from in omega (arith, b, e))
    ];
  }

  -- an image with the header of one that is filled, and all else as it was, is filled
  pub filled_by_header : IsFilled value new_command f record f { image = new }
  filled_by_header = record {
    slot = refl;
    probe = refl;
    image = is_image;
    registers = λ r listed. (let end = (is_register f r listed).high in
        same_bytes new image r.0 r.1 (λ place from to. low place (omega (arith, end, to))) ∙ filled.registers r listed);
    command_is = same_bytes new image 4 2 (λ place from to. low place (omega (arith, to))) ∙ filled.command_is;
    others = λ place inside none other. elim (cases_lt place 64) [
      | inl less ↦ low place less ∙ filled.others place inside none other
      | inr from ↦ high place from
    ];
  }

pub zip_push : {A B : Type 0} (R : A → B → Type 0) (xs : List A) (ys : List B) (x : A) (y : B) → AllZip R xs ys → R x y → AllZip R (xs ++ x ∷ []) (ys ++ y ∷ [])
zip_push R [] [] x y zip one = (one, tt)
zip_push R [] (b ∷ ys) x y zip one = absurd zip
zip_push R (a ∷ xs) [] x y zip one = absurd zip
zip_push R (a ∷ xs) (b ∷ ys) x y zip one = (zip.0, zip_push R xs ys x y zip.1 one)

-- what stands beside an element
pub beside : {A B : Type 0} (R : A → B → Type 0) (xs : List A) (ys : List B) (i : ℕ) (x : A) (y : B) → AllZip R xs ys → slice_get xs i ≡ Some x → slice_get ys i ≡ Some y → R x y
beside R [] ys i x y zip at_x at_y = cc
beside R (a ∷ xs) [] i x y zip at_x at_y = absurd zip
beside R (a ∷ xs) (b ∷ ys) zero x y zip at_x at_y =
    let first : a ≡ x = cc in
    let second : b ≡ y = cc in
    subst (λ q. R x q) second (subst (λ p. R p b) first zip.0)
beside R (a ∷ xs) (b ∷ ys) (suc i) x y zip at_x at_y = beside R xs ys i x y zip.1 at_x at_y

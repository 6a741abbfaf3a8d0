-- The bytes of a bridge's windows: which are whose, and what they show once bounds are put there.
use Rattle.std.proofs.Common.{◌≡◌, ℕ, ◌+◌, ◌-◌, ◌%◌, ◌<◌, ◌≤◌, ◌⊎◌, inl, inr, List, refl, arith, ◌∙◌}
use Rattle.std.proofs.lemmas.Bool.{cases_lt}
use Rattle.pci_spec.specs.Number.{byte_at, number_at, IsImage}
use Rattle.pci_spec.specs.System.{Function}
use Rattle.pci_spec.specs.Window.{WindowKind, IoWindow, MemoryWindow, PrefetchWindow, Bounds, bounds_at, page_size}
use Rattle.plan_spec.proofs.Planning.WindowFits.{PartsFit}
use Rattle.judge_spec.specs.Windows.{with_number, with_bounds}
use Rattle.settle_laws.proofs.Images.{same_number}
use Rattle.settle_laws.proofs.Numbers.{with_elsewhere, with_image}
use Rattle.settle_laws.proofs.NumbersPut.{reads_one, reads_two, reads_four}

-- the size of whole pages is one of them
pub size_whole : (c : WindowKind) (first last : ℕ) → first ≤ last → first % page_size c ≡ 0 → (last + 1) % page_size c ≡ 0 → (last + 1 - first) % page_size c ≡ 0
size_whole IoWindow first last forward from to = omega (arith, forward, from, to)
size_whole MemoryWindow first last forward from to = omega (arith, forward, from, to)
size_whole PrefetchWindow first last forward from to = omega (arith, forward, from, to)

-- a byte of a window's registers
abbrev pub IsOf : WindowKind → ℕ → Type 0
IsOf IoWindow place = ((0x1c ≤ place) × (place < 0x1e)) ⊎ ((0x30 ≤ place) × (place < 0x34))
IsOf MemoryWindow place = (0x20 ≤ place) × (place < 0x24)
IsOf PrefetchWindow place = (0x24 ≤ place) × (place < 0x30)

-- no byte is of two windows
pub one_window : (c d : WindowKind) (place : ℕ) → IsOf c place → IsOf d place → c ≡ d
one_window IoWindow IoWindow place is_c is_d = refl
one_window IoWindow MemoryWindow place (inl (a, b)) (x, y) = absurd (let no : ⊥ = omega (arith, b, x) in no)
one_window IoWindow MemoryWindow place (inr (a, b)) (x, y) = absurd (let no : ⊥ = omega (arith, a, y) in no)
one_window IoWindow PrefetchWindow place (inl (a, b)) (x, y) = absurd (let no : ⊥ = omega (arith, b, x) in no)
one_window IoWindow PrefetchWindow place (inr (a, b)) (x, y) = absurd (let no : ⊥ = omega (arith, a, y) in no)
one_window MemoryWindow IoWindow place (x, y) (inl (a, b)) = absurd (let no : ⊥ = omega (arith, b, x) in no)
one_window MemoryWindow IoWindow place (x, y) (inr (a, b)) = absurd (let no : ⊥ = omega (arith, a, y) in no)
one_window MemoryWindow MemoryWindow place is_c is_d = refl
one_window MemoryWindow PrefetchWindow place (x, y) (a, b) = absurd (let no : ⊥ = omega (arith, a, y) in no)
one_window PrefetchWindow IoWindow place (x, y) (inl (a, b)) = absurd (let no : ⊥ = omega (arith, b, x) in no)
one_window PrefetchWindow IoWindow place (x, y) (inr (a, b)) = absurd (let no : ⊥ = omega (arith, a, y) in no)
one_window PrefetchWindow MemoryWindow place (x, y) (a, b) = absurd (let no : ⊥ = omega (arith, x, b) in no)
one_window PrefetchWindow PrefetchWindow place is_c is_d = refl

pub window_bytes : (c : WindowKind) (place : ℕ) → IsOf c place → (0x1c ≤ place) × (place < 0x34)
window_bytes IoWindow place (inl (a, b)) = (a, omega (arith, b))
window_bytes IoWindow place (inr (a, b)) = (omega (arith, a), b)
window_bytes MemoryWindow place (a, b) = (omega (arith, a), omega (arith, b))
window_bytes PrefetchWindow place (a, b) = (omega (arith, a), omega (arith, b))

out_of : (o w place : ℕ) → ((o ≤ place) → (place < o + w) → ⊥) → (place < o) ⊎ (o + w ≤ place)
out_of o w place out = elim (cases_lt place o) [
  | inl low ↦ inl low
  | inr from ↦ elim (cases_lt place (o + w)) [
    | inl to ↦ absurd (out from to)
    | inr past ↦ inr past
  ]
]

-- bounds are put there and nowhere else
pub bounds_elsewhere : (c : WindowKind) (v : Bounds) (image : List ℕ) (place : ℕ) → (IsOf c place → ⊥) → byte_at (with_bounds c v image) place ≡ byte_at image place
bounds_elsewhere IoWindow v image place out =
    with_elsewhere 2 0x32 v.limit_upper place _ (out_of 0x32 2 place (λ a b. out (inr (omega (arith, a), omega (arith, b)))))
    ∙ with_elsewhere 2 0x30 v.base_upper place _ (out_of 0x30 2 place (λ a b. out (inr (omega (arith, a), omega (arith, b)))))
    ∙ with_elsewhere 1 0x1d v.limit place _ (out_of 0x1d 1 place (λ a b. out (inl (omega (arith, a), omega (arith, b)))))
    ∙ with_elsewhere 1 0x1c v.base place _ (out_of 0x1c 1 place (λ a b. out (inl (omega (arith, a), omega (arith, b)))))
bounds_elsewhere MemoryWindow v image place out =
    with_elsewhere 2 0x22 v.limit place _ (out_of 0x22 2 place (λ a b. out (omega (arith, a), omega (arith, b))))
    ∙ with_elsewhere 2 0x20 v.base place _ (out_of 0x20 2 place (λ a b. out (omega (arith, a), omega (arith, b))))
bounds_elsewhere PrefetchWindow v image place out =
    with_elsewhere 4 0x2c v.limit_upper place _ (out_of 0x2c 4 place (λ a b. out (omega (arith, a), omega (arith, b))))
    ∙ with_elsewhere 4 0x28 v.base_upper place _ (out_of 0x28 4 place (λ a b. out (omega (arith, a), omega (arith, b))))
    ∙ with_elsewhere 2 0x26 v.limit place _ (out_of 0x26 2 place (λ a b. out (omega (arith, a), omega (arith, b))))
    ∙ with_elsewhere 2 0x24 v.base place _ (out_of 0x24 2 place (λ a b. out (omega (arith, a), omega (arith, b))))

-- a window's bounds are told by its bytes
pub bounds_by_bytes : (c : WindowKind) (a b : List ℕ) → ((place : ℕ) → IsOf c place → byte_at a place ≡ byte_at b place) → bounds_at c a ≡ bounds_at c b
bounds_by_bytes IoWindow a b same = λ i. record {
  base = same 0x1c (inl (omega arith, omega arith)) i;
  limit = same 0x1d (inl (omega arith, omega arith)) i;
  base_upper = same_number a b 0x30 2 (λ j less. same (0x30 + j) (inr (omega arith, omega (arith, less)))) i;
  limit_upper = same_number a b 0x32 2 (λ j less. same (0x32 + j) (inr (omega arith, omega (arith, less)))) i;
}
bounds_by_bytes MemoryWindow a b same = λ i. record {
  base = same_number a b 0x20 2 (λ j less. same (0x20 + j) (omega arith, omega (arith, less))) i;
  limit = same_number a b 0x22 2 (λ j less. same (0x22 + j) (omega arith, omega (arith, less))) i;
  base_upper = 0;
  limit_upper = 0;
}
bounds_by_bytes PrefetchWindow a b same = λ i. record {
  base = same_number a b 0x24 2 (λ j less. same (0x24 + j) (omega arith, omega (arith, less))) i;
  limit = same_number a b 0x26 2 (λ j less. same (0x26 + j) (omega arith, omega (arith, less))) i;
  base_upper = same_number a b 0x28 4 (λ j less. same (0x28 + j) (omega arith, omega (arith, less))) i;
  limit_upper = same_number a b 0x2c 4 (λ j less. same (0x2c + j) (omega arith, omega (arith, less))) i;
}

-- ---- what is put there is shown

pub number_elsewhere : (w o v p n : ℕ) (image : List ℕ) → (p + n ≤ o) ⊎ (o + w ≤ p) → number_at (with_number w o v image) p n ≡ number_at image p n
number_elsewhere w o v p n image apart = same_number (with_number w o v image) image p n (λ j less. with_elsewhere w o v (p + j) image (elim apart [ inl low ↦ inl (omega (arith, low, less)) | inr high ↦ inr (omega (arith, high)) ]))

four_same : (v : Bounds) (base limit base_upper limit_upper : ℕ) → base ≡ v.base → limit ≡ v.limit → base_upper ≡ v.base_upper → limit_upper ≡ v.limit_upper
    → ◌≡◌ {A = Bounds} (record { base = base; limit = limit; base_upper = base_upper; limit_upper = limit_upper }) v
four_same v base limit base_upper limit_upper a b c d = λ i. record { base = a i; limit = b i; base_upper = c i; limit_upper = d i }

pub bounds_shown : (f : Function) (c : WindowKind) (v : Bounds) → PartsFit f c v → (image : List ℕ) → IsImage image → bounds_at c (with_bounds c v image) ≡ v
bounds_shown f IoWindow v fit image is =
    let a = with_number 1 0x1c v.base image in
    let b = with_number 1 0x1d v.limit a in
    let c = with_number 2 0x30 v.base_upper b in
    let is_a = with_image 1 0x1c v.base image is in
    let is_b = with_image 1 0x1d v.limit a is_a in
    let is_c = with_image 2 0x30 v.base_upper b is_b in
    let full = is.full in
    let full_a = is_a.full in
    let full_b = is_b.full in
    let full_c = is_c.full in
    four_same v (byte_at (with_number 2 0x32 v.limit_upper c) 0x1c) (byte_at (with_number 2 0x32 v.limit_upper c) 0x1d) (number_at (with_number 2 0x32 v.limit_upper c) 0x30 2) (number_at (with_number 2 0x32 v.limit_upper c) 0x32 2)
    (with_elsewhere 2 0x32 v.limit_upper 0x1c c (inl (omega arith)) ∙ with_elsewhere 2 0x30 v.base_upper 0x1c b (inl (omega arith)) ∙ with_elsewhere 1 0x1d v.limit 0x1c a (inl (omega arith)) ∙ reads_one 0x1c v.base image (omega (arith, full)) fit.base_small)
    (with_elsewhere 2 0x32 v.limit_upper 0x1d c (inl (omega arith)) ∙ with_elsewhere 2 0x30 v.base_upper 0x1d b (inl (omega arith)) ∙ reads_one 0x1d v.limit a (omega (arith, full_a)) fit.limit_small)
    (number_elsewhere 2 0x32 v.limit_upper 0x30 2 c (inl (omega arith)) ∙ reads_two 0x30 v.base_upper b (omega (arith, full_b)) fit.base_upper_small)
    (reads_two 0x32 v.limit_upper c (omega (arith, full_c)) fit.limit_upper_small)
bounds_shown f MemoryWindow v fit image is =
    let a = with_number 2 0x20 v.base image in
    let is_a = with_image 2 0x20 v.base image is in
    let full = is.full in
    let full_a = is_a.full in
    let none = fit.base_upper_small in
    let none_either = fit.limit_upper_small in
    four_same v (number_at (with_number 2 0x22 v.limit a) 0x20 2) (number_at (with_number 2 0x22 v.limit a) 0x22 2) 0 0
    (number_elsewhere 2 0x22 v.limit 0x20 2 a (inl (omega arith)) ∙ reads_two 0x20 v.base image (omega (arith, full)) fit.base_small)
    (reads_two 0x22 v.limit a (omega (arith, full_a)) fit.limit_small)
    (omega (arith, none)) (omega (arith, none_either))
bounds_shown f PrefetchWindow v fit image is =
    let a = with_number 2 0x24 v.base image in
    let b = with_number 2 0x26 v.limit a in
    let c = with_number 4 0x28 v.base_upper b in
    let is_a = with_image 2 0x24 v.base image is in
    let is_b = with_image 2 0x26 v.limit a is_a in
    let is_c = with_image 4 0x28 v.base_upper b is_b in
    let full = is.full in
    let full_a = is_a.full in
    let full_b = is_b.full in
    let full_c = is_c.full in
    four_same v (number_at (with_number 4 0x2c v.limit_upper c) 0x24 2) (number_at (with_number 4 0x2c v.limit_upper c) 0x26 2) (number_at (with_number 4 0x2c v.limit_upper c) 0x28 4) (number_at (with_number 4 0x2c v.limit_upper c) 0x2c 4)
    (number_elsewhere 4 0x2c v.limit_upper 0x24 2 c (inl (omega arith)) ∙ number_elsewhere 4 0x28 v.base_upper 0x24 2 b (inl (omega arith)) ∙ number_elsewhere 2 0x26 v.limit 0x24 2 a (inl (omega arith)) ∙ reads_two 0x24 v.base image (omega (arith, full)) fit.base_small)
    (number_elsewhere 4 0x2c v.limit_upper 0x26 2 c (inl (omega arith)) ∙ number_elsewhere 4 0x28 v.base_upper 0x26 2 b (inl (omega arith)) ∙ reads_two 0x26 v.limit a (omega (arith, full_a)) fit.limit_small)
    (number_elsewhere 4 0x2c v.limit_upper 0x28 4 c (inl (omega arith)) ∙ reads_four 0x28 v.base_upper b (omega (arith, full_b)) fit.base_upper_small)
    (reads_four 0x2c v.limit_upper c (omega (arith, full_c)) fit.limit_upper_small)

-- Registers with the right numbers show the range that was planned.
use Rattle.std.proofs.Common.{◌≡◌, ℕ, ◌+◌, ◌*◌, ◌/◌, ◌%◌, ◌-◌, ◌^◌, ◌<◌, ◌≤◌, false, not, arith, sym, ◌∙◌, ap, inl, inr}
use Rattle.std.specs.Bool.{nat_le}
use Rattle.std.proofs.lemmas.Bool.{le-leb, cases_lt}
use Rattle.std.proofs.lemmas.Nat.{div-add-mod', mod_below}
use Rattle.std.proofs.Math.Nat.{mul-le-mul_right}
use Rattle.pci_spec.specs.Window.{WindowKind, IoWindow, MemoryWindow, PrefetchWindow, Bounds, bounds_at, base_page, limit_page, page_size, lower_pages, is_closed, bounds_for}
use Rattle.pci_spec.specs.Decoded.{aligned_range}
use Rattle.pci_spec.specs.System.{Function, Window}
use Rattle.plan_spec.specs.Planning.Layout.{range_of}
use Rattle.plan_spec.proofs.Planning.Placement.{multiple_of_mod}

-- ---- BARs and ROMs: an aligned first address, and the encoding or enable bit below the size

quotient_same : (q low size : ℕ) → 0 < size → low < size → (q * size + low) / size ≡ q
quotient_same q low size pos less =
    let d = div-add-mod' (q * size + low) size in
    let m = mod_below (q * size + low) size pos in
    let r = (q * size + low) / size in
    elim (cases_lt r q) [
      | inl under ↦ (let step = mul-le-mul_right size under in absurd (let impossible : ⊥ = omega (arith, d, m, step) in impossible))
      | inr up ↦ elim (cases_lt q r) [
        | inl over ↦ (let step = mul-le-mul_right size over in absurd (let impossible : ⊥ = omega (arith, d, step, less) in impossible))
        | inr same ↦ omega (arith, up, same)
      ]
    ]

pub aligned_shows : (first low size : ℕ) → 0 < size → first % size ≡ 0 → low < size → aligned_range (first + low) size ≡ record { first = first; last = first + (size - 1) }
aligned_shows first low size pos aligned less =
    let k = multiple_of_mod first size aligned in
    let q = k.0 in
    let whole : (first + low) / size ≡ q = ap (λ f. (f + low) / size) k.1 ∙ quotient_same q low size pos less in
    let at : (first + low) / size * size ≡ first = ap (λ x. x * size) whole ∙ sym k.1 in
    ap (λ (f : ℕ). record { first = f; last = f + (size - 1) }) at

-- ---- windows

-- the pages that the numbers stand for
pages_of_io : (n first last : ℕ) → n ≤ 1 → (first / 2 ^ 16 * 16 + (first / 2 ^ 12 % 16 * 16 + n) / 16 ≡ first / 2 ^ 12) × (last / 2 ^ 16 * 16 + (last / 2 ^ 12 % 16 * 16 + n) / 16 ≡ last / 2 ^ 12)
pages_of_io n first last small = (omega (arith, small), omega (arith, small))

pages_of_memory : (n first last : ℕ) → n ≤ 1 → (0 * 4096 + (first / 2 ^ 20 * 16 + n) / 16 ≡ first / 2 ^ 20) × (0 * 4096 + (last / 2 ^ 20 * 16 + n) / 16 ≡ last / 2 ^ 20)
pages_of_memory n first last small = (omega (arith, small), omega (arith, small))

pages_of_prefetch : (n first last : ℕ) → n ≤ 1 → (first / 2 ^ 32 * 4096 + (first / 2 ^ 20 % 4096 * 16 + n) / 16 ≡ first / 2 ^ 20) × (last / 2 ^ 32 * 4096 + (last / 2 ^ 20 % 4096 * 16 + n) / 16 ≡ last / 2 ^ 20)
pages_of_prefetch n first last small = (omega (arith, small), omega (arith, small))

pub pages_for : (kind : WindowKind) (n first last : ℕ) → n ≤ 1
    → ((bounds_for kind n first last).base_upper * lower_pages kind + (bounds_for kind n first last).base / 16 ≡ first / page_size kind)
    × ((bounds_for kind n first last).limit_upper * lower_pages kind + (bounds_for kind n first last).limit / 16 ≡ last / page_size kind)
pages_for IoWindow n first last small = pages_of_io n first last small
pages_for MemoryWindow n first last small = pages_of_memory n first last small
pages_for PrefetchWindow n first last small = pages_of_prefetch n first last small

whole_pages : (kind : WindowKind) (first size : ℕ) → 0 < size → first % page_size kind ≡ 0 → size % page_size kind ≡ 0
    → (first / page_size kind * page_size kind ≡ first) × ((first + (size - 1)) / page_size kind * page_size kind + (page_size kind - 1) ≡ first + (size - 1))
    × (first / page_size kind ≤ (first + (size - 1)) / page_size kind)
whole_pages IoWindow first size pos a b = (omega (arith, a), omega (arith, a, b, pos), omega (arith, a, b, pos))
whole_pages MemoryWindow first size pos a b = (omega (arith, a), omega (arith, a, b, pos), omega (arith, a, b, pos))
whole_pages PrefetchWindow first size pos a b = (omega (arith, a), omega (arith, a, b, pos), omega (arith, a, b, pos))

-- a window whose registers hold these numbers is open, from first to last
pub window_shows : (f : Function) (kind : WindowKind) (n first size : ℕ) → n ≤ 1 → 0 < size → first % page_size kind ≡ 0 → size % page_size kind ≡ 0
    → bounds_at kind f.image ≡ bounds_for kind n first (first + (size - 1))
    → (range_of f (Window kind) ≡ record { first = first; last = first + (size - 1) }) × (is_closed kind f.image ≡ false)
window_shows f kind n first size small pos aligned whole shown =
    let last = first + (size - 1) in
    let pages = pages_for kind n first last small in
    let exact = whole_pages kind first size pos aligned whole in
    let base : base_page kind f.image ≡ first / page_size kind = ap (λ (b : Bounds). b.base_upper * lower_pages kind + b.base / 16) shown ∙ pages.0 in
    let limit : limit_page kind f.image ≡ last / page_size kind = ap (λ (b : Bounds). b.limit_upper * lower_pages kind + b.limit / 16) shown ∙ pages.1 in (
      ap (λ p. record { first = p * page_size kind; last = limit_page kind f.image * page_size kind + (page_size kind - 1) }) base
          ∙ ap (λ (p : ℕ). record { first = p; last = limit_page kind f.image * page_size kind + (page_size kind - 1) }) exact.0
          ∙ ap (λ p. record { first = first; last = p * page_size kind + (page_size kind - 1) }) limit
          ∙ ap (λ (p : ℕ). record { first = first; last = p }) exact.1,
      ap (λ p. not (nat_le p (limit_page kind f.image))) base ∙ ap (λ p. not (nat_le (first / page_size kind) p)) limit ∙ ap not (le-leb (first / page_size kind) (last / page_size kind) exact.2),
    )

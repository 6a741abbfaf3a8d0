-- The registers of a window, byte by byte, and what stays of them once it is shut.
use Rattle.std.proofs.Common.{◌≡◌, ℕ, zero, suc, ◌+◌, ◌*◌, ◌%◌, ◌^◌, ◌<◌, ◌≤◌, inl, inr, [], ◌∷◌, false, arith, sym, ◌∙◌, ap, subst}
use Rattle.std.specs.Bool.{◌==◌}
use Rattle.std.specs.List.{Contains}
use Rattle.std.proofs.lemmas.Bool.{and_parts, both_ways, eqb-true}
use Rattle.pci_spec.specs.Number.{IsImage}
use Rattle.pci_spec.specs.Window.{WindowKind, IoWindow, MemoryWindow, PrefetchWindow, bounds_at, page_bits, upper_bits}
use Rattle.pci_spec.specs.System.{Function, Window}
use Rattle.pci_spec.proofs.Members.{in_nil, in_cons_cases}
use Rattle.pci_spec.proofs.ReadBacks.{IsLawful}
use Rattle.plan_spec.specs.Plan.{same_class}
use Rattle.plan_spec.proofs.Planning.Registers.{number_below}
use Rattle.plan_spec.proofs.Planning.Tables.{class_itself}
use Rattle.plan_spec.proofs.Planning.WindowFits.{page_bytes}
use Rattle.settle_spec.specs.Writes.{part_registers}
use Rattle.settle_laws.proofs.WindowBytes.{IsOf}

pub no_kind : (c d : WindowKind) → c ≡ d → same_class c d ≡ false → ⊥
no_kind c d e differ = both_ways (same_class c d) differ (ap (same_class c) (sym e) ∙ class_itself c)

-- the bytes of a window's registers are the window's
pub register_bytes : (f : Function) (c : WindowKind) (r : ℕ × ℕ) → Contains (part_registers f (Window c)) r → (j : ℕ) → j < r.1 → IsOf c (r.0 + j)
register_bytes f IoWindow r has j less = elim (in_cons_cases (0x1c, 2) ((0x30, 4) ∷ []) r has) [
  | inl first ↦ subst (λ (x : ℕ × ℕ). (k : ℕ) → k < x.1 → IsOf IoWindow (x.0 + k)) first (λ k small. inl (omega arith, omega (arith, small))) j less
  | inr rest ↦ elim (in_cons_cases (0x30, 4) [] r rest) [
    | inl second ↦ subst (λ (x : ℕ × ℕ). (k : ℕ) → k < x.1 → IsOf IoWindow (x.0 + k)) second (λ k small. inr (omega arith, omega (arith, small))) j less
    | inr none ↦ absurd (in_nil r none)
  ]
]
register_bytes f MemoryWindow r has j less = elim (in_cons_cases (0x20, 4) [] r has) [
  | inl first ↦ subst (λ (x : ℕ × ℕ). (k : ℕ) → k < x.1 → IsOf MemoryWindow (x.0 + k)) first (λ k small. (omega arith, omega (arith, small))) j less
  | inr none ↦ absurd (in_nil r none)
]
register_bytes f PrefetchWindow r has j less = elim (in_cons_cases (0x24, 4) ((0x28, 4) ∷ (0x2c, 4) ∷ []) r has) [
  | inl first ↦ subst (λ (x : ℕ × ℕ). (k : ℕ) → k < x.1 → IsOf PrefetchWindow (x.0 + k)) first (λ k small. (omega arith, omega (arith, small))) j less
  | inr more ↦ elim (in_cons_cases (0x28, 4) ((0x2c, 4) ∷ []) r more) [
    | inl second ↦ subst (λ (x : ℕ × ℕ). (k : ℕ) → k < x.1 → IsOf PrefetchWindow (x.0 + k)) second (λ k small. (omega arith, omega (arith, small))) j less
    | inr rest ↦ elim (in_cons_cases (0x2c, 4) [] r rest) [
      | inl third ↦ subst (λ (x : ℕ × ℕ). (k : ℕ) → k < x.1 → IsOf PrefetchWindow (x.0 + k)) third (λ k small. (omega arith, omega (arith, small))) j less
      | inr none ↦ absurd (in_nil r none)
    ]
  ]
]

-- the lower halves of a closed window have its low nibble, and fit
pub record AreLow (c : WindowKind) (n : ℕ) : Type 0 where
  pub nibble : (page_bits c + n) % 16 ≡ n
  pub itself : n % 16 ≡ n
  pub base : page_bits c + n < 2 ^ (8 * page_bytes c)
  pub limit : n < 2 ^ (8 * page_bytes c)

pub are_low : (c : WindowKind) (n : ℕ) → n ≤ 1 → AreLow c n
are_low IoWindow n few = record { nibble = omega (arith, few); itself = omega (arith, few); base = omega (arith, few); limit = omega (arith, few) }
are_low MemoryWindow n few = record { nibble = omega (arith, few); itself = omega (arith, few); base = omega (arith, few); limit = omega (arith, few) }
are_low PrefetchWindow n few = record { nibble = omega (arith, few); itself = omega (arith, few); base = omega (arith, few); limit = omega (arith, few) }

-- upper halves are within the bits that are there
pub upper_kept : (f : Function) → IsImage f.image → (c : WindowKind) (n : ℕ) → n ≤ 1 → IsLawful c n (bounds_at c f.image) (bounds_at c f.probe)
    → ((bounds_at c f.image).base_upper ≤ n * upper_bits c) × ((bounds_at c f.image).limit_upper ≤ n * upper_bits c)
upper_kept f is c zero few lawful =
    let b = bounds_at c f.image in
    let parts = and_parts (b.base_upper == 0) (b.limit_upper == 0) lawful.uppers in
    let base = eqb-true b.base_upper 0 parts.0 in
    let limit = eqb-true b.limit_upper 0 parts.1 in
    (omega (arith, base), omega (arith, limit))
upper_kept f is IoWindow (suc zero) few lawful = (let base = number_below f.image 0x30 is 2 in omega (arith, base), let limit = number_below f.image 0x32 is 2 in omega (arith, limit))
upper_kept f is MemoryWindow (suc zero) few lawful = (omega arith, omega arith)
upper_kept f is PrefetchWindow (suc zero) few lawful = (let base = number_below f.image 0x28 is 4 in omega (arith, base), let limit = number_below f.image 0x2c is 4 in omega (arith, limit))
upper_kept f is c (suc (suc n)) few lawful = absurd (let no : ⊥ = omega (arith, few) in no)

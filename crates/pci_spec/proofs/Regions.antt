-- Regions: a register names one part of a function, and regions are ordered by slot and register.
use Rattle.std.proofs.Common.{◌≡◌, ℕ, ◌<◌, ◌≤◌, ◌⊎◌, inl, inr, List, ◌∷◌, ◌++◌, refl, true, ◌&&◌, arith, sym, ap, lit<}
use Rattle.std.specs.Bool.{IsTrue, nat_lt, ◌==◌}
use Rattle.std.proofs.lemmas.Bool.{and_parts, or_cases, ltb-true, eqb-true, cases_eq, cond-true, cond_both}
use Rattle.pci_spec.specs.Slot.{Slot, IsSlot, slot_number}
use Rattle.pci_spec.specs.Header.{layout, bar_count, bar_register, rom_register}
use Rattle.pci_spec.specs.Window.{WindowKind, IoWindow, MemoryWindow, PrefetchWindow, window_register}
use Rattle.pci_spec.specs.System.{Function, Part, Bar, Rom, Window, has_part, register_of}
use Rattle.pci_spec.specs.Order.{precedes, slot_key}
use Rattle.pci_spec.specs.JudgingLaws.{region_number}

-- ---- registers of parts

pub bar_count-le : (kind : ℕ) → bar_count kind ≤ 6
bar_count-le kind = cond_both (kind == 1) 2 6 (λ n. n ≤ 6) (λ e. omega arith) (λ e. omega arith)

rom_register-lt : (kind : ℕ) → rom_register kind < 64
rom_register-lt kind = cond_both (kind == 1) 0x38 0x30 (λ n. n < 64) (λ e. omega arith) (λ e. omega arith)

rom_register-ge : (kind : ℕ) → 0x30 ≤ rom_register kind
rom_register-ge kind = cond_both (kind == 1) 0x38 0x30 (λ n. 0x30 ≤ n) (λ e. omega arith) (λ e. omega arith)

window_register-lt : (kind : WindowKind) → window_register kind < 0x28
window_register-lt IoWindow = lit< tt
window_register-lt MemoryWindow = lit< tt
window_register-lt PrefetchWindow = lit< tt

window_register-ge : (kind : WindowKind) → 0x18 ≤ window_register kind
window_register-ge IoWindow = omega arith
window_register-ge MemoryWindow = omega arith
window_register-ge PrefetchWindow = omega arith

-- the registers of a header stand below offset 40h
pub register_of-lt : (f : Function) (part : Part) → IsTrue (has_part f part) → register_of f part < 64
register_of-lt f (Bar n) there = let less = ltb-true n (bar_count (layout f.image)) there in let most = bar_count-le (layout f.image) in omega (arith, less, most)
register_of-lt f Rom there = rom_register-lt (layout f.image)
register_of-lt f (Window kind) there = let less = window_register-lt kind in omega (arith, less)

window_same : (k l : WindowKind) → window_register k ≡ window_register l → k ≡ l
window_same IoWindow IoWindow e = refl
window_same IoWindow MemoryWindow e = absurd (let no : ⊥ = omega (arith, e) in no)
window_same IoWindow PrefetchWindow e = absurd (let no : ⊥ = omega (arith, e) in no)
window_same MemoryWindow IoWindow e = absurd (let no : ⊥ = omega (arith, e) in no)
window_same MemoryWindow MemoryWindow e = refl
window_same MemoryWindow PrefetchWindow e = absurd (let no : ⊥ = omega (arith, e) in no)
window_same PrefetchWindow IoWindow e = absurd (let no : ⊥ = omega (arith, e) in no)
window_same PrefetchWindow MemoryWindow e = absurd (let no : ⊥ = omega (arith, e) in no)
window_same PrefetchWindow PrefetchWindow e = refl

bar_rom : (f : Function) (n : ℕ) → IsTrue (has_part f (Bar n)) → bar_register n ≡ rom_register (layout f.image) → ⊥
bar_rom f n there e =
    let less = ltb-true n (bar_count (layout f.image)) there in
    let most = bar_count-le (layout f.image) in
    let least = rom_register-ge (layout f.image) in omega (arith, less, most, least, e)

bar_window : (f : Function) (n : ℕ) (kind : WindowKind) → IsTrue (has_part f (Bar n)) → layout f.image == 1 ≡ true → bar_register n ≡ window_register kind → ⊥
bar_window f n kind there bridge e =
    let less = ltb-true n (bar_count (layout f.image)) there in
    let two : bar_count (layout f.image) ≡ 2 = cond-true (layout f.image == 1) 2 6 bridge in
    let least = window_register-ge kind in omega (arith, less, two, least, e)

rom_window : (f : Function) (kind : WindowKind) → rom_register (layout f.image) ≡ window_register kind → ⊥
rom_window f kind e =
    let least = rom_register-ge (layout f.image) in
    let most = window_register-lt kind in omega (arith, least, most, e)

-- two parts of a function with one register are one part
pub part_same : (f : Function) (p q : Part) → IsTrue (has_part f p) → IsTrue (has_part f q) → register_of f p ≡ register_of f q → p ≡ q
part_same f (Bar n) (Bar m) hp hq e = ap Bar (let same : n ≡ m = omega (arith, e) in same)
part_same f (Bar n) Rom hp hq e = absurd (bar_rom f n hp e)
part_same f (Bar n) (Window k) hp hq e = absurd (bar_window f n k hp hq e)
part_same f Rom (Bar m) hp hq e = absurd (bar_rom f m hq (sym e))
part_same f Rom Rom hp hq e = refl
part_same f Rom (Window k) hp hq e = absurd (rom_window f k e)
part_same f (Window k) (Bar m) hp hq e = absurd (bar_window f m k hq hp (sym e))
part_same f (Window k) Rom hp hq e = absurd (rom_window f k (sym e))
part_same f (Window k) (Window l) hp hq e = ap Window (window_same k l e)

-- ---- slots

pub slot_from : (s t : Slot) → s.bus ≡ t.bus → s.device ≡ t.device → s.function ≡ t.function → s ≡ t
slot_from s t bus device function = λ i. record { bus = bus i; device = device i; function = function i }

-- a slot's number is its own
pub slot_number-same : (s t : Slot) → IsSlot s → IsSlot t → slot_number s ≡ slot_number t → s ≡ t
slot_number-same s t hs ht e =
    slot_from s t (let b : s.bus ≡ t.bus = omega (arith, e, hs, ht) in b) (let d : s.device ≡ t.device = omega (arith, e, hs, ht) in d)
    (let f : s.function ≡ t.function = omega (arith, e, hs, ht) in f)

-- slots and registers are the same or differ
pub region_decided : (s t : Slot) (r q : ℕ) → ((s ≡ t) × (r ≡ q)) ⊎ ((s ≡ t) × (r ≡ q) → ⊥)
region_decided s t r q = elim (cases_eq s.bus t.bus) [
  | inr differ ↦ inr (λ (same : (s ≡ t) × (r ≡ q)). differ (ap (λ (x : Slot). x.bus) same.0))
  | inl bus ↦ elim (cases_eq s.device t.device) [
    | inr differ ↦ inr (λ (same : (s ≡ t) × (r ≡ q)). differ (ap (λ (x : Slot). x.device) same.0))
    | inl device ↦ elim (cases_eq s.function t.function) [
      | inr differ ↦ inr (λ (same : (s ≡ t) × (r ≡ q)). differ (ap (λ (x : Slot). x.function) same.0))
      | inl function ↦ elim (cases_eq r q) [
        | inr differ ↦ inr (λ (same : (s ≡ t) × (r ≡ q)). differ same.1)
        | inl register ↦ inl (slot_from s t bus device function, register)
      ]
    ]
  ]
]

-- ---- keys

-- where a list precedes another, it has a lower number in front, or the same and its rest precedes
pub precedes-cases : (x y : ℕ) (xs ys : List ℕ) → precedes (x ∷ xs) (y ∷ ys) ≡ true → (x < y) ⊎ ((x ≡ y) × (precedes xs ys ≡ true))
precedes-cases x y xs ys h = elim (or_cases (nat_lt x y) (x == y && precedes xs ys) h) [
  | inl less ↦ inl (ltb-true x y less)
  | inr same ↦ (let parts = and_parts (x == y) (precedes xs ys) same in inr (eqb-true x y parts.0, parts.1))
]

-- a slot in front of two keys
pub precedes-slot : (s t : Slot) (xs ys : List ℕ) → IsSlot s → IsSlot t → precedes (slot_key s ++ xs) (slot_key t ++ ys) ≡ true
    → (slot_number s < slot_number t) ⊎ ((s ≡ t) × (precedes xs ys ≡ true))
precedes-slot s t xs ys hs ht h = elim (precedes-cases s.bus t.bus (s.device ∷ s.function ∷ xs) (t.device ∷ t.function ∷ ys) h) [
  | inl less ↦ inl (omega (arith, less, hs, ht))
  | inr (bus, h1) ↦ elim (precedes-cases s.device t.device (s.function ∷ xs) (t.function ∷ ys) h1) [
    | inl less ↦ inl (omega (arith, bus, less, hs, ht))
    | inr (device, h2) ↦ elim (precedes-cases s.function t.function xs ys h2) [
      | inl less ↦ inl (omega (arith, bus, device, less, hs, ht))
      | inr (function, h3) ↦ inr (slot_from s t bus device function, h3)
    ]
  ]
]

-- a slot and a register in front of two keys
pub precedes-region : (s t : Slot) (r q : ℕ) (xs ys : List ℕ) → IsSlot s → IsSlot t → r < 256 → q < 256
    → precedes (slot_key s ++ r ∷ xs) (slot_key t ++ q ∷ ys) ≡ true
    → (region_number s r < region_number t q) ⊎ ((s ≡ t) × (r ≡ q) × (precedes xs ys ≡ true))
precedes-region s t r q xs ys hs ht hr hq h = elim (precedes-slot s t (r ∷ xs) (q ∷ ys) hs ht h) [
  | inl less ↦ inl (omega (arith, less, hr, hq))
  | inr (slot, later) ↦ elim (precedes-cases r q xs ys later) [
    | inl less ↦ inl (let e = ap slot_number slot in omega (arith, e, less))
    | inr (register, rest) ↦ inr (slot, register, rest)
  ]
]

-- the number of a region is its own
pub region_number-same : (s t : Slot) (r q : ℕ) → IsSlot s → IsSlot t → r < 256 → q < 256 → region_number s r ≡ region_number t q → (s ≡ t) × (r ≡ q)
region_number-same s t r q hs ht hr hq e = (
  slot_number-same s t hs ht (let numbers : slot_number s ≡ slot_number t = omega (arith, e, hr, hq) in numbers),
  (let registers : r ≡ q = omega (arith, e, hr, hq) in registers),
)

-- A window holds addresses that its registers can show.
use Rattle.std.proofs.Common.{◌≡◌, ℕ, ◌+◌, ◌-◌, ◌*◌, ◌%◌, ◌≤◌, inl, inr, List, refl, true, false, ◌&&◌, arith}
use Rattle.std.specs.Prelude.{◌==◌}
use Rattle.std.proofs.lemmas.Bool.{and_parts, both_ways, eq-eqb, ne_eqb, eqb-true, not_from_false, false_from_ne_true}
use Rattle.pci_spec.specs.Window.{WindowKind, IoWindow, MemoryWindow, PrefetchWindow, bounds_at, page_bits, page_size, is_zero, is_wide_window, limit_page, holds, breaks_window_rule}
use Rattle.pci_spec.specs.WindowLaws.{WindowStaysInSpace, NarrowWindowStaysLow, MemoryWindowIsThere}
use Rattle.pci_spec.proofs.WindowLaws.{held, window_holds_its_pages}
use Rattle.pci_spec.proofs.WrittenBits.{number_at-below}
use Rattle.pci_spec.proofs.ReadBacks.{window_rules}

last_address : (kind : WindowKind) (image probe : List ℕ) (a : ℕ) → holds kind image probe a ≡ true → a ≤ limit_page kind image * page_size kind + (page_size kind - 1)
last_address kind image probe a h = ((window_holds_its_pages kind image probe a (held kind image probe a h).there).0 h).1

pub window_stays_in_space : WindowStaysInSpace
window_stays_in_space IoWindow image probe a is h =
    let last = last_address IoWindow image probe a h in
    let limit = is.bytes 0x1d in
    let upper = number_at-below image 0x32 is 2 in
    omega (arith, last, limit, upper)
window_stays_in_space MemoryWindow image probe a is h =
    let last = last_address MemoryWindow image probe a h in
    let limit = number_at-below image 0x22 is 2 in
    omega (arith, last, limit)
window_stays_in_space PrefetchWindow image probe a is h =
    let last = last_address PrefetchWindow image probe a h in
    let limit = number_at-below image 0x26 is 2 in
    let upper = number_at-below image 0x2c is 4 in
    omega (arith, last, limit, upper)

-- a lawful read back with upper halves says so
pub wide_nibble : (kind : WindowKind) (mask : ℕ) → mask ≡ page_bits kind + 1 → mask % 16 ≡ 1
wide_nibble IoWindow mask e = omega (arith, e)
wide_nibble MemoryWindow mask e = omega (arith, e)
wide_nibble PrefetchWindow mask e = omega (arith, e)

pub narrow_nibble : (kind : WindowKind) (mask : ℕ) → mask ≡ page_bits kind + 0 → mask % 16 ≡ 0
narrow_nibble IoWindow mask e = omega (arith, e)
narrow_nibble MemoryWindow mask e = omega (arith, e)
narrow_nibble PrefetchWindow mask e = omega (arith, e)

no_upper_limit : (kind : WindowKind) (image probe : List ℕ) → breaks_window_rule kind image probe ≡ false → is_wide_window kind probe ≡ false → (bounds_at kind image).limit_upper ≡ 0
no_upper_limit kind image probe rule narrow = elim (window_rules kind image probe rule) [
  | inl lawful ↦ eqb-true _ 0 (and_parts ((bounds_at kind image).base_upper == 0) ((bounds_at kind image).limit_upper == 0) lawful.uppers).1
  | inr other ↦ elim other [
    | inl wide ↦ absurd (both_ways (is_wide_window kind probe) narrow (eq-eqb ((bounds_at kind probe).base % 16) 1 (wide_nibble kind (bounds_at kind probe).base wide.1.base)))
    | inr absent ↦ absent.1.value_zero.limit_upper
  ]
]

pub narrow_window_stays_low : NarrowWindowStaysLow
narrow_window_stays_low IoWindow image probe a is rule narrow h =
    let last = last_address IoWindow image probe a h in
    let limit = is.bytes 0x1d in
    let upper = no_upper_limit IoWindow image probe rule narrow in
    omega (arith, last, limit, upper)
narrow_window_stays_low MemoryWindow image probe a is rule narrow h = window_stays_in_space MemoryWindow image probe a is h
narrow_window_stays_low PrefetchWindow image probe a is rule narrow h =
    let last = last_address PrefetchWindow image probe a h in
    let limit = number_at-below image 0x26 is 2 in
    let upper = no_upper_limit PrefetchWindow image probe rule narrow in
    omega (arith, last, limit, upper)

pub memory_window_is_there : MemoryWindowIsThere
memory_window_is_there image probe rule = elim (window_rules MemoryWindow image probe rule) [
  | inl lawful ↦ (
    not_from_false (is_zero (bounds_at MemoryWindow probe)) (false_from_ne_true _ (λ z.
        let mask = bounds_at MemoryWindow probe in
        let three = and_parts (mask.base == 0 && mask.limit == 0 && mask.base_upper == 0) (mask.limit_upper == 0) z in
        let two = and_parts (mask.base == 0 && mask.limit == 0) (mask.base_upper == 0) three.0 in
        let none = eqb-true mask.base 0 (and_parts (mask.base == 0) (mask.limit == 0) two.0).0 in
        let base = lawful.base in
        omega (arith, none, base))),
    ne_eqb ((bounds_at MemoryWindow probe).base % 16) 1 (λ one. let n = narrow_nibble MemoryWindow (bounds_at MemoryWindow probe).base lawful.base in omega (arith, one, n)),
  )
  | inr other ↦ absurd (elim other [
    | inl wide ↦ both_ways false refl wide.0
    | inr absent ↦ both_ways false refl absent.0
  ])
]

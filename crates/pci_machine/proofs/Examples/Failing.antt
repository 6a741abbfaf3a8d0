-- The access at which a port failed. A port is the list of its accesses here, the last one first: offset, and whether it failed.
use Rattle.std.proofs.Common.{◌≡◌, ℕ, Bool, true, false, if◌then◌else◌, List, [], ◌∷◌, map, sum, Result, Ok, Err, inl, inr, refl, arith, ap}
use Rattle.pci_spec.specs.Slot.{Slot}
use Rattle.pci_spec.specs.Machine.{Write}
use Rattle.pci_machine.specs.declared.port.PortError.{PortError}
use Rattle.pci_machine.specs.Failing.{Fails, FirstFailed}

abbrev Log : Type 0
Log = List (ℕ × Bool)

-- the failures of a log
abbrev failures : Log → ℕ
failures log = sum (map (λ a. if a.1 then 1 else 0) log)

-- whether an outcome is a failure
abbrev is_failed : {T : Type 0} → Result T PortError → Bool
is_failed (Ok x) = false
is_failed (Err e) = true

abbrev reads : Log → Slot → ℕ → ℕ → Result ℕ PortError → Log → Type 0
reads before slot offset width answer after = after ≡ ((offset, is_failed answer) ∷ before)

abbrev writes : Log → Write → Result (Unit {0}) PortError → Log → Type 0
writes before write answer after = after ≡ ((write.offset, is_failed answer) ∷ before)

-- the access of a log that failed, from an empty one on
abbrev FailedIn : ℕ → Log → Type 0
FailedIn offset log = FirstFailed failures (Fails reads writes (record { bus = 0; device = 1; function = 0 }) offset) [] log

-- the last access: its offset, how many failures it is, and how many came before it
abbrev last_offset : Log → ℕ
last_offset [] = 0
last_offset ((offset, failed) ∷ rest) = offset

abbrev last_failures : Log → ℕ
last_failures [] = 0
last_failures ((offset, failed) ∷ rest) = if failed then 1 else 0

abbrev failures_before : Log → ℕ
failures_before [] = 0
failures_before ((offset, failed) ∷ rest) = failures rest

read_that_failed : FailedIn 0x0e ((0x0e, true) ∷ (0x00, false) ∷ [])
read_that_failed = record { before = (0x00, false) ∷ []; first = refl; last = inl (1, refl) }

write_that_failed : FailedIn 0x10 ((0x10, true) ∷ (0x04, false) ∷ [])
write_that_failed = record { before = (0x04, false) ∷ []; first = refl; last = inr (4, 0xffffffff, refl) }

-- the last access was at another offset
other_offset : FailedIn 0x00 ((0x0e, true) ∷ (0x00, false) ∷ []) → ⊥
other_offset f = elim f.last [
  | inl (width, e) ↦ let at : 0x0e ≡ 0x00 = ap last_offset e in omega (arith, at)
  | inr (width, value, e) ↦ let at : 0x0e ≡ 0x00 = ap last_offset e in omega (arith, at)
]

-- the last access didn't fail
access_behind : FailedIn 0x10 ((0x04, false) ∷ (0x10, true) ∷ []) → ⊥
access_behind f = elim f.last [
  | inl (width, e) ↦ let at : 0x04 ≡ 0x10 = ap last_offset e in omega (arith, at)
  | inr (width, value, e) ↦ let at : 0x04 ≡ 0x10 = ap last_offset e in omega (arith, at)
]

last_access_that_was_made : FailedIn 0x04 ((0x04, false) ∷ (0x10, true) ∷ []) → ⊥
last_access_that_was_made f = elim f.last [
  | inl (width, e) ↦ let made : 0 ≡ 1 = ap last_failures e in omega (arith, made)
  | inr (width, value, e) ↦ let made : 0 ≡ 1 = ap last_failures e in omega (arith, made)
]

-- another one had failed before
second_failure : FailedIn 0x10 ((0x10, true) ∷ (0x04, true) ∷ []) → ⊥
second_failure f = elim f.last [
  | inl (width, e) ↦ let one : 1 ≡ failures f.before = ap failures_before e in let none = f.first in omega (arith, one, none)
  | inr (width, value, e) ↦ let one : 1 ≡ failures f.before = ap failures_before e in let none = f.first in omega (arith, one, none)
]

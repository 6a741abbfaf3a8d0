-- What a plan promises: safe stops, changes and ROMs switched on.
use Rattle.std.proofs.Common.{◌≡◌, ℕ, zero, suc, List, [], ◌∷◌, refl, map, take, length, arith, lit<, lit≤, ap, sym, ◌∙◌}
use Rattle.std.specs.List.{sum}
use Rattle.pci_spec.specs.Number.{each_from}
use Rattle.pci_spec.specs.Slot.{Slot}
use Rattle.pci_spec.specs.Window.{MemoryWindow}
use Rattle.pci_spec.specs.System.{System, Function, Claims, Bar, Window, Memory}
use Rattle.pci_spec.specs.Sound.{IsSound}
use Rattle.pci_spec.specs.Machine.{Write, system_after, number_of_bits, writable_bits, clearing_bits, written}
use Rattle.plan_spec.specs.PlanPromise.{IsSafeFrom, StopsSafely, EachWriteChanges, with_rom_on, changes_between}
use Rattle.plan_spec.specs.Planning.PlanWrites.{closing_writes, most_writes}
use Rattle.pci_spec.proofs.Examples.Samples.{slot, device, bridge, host, write}
use Rattle.plan_spec.proofs.Examples.Placed.{start, planned}
use Rattle.plan_spec.proofs.Examples.PlanWrites.{all_on}

-- ---- from where on a stop is safe

-- it is one place
one_safe_start : (roots : List ℕ) (s : System) (closings m n : ℕ) → IsSafeFrom roots s closings m → IsSafeFrom roots s closings n → m ≡ n
one_safe_start roots s closings zero n a b = sym (b.at_once.1 (a.at_once.0 refl))
one_safe_start roots s closings (suc m) zero a b = a.at_once.1 (b.at_once.0 refl)
one_safe_start roots s closings (suc m) (suc n) a b =
    let unsound = λ (sound : IsSound roots s). let none = a.at_once.1 sound in let no : ⊥ = omega (arith, none) in no in
    a.closed unsound ∙ sym (b.closed unsound)

-- the start itself is safe where nothing has to be closed first, and only there
safe_from_0_is_sound : (roots : List ℕ) (s : System) (closings : ℕ) → IsSafeFrom roots s closings 0 → IsSound roots s
safe_from_0_is_sound roots s closings safe = safe.at_once.0 refl

sound_is_safe_from_0 : (roots : List ℕ) (s : System) (closings n : ℕ) → IsSafeFrom roots s closings n → IsSound roots s → n ≡ 0
sound_is_safe_from_0 roots s closings n safe sound = safe.at_once.1 sound

-- where everything is on, and stands at 0, the window and the BAR beside it clash
abbrev bridge_at_0 : Function
bridge_at_0 = bridge (slot 0 1 0) 2 0x10100 [] []

abbrev device_at_0 : Function
device_at_0 = device (slot 0 2 0) 2 [] ((0x10, 0xfff00000) ∷ [])

window_claims_0 : Claims bridge_at_0 (Window MemoryWindow) Memory 0
window_claims_0 = record { there = refl; enabled = refl; maps = refl; address = lit< tt; decodes = refl }

bar_claims_0 : Claims device_at_0 (Bar 0) Memory 0
unfolding each_from
bar_claims_0 = record { there = refl; enabled = refl; maps = refl; address = lit< tt; decodes = (refl, (20, refl, λ i low. refl)) }

all_at_0_is_not_sound : IsSound host all_on → ⊥
all_at_0_is_not_sound sound =
    let same = sound.single.on_a_bus Memory 0 0 (0, (0, lit< tt, refl), [], refl, refl) bridge_at_0 device_at_0 (Window MemoryWindow) (Bar 0)
    (0, lit< tt, refl) (1, lit< tt, refl) refl refl window_claims_0 bar_claims_0 in
    let e : 1 ≡ 2 = ap (λ (s : Slot). s.device) same.0 in
    omega (arith, e)

-- so it is safe once the three are closed
safe_once_closed : IsSafeFrom host all_on (length (closing_writes (changes_between all_on planned))) 3
safe_once_closed = record {
  at_once = (λ (none : 3 ≡ 0). (let no : ⊥ = omega (arith, none) in absurd no), λ sound. absurd (all_at_0_is_not_sound sound));
  closed = λ unsound. refl;
}

-- ---- stops

-- the first safe stop is before the n-th write
stop_at_the_first : (roots : List ℕ) (s : System) (writes : List Write) (n : ℕ) → StopsSafely roots s writes n → IsSound roots (system_after s (take n writes))
stop_at_the_first roots s writes n safe = safe n (omega arith)

sound_start : (roots : List ℕ) (s : System) (writes : List Write) → StopsSafely roots s writes 0 → IsSound roots s
sound_start roots s writes safe = safe 0 (lit≤ tt)

-- ---- each write changes something

changes_once : EachWriteChanges (device_at_0 ∷ []) (write (slot 0 2 0) 0x10 4 0xe0000000 ∷ write (slot 0 2 0) 0x10 4 0xe0000000 ∷ []) → ⊥
unfolding number_of_bits writable_bits clearing_bits written
changes_once changes = changes 1 (lit< tt) refl

at_most_29 : sum (map most_writes (changes_between start planned)) ≡ 29
at_most_29 = refl

-- ---- ROMs switched on

abbrev with_rom : ℕ → Function
with_rom value = device (slot 0 1 0) 2 ((0x10, 0xe0020000) ∷ (0x30, value) ∷ []) ((0x10, 0xfffff000) ∷ (0x30, 0xffff0000) ∷ [])

off_is_switched_on : with_rom_on (with_rom 0xe0010000) ≡ with_rom 0xe0010001
off_is_switched_on = refl

on_stays_on : with_rom_on (with_rom 0xe0010001) ≡ with_rom 0xe0010001
on_stays_on = refl

rom_at_0_is_switched_on : with_rom_on (with_rom 0) ≡ with_rom 1
rom_at_0_is_switched_on = refl

what_has_none_stays : with_rom_on (device (slot 0 2 0) 2 ((0x10, 0xe0200000) ∷ []) ((0x10, 0xfff00000) ∷ [])) ≡ device (slot 0 2 0) 2 ((0x10, 0xe0200000) ∷ []) ((0x10, 0xfff00000) ∷ [])
what_has_none_stays = refl

-- a bridge's stands at 38h
abbrev bridge_with_rom : ℕ → Function
bridge_with_rom value = bridge (slot 0 1 0) 2 0x10100 ((0x20, 0xfff0) ∷ (0x30, 0x00000000) ∷ (0x38, value) ∷ []) ((0x38, 0xffff0000) ∷ [])

bridges_rom_is_switched_on : with_rom_on (bridge_with_rom 0xe0000000) ≡ bridge_with_rom 0xe0000001
bridges_rom_is_switched_on = refl

-- A planned system: the old one with everything placed in its pool, open and enabled.
use Rattle.std.proofs.Common.{◌≡◌, ℕ, zero, suc, ◌<◌, ◌≤◌, [], ◌∷◌, ◌&&◌, ◌||◌, refl, Bool, true, false, inl, inr, arith, lit<, subst, ◌∙◌, map, ap}
use Rattle.std.specs.Bool.{IsTrue, IsFalse, nat_lt, ◌==◌}
use Rattle.std.specs.Int.{bit_at}
use Rattle.std.specs.List.{Contains, AllZip}
use Rattle.std.proofs.lemmas.Bool.{or_cases, ltb-true, both_ways, cases_order, eqb-true}
use Rattle.std.proofs.lemmas.Nat.{pow_below}
use Rattle.pci_spec.specs.Number.{each_from, has_bit, byte_at}
use Rattle.pci_spec.specs.Header.{command}
use Rattle.pci_spec.specs.Bar.{Memory32, is_run}
use Rattle.pci_spec.specs.Window.{WindowKind, IoWindow, MemoryWindow, PrefetchWindow, has_window}
use Rattle.pci_spec.specs.System.{Function, Io, Memory, is_bridge, Part, Bar, Rom, Window, Decodes, has_part, is_window, System}
use Rattle.pci_spec.specs.Machine.{in_fields, address_fields}
use Rattle.plan_spec.specs.Plan.{IsPlanned, IsMoved, class_of, pool_of, wants, is_open, has_behind}
use Rattle.pci_spec.proofs.Bits.{each_from-at, agree-interval, run_number}
use Rattle.pci_spec.proofs.Absent.{not_lawful, no_rom}
use Rattle.pci_spec.proofs.Examples.Samples.{slot, device, bridge}
use Rattle.plan_spec.proofs.Examples.Plans.{pools}
use Rattle.pci_spec.proofs.Examples.Texts.{bytes_by}
use Rattle.plan_spec.proofs.Examples.Placed.{start, planned}
use Rattle.pci_spec.proofs.Examples.Sized.{size_of_1_mb, answered}

-- ---- what moved is address bits and two bits of Command

abbrev stays : Function → Function → ℕ → ℕ → Bool
stays old new offset i =
    in_fields (address_fields old.image old.probe) offset i || (offset == 4 && nat_lt i 2) || bit_at (byte_at new.image offset) i == bit_at (byte_at old.image offset) i

pub moved_by : (old new : Function) → each_from 0 256 (λ offset. each_from 0 8 (stays old new offset)) ≡ true → (offset i : ℕ) → offset < 256 → i < 8
    → IsFalse (in_fields (address_fields old.image old.probe) offset i) → IsFalse (offset == 4 && nat_lt i 2) → bit_at (byte_at new.image offset) i ≡ bit_at (byte_at old.image offset) i
moved_by old new h offset i less small other bit =
    let row = each_from-at 0 256 (λ offset. each_from 0 8 (stays old new offset)) h offset (omega arith) less in
    let cell = each_from-at 0 8 (stays old new offset) row i (omega arith) small in
    elim (or_cases (in_fields (address_fields old.image old.probe) offset i || (offset == 4 && nat_lt i 2)) (bit_at (byte_at new.image offset) i == bit_at (byte_at old.image offset) i) cell) [
      | inl or ↦ elim (or_cases (in_fields (address_fields old.image old.probe) offset i) (offset == 4 && nat_lt i 2) or) [
        | inl field ↦ absurd (both_ways _ other field)
        | inr command ↦ absurd (both_ways _ bit command)
      ]
      | inr same ↦ eqb-true _ _ same
    ]

-- the three functions before and after
abbrev pub old_bridge : Function
old_bridge = bridge (slot 0 1 0) 0 0x10100 [] []

abbrev pub new_bridge : Function
new_bridge = bridge (slot 0 1 0) 2 0x10100 ((0x20, 0xe010e000) ∷ []) []

abbrev pub old_device : Function
old_device = device (slot 0 2 0) 0 [] ((0x10, 0xfff00000) ∷ [])

abbrev pub new_device : Function
new_device = device (slot 0 2 0) 2 ((0x10, 0xe0200000) ∷ []) ((0x10, 0xfff00000) ∷ [])

abbrev pub old_behind : Function
old_behind = device (slot 1 0 0) 0 [] ((0x10, 0xfff00000) ∷ (0x14, 0xfffff000) ∷ [])

abbrev pub new_behind : Function
new_behind = device (slot 1 0 0) 2 ((0x10, 0xe0000000) ∷ (0x14, 0xe0100000) ∷ []) ((0x10, 0xfff00000) ∷ (0x14, 0xfffff000) ∷ [])

pub bridge_moved : IsMoved old_bridge new_bridge
unfolding each_from
bridge_moved = record { slot = refl; probe = refl; image = record { full = refl; bytes = bytes_by new_bridge.image refl }; same = moved_by old_bridge new_bridge refl }

pub device_moved : IsMoved old_device new_device
unfolding each_from
device_moved = record { slot = refl; probe = refl; image = record { full = refl; bytes = bytes_by new_device.image refl }; same = moved_by old_device new_device refl }

pub behind_moved : IsMoved old_behind new_behind
unfolding each_from
behind_moved = record { slot = refl; probe = refl; image = record { full = refl; bytes = bytes_by new_behind.image refl }; same = moved_by old_behind new_behind refl }

-- ---- where the BARs are

size_of_4_kb : (k : ℕ) → 4 ≤ k → k ≤ 31 → is_run 4 0xfffff000 k 31 ≡ true → k ≡ 12
size_of_4_kb k low high is =
    let run = run_number 4 0xfffff000 k 31 (lit< tt) low high (lit< tt) is in
    elim (cases_order k 12) [
      | inl e ↦ e
      | inr (inl less) ↦ let p = pow_below k 12 less in absurd (let no : ⊥ = omega (arith, p, run) in no)
      | inr (inr more) ↦ let p = pow_below 12 k more in absurd (let no : ⊥ = omega (arith, p, run) in no)
    ]

-- all addresses of the memory pool
abbrev IsPlaced : Function → Part → ℕ → Type 0
IsPlaced f part a = ((pool_of pools (class_of planned pools f part)).first ≤ a) × (a ≤ (pool_of pools (class_of planned pools f part)).last)

bridge_placed : (part : Part) (a : ℕ) → IsTrue (has_part new_bridge part) → IsFalse (is_window part) → Decodes new_bridge part a → IsPlaced new_bridge part a
bridge_placed (Bar zero) a h w d = absurd (not_lawful Memory32 d.1.0 d.1.1)
bridge_placed (Bar (suc zero)) a h w d = absurd (not_lawful Memory32 d.1.0 d.1.1)
bridge_placed (Bar (suc (suc n))) a h w d = absurd (let less = ltb-true (suc (suc n)) 2 h in let no : ⊥ = omega (arith, less) in no)
bridge_placed Rom a h w d = absurd (no_rom d.0 d.1)
bridge_placed (Window kind) a h w d = absurd (both_ways true w refl)

device_placed : (part : Part) (a : ℕ) → IsTrue (has_part new_device part) → IsFalse (is_window part) → Decodes new_device part a → IsPlaced new_device part a
device_placed (Bar zero) a h w d = let i = agree-interval 20 a 0xe0200000 (answered 20 0xe0200000 0xfff00000 a size_of_1_mb d.1) in (omega (arith, i), omega (arith, i))
device_placed (Bar (suc zero)) a h w d = absurd (not_lawful Memory32 d.1.0 d.1.1)
device_placed (Bar (suc (suc zero))) a h w d = absurd (not_lawful Memory32 d.1.0 d.1.1)
device_placed (Bar (suc (suc (suc zero)))) a h w d = absurd (not_lawful Memory32 d.1.0 d.1.1)
device_placed (Bar (suc (suc (suc (suc zero))))) a h w d = absurd (not_lawful Memory32 d.1.0 d.1.1)
device_placed (Bar (suc (suc (suc (suc (suc zero)))))) a h w d = absurd (not_lawful Memory32 d.1.0 d.1.1)
device_placed (Bar (suc (suc (suc (suc (suc (suc n))))))) a h w d = absurd (let less = ltb-true (suc (suc (suc (suc (suc (suc n)))))) 6 h in let no : ⊥ = omega (arith, less) in no)
device_placed Rom a h w d = absurd (no_rom d.0 d.1)
device_placed (Window kind) a h w d = absurd (both_ways true w refl)

behind_placed : (part : Part) (a : ℕ) → IsTrue (has_part new_behind part) → IsFalse (is_window part) → Decodes new_behind part a → IsPlaced new_behind part a
behind_placed (Bar zero) a h w d = let i = agree-interval 20 a 0xe0000000 (answered 20 0xe0000000 0xfff00000 a size_of_1_mb d.1) in (omega (arith, i), omega (arith, i))
behind_placed (Bar (suc zero)) a h w d = let i = agree-interval 12 a 0xe0100000 (answered 12 0xe0100000 0xfffff000 a size_of_4_kb d.1) in (omega (arith, i), omega (arith, i))
behind_placed (Bar (suc (suc zero))) a h w d = absurd (not_lawful Memory32 d.1.0 d.1.1)
behind_placed (Bar (suc (suc (suc zero)))) a h w d = absurd (not_lawful Memory32 d.1.0 d.1.1)
behind_placed (Bar (suc (suc (suc (suc zero))))) a h w d = absurd (not_lawful Memory32 d.1.0 d.1.1)
behind_placed (Bar (suc (suc (suc (suc (suc zero)))))) a h w d = absurd (not_lawful Memory32 d.1.0 d.1.1)
behind_placed (Bar (suc (suc (suc (suc (suc (suc n))))))) a h w d = absurd (let less = ltb-true (suc (suc (suc (suc (suc (suc n)))))) 6 h in let no : ⊥ = omega (arith, less) in no)
behind_placed Rom a h w d = absurd (no_rom d.0 d.1)
behind_placed (Window kind) a h w d = absurd (both_ways true w refl)

-- ---- the whole

pub each_of_planned : (P : Function → Type 0) → P new_bridge → P new_device → P new_behind → (f : Function) → Contains planned f → P f
each_of_planned P a b c f (zero, less, is) = subst P is a
each_of_planned P a b c f (suc zero, less, is) = subst P is b
each_of_planned P a b c f (suc (suc zero), less, is) = subst P is c
each_of_planned P a b c f (suc (suc (suc k)), less, is) = absurd (let no : ⊥ = omega (arith, less) in no)

pub no : false ≡ true → ⊥
no h = both_ways false refl h

-- the windows of a bridge are open where something is behind them
abbrev AreOpenRight : Function → Type 0
AreOpenRight b = (kind : WindowKind) → IsTrue (is_bridge b) → IsTrue (has_window kind b.probe) → is_open b kind ≡ has_behind planned pools kind b

bridge_is_open : AreOpenRight new_bridge
bridge_is_open IoWindow h w = absurd (no w)
bridge_is_open MemoryWindow h w = refl
bridge_is_open PrefetchWindow h w = absurd (no w)

pub everything_is_placed : IsPlanned start planned pools
everything_is_placed = record {
  moved = (bridge_moved, (device_moved, (behind_moved, tt)));
  placed = λ f part a listed h w d. each_of_planned (λ f. IsTrue (has_part f part) → IsFalse (is_window part) → Decodes f part a → IsPlaced f part a)
      (bridge_placed part a) (device_placed part a) (behind_placed part a) f listed h w d;
  windows = λ b kind listed. each_of_planned AreOpenRight bridge_is_open (λ kind h w. absurd (no h)) (λ kind h w. absurd (no h)) b listed kind;
  io = each_of_planned (λ f. has_bit (command f.image) 0 ≡ wants f Io) refl refl refl;
  memory = each_of_planned (λ f. has_bit (command f.image) 1 ≡ wants f Memory) refl refl refl;
}

-- ---- what isn't planned, and what stays

start_is_not_planned : IsPlanned start start pools → ⊥
start_is_not_planned p = both_ways false refl (p.memory (device (slot 0 2 0) 0 [] ((0x10, 0xfff00000) ∷ [])) (1, lit< tt, refl))

slots_stay : (old new : System) → AllZip IsMoved old new → map (λ (f : Function). f.slot) new ≡ map (λ (f : Function). f.slot) old
slots_stay [] [] h = refl
slots_stay (o ∷ old) (n ∷ new) h = ap (λ s. s ∷ map (λ (f : Function). f.slot) new) h.0.slot ∙ ap (λ ss. o.slot ∷ ss) (slots_stay old new h.1)
slots_stay [] (n ∷ new) h = absurd h
slots_stay (o ∷ old) [] h = absurd h

read_backs_stay : (old new : System) → AllZip IsMoved old new → map (λ (f : Function). f.probe) new ≡ map (λ (f : Function). f.probe) old
read_backs_stay [] [] h = refl
read_backs_stay (o ∷ old) (n ∷ new) h = ap (λ s. s ∷ map (λ (f : Function). f.probe) new) h.0.probe ∙ ap (λ ss. o.probe ∷ ss) (read_backs_stay old new h.1)
read_backs_stay [] (n ∷ new) h = absurd h
read_backs_stay (o ∷ old) [] h = absurd h

-- Functions that are taken as asleep, and functions that aren't.
use Rattle.std.proofs.Common.{◌≡◌, ◌<◌, ◌+◌, ◌==◌, ℕ, zero, suc, List, [], ◌∷◌, inl, inr, false, true, not, refl, sym, ◌∙◌, arith, lit<, subst}
use Rattle.std.proofs.lemmas.Bool.{both_ways, cond-true, eq-eqb}
use Rattle.pci_spec.specs.Number.{each_from, some_from}
use Rattle.pci_spec.specs.Slot.{Slot}
use Rattle.pci_spec.specs.Header.{layout}
use Rattle.pci_spec.specs.Bar.{BarFault}
use Rattle.pci_spec.specs.Rom.{breaks_rom_rule}
use Rattle.pci_spec.specs.Window.{IoWindow, MemoryWindow, PrefetchWindow}
use Rattle.pci_spec.specs.Capability.{ComesTo, ComesTwiceTo, body_length, pointer, pointer_at, power_state}
use Rattle.pci_spec.specs.System.{Function}
use Rattle.pci_spec.specs.Fault.{IsIn, IsNotInD0, SomeAt, HasBarFault, HasWindowFault, has_no_vendor, has_other_layout, is_stray, NoVendor, HeaderKind, BarType, BarMask, BarPair, RomMask, WindowMask, CapRange, CapLoop, CapCut, SlotsDiffer, StrayProbe, LoneFunction, OfProfile, BusRange, Orphan, Unreached, Clash, Split}
use Rattle.pci_spec.specs.Order.{Profile}
use Rattle.pci_spec.proofs.Examples.Samples.{bridge, device, slot}
use Rattle.pci_spec.proofs.Examples.Sound.{no_stray, some_of_none}
use Rattle.judge_spec.specs.ModelWords.{Words, no_words}
use Rattle.judge_spec.specs.Taken.{HasNoOwnFaultBefore, first_aside}
use Rattle.judge_spec.specs.Asleep.{AreAsleepBy}

abbrev power_counts : Words
power_counts = record no_words { power = true }

-- ---- functions whose list has power management alone, at 40h

-- registers and list decode, and the walk ends behind 40h
record IsPlain (f : Function) : Type 0 where
  vendor : has_no_vendor f.image ≡ false
  header : has_other_layout f.image ≡ false
  bars : (register : ℕ) (fault : BarFault) → HasBarFault f.image f.probe register fault → ⊥
  rom : breaks_rom_rule f.image f.probe ≡ false
  windows : (register : ℕ) → HasWindowFault f.image f.probe register → ⊥
  stray : each_from 0 256 (λ offset. not (is_stray f.image f.probe offset)) ≡ true
  first : pointer f.image 0 ≡ 0x40
  end : pointer f.image 1 ≡ 0
  body : body_length f.image 0x40 ≡ 8

ended : (image : List ℕ) → pointer image 1 ≡ 0 → (n : ℕ) → pointer image (suc n) ≡ 0
ended image end zero = end
ended image end (suc n) = cond-true (pointer image (suc n) == 0) 0 (pointer_at image (pointer image (suc n) + 1)) (eq-eqb (pointer image (suc n)) 0 (ended image end n))

-- the walk comes to 40h alone
one_place : (f : Function) → IsPlain f → (place : ℕ) → ComesTo f.image place → place ≡ 0x40
one_place f is place (zero, at, some) = sym at ∙ is.first
one_place f is place (suc n, at, some) = absurd (some (sym at ∙ ended f.image is.end n))

none_twice : (f : Function) → IsPlain f → (place : ℕ) → ComesTwiceTo f.image place → ⊥
none_twice f is place (m, zero, less, first, second, some) = omega (arith, less)
none_twice f is place (m, suc n, less, first, second, some) = some (sym second ∙ ended f.image is.end n)

only_one : (P : Function → Type 0) (f : Function) (at : Slot) → (P f → ⊥) → SomeAt (f ∷ []) at P → ⊥
only_one P f at none (g, (zero, less, is), there, holds) = none (subst P (sym is) holds)
only_one P f at none (g, (suc k, less, is), there, holds) = let no : ⊥ = omega (arith, less) in no

plain_has_none : (f : Function) → IsPlain f → HasNoOwnFaultBefore Profile f
plain_has_none f is (NoVendor at) low h = only_one _ f at (both_ways _ is.vendor) h
plain_has_none f is (HeaderKind at) low h = only_one _ f at (both_ways _ is.header) h
plain_has_none f is (BarType at r) low h = only_one _ f at (is.bars r _) h
plain_has_none f is (BarMask at r) low h = only_one _ f at (is.bars r _) h
plain_has_none f is (BarPair at r) low h = only_one _ f at (is.bars r _) h
plain_has_none f is (RomMask at r) low h = only_one _ f at (λ x. both_ways _ is.rom x.1) h
plain_has_none f is (WindowMask at r) low h = only_one _ f at (is.windows r) h
plain_has_none f is (CapRange at r) low h = only_one _ f at (λ x. let e = one_place f is r x.0 in let below = x.1 in let no : ⊥ = omega (arith, e, below) in no) h
plain_has_none f is (CapLoop at r) low h = only_one _ f at (none_twice f is r) h
plain_has_none f is (CapCut at r) low h = only_one _ f at (λ x. let e = one_place f is r x.0 in let body = is.body in let past = subst (λ p. 256 < p + body_length f.image p) e x.1 in let no : ⊥ = omega (arith, body, past) in no) h
plain_has_none f is (SlotsDiffer at) low h = h
plain_has_none f is (StrayProbe at r) low h = only_one _ f at (no_stray f.image f.probe is.stray r) h
plain_has_none f is (LoneFunction at) low h = absurd (omega (arith, low))
plain_has_none f is (OfProfile fault at) low h = absurd (omega (arith, low))
plain_has_none f is (BusRange at) low h = absurd (omega (arith, low))
plain_has_none f is (Orphan at) low h = absurd (omega (arith, low))
plain_has_none f is (Unreached at r sp a br) low h = absurd (omega (arith, low))
plain_has_none f is (Clash bus sp a f1 fr g gr) low h = absurd (omega (arith, low))
plain_has_none f is (Split sp a f1 fr g gr) low h = absurd (omega (arith, low))

-- ---- a device

-- in a power state, D0 to D3, with Command 0007h
abbrev in_state : ℕ → Function
in_state state = device (slot 0 1 0) 7 ((0x04, 0x00100007) ∷ (0x34, 0x40) ∷ (0x40, 1) ∷ (0x44, state) ∷ []) []

bars_of_device : (register : ℕ) (fault : BarFault) → HasBarFault (in_state 3).image (in_state 3).probe register fault → ⊥
unfolding each_from some_from
bars_of_device register fault (zero, less, at, is) = some_of_none fault is
bars_of_device register fault (suc zero, less, at, is) = some_of_none fault is
bars_of_device register fault (suc (suc zero), less, at, is) = some_of_none fault is
bars_of_device register fault (suc (suc (suc zero)), less, at, is) = some_of_none fault is
bars_of_device register fault (suc (suc (suc (suc zero))), less, at, is) = some_of_none fault is
bars_of_device register fault (suc (suc (suc (suc (suc zero)))), less, at, is) = some_of_none fault is
bars_of_device register fault (suc (suc (suc (suc (suc (suc n))))), less, at, is) = let no : ⊥ = omega (arith, less) in no

device_is_plain : IsPlain (in_state 3)
unfolding each_from
device_is_plain = record {
  vendor = refl;
  header = refl;
  bars = bars_of_device;
  rom = refl;
  windows = λ r is. both_ways false refl is.1;
  stray = refl;
  first = refl;
  end = refl;
  body = refl;
}

in_d3 : IsNotInD0 (in_state 3).image
in_d3 = (0x40, (0, refl, λ e. omega (arith, e)), (refl, λ e. let no : 3 ≡ 0 = e in omega (arith, no)))

in_d0 : IsNotInD0 (in_state 0).image → ⊥
in_d0 (place, (zero, at, some), (id, state)) = state (subst (λ p. power_state (in_state 0).image p ≡ 0) at refl)
in_d0 (place, (suc n, at, some), shows) = some (sym at ∙ ended (in_state 0).image refl n)

-- it is asleep in D3, and not in D0,
in_d3_it_is_asleep : AreAsleepBy power_counts (in_state 3 ∷ []) (slot 0 1 0 ∷ [])
in_d3_it_is_asleep = inl ((refl, (plain_has_none (in_state 3) device_is_plain, in_d3)), ([], refl, refl))

in_d0_it_is_awake : AreAsleepBy power_counts (in_state 0 ∷ []) []
in_d0_it_is_awake = inr (λ asleep. in_d0 asleep.1.1, refl)

-- and not where the word doesn't count
without_the_word : AreAsleepBy no_words (in_state 3 ∷ []) []
without_the_word = inr (λ asleep. both_ways false refl asleep.0, refl)

-- ---- beside other words

abbrev windows_too : Words
windows_too = record power_counts { windows = true }

-- a bridge in D3 whose memory window reads back too few bits: a 26
abbrev sleeping_bridge : Function
sleeping_bridge = bridge (slot 0 1 0) 2 0x010100 ((0x04, 0x00100002) ∷ (0x20, 0xe000e000) ∷ (0x34, 0x40) ∷ (0x40, 1) ∷ (0x44, 3) ∷ []) ((0x20, 0xffe0fff0) ∷ [])

has_bad_window : IsIn [] (sleeping_bridge ∷ []) (WindowMask (slot 0 1 0) 0x20)
has_bad_window = (sleeping_bridge, (0, lit< tt, refl), refl, (MemoryWindow, refl, refl, refl))

-- with `power` alone its registers don't decode, so it isn't known to be asleep
with_power_alone : AreAsleepBy power_counts (sleeping_bridge ∷ []) []
with_power_alone = inr (λ asleep. asleep.1.0 (WindowMask (slot 0 1 0) 0x20) (lit< tt) has_bad_window, refl)

abbrev shown : Function
shown = first_aside windows_too sleeping_bridge

bars_of_bridge : (register : ℕ) (fault : BarFault) → HasBarFault shown.image shown.probe register fault → ⊥
unfolding each_from some_from
bars_of_bridge register fault (zero, less, at, is) = some_of_none fault is
bars_of_bridge register fault (suc zero, less, at, is) = some_of_none fault is
bars_of_bridge register fault (suc (suc n), less, at, is) = let no : ⊥ = omega (arith, less) in no

windows_of_bridge : (register : ℕ) → HasWindowFault shown.image shown.probe register → ⊥
windows_of_bridge register (IoWindow, layout, at, is) = both_ways false refl is
windows_of_bridge register (MemoryWindow, layout, at, is) = both_ways false refl is
windows_of_bridge register (PrefetchWindow, layout, at, is) = both_ways false refl is

bridge_is_plain : IsPlain shown
unfolding each_from
bridge_is_plain = record {
  vendor = refl;
  header = refl;
  bars = bars_of_bridge;
  rom = refl;
  windows = windows_of_bridge;
  stray = refl;
  first = refl;
  end = refl;
  body = refl;
}

bridge_in_d3 : IsNotInD0 shown.image
bridge_in_d3 = (0x40, (0, refl, λ e. omega (arith, e)), (refl, λ e. let no : 3 ≡ 0 = e in omega (arith, no)))

-- with `windows` they do
with_windows : AreAsleepBy windows_too (sleeping_bridge ∷ []) (slot 0 1 0 ∷ [])
with_windows = inl ((refl, (plain_has_none shown bridge_is_plain, bridge_in_d3)), ([], refl, refl))

-- a CardBus bridge in D3 is never asleep: `cardbus` counts after `power`
abbrev socket : Function
socket = device (slot 0 1 0) 7 ((0x04, 0x00100007) ∷ (0x0c, 0x020000) ∷ (0x34, 0x40) ∷ (0x40, 1) ∷ (0x44, 3) ∷ []) []

cardbus_too : AreAsleepBy (record power_counts { cardbus = true }) (socket ∷ []) []
cardbus_too = inr (λ asleep. asleep.1.0 (HeaderKind (slot 0 1 0)) (lit< tt) (socket, (0, lit< tt, refl), refl, refl), refl)

-- other words leave a device asleep
abbrev others_too : Words
others_too = record power_counts { ide = true; reset = true; subtractive = true; unnumbered = true }

with_others : AreAsleepBy others_too (in_state 3 ∷ in_state 0 ∷ []) (slot 0 1 0 ∷ [])
with_others = inl ((refl, (plain_has_none (in_state 3) device_is_plain, in_d3)), ([], refl, inr (λ asleep. in_d0 asleep.1.1, refl)))

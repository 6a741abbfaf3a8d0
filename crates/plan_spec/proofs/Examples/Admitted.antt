-- The worked tree before planning: a nested system that decodes and is in the profile.
use Rattle.std.proofs.Common.{◌≡◌, ℕ, zero, suc, ◌<◌, [], ◌∷◌, refl, None, Some, arith, lit<, ap, sym, subst}
use Rattle.std.specs.Bool.{IsTrue, IsFalse}
use Rattle.std.specs.List.{Contains, All}
use Rattle.std.proofs.lemmas.Bool.{both_ways}
use Rattle.pci_spec.specs.Number.{each_from, some_from, IsImage}
use Rattle.pci_spec.specs.Slot.{Slot, IsRising}
use Rattle.pci_spec.specs.Header.{layout, bar_count}
use Rattle.pci_spec.specs.Bar.{BarFault, bar_fault}
use Rattle.pci_spec.specs.Window.{WindowKind, IoWindow, MemoryWindow, PrefetchWindow, breaks_window_rule}
use Rattle.pci_spec.specs.Capability.{HasChain}
use Rattle.pci_spec.specs.System.{Function, IsFunction, IsSystem, is_bridge}
use Rattle.pci_spec.specs.Bus.{IsNested, LeadsTo, has_bus_order, is_behind, is_strictly_inside, is_root, has_no_root_behind}
use Rattle.pci_spec.specs.Decoded.{IsDecodable}
use Rattle.pci_spec.specs.Fault.{SomeAt, HasBarFault, NoVendor, HeaderKind, BarType, BarMask, BarPair, RomMask, WindowMask, CapRange, CapLoop, CapCut, SlotsDiffer, StrayProbe, LoneFunction, OfProfile, BusRange, Orphan, Unreached, Clash, Split}
use Rattle.pci_spec.specs.Sound.{IsInProfile, HasChains}
use Rattle.pci_spec.proofs.ProfileFaults.{none_of_plain, plain_bridge, plain_device}
use Rattle.pci_spec.proofs.Examples.Samples.{slot, host}
use Rattle.pci_spec.proofs.Examples.Texts.{bytes_by}
use Rattle.pci_spec.proofs.Examples.Sound.{no_chain, no_stray, some_of_none}
use Rattle.plan_spec.proofs.Examples.Placed.{start}
use Rattle.plan_spec.proofs.Examples.Planned.{old_bridge, old_device, old_behind, no}
use Rattle.plan_spec.proofs.Examples.Filled.{each_of_start}

-- what holds of each function holds of all
all_by : (P : Function → Type 0) → P old_bridge → P old_device → P old_behind → All P start
all_by P a b c zero d less = a
all_by P a b c (suc zero) d less = b
all_by P a b c (suc (suc zero)) d less = c
all_by P a b c (suc (suc (suc k))) d less = absurd (let no : ⊥ = omega (arith, less) in no)

function_by : (f : Function) → IsImage f.image → IsImage f.probe → f.slot.bus < 256 → f.slot.device < 32 → f.slot.function < 8 → IsFunction f
function_by f image probe bus device function = record { slot = (bus, device, function); image = image; probe = probe }

bridge_function : IsFunction old_bridge
bridge_function = function_by old_bridge (record { full = refl; bytes = bytes_by old_bridge.image refl }) (record { full = refl; bytes = bytes_by old_bridge.probe refl }) (lit< tt) (lit< tt) (lit< tt)

device_function : IsFunction old_device
device_function = function_by old_device (record { full = refl; bytes = bytes_by old_device.image refl }) (record { full = refl; bytes = bytes_by old_device.probe refl }) (lit< tt) (lit< tt) (lit< tt)

behind_function : IsFunction old_behind
behind_function = function_by old_behind (record { full = refl; bytes = bytes_by old_behind.image refl }) (record { full = refl; bytes = bytes_by old_behind.probe refl }) (lit< tt) (lit< tt) (lit< tt)

slots_rise : IsRising (slot 0 1 0 ∷ slot 0 2 0 ∷ slot 1 0 0 ∷ [])
slots_rise zero less = lit< tt
slots_rise (suc zero) less = lit< tt
slots_rise (suc (suc k)) less = absurd (let no : ⊥ = omega (arith, less) in no)

pub tree_is_a_system : IsSystem start
tree_is_a_system = record { each = all_by IsFunction bridge_function device_function behind_function; rising = slots_rise }

-- ---- nested

pub tree_is_nested : IsNested host start
tree_is_nested = record {
  order = each_of_start (λ f. IsTrue (is_bridge f) → IsTrue (has_bus_order f)) (λ h. refl) (λ h. absurd (no h)) (λ h. absurd (no h));
  inside = λ b c in_b in_c is_b is_c behind.
      each_of_start (λ b. (c : Function) → Contains start c → IsTrue (is_bridge b) → IsTrue (is_bridge c) → IsTrue (is_behind c b.slot.bus) → IsTrue (is_strictly_inside b c))
      (λ c listed x. each_of_start (λ c. IsTrue (is_bridge c) → IsTrue (is_behind c 0) → IsTrue (is_strictly_inside old_bridge c)) (λ y z. absurd (no z)) (λ y z. absurd (no y)) (λ y z. absurd (no y)) c listed)
      (λ c listed x y z. absurd (no x)) (λ c listed x y z. absurd (no x)) b in_b c in_c is_b is_c behind;
  apart = λ b c in_b in_c is_b is_c differ.
      absurd (each_of_start (λ b. IsTrue (is_bridge b) → (b.slot ≡ c.slot → ⊥) → ⊥)
      (λ x other. each_of_start (λ c. IsTrue (is_bridge c) → (slot 0 1 0 ≡ c.slot → ⊥) → ⊥) (λ y z. z refl) (λ y z. no y) (λ y z. no y) c in_c is_c other)
      (λ x other. no x) (λ x other. no x) b in_b is_b differ);
  clear = each_of_start (λ f. IsTrue (is_bridge f) → IsTrue (has_no_root_behind host f)) (λ h. refl) (λ h. absurd (no h)) (λ h. absurd (no h));
  one = each_of_start (λ f. IsFalse (is_root host f.slot.bus) → (b : Function) × LeadsTo start b f.slot.bus × ((c : Function) → LeadsTo start c f.slot.bus → c.slot ≡ b.slot))
      (λ h. absurd (no (sym h))) (λ h. absurd (no (sym h)))
      (λ h. (old_bridge, ((0, lit< tt, refl), refl, refl), λ c leads. each_of_start (λ c. IsTrue (is_bridge c) → c.slot ≡ slot 0 1 0) (λ x. refl) (λ x. absurd (no x)) (λ x. absurd (no x)) c leads.0 leads.1));
}

-- ---- what decodes

abbrev HasGoodBars : Function → Type 0
HasGoodBars f = (n : ℕ) → n < bar_count (layout f.image) → bar_fault f.image f.probe n ≡ None

bars_of_the_bridge : HasGoodBars old_bridge
unfolding each_from some_from
bars_of_the_bridge zero less = refl
bars_of_the_bridge (suc zero) less = refl
bars_of_the_bridge (suc (suc n)) less = absurd (let no : ⊥ = omega (arith, less) in no)

bars_of_the_device : HasGoodBars old_device
unfolding each_from some_from
bars_of_the_device zero less = refl
bars_of_the_device (suc zero) less = refl
bars_of_the_device (suc (suc zero)) less = refl
bars_of_the_device (suc (suc (suc zero))) less = refl
bars_of_the_device (suc (suc (suc (suc zero)))) less = refl
bars_of_the_device (suc (suc (suc (suc (suc zero))))) less = refl
bars_of_the_device (suc (suc (suc (suc (suc (suc n)))))) less = absurd (let no : ⊥ = omega (arith, less) in no)

bars_behind : HasGoodBars old_behind
unfolding each_from some_from
bars_behind zero less = refl
bars_behind (suc zero) less = refl
bars_behind (suc (suc zero)) less = refl
bars_behind (suc (suc (suc zero))) less = refl
bars_behind (suc (suc (suc (suc zero)))) less = refl
bars_behind (suc (suc (suc (suc (suc zero))))) less = refl
bars_behind (suc (suc (suc (suc (suc (suc n)))))) less = absurd (let no : ⊥ = omega (arith, less) in no)

good_windows : (kind : WindowKind) → IsFalse (breaks_window_rule kind old_bridge.image old_bridge.probe)
good_windows IoWindow = refl
good_windows MemoryWindow = refl
good_windows PrefetchWindow = refl

no_windows : (kind : WindowKind) (f : Function) → layout f.image ≡ 0 → layout f.image ≡ 1 → IsFalse (breaks_window_rule kind f.image f.probe)
no_windows kind f device bridge = absurd (let no : ⊥ = omega (arith, device, bridge) in no)

bridge_decodes : IsDecodable old_bridge
bridge_decodes = record { vendor = refl; header = refl; bars = bars_of_the_bridge; rom = refl; windows = λ kind is. good_windows kind }

device_decodes : IsDecodable old_device
device_decodes = record { vendor = refl; header = refl; bars = bars_of_the_device; rom = refl; windows = λ kind is. no_windows kind old_device refl is }

behind_decodes : IsDecodable old_behind
behind_decodes = record { vendor = refl; header = refl; bars = bars_behind; rom = refl; windows = λ kind is. no_windows kind old_behind refl is }

pub tree_decodes : All IsDecodable start
tree_decodes = all_by IsDecodable bridge_decodes device_decodes behind_decodes

-- ---- the profile

pub tree_has_chains : HasChains start
tree_has_chains = each_of_start (λ f. HasChain f.image) (no_chain old_bridge.image refl) (no_chain old_device.image refl) (no_chain old_behind.image refl)

no_bar_fault : (f : Function) → HasGoodBars f → (register : ℕ) (fault : BarFault) → HasBarFault f.image f.probe register fault → ⊥
no_bar_fault f good register fault (n, less, at, is) = some_of_none fault (subst (λ o. o ≡ Some fault) (good n less) is)

at_each : (P : Function → Type 0) (place : Slot) → (P old_bridge → ⊥) → (P old_device → ⊥) → (P old_behind → ⊥) → SomeAt start place P → ⊥
at_each P place a b c (f, listed, at, h) = each_of_start (λ g. P g → ⊥) a b c f listed h

pub tree_is_in_profile : IsInProfile host start
unfolding each_from
tree_is_in_profile (NoVendor at) n h = at_each _ at no no no h
tree_is_in_profile (HeaderKind at) n h = at_each _ at no no no h
tree_is_in_profile (BarType at r) n h = at_each _ at (no_bar_fault old_bridge bars_of_the_bridge r _) (no_bar_fault old_device bars_of_the_device r _) (no_bar_fault old_behind bars_behind r _) h
tree_is_in_profile (BarMask at r) n h = at_each _ at (no_bar_fault old_bridge bars_of_the_bridge r _) (no_bar_fault old_device bars_of_the_device r _) (no_bar_fault old_behind bars_behind r _) h
tree_is_in_profile (BarPair at r) n h = at_each _ at (no_bar_fault old_bridge bars_of_the_bridge r _) (no_bar_fault old_device bars_of_the_device r _) (no_bar_fault old_behind bars_behind r _) h
tree_is_in_profile (RomMask at r) n h = at_each _ at (λ is. no is.1) (λ is. no is.1) (λ is. no is.1) h
tree_is_in_profile (WindowMask at r) n h = at_each _ at (λ is. both_ways _ (good_windows is.0) is.3) (λ is. no is.1) (λ is. no is.1) h
tree_is_in_profile (CapRange at r) n h = no n
tree_is_in_profile (CapLoop at r) n h = no n
tree_is_in_profile (CapCut at r) n h = no n
tree_is_in_profile (SlotsDiffer at) n h = h
tree_is_in_profile (StrayProbe at r) n h = at_each _ at (no_stray old_bridge.image old_bridge.probe refl r) (no_stray old_device.image old_device.probe refl r) (no_stray old_behind.image old_behind.probe refl r) h
tree_is_in_profile (LoneFunction at) n (f, listed, is, (positive, alone)) =
    let e : f.slot.function ≡ 0 = each_of_start (λ g. g.slot.function ≡ 0) refl refl refl f listed in
    let same = ap (λ (z : Slot). z.function) is in
    let no : ⊥ = omega (arith, e, same, positive) in no
tree_is_in_profile (OfProfile fault at) n h =
    at_each _ at (none_of_plain old_bridge.image (plain_bridge old_bridge.image (refl, refl, refl) refl) fault) (none_of_plain old_device.image (plain_device old_device.image refl refl refl) fault)
    (none_of_plain old_behind.image (plain_device old_behind.image refl refl refl) fault) h
tree_is_in_profile (BusRange at) n h = no n
tree_is_in_profile (Orphan at) n h = no n
tree_is_in_profile (Unreached at r sp a br) n h = no n
tree_is_in_profile (Clash bus sp a f fr g gr) n h = no n
tree_is_in_profile (Split sp a f fr g gr) n h = no n

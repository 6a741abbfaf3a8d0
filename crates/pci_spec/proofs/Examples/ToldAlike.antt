-- One function with two probes: what they show of the enabled matters, and nothing else does.
use Rattle.std.proofs.Common.{◌≡◌, ◌⊎◌, ℕ, zero, suc, ◌<◌, ◌≤◌, inl, inr, List, [], ◌∷◌, refl, true, false, ◌&&◌, ◌||◌, not, None, arith, sym, ◌∙◌, ap, subst, lit<, lit≤}
use Rattle.std.specs.Bool.{nat_lt, ◌==◌}
use Rattle.std.specs.List.{All, Contains}
use Rattle.std.proofs.lemmas.Bool.{and_parts, both_ways, false_from_ne_true, ltb-true}
use Rattle.pci_spec.specs.Number.{each_from, some_from, has_bit}
use Rattle.pci_spec.specs.Slot.{Slot}
use Rattle.pci_spec.specs.Header.{command, layout, bar_count}
use Rattle.pci_spec.specs.Bar.{Memory32, bar_fault, starts_bar, has_bar}
use Rattle.pci_spec.specs.Rom.{breaks_rom_rule}
use Rattle.pci_spec.specs.Window.{WindowKind, IoWindow, MemoryWindow, PrefetchWindow, breaks_window_rule}
use Rattle.pci_spec.specs.Capability.{HasChain, pointer}
use Rattle.pci_spec.specs.System.{Function, IsFunction, IsSystem, Space, Io, Memory, Part, Bar, Rom, Window, Claims, register_of, is_bridge}
use Rattle.pci_spec.specs.Bus.{IsNested, is_root}
use Rattle.pci_spec.specs.Fault.{IsIn, HasProfileFault, NoVendor, HeaderKind, BarType, BarMask, BarPair, RomMask, WindowMask, CapRange, CapLoop, CapCut, SlotsDiffer, StrayProbe, LoneFunction, OfProfile, BusRange, Orphan, Unreached, Clash, Split, has_no_vendor, is_stray}
use Rattle.pci_spec.specs.Sound.{IsSound, IsSameRegion, IsInProfile}
use Rattle.pci_spec.specs.Decoded.{bar_size}
use Rattle.pci_spec.specs.ToldAlike.{IsToldAlike, IsReadable, enables_bar}
use Rattle.pci_spec.proofs.Absent.{not_lawful, no_rom}
use Rattle.pci_spec.proofs.Bits.{interval-agrees}
use Rattle.pci_spec.proofs.BarLaws.{bar_answers_its_size}
use Rattle.pci_spec.proofs.ProfileFaults.{none_of_plain, plain_device}
use Rattle.pci_spec.proofs.Readable.{none_of_readable}
use Rattle.pci_spec.proofs.Verdicts.{single_without_clashes}
use Rattle.pci_spec.proofs.ToldSystems.{alike_are_sound_together}
use Rattle.pci_spec.proofs.Examples.Samples.{slot, device, bridge, host}
use Rattle.pci_spec.proofs.Examples.Sound.{no_chain, no_stray}
use Rattle.pci_spec.proofs.Examples.Texts.{bytes_by}

pub no : {A : Type 0} → false ≡ true → A
no h = absurd (let contradiction : ⊥ = both_ways false refl h in contradiction)

-- ---- a device alone on the host bus

-- all numbers below 6
pub six : (P : ℕ → Type 0) → P 0 → P 1 → P 2 → P 3 → P 4 → P 5 → (n : ℕ) → n < 6 → P n
six P a b c d e f zero less = a
six P a b c d e f (suc zero) less = b
six P a b c d e f (suc (suc zero)) less = c
six P a b c d e f (suc (suc (suc zero))) less = d
six P a b c d e f (suc (suc (suc (suc zero)))) less = e
six P a b c d e f (suc (suc (suc (suc (suc zero))))) less = f
six P a b c d e f (suc (suc (suc (suc (suc (suc n)))))) less = absurd (let contradiction : ⊥ = omega (arith, less) in contradiction)

only_one : (f x : Function) → Contains (f ∷ []) x → f ≡ x
only_one f x (zero, less, is) = is
only_one f x (suc k, less, is) = absurd (let contradiction : ⊥ = omega (arith, less) in contradiction)

each_alone : (f : Function) → IsFunction f → All IsFunction (f ∷ [])
each_alone f is zero d less = is
each_alone f is (suc k) d less = absurd (let contradiction : ⊥ = omega (arith, less) in contradiction)

pub all_readable : (f : Function) → IsReadable f → All IsReadable (f ∷ [])
all_readable f is zero d less = is
all_readable f is (suc k) d less = absurd (let contradiction : ⊥ = omega (arith, less) in contradiction)

module _ (f : Function) (readable : IsReadable f) (at : f.slot ≡ slot 0 1 0) (is_device : is_bridge f ≡ false) (snoop : has_bit (command f.image) 5 ≡ false) (plain : pointer f.image 0 ≡ 0)
    (one : (p q : Part) (space : Space) (a : ℕ) → Claims f p space a → Claims f q space a → register_of f p ≡ register_of f q) where
  no_bridge : {A : Type 0} (x : Function) → Contains (f ∷ []) x → is_bridge x ≡ true → A
  no_bridge x listed bridge = no (sym is_device ∙ ap is_bridge (only_one f x listed) ∙ bridge)

  on_host : (x : Function) → Contains (f ∷ []) x → 0 ≡ x.slot.bus
  on_host x listed = sym (ap (λ (s : Slot). s.bus) at) ∙ ap (λ (z : Function). z.slot.bus) (only_one f x listed)

  same_region : (space : Space) (a : ℕ) (x y : Function) (p q : Part) → Contains (f ∷ []) x → Contains (f ∷ []) y → Claims x p space a → Claims y q space a → IsSameRegion x p y q
  same_region space a x y p q in_x in_y claims_x claims_y =
      let ex = only_one f x in_x in
      let ey = only_one f y in_y in (
        ap (λ (z : Function). z.slot) (sym ex ∙ ey),
        sym (ap (λ z. register_of z p) ex)
            ∙ one p q space a (subst (λ z. Claims z p space a) (sym ex) claims_x) (subst (λ z. Claims z q space a) (sym ey) claims_y)
            ∙ ap (λ z. register_of z q) ey,
      )

  nested : IsNested host (f ∷ [])
  nested = record {
    order = λ b in_b bridge. no_bridge b in_b bridge;
    inside = λ b c in_b in_c bridge other behind. no_bridge b in_b bridge;
    apart = λ b c in_b in_c bridge other differ out_b out_c. no_bridge b in_b bridge;
    clear = λ b in_b bridge. no_bridge b in_b bridge;
    one = λ x in_x off. no (sym off ∙ sym (ap (is_root host) (on_host x in_x)));
  }

  profile : IsInProfile host (f ∷ [])
  profile (NoVendor s) n h = none_of_readable host (f ∷ []) (all_readable f readable) (NoVendor s) refl h
  profile (HeaderKind s) n h = none_of_readable host (f ∷ []) (all_readable f readable) (HeaderKind s) refl h
  profile (BarType s r) n h = none_of_readable host (f ∷ []) (all_readable f readable) (BarType s r) refl h
  profile (BarMask s r) n h = none_of_readable host (f ∷ []) (all_readable f readable) (BarMask s r) refl h
  profile (BarPair s r) n h = none_of_readable host (f ∷ []) (all_readable f readable) (BarPair s r) refl h
  profile (RomMask s r) n h = none_of_readable host (f ∷ []) (all_readable f readable) (RomMask s r) refl h
  profile (WindowMask s r) n h = none_of_readable host (f ∷ []) (all_readable f readable) (WindowMask s r) refl h
  profile (StrayProbe s r) n h = none_of_readable host (f ∷ []) (all_readable f readable) (StrayProbe s r) refl h
  profile (SlotsDiffer s) n h = h
  profile (LoneFunction s) n (x, listed, is, (positive, alone)) =
      let zeroth : s.function ≡ 0 = ap (λ (z : Slot). z.function) (sym is ∙ ap (λ (z : Function). z.slot) (sym (only_one f x listed)) ∙ at) in
      omega (arith, zeroth, positive)
  profile (OfProfile fault s) n (x, listed, is, h) =
      none_of_plain f.image (plain_device f.image is_device snoop plain) fault (subst (λ (z : Function). HasProfileFault z.image fault) (sym (only_one f x listed)) h)
  profile (CapRange s r) n h = no n
  profile (CapLoop s r) n h = no n
  profile (CapCut s r) n h = no n
  profile (BusRange s) n h = no n
  profile (Orphan s) n h = no n
  profile (Unreached s r space a b) n h = no n
  profile (Clash bus space a s r t q) n h = no n
  profile (Split space a s r t q) n h = no n

  sound_alone : IsSound host (f ∷ [])
  sound_alone = record {
    single = record {
      on_a_bus = λ space a bus gets x y p q in_x in_y x_bus y_bus. same_region space a x y p q in_x in_y;
      over_roots = λ space a x y p q in_x in_y x_root y_root. same_region space a x y p q in_x in_y;
    };
    home = λ x p space a listed no_window claims. (0, (0, lit< tt, refl), [], on_host x listed, refl);
    nested = nested;
    profile = profile;
    chains = λ x listed. subst (λ (z : Function). HasChain z.image) (only_one f x listed) (no_chain f.image plain);
  }

-- a device whose registers decode
pub reads : (f : Function) → layout f.image ≡ 0 → has_no_vendor f.image ≡ false → breaks_rom_rule f.image f.probe ≡ false → ((n : ℕ) → n < 6 → bar_fault f.image f.probe n ≡ None)
    → each_from 0 256 (λ offset. not (is_stray f.image f.probe offset)) ≡ true → IsReadable f
reads f is_device vendor rom bars clean = record {
  decodable = record {
    vendor = vendor;
    header = ap (λ kind. not (kind == 0 || kind == 1)) is_device;
    bars = λ n less. bars n (subst (λ kind. n < bar_count kind) is_device less);
    rom = rom;
    windows = λ kind is. absurd (let contradiction : ⊥ = omega (arith, is, is_device) in contradiction);
  };
  clean = λ offset. false_from_ne_true (is_stray f.image f.probe offset) (no_stray f.image f.probe clean offset);
}

-- a BAR that a device has enabled is one of six
below_six : (f : Function) → layout f.image ≡ 0 → (n : ℕ) → enables_bar f.image n ≡ true → n < 6
below_six f is_device n on =
    let parts = and_parts (nat_lt n (bar_count (layout f.image)) && starts_bar f.image n) _ on in
    subst (λ kind. n < bar_count kind) is_device (ltb-true n (bar_count (layout f.image)) (and_parts (nat_lt n (bar_count (layout f.image))) _ parts.0).0)

-- ---- I/O is enabled, and memory isn't

abbrev io_device : List (ℕ × ℕ) → Function
io_device masks = device (slot 0 1 0) 1 ((0x10, 0xc001) ∷ (0x14, 0xe0000000) ∷ []) masks

-- 64 ports in 32 bits, and 4 KB of memory
abbrev of_32_bits : Function
of_32_bits = io_device ((0x10, 0xffffffc1) ∷ (0x14, 0xfffff000) ∷ [])

-- 64 ports in 16 bits, and 64 KB of memory
abbrev of_16_bits : Function
of_16_bits = io_device ((0x10, 0xffc1) ∷ (0x14, 0xffff0000) ∷ [])

readable_32 : IsReadable of_32_bits
unfolding each_from some_from
readable_32 = reads of_32_bits refl refl refl (six (λ n. bar_fault of_32_bits.image of_32_bits.probe n ≡ None) refl refl refl refl refl refl) refl

readable_16 : IsReadable of_16_bits
unfolding each_from some_from
readable_16 = reads of_16_bits refl refl refl (six (λ n. bar_fault of_16_bits.image of_16_bits.probe n ≡ None) refl refl refl refl refl refl) refl

-- the same is told of both
told_alike : IsToldAlike of_32_bits of_16_bits
told_alike = record {
  slot = refl;
  image = refl;
  bars = λ n on. six (λ n. has_bar of_32_bits.probe n ≡ has_bar of_16_bits.probe n) refl refl refl refl refl refl n (below_six of_32_bits refl n on);
  bar_sizes = λ n on there. six (λ n. enables_bar of_32_bits.image n ≡ true → bar_size of_32_bits.probe n ≡ bar_size of_16_bits.probe n)
      (λ h. refl) (λ h. no h) (λ h. no h) (λ h. no h) (λ h. no h) (λ h. no h) n (below_six of_32_bits refl n on) on;
  rom = λ on. no on;
  windows = λ kind on. no on;
}

only_io : (part : Part) (space : Space) (a : ℕ) → Claims of_32_bits part space a → part ≡ Bar 0
only_io (Bar zero) space a c = refl
only_io (Bar (suc zero)) space a c = no c.enabled
only_io (Bar (suc (suc n))) space a c = six (λ n. Claims of_32_bits (Bar n) space a → Bar n ≡ Bar 0)
    (λ h. refl) (λ h. no h.enabled) (λ h. no h.enabled) (λ h. no h.enabled) (λ h. no h.enabled) (λ h. no h.enabled) (suc (suc n)) (ltb-true (suc (suc n)) 6 c.there) c
only_io Rom space a c = no c.enabled
only_io (Window kind) space a c = no c.there

sound_with_32_bits : IsSound host (of_32_bits ∷ [])
sound_with_32_bits = sound_alone of_32_bits readable_32 refl refl refl refl
    (λ p q space a x y. ap (register_of of_32_bits) (only_io p space a x ∙ sym (only_io q space a y)))

pub system_alone : (f : Function) → IsFunction f → IsSystem (f ∷ [])
system_alone f is = record { each = each_alone f is; rising = λ k less. absurd (let contradiction : ⊥ = omega (arith, less) in contradiction) }

system_32 : IsSystem (of_32_bits ∷ [])
system_32 = system_alone of_32_bits record { slot = (lit< tt, lit< tt, lit< tt); image = record { full = refl; bytes = bytes_by of_32_bits.image refl }; probe = record { full = refl; bytes = bytes_by of_32_bits.probe refl } }

system_16 : IsSystem (of_16_bits ∷ [])
system_16 = system_alone of_16_bits record { slot = (lit< tt, lit< tt, lit< tt); image = record { full = refl; bytes = bytes_by of_16_bits.image refl }; probe = record { full = refl; bytes = bytes_by of_16_bits.probe refl } }

-- so by the law
sound_with_16_bits : IsSound host (of_16_bits ∷ [])
sound_with_16_bits = (alike_are_sound_together host (of_32_bits ∷ []) (of_16_bits ∷ []) system_32 system_16 (all_readable of_32_bits readable_32) (all_readable of_16_bits readable_16) (told_alike, tt)).0 sound_with_32_bits

-- ---- memory is enabled

abbrev pub memory_device : List (ℕ × ℕ) → Function
memory_device masks = device (slot 0 1 0) 2 ((0x10, 0xe0000000) ∷ (0x14, 0xe0001000) ∷ []) masks

-- 4 KB, and 4 KB right behind them
abbrev pub side_by_side : Function
side_by_side = memory_device ((0x10, 0xfffff000) ∷ (0x14, 0xfffff000) ∷ [])

-- 8 KB, and 4 KB in their upper half
abbrev pub one_in_the_other : Function
one_in_the_other = memory_device ((0x10, 0xffffe000) ∷ (0x14, 0xfffff000) ∷ [])

readable_side_by_side : IsReadable side_by_side
unfolding each_from some_from
readable_side_by_side = reads side_by_side refl refl refl (six (λ n. bar_fault side_by_side.image side_by_side.probe n ≡ None) refl refl refl refl refl refl) refl

readable_in_the_other : IsReadable one_in_the_other
unfolding each_from some_from
readable_in_the_other = reads one_in_the_other refl refl refl (six (λ n. bar_fault one_in_the_other.image one_in_the_other.probe n ≡ None) refl refl refl refl refl refl) refl

-- which BAR it is, and at which addresses
abbrev IsOneOfTwo : Part → ℕ → Type 0
IsOneOfTwo part a = ((part ≡ Bar 0) × (a ≤ 0xe0000fff)) ⊎ ((part ≡ Bar 1) × (0xe0001000 ≤ a))

either_bar : (part : Part) (space : Space) (a : ℕ) → Claims side_by_side part space a → IsOneOfTwo part a
unfolding each_from
either_bar (Bar zero) space a c = let i = (bar_answers_its_size Memory32 0xe0000000 0xfffff000 12 a refl).0 c.decodes.1 in inl (refl, omega (arith, i))
either_bar (Bar (suc zero)) space a c = let i = (bar_answers_its_size Memory32 0xe0001000 0xfffff000 12 a refl).0 c.decodes.1 in inr (refl, omega (arith, i))
either_bar (Bar (suc (suc n))) space a c = six (λ n. Claims side_by_side (Bar (suc (suc n))) space a → IsOneOfTwo (Bar (suc (suc n))) a)
    (λ h. absurd (not_lawful Memory32 h.decodes.1.0 h.decodes.1.1)) (λ h. absurd (not_lawful Memory32 h.decodes.1.0 h.decodes.1.1)) (λ h. absurd (not_lawful Memory32 h.decodes.1.0 h.decodes.1.1)) (λ h. absurd (not_lawful Memory32 h.decodes.1.0 h.decodes.1.1)) (λ h. no h.there) (λ h. no h.there) n (let less = ltb-true (suc (suc n)) 6 c.there in omega (arith, less)) c
either_bar Rom space a c = absurd (no_rom c.decodes.0 c.decodes.1)
either_bar (Window kind) space a c = no c.there

same_by_address : (p q : Part) (a : ℕ) → IsOneOfTwo p a → IsOneOfTwo q a → p ≡ q
same_by_address p q a (inl first) (inl second) = first.0 ∙ sym second.0
same_by_address p q a (inl first) (inr second) = absurd (let contradiction : ⊥ = omega (arith, first.1, second.1) in contradiction)
same_by_address p q a (inr first) (inl second) = absurd (let contradiction : ⊥ = omega (arith, first.1, second.1) in contradiction)
same_by_address p q a (inr first) (inr second) = first.0 ∙ sym second.0

sound_side_by_side : IsSound host (side_by_side ∷ [])
sound_side_by_side = sound_alone side_by_side readable_side_by_side refl refl refl refl
    (λ p q space a x y. ap (register_of side_by_side) (same_by_address p q a (either_bar p space a x) (either_bar q space a y)))

clash : IsIn host (one_in_the_other ∷ []) (Clash 0 Memory 0xe0001000 (slot 0 1 0) 0x10 (slot 0 1 0) 0x14)
unfolding each_from
clash = record {
  gets = (0, (0, lit< tt, refl), [], refl, refl);
  claims_first = (
    one_in_the_other,
    Bar 0,
    (0, lit< tt, refl),
    refl,
    refl,
    refl,
    record { there = refl; enabled = refl; maps = refl; address = lit< tt; decodes = (refl, (13, refl, interval-agrees 13 0xe0001000 0xe0000000 (lit≤ tt) (lit≤ tt))) },
  );
  claims_second = (
    one_in_the_other,
    Bar 1,
    (0, lit< tt, refl),
    refl,
    refl,
    refl,
    record { there = refl; enabled = refl; maps = refl; address = lit< tt; decodes = (refl, (12, refl, interval-agrees 12 0xe0001000 0xe0001000 (lit≤ tt) (lit≤ tt))) },
  );
  differ = λ same. let e = same.1 in omega (arith, e);
}

not_sound_in_the_other : IsSound host (one_in_the_other ∷ []) → ⊥
not_sound_in_the_other sound = ((single_without_clashes host (one_in_the_other ∷ [])).0 sound.single).0 0 Memory 0xe0001000 (slot 0 1 0) 0x10 (slot 0 1 0) 0x14 clash

-- they have one slot and one image, and each BAR that is there is there in both: only a size differs
same_bars : (n : ℕ) → n < 6 → has_bar side_by_side.probe n ≡ has_bar one_in_the_other.probe n
same_bars = six (λ n. has_bar side_by_side.probe n ≡ has_bar one_in_the_other.probe n) refl refl refl refl refl refl

other_size : IsToldAlike side_by_side one_in_the_other → ⊥
other_size h = let e : 4096 ≡ 8192 = h.bar_sizes 0 refl refl in omega (arith, e)

-- ---- a window that shows 0, where I/O is enabled

-- a bridge with 64 ports of its own at C00h
abbrev pub io_bridge : List (ℕ × ℕ) → Function
io_bridge masks = bridge (slot 0 1 0) 1 0x010100 ((0x10, 0xc01) ∷ []) ((0x10, 0xffffffc1) ∷ masks)

-- without an I/O window, and with one, which is open from 0 to FFFh
abbrev pub without_window : Function
without_window = io_bridge []

abbrev pub with_window : Function
with_window = io_bridge ((0x1c, 0xf0f0) ∷ [])

either_of_two : (f : Function) → bar_fault f.image f.probe 0 ≡ None → bar_fault f.image f.probe 1 ≡ None → (n : ℕ) → n < 2 → bar_fault f.image f.probe n ≡ None
either_of_two f first second zero less = first
either_of_two f first second (suc zero) less = second
either_of_two f first second (suc (suc n)) less = absurd (let contradiction : ⊥ = omega (arith, less) in contradiction)

-- both go with what the bridge shows
reads_bridge : (f : Function) → layout f.image ≡ 1 → has_no_vendor f.image ≡ false → breaks_rom_rule f.image f.probe ≡ false → bar_fault f.image f.probe 0 ≡ None → bar_fault f.image f.probe 1 ≡ None
    → ((kind : WindowKind) → breaks_window_rule kind f.image f.probe ≡ false) → each_from 0 256 (λ offset. not (is_stray f.image f.probe offset)) ≡ true → IsReadable f
reads_bridge f is_bridge vendor rom first second windows clean = record {
  decodable = record {
    vendor = vendor;
    header = ap (λ kind. not (kind == 0 || kind == 1)) is_bridge;
    bars = λ n less. either_of_two f first second n (subst (λ kind. n < bar_count kind) is_bridge less);
    rom = rom;
    windows = λ kind is. windows kind;
  };
  clean = λ offset. false_from_ne_true (is_stray f.image f.probe offset) (no_stray f.image f.probe clean offset);
}

windows_without : (kind : WindowKind) → breaks_window_rule kind without_window.image without_window.probe ≡ false
windows_without IoWindow = refl
windows_without MemoryWindow = refl
windows_without PrefetchWindow = refl

windows_with : (kind : WindowKind) → breaks_window_rule kind with_window.image with_window.probe ≡ false
windows_with IoWindow = refl
windows_with MemoryWindow = refl
windows_with PrefetchWindow = refl

readable_without : IsReadable without_window
unfolding each_from some_from
readable_without = reads_bridge without_window refl refl refl refl refl windows_without refl

pub readable_with : IsReadable with_window
unfolding each_from some_from
readable_with = reads_bridge with_window refl refl refl refl refl windows_with refl

window_clash : IsIn host (with_window ∷ []) (Clash 0 Io 0xc00 (slot 0 1 0) 0x10 (slot 0 1 0) 0x1c)
unfolding each_from
window_clash = record {
  gets = (0, (0, lit< tt, refl), [], refl, refl);
  claims_first = (
    with_window,
    Bar 0,
    (0, lit< tt, refl),
    refl,
    refl,
    refl,
    record { there = refl; enabled = refl; maps = refl; address = lit< tt; decodes = (refl, (6, refl, interval-agrees 6 0xc00 0xc01 (lit≤ tt) (lit≤ tt))) },
  );
  claims_second = (with_window, Window IoWindow, (0, lit< tt, refl), refl, refl, refl, record { there = refl; enabled = refl; maps = refl; address = lit< tt; decodes = refl });
  differ = λ same. let e = same.1 in omega (arith, e);
}

-- no part at 1Ch claims anything without the window
none_at_1c : (part : Part) (a : ℕ) → register_of without_window part ≡ 0x1c → Claims without_window part Io a → ⊥
none_at_1c (Bar n) a is c = let less = ltb-true n 2 c.there in omega (arith, is, less)
none_at_1c Rom a is c = no c.enabled
none_at_1c (Window IoWindow) a is c = no c.decodes
none_at_1c (Window MemoryWindow) a is c = no c.enabled
none_at_1c (Window PrefetchWindow) a is c = no c.enabled

no_clash_without : IsIn host (without_window ∷ []) (Clash 0 Io 0xc00 (slot 0 1 0) 0x10 (slot 0 1 0) 0x1c) → ⊥
no_clash_without clash =
    let second = clash.claims_second in
    let is = only_one without_window second.0 second.2 in
    none_at_1c second.1 0xc00 (ap (λ f. register_of f second.1) is ∙ second.5) (subst (λ f. Claims f second.1 Io 0xc00) (sym is) second.6)

other_windows : IsToldAlike without_window with_window → ⊥
other_windows h = both_ways true (sym (h.windows IoWindow refl)) refl

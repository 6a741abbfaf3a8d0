-- The faults of the profile: their numbers and names, and where none of them is there. What goes through all faults has
-- one row for them, by these lemmas.
use Rattle.std.proofs.Common.{◌≡◌, ℕ, zero, suc, ◌+◌, ◌*◌, ◌%◌, ◌^◌, ◌<◌, ◌≤◌, inl, inr, List, refl, false, ◌&&◌, arith, sym, ◌∙◌, ap, length, [], ◌∷◌, get_or}
use Rattle.std.specs.Bool.{IsTrue, nat_eq, ◌==◌}
use Rattle.std.proofs.lemmas.Bool.{and_parts, and_right, both_ways, cases_lt, cond-true, eq-eqb, eqb-true}
use Rattle.pci_spec.specs.Number.{byte_at, has_bit}
use Rattle.pci_spec.specs.Registers.{PALETTE_SNOOP, ISA_ENABLE, VGA_ENABLE, SECONDARY_BUS_RESET}
use Rattle.pci_spec.specs.Header.{command, class_code, layout, bridge_control}
use Rattle.pci_spec.specs.Capability.{pointer, ComesTo, HasChain, IsChain, body_length, power_state}
use Rattle.pci_spec.specs.Fault.{ProfileFault, PaletteSnoop, VgaEnable, IsaEnable, Subtractive, InReset, PowerState, profile_number, profile_name, profile_key, HasProfileFault, IsPlainImage, controls_bridge, is_subtractive_bridge, IsNotInD0}
use Rattle.pci_spec.specs.ProbeLaws.{is_reading_number}
use Rattle.pci_spec.proofs.Walks.{pointer-ended}

-- ---- numbers and names

-- none is a number of reading a header, its address registers and its probe
pub no_reading_number : (fault : ProfileFault) → is_reading_number (profile_number fault) ≡ false
no_reading_number PaletteSnoop = refl
no_reading_number VgaEnable = refl
no_reading_number IsaEnable = refl
no_reading_number Subtractive = refl
no_reading_number InReset = refl
no_reading_number PowerState = refl

-- a line has room for each name
pub short_name : (fault : ProfileFault) → length (profile_name fault) ≤ 30
short_name PaletteSnoop = omega arith
short_name VgaEnable = omega arith
short_name IsaEnable = omega arith
short_name Subtractive = omega arith
short_name InReset = omega arith
short_name PowerState = omega arith

-- ---- the order in which they are looked for

abbrev pub in_order : List ProfileFault
in_order = PaletteSnoop ∷ VgaEnable ∷ IsaEnable ∷ Subtractive ∷ InReset ∷ PowerState ∷ []

abbrev pub fault_at : ℕ → ProfileFault
fault_at k = get_or in_order k PaletteSnoop

-- each is at the place of its key,
pub at_its_key : (fault : ProfileFault) → fault_at (profile_key fault) ≡ fault
at_its_key PaletteSnoop = refl
at_its_key VgaEnable = refl
at_its_key IsaEnable = refl
at_its_key Subtractive = refl
at_its_key InReset = refl
at_its_key PowerState = refl

pub key_within : (fault : ProfileFault) → profile_key fault < length in_order
key_within PaletteSnoop = omega arith
key_within VgaEnable = omega arith
key_within IsaEnable = omega arith
key_within Subtractive = omega arith
key_within InReset = omega arith
key_within PowerState = omega arith

-- and no other one
pub key_at : (k : ℕ) → k < length in_order → profile_key (fault_at k) ≡ k
key_at zero less = refl
key_at (suc zero) less = refl
key_at (suc (suc zero)) less = refl
key_at (suc (suc (suc zero))) less = refl
key_at (suc (suc (suc (suc zero)))) less = refl
key_at (suc (suc (suc (suc (suc zero))))) less = refl
key_at (suc (suc (suc (suc (suc (suc k)))))) less = absurd (let no : ⊥ = omega (arith, less) in no)

-- ---- a plain image has none

pub none_of_plain : (image : List ℕ) → IsPlainImage image → (fault : ProfileFault) → HasProfileFault image fault → ⊥
none_of_plain image plain PaletteSnoop there = both_ways _ plain.palette there
none_of_plain image plain VgaEnable there = both_ways _ plain.bridge.vga there
none_of_plain image plain IsaEnable there = both_ways _ plain.bridge.isa there
none_of_plain image plain Subtractive there = both_ways _ plain.bridge.subtractive there
none_of_plain image plain InReset there = both_ways _ plain.bridge.reset there
none_of_plain image plain PowerState there = plain.awake there

-- without a capability the walk ends at once
no_walk : (image : List ℕ) → pointer image 0 ≡ 0 → (n : ℕ) → pointer image n ≡ 0
no_walk image h zero = h
no_walk image h (suc n) = cond-true (nat_eq (pointer image n) 0) _ _ (eq-eqb (pointer image n) 0 (no_walk image h n))

no_place : (image : List ℕ) → pointer image 0 ≡ 0 → (place : ℕ) → ComesTo image place → ⊥
no_place image h place (n, is, nonzero) = nonzero (sym is ∙ no_walk image h n)

-- a device without capabilities is plain by its Command
pub plain_device : (image : List ℕ) → (layout image == 1) ≡ false → has_bit (command image) PALETTE_SNOOP ≡ false → pointer image 0 ≡ 0 → IsPlainImage image
plain_device image device palette none = record {
  palette = palette;
  bridge = record {
    vga = ap (λ b. b && has_bit (bridge_control image) VGA_ENABLE) device;
    isa = ap (λ b. b && has_bit (bridge_control image) ISA_ENABLE) device;
    subtractive = ap (λ b. b && class_code image == 0x060401) device;
    reset = ap (λ b. b && has_bit (bridge_control image) SECONDARY_BUS_RESET) device;
  };
  awake = λ is. no_place image none is.0 is.1;
}

-- a bridge without capabilities is so by its Command, Bridge Control and Class Code
pub plain_bridge : (image : List ℕ) → (has_bit (command image) PALETTE_SNOOP ≡ false) × (bridge_control image ≡ 0) × (is_subtractive_bridge image ≡ false) → pointer image 0 ≡ 0
    → IsPlainImage image
plain_bridge image (palette, control, class) none =
    record {
      palette = palette;
      bridge = record {
        vga = and_right (layout image == 1) _ (ap (λ n. has_bit n VGA_ENABLE) control);
        isa = and_right (layout image == 1) _ (ap (λ n. has_bit n ISA_ENABLE) control);
        subtractive = class;
        reset = and_right (layout image == 1) _ (ap (λ n. has_bit n SECONDARY_BUS_RESET) control);
      };
      awake = λ is. no_place image none is.0 is.1;
    }

-- ---- of two images that show the same of it

-- what a bridge shows besides its windows
pub record ShowsSameBridge (image other : List ℕ) : Type 0 where
  pub kind : layout other ≡ layout image
  pub class : class_code other ≡ class_code image
  pub control : bridge_control other ≡ bridge_control image

-- The other image may differ in address registers, in what Command enables, and in that it is no bridge.
pub record ShowsSame (image other : List ℕ) : Type 0 where
  pub command_bits : (bit : ℕ) → 2 ≤ bit → bit < 8 → has_bit (command other) bit ≡ has_bit (command image) bit
  pub bridge : layout other ≡ 1 → ShowsSameBridge image other
  pub chain : HasChain image
  pub walk : (n : ℕ) → n ≤ length chain.0 → pointer other n ≡ pointer image n
  pub behind : (place : ℕ) → 0x40 ≤ place → place < 256 → byte_at other place ≡ byte_at image place

module _ (image other : List ℕ) (same : ShowsSame image other) where
  control_kept : (bit : ℕ) → IsTrue (controls_bridge other bit) → IsTrue (controls_bridge image bit)
  control_kept bit is =
      let b = same.bridge (eqb-true (layout other) 1 (and_parts (layout other == 1) (has_bit (bridge_control other) bit) is).0) in
      let kind = b.kind in
      let control = b.control in
      sym (λ i. kind i == 1 && has_bit (control i) bit) ∙ is

  subtractive_kept : IsTrue (is_subtractive_bridge other) → IsTrue (is_subtractive_bridge image)
  subtractive_kept is =
      let b = same.bridge (eqb-true (layout other) 1 (and_parts (layout other == 1) (class_code other == 0x060401) is).0) in
      let kind = b.kind in
      let class = b.class in
      sym (λ i. kind i == 1 && class i == 0x060401) ∙ is

  asleep_by : (places : List ℕ) → IsChain image places → ((n : ℕ) → n ≤ length places → pointer other n ≡ pointer image n) → IsNotInD0 other → IsNotInD0 image
  asleep_by places chain walk (place, (n, at, some), (id, state)) =
      let count = length places in
      let ended : pointer other count ≡ 0 = walk count (omega arith) ∙ chain.end in
      elim (cases_lt n count) [
        | inr past ↦ absurd (some (sym at ∙ pointer-ended other count n past ended))
        | inl before ↦
            let was : pointer image n ≡ place = sym (walk n (omega (arith, before))) ∙ at in
            let range = chain.in_range n before in
            let low = range.0 in
            let high = range.1 in
            let id_was : byte_at image place ≡ 1 = sym (same.behind place (omega (arith, low, was)) (omega (arith, high, was))) ∙ id in
            let body = chain.bodies n before in
            let eight : body_length image (pointer image n) ≡ 8 =
            ap (body_length image) was ∙ cond-true (nat_eq (byte_at image place) 1) _ _ (eq-eqb (byte_at image place) 1 id_was) in
            let four = same.behind (place + 4 + 0) (omega (arith, low, was)) (omega (arith, body, eight, was)) in
            let five = same.behind (place + 4 + 1) (omega (arith, low, was)) (omega (arith, body, eight, was)) in
            let states : power_state other place ≡ power_state image place =
            ap (λ a. (0 + a * 256 ^ 0 + byte_at other (place + 4 + 1) * 256 ^ 1) % 4) four ∙ ap (λ b. (0 + byte_at image (place + 4 + 0) * 256 ^ 0 + b * 256 ^ 1) % 4) five in
            (place, (n, was, some), (id_was, λ e. state (states ∙ e)))
      ]

  asleep_kept : IsNotInD0 other → IsNotInD0 image
  asleep_kept = asleep_by same.chain.0 same.chain.1 same.walk

  -- the first has each fault that the other has
  pub profile_kept : (fault : ProfileFault) → HasProfileFault other fault → HasProfileFault image fault
  profile_kept PaletteSnoop is = sym (same.command_bits 5 (omega arith) (omega arith)) ∙ is
  profile_kept VgaEnable is = control_kept VGA_ENABLE is
  profile_kept IsaEnable is = control_kept ISA_ENABLE is
  profile_kept Subtractive is = subtractive_kept is
  profile_kept InReset is = control_kept SECONDARY_BUS_RESET is
  profile_kept PowerState is = asleep_kept is

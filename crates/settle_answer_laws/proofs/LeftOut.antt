-- A device that decodes nothing may be left out of a system, or not: it is as sound.
use Rattle.std.proofs.Common.{◌≡◌, ℕ, ◌<◌, List, [], ◌∷◌, Bool, true, false, ◌&&◌, ◌||◌, not, Option, None, Some, inl, inr, refl, sym, ◌∙◌, ap, subst, arith, lit<, map}
use Rattle.std.specs.Prelude.{◌⊎◌, IsTrue}
use Rattle.std.specs.Bool.{nat_lt, ◌==◌}
use Rattle.std.specs.List.{AllZip, Contains, list_any}
use Rattle.std.proofs.lemmas.Bool.{and_left, and_parts, and_right, both_ways, eqb-true, false_from_ne_true}
use Rattle.pci_spec.specs.Number.{has_bit}
use Rattle.pci_spec.specs.Slot.{Slot, same_slot}
use Rattle.pci_spec.specs.Header.{command, layout, secondary_bus, vendor_id}
use Rattle.pci_spec.specs.Bar.{BarFault, bar_fault}
use Rattle.pci_spec.specs.Bar as bars
use Rattle.pci_spec.specs.System.{System, Function, Space, Io, Memory, Bar, Rom, Window, Leads, is_bridge, is_enabled, is_space_on, space_of, window_space}
use Rattle.pci_spec.specs.System as system
use Rattle.pci_spec.specs.Bus.{IsNested, LeadsTo, is_led_to, is_root, secondary}
use Rattle.pci_spec.specs.Sound.{HasChains, IsInProfile}
use Rattle.pci_spec.specs.Capability.{HasChain}
use Rattle.pci_spec.specs.Fault.{Address, RegionName, address_in, NoVendor, HeaderKind, BarType, BarMask, BarPair, RomMask, WindowMask, CapRange, CapLoop, CapCut, SlotsDiffer, StrayProbe, LoneFunction, OfProfile, BusRange, Orphan, Unreached, Clash, Split, SomeAt, HasBarFault, HasRomFault, HasWindowFault, HasProfileFault, has_function_zero, has_no_vendor, has_other_layout, is_in_address_register, is_stray}
use Rattle.pci_spec.proofs.Pairs.{member_back, member_forth}
use Rattle.pci_spec.proofs.ProfileFaults.{profile_kept}
use Rattle.judge_spec.specs.Given.{Given, is_legacy_at, is_palette_at}
use Rattle.judge_spec.specs.Claims.{Part, Own, Legacy, Palette, Claims, Gets, IsPassedTo}
use Rattle.judge_spec.specs.Told.{ToldRange}
use Rattle.judge_spec.specs.ToldClaims.{Told, ClaimsOnBus, RangeClaims, is_asleep, is_enabled_at, is_on_by}
use Rattle.judge_spec.specs.ToldSound.{IsSound}
use Rattle.pci_model_settle.specs.OffDevices.{is_off_device}
use Rattle.settle_answer_laws.specs.LeftOutLaws.{HasLawfulRegisters}
use Rattle.settle_answer_laws.proofs.WithoutRegisters.{AgreeBeside, beside_or_in, chain_beside, shows_beside}

-- ---- a device that decodes nothing

pub record IsOff (image : List ℕ) : Type 0 where
  pub device : layout image ≡ 0
  pub io : has_bit (command image) 0 ≡ false
  pub memory : has_bit (command image) 1 ≡ false

not_true : (x : Bool) → not x ≡ true → x ≡ false
not_true x is = false_from_ne_true x (λ yes. both_ways (not x) (ap not yes) is)

pub off_parts : (image : List ℕ) → is_off_device image ≡ true → IsOff image
off_parts image is =
    let two = and_parts (layout image == 0 && not (has_bit (command image) 0)) (not (has_bit (command image) 1)) is in
    let one = and_parts (layout image == 0) (not (has_bit (command image) 0)) two.0 in
    record { device = eqb-true (layout image) 0 one.0; io = not_true _ one.1; memory = not_true _ two.1 }

pub off_from : (image : List ℕ) → IsOff image → is_off_device image ≡ true
off_from image off = λ i. off.device i == 0 && not (off.io i) && not (off.memory i)

module _ (g : Function) (off : IsOff g.image) where
  no_bridge : is_bridge g ≡ false
  no_bridge = ap (λ n. n == 1) off.device

  no_space : (space : Space) → is_space_on g space ≡ false
  no_space Io = off.io
  no_space Memory = off.memory

  not_enabled : (part : system.Part) → is_enabled g part ≡ false
  not_enabled (Bar n) = no_space (space_of g (Bar n))
  not_enabled Rom = and_left _ _ off.memory
  not_enabled (Window kind) = no_space (window_space kind)

  no_claim : (part : system.Part) (space : Space) (a : ℕ) → system.Claims g part space a → ⊥
  no_claim part space a claims = both_ways _ (not_enabled part) claims.enabled

  no_part_claims : (given : Given) (part : Part) (space : Space) (a : ℕ) → Claims given g part space a → ⊥
  no_part_claims given (Own part) space a claims = no_claim part space a claims.claims
  no_part_claims given Legacy space a claims = both_ways _ (and_left (is_bridge g && is_space_on g space) (list_any (is_legacy_at g space a) given.legacy) (and_left _ _ no_bridge)) claims.claims
  no_part_claims given Palette space a claims = both_ways _ (and_left (is_bridge g && is_space_on g space) (list_any (is_palette_at g space a) given.palette) (and_left _ _ no_bridge)) claims.claims

-- two of them that differ in their address registers alone, and those of the second are lawful
pub record IsBare (f g : Function) : Type 0 where
  pub slot : f.slot ≡ g.slot
  pub before : IsOff f.image
  pub after : IsOff g.image
  pub image : AgreeBeside f.image g.image
  pub probe : AgreeBeside f.probe g.probe
  pub lawful : HasLawfulRegisters g

abbrev pub IsSameOrBare : Function → Function → Type 0
IsSameOrBare f g = (f ≡ g) ⊎ IsBare f g

module _ (f g : Function) (bare : IsBare f g) where
  vendor_same : has_no_vendor g.image ≡ has_no_vendor f.image
  vendor_same =
      let low = bare.image 0 (inl (lit< tt)) in
      let high = bare.image 1 (inl (lit< tt)) in
      let same : vendor_id g.image ≡ vendor_id f.image = omega (arith, low, high) in
      ap (λ n. n == 0xffff) same

  command_same : command g.image ≡ command f.image
  command_same = let low = bare.image 4 (inl (lit< tt)) in let high = bare.image 5 (inl (lit< tt)) in omega (arith, low, high)

  no_other_layout : has_other_layout g.image ≡ false
  no_other_layout = ap (λ n. not (n == 0 || n == 1)) bare.after.device

  stray_was : (offset : ℕ) → is_stray g.image g.probe offset ≡ true → is_stray f.image f.probe offset ≡ true
  stray_was offset is = elim (beside_or_in offset) [
    | inl beside ↦ (let shown = sym (bare.probe offset beside) in λ i. nat_lt offset 256 && not (shown i == 0) && not (is_in_address_register (kinds i) offset)) ∙ is
    | inr inside ↦ absurd (both_ways _ (and_right _ _ (ap not (ap (λ k. is_in_address_register k offset) bare.after.device ∙ inside))) is)
  ]
    where
      kinds : layout f.image ≡ layout g.image
      kinds = bare.before.device ∙ sym bare.after.device

-- ---- the system

any_same : (p : Function → Bool) → ((f g : Function) → IsBare f g → p g ≡ p f) → (s t : System) → AllZip IsSameOrBare s t → list_any p t ≡ list_any p s
any_same p each [] [] pairs = refl
any_same p each [] (g ∷ t) pairs = absurd pairs
any_same p each (f ∷ s) [] pairs = absurd pairs
any_same p each (f ∷ s) (g ∷ t) (first, rest) =
    let here : p g ≡ p f = elim first [ inl same ↦ ap p (sym same) | inr bare ↦ each f g bare ] in
    ap (λ b. b || list_any p t) here ∙ ap (λ b. p f || b) (any_same p each s t rest)

pub slots_are : (s t : System) → AllZip IsSameOrBare s t → map (λ (f : Function). f.slot) t ≡ map (λ (f : Function). f.slot) s
slots_are [] [] pairs = refl
slots_are [] (g ∷ t) pairs = absurd pairs
slots_are (f ∷ s) [] pairs = absurd pairs
slots_are (f ∷ s) (g ∷ t) (first, rest) =
    let here : g.slot ≡ f.slot = elim first [ inl same ↦ ap (λ (x : Function). x.slot) (sym same) | inr bare ↦ sym bare.slot ] in
    λ i. here i ∷ slots_are s t rest i

both : (x : Option BarFault) (fault : BarFault) → x ≡ None → x ≡ Some fault → ⊥
both x fault none some = cc

module _ (s t : System) (pairs : AllZip IsSameOrBare s t) where
  back : (g : Function) → Contains t g → (f : Function) × Contains s f × IsSameOrBare f g
  back g has = member_back IsSameOrBare s t pairs g has

  -- what isn't such a device is in both
  bridge_was : (b : Function) → Contains t b → is_bridge b ≡ true → Contains s b
  bridge_was b has bridge =
      let found = back b has in
      elim found.2 [ inl same ↦ subst (λ x. Contains s x) same found.1 | inr bare ↦ absurd (both_ways (is_bridge b) (no_bridge b bare.after) bridge) ]

  bridge_is : (b : Function) → Contains s b → is_bridge b ≡ true → Contains t b
  bridge_is b has bridge =
      let found = member_forth IsSameOrBare s t pairs b has in
      elim found.2 [ inl same ↦ subst (λ x. Contains t x) (sym same) found.1 | inr bare ↦ absurd (both_ways (is_bridge b) (no_bridge b bare.before) bridge) ]

  claimer_was : (g : Function) (part : system.Part) (space : Space) (a : ℕ) → Contains t g → system.Claims g part space a → Contains s g
  claimer_was g part space a has claims =
      let found = back g has in
      elim found.2 [ inl same ↦ subst (λ x. Contains s x) same found.1 | inr bare ↦ absurd (no_claim g bare.after part space a claims) ]

  leads_was : (from : ℕ) (bridges : List Function) (to : ℕ) → Leads t from bridges to → Leads s from bridges to
  leads_was from [] to leads = leads
  leads_was from (b ∷ bridges) to (has, bridge, on, rest) = (bridge_was b has bridge, bridge, on, leads_was (secondary_bus b.image) bridges to rest)

  leads_is : (from : ℕ) (bridges : List Function) (to : ℕ) → Leads s from bridges to → Leads t from bridges to
  leads_is from [] to leads = leads
  leads_is from (b ∷ bridges) to (has, bridge, on, rest) = (bridge_is b has bridge, bridge, on, leads_is (secondary_bus b.image) bridges to rest)

  leader_is : (b : Function) (bus : ℕ) → LeadsTo s b bus → LeadsTo t b bus
  leader_is b bus (has, bridge, at) = (bridge_is b has bridge, bridge, at)

  leader_was : (b : Function) (bus : ℕ) → LeadsTo t b bus → LeadsTo s b bus
  leader_was b bus (has, bridge, at) = (bridge_was b has bridge, bridge, at)

  pub led_same : (roots : List ℕ) (bus : ℕ) → is_led_to roots t bus ≡ is_led_to roots s bus
  led_same roots bus =
      ap (λ b. is_root roots bus || b)
      (any_same (λ c. is_bridge c && secondary c == bus) (λ f g bare. and_left _ _ (no_bridge g bare.after) ∙ sym (and_left _ _ (no_bridge f bare.before))) s t pairs)

  enabled_same : (slot : Slot) (space : Space) → is_enabled_at t slot space ≡ is_enabled_at s slot space
  enabled_same slot space =
      any_same (λ f. same_slot f.slot slot && is_space_on f space)
      (λ f g bare. and_right _ _ (no_space g bare.after space) ∙ sym (and_right _ _ (no_space f bare.before space))) s t pairs

  zero_same : (slot : Slot) → has_function_zero t slot ≡ has_function_zero s slot
  zero_same slot =
      any_same (λ f. f.slot.bus == slot.bus && f.slot.device == slot.device && f.slot.function == 0)
      (λ f g bare. ap (λ (x : Slot). x.bus == slot.bus && x.device == slot.device && x.function == 0) (sym bare.slot)) s t pairs

  -- ---- what is claimed, and passed

  module _ (told : Told) (given : Given) (roots : List ℕ) where
    range_was : (r : ToldRange) (space : Space) (a : ℕ) → RangeClaims told t r space a → RangeClaims told s r space a
    range_was r space a claims = record {
      on = ap (λ b. is_on_by r.mark (not (is_asleep told r.slot)) b) (sym (enabled_same r.slot r.space)) ∙ claims.on;
      holds = claims.holds;
    }

    claims_was : (bus : ℕ) (at : Address) (region : RegionName) → ClaimsOnBus told given t bus at region → ClaimsOnBus told given s bus at region
    claims_was bus at region (inl (g, part, has, slot, on, named, claims)) =
        let found = back g has in
        elim found.2 [
          | inl same ↦ inl (g, part, subst (λ x. Contains s x) same found.1, slot, on, named, claims)
          | inr bare ↦ absurd (no_part_claims g bare.after given part at.space at.address claims)
        ]
    claims_was bus at region (inr range) =
        inr record { r = range.r; named = range.named; on_the_bus = range.on_the_bus; claims = range_was range.r at.space at.address range.claims }

    gets_was : (space : Space) (a bus : ℕ) → Gets given roots t space a bus → Gets given roots s space a bus
    gets_was space a bus (root, is_one, starts, bridges, leads, all) = (root, is_one, starts, bridges, leads_was root bridges bus leads, all)

    passed_is : (at : Address) (prefetchable : Bool) (bus : ℕ) → IsPassedTo given roots s at prefetchable bus → IsPassedTo given roots t at prefetchable bus
    passed_is at prefetchable bus (root, is_one, starts, bridges, leads, all) = (root, is_one, starts, bridges, leads_is root bridges bus leads, all)

    nested_is : IsNested roots s → IsNested roots t
    nested_is nested = record {
      order = λ b has bridge. nested.order b (bridge_was b has bridge) bridge;
      inside = λ b c in_b in_c bridge_b bridge_c behind. nested.inside b c (bridge_was b in_b bridge_b) (bridge_was c in_c bridge_c) bridge_b bridge_c behind;
      apart = λ b c in_b in_c bridge_b bridge_c differ one other. nested.apart b c (bridge_was b in_b bridge_b) (bridge_was c in_c bridge_c) bridge_b bridge_c differ one other;
      clear = λ b has bridge. nested.clear b (bridge_was b has bridge) bridge;
      one = λ g has no_root.
          let found = back g has in
          let slot : found.0.slot ≡ g.slot = elim found.2 [ inl same ↦ ap (λ (x : Function). x.slot) same | inr bare ↦ bare.slot ] in
          let leader = nested.one found.0 found.1 (ap (λ (x : Slot). is_root roots x.bus) slot ∙ no_root) in (
            leader.0,
            subst (λ (x : Slot). LeadsTo t leader.0 x.bus) slot (leader_is leader.0 found.0.slot.bus leader.1),
            λ c leads. leader.2 c (subst (λ (x : Slot). LeadsTo s c x.bus) (sym slot) (leader_was c g.slot.bus leads)),
          );
    }

    chains_are : HasChains s → HasChains t
    chains_are chains g has =
        let found = back g has in
        elim found.2 [
          | inl same ↦ subst (λ (x : Function). HasChain x.image) same (chains found.0 found.1)
          | inr bare ↦ chain_beside found.0.image g.image bare.image (chains found.0 found.1)
        ]

    -- ---- faults of the profile

    some_was : (slot : Slot) (P Q : Function → Type 0) → ((g : Function) → Q g → P g) → ((f g : Function) → Contains s f → IsBare f g → Q g → P f) → SomeAt t slot Q → SomeAt s slot P
    some_was slot P Q kept changed (g, has, at, there) =
        let found = back g has in
        elim found.2 [
          | inl same ↦ (g, subst (λ x. Contains s x) same found.1, at, kept g there)
          | inr bare ↦ (found.0, found.1, bare.slot ∙ at, changed found.0 g found.1 bare there)
        ]

    bar_was : (slot : Slot) (register : ℕ) (fault : BarFault) → SomeAt t slot (λ f. HasBarFault f.image f.probe register fault) → SomeAt s slot (λ f. HasBarFault f.image f.probe register fault)
    bar_was slot register fault there = some_was slot (λ f. HasBarFault f.image f.probe register fault) (λ f. HasBarFault f.image f.probe register fault) (λ g h. h)
        (λ f g has bare h. absurd (both (bar_fault g.image g.probe h.0) fault (bare.lawful.bars h.0 h.1) h.3)) there

    module _ (chains : HasChains s) (profile : IsInProfile roots s) where
      profile_is : IsInProfile roots t
      profile_is (NoVendor slot) k there = profile (NoVendor slot) refl (some_was slot (λ f. IsTrue (has_no_vendor f.image)) (λ f. IsTrue (has_no_vendor f.image)) (λ g h. h)
          (λ f g has bare h. sym (vendor_same f g bare) ∙ h) there)
      profile_is (HeaderKind slot) k there = profile (HeaderKind slot) refl (some_was slot (λ f. IsTrue (has_other_layout f.image)) (λ f. IsTrue (has_other_layout f.image)) (λ g h. h)
          (λ f g has bare h. absurd (both_ways _ (no_other_layout f g bare) h)) there)
      profile_is (BarType slot register) k there = profile (BarType slot register) refl (bar_was slot register bars.BarType there)
      profile_is (BarMask slot register) k there = profile (BarMask slot register) refl (bar_was slot register bars.BarMask there)
      profile_is (BarPair slot register) k there = profile (BarPair slot register) refl (bar_was slot register bars.BarPair there)
      profile_is (RomMask slot register) k there = profile (RomMask slot register) refl (some_was slot (λ f. HasRomFault f.image f.probe register) (λ f. HasRomFault f.image f.probe register) (λ g h. h)
          (λ f g has bare h. absurd (both_ways _ bare.lawful.rom h.1)) there)
      profile_is (WindowMask slot register) k there = profile (WindowMask slot register) refl (some_was slot (λ f. HasWindowFault f.image f.probe register) (λ f. HasWindowFault f.image f.probe register) (λ g h. h)
          (λ f g has bare h. absurd (both_ways _ (no_bridge g bare.after) h.1)) there)
      profile_is (CapRange slot place) k there = both_ways false refl k
      profile_is (CapLoop slot place) k there = both_ways false refl k
      profile_is (CapCut slot place) k there = both_ways false refl k
      profile_is (SlotsDiffer slot) k there = there
      profile_is (StrayProbe slot offset) k there = profile (StrayProbe slot offset) refl (some_was slot (λ f. IsTrue (is_stray f.image f.probe offset)) (λ f. IsTrue (is_stray f.image f.probe offset)) (λ g h. h)
          (λ f g has bare h. stray_was f g bare offset h) there)
      profile_is (LoneFunction slot) k there = profile (LoneFunction slot) refl (some_was slot (λ f. (0 < slot.function) × IsTrue (not (has_function_zero s slot))) (λ f. (0 < slot.function) × IsTrue (not (has_function_zero t slot)))
          (λ g h. (h.0, ap not (sym (zero_same slot)) ∙ h.1)) (λ f g has bare h. (h.0, ap not (sym (zero_same slot)) ∙ h.1)) there)
      profile_is (OfProfile fault slot) k there = profile (OfProfile fault slot) refl (some_was slot (λ f. HasProfileFault f.image fault) (λ f. HasProfileFault f.image fault) (λ g h. h)
          (λ f g has bare h. profile_kept f.image g.image (shows_beside f.image g.image bare.image (λ bridge. both_ways _ (no_bridge g bare.after) (ap (λ n. n == 1) bridge)) (chains f has)) fault h) there)
      profile_is (BusRange slot) k there = both_ways false refl k
      profile_is (Orphan slot) k there = both_ways false refl k
      profile_is (Unreached slot register space address bridge) k there = both_ways false refl k
      profile_is (Clash bus space address first first_register second second_register) k there = both_ways false refl k
      profile_is (Split space address first first_register second second_register) k there = both_ways false refl k

    -- ---- all of it

    pub sound_is : IsSound told given roots s → IsSound told given roots t
    sound_is sound = record {
      single = record {
        on_a_bus = λ space a bus gets first second one other.
            sound.single.on_a_bus space a bus (gets_was space a bus gets) first second (claims_was bus (address_in space a) first one) (claims_was bus (address_in space a) second other);
        over_roots = λ space a first second root_first root_second sent_first sent_second one other.
            sound.single.over_roots space a first second root_first root_second sent_first sent_second (claims_was first.slot.bus (address_in space a) first one) (claims_was second.slot.bus (address_in space a) second other);
      };
      home = record {
        regions = λ g part space a has plain claims.
            passed_is (address_in space a) (system.is_prefetchable_part g part) g.slot.bus (sound.home.regions g part space a (claimer_was g part space a has claims) plain claims);
        ranges = λ region at r needs.
            passed_is at r.prefetchable region.slot.bus
            (sound.home.ranges region at r record { named = needs.named; not_held = needs.not_held; claims = range_was r at.space at.address needs.claims });
      };
      nested = nested_is sound.nested;
      profile = profile_is sound.chains sound.profile;
      chains = chains_are sound.chains;
      listed = λ slot none. sound.listed slot record {
        r = none.r;
        is_told = none.is_told;
        not_held = none.not_held;
        of_slot = none.of_slot;
        not_listed = λ has. none.not_listed (subst (λ (xs : List Slot). Contains xs slot) (sym (slots_are s t pairs)) has);
      };
      led_to = λ slot orphan. sound.led_to slot record {
        r = orphan.r;
        is_told = orphan.is_told;
        held = orphan.held;
        of_slot = orphan.of_slot;
        not_led_to = ap not (sym (led_same roots slot.bus)) ∙ orphan.not_led_to;
      };
    }
